-- What was found is told.
use Rattle.std.proofs.Common.{Option, refl, sym, ap, ◌∙◌}
use Rattle.std.specs.Prelude.{is_some}
use Rattle.style_read.specs.Style.{StyleOf}
use Rattle.update_flow.proofs.Openings.{style_tells}
use Rattle.update_flow.proofs.updater.Updater.over.Goals as goal

pub returns-clause-open : goal.returns-clause-open
returns-clause-open g c = λ state at found. record {
  at_rest = at;
  sound = refl;
  shows = record {
    changes_are = found.changes_are;
    imported_is = ap (λ (s : Option StyleOf). is_some s) found.style_is ∙ style_tells state;
    old_is = found.old_is;
    style_is = found.style_is;
    follower_is = sym found.own;
  };
  fits = (c.args.opened.store, refl, found.fits);
}

pub returns-clause-sound : goal.returns-clause-sound
returns-clause-sound g c finds = (
  finds.state,
  record {
    holds = finds.holds;
    whole = refl;
    shows = record {
      changes_are = finds.found.changes_are;
      imported_is = ap (λ (s : Option StyleOf). is_some s) finds.found.style_is ∙ style_tells finds.state;
      old_is = finds.found.old_is;
      style_is = finds.found.style_is;
      follower_is = sym finds.found.own;
    };
    fits = (c.args.opened.store, refl, finds.found.fits);
  },
)
