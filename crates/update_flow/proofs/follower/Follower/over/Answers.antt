-- What was found is told.
use Rattle.std.proofs.Common.{Option, refl, sym, ap, ◌∙◌}
use Rattle.std.specs.Prelude.{is_some}
use Rattle.style_read.specs.Style.{StyleOf}
use Rattle.update_flow.proofs.Openings.{style_tells}
use Rattle.update_flow.proofs.follower.Follower.over.Goals as goal

pub returns-clause-open : goal.returns-clause-open
returns-clause-open g c = λ state at found. record {
  at_rest = at;
  sound = refl;
  shows = record {
    changes_are = found.version_is;
    imported_is = ap (λ (s : Option StyleOf). is_some s) found.style_is ∙ style_tells state;
    old_is = sym found.today;
    style_is = found.style_is;
    follower_is = found.own;
  };
  fits = (c.args.base.store, refl, found.fits);
}
