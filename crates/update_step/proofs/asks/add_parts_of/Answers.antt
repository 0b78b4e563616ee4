use Rattle.std.proofs.Common.{◌++◌, List, Option, ap, sym, ◌∙◌}
use Rattle.std.proofs.lemmas.List.{append-nil}
use Rattle.osm_base.specs.declared.values.object.Object.{Object}
use Rattle.row_rules.specs.Wanted.{may_have_rows}
use Rattle.update_step.specs.Gather.{Ask}
use Rattle.update_step.specs.Rounds.{parts_asked}
use Rattle.update_step.proofs.asks.add_parts_of.Goals as goal

pub returns-in-None : goal.returns-in-None
unfolding may_have_rows
returns-in-None c =
    let asks : List Ask = c.args.asks.now.items in
    record {
      added = sym (append-nil asks) ∙ ap (λ (more : List Ask). asks ++ more)
          (ap (λ (form : Option Object). parts_asked c.args.style.now c.args.reaches c.args.key form) c.in-None.ensures.form);
    }
