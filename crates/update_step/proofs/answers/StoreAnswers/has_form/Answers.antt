use Rattle.std.proofs.Common.{ap, ◌∙◌, sym}
use Rattle.std.specs.Option.{is_some}
use Rattle.update_step.specs.Named.{named_in}
use Rattle.update_step.proofs.Trees.{got_key, none-before, some-before}
use Rattle.update_step.proofs.answers.StoreAnswers.has_form.Goals as goal

pub returns-in-Some : goal.returns-in-Some
returns-in-Some c =
    record {
      there = ap is_some (some-before (named_in c.args.self.now.change.now c.args.key) _ _ (ap (named_in c.args.self.now.change.now) (sym c.key.view_is) ∙ sym c.in-Some.ensures.named));
    }

pub returns-in-None : goal.returns-in-None
returns-in-None c =
    record {
      there = c.contains_key.ensures ∙ ap is_some (got_key c.args.self.now.forms c.args.key
          ∙ none-before (named_in c.args.self.now.change.now c.args.key) _ (ap (named_in c.args.self.now.change.now) (sym c.key.view_is) ∙ sym c.in-None.ensures.named));
    }
