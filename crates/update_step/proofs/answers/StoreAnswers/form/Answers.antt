use Rattle.std.proofs.Common.{ap, ◌∙◌, sym}
use Rattle.update_step.specs.Gather.{flattened}
use Rattle.update_step.specs.Named.{named_in}
use Rattle.update_step.proofs.Trees.{got_key, none-before, some-before}
use Rattle.update_step.proofs.answers.StoreAnswers.form.Goals as goal

pub returns-in-Some : goal.returns-in-Some
returns-in-Some c =
    record {
      form = ap flattened (some-before (named_in c.args.self.now.change.now c.args.key) _ _ (ap (named_in c.args.self.now.change.now) (sym c.key.view_is) ∙ sym c.in-Some.ensures.named));
    }

pub returns-in-None : goal.returns-in-None
returns-in-None c =
    record {
      form = ap flattened (c.get.ensures.value ∙ got_key c.args.self.now.forms c.args.key
          ∙ none-before (named_in c.args.self.now.change.now c.args.key) _ (ap (named_in c.args.self.now.change.now) (sym c.key.view_is) ∙ sym c.in-None.ensures.named));
    }
