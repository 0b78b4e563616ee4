use Rattle.std.proofs.Common.{ap, ◌∙◌, List, ℕ, ◌++◌, subst}
use Rattle.value_bytes.specs.Numbers.{counted_bytes, IsCounted}
use Rattle.value_bytes.proofs.TextLaws.{text_put, text_is}
use Rattle.value_bytes.proofs.texts.push_text.Goals as goal

pub returns-clause-ok : goal.returns-clause-ok
returns-clause-ok c =
    c.in_ok-push_counted.ensures.ok ∙ ap (λ (l : List ℕ). c.args.out.now.items ++ counted_bytes l) c.as_bytes.ensures.value
    ∙ ap (λ (l : List ℕ). c.args.out.now.items ++ l) (text_put c.args.text.now c.utf8.text)

pub returns-clause-is : goal.returns-clause-is
returns-clause-is c = text_is c.args.text.now c.utf8.text (subst IsCounted c.as_bytes.ensures.value c.in_ok-push_counted.ensures.is)
