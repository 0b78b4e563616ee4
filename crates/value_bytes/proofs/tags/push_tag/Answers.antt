use Rattle.std.proofs.Common.{ap, ◌∙◌, List, ℕ, ◌++◌, append_assoc}
use Rattle.std.specs.Str.{chars}
use Rattle.value_bytes.specs.Texts.{text_bytes}
use Rattle.value_bytes.proofs.tags.push_tag.Goals as goal

pub returns-clause-ok : goal.returns-clause-ok
returns-clause-ok c =
    c.in_ok-push_text-2.ensures.ok ∙ ap (λ (l : List ℕ). l ++ text_bytes (chars c.args.value.now)) c.in_ok-push_text.ensures.ok
    ∙ append_assoc c.args.out.now.items (text_bytes (chars c.args.key.now)) (text_bytes (chars c.args.value.now))

pub returns-clause-is : goal.returns-clause-is
returns-clause-is c = (c.in_ok-push_text.ensures.is, c.in_ok-push_text-2.ensures.is)
