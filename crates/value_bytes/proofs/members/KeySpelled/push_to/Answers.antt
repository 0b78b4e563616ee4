use Rattle.std.proofs.Common.{ap, ◌∙◌, List, ℕ, [], ◌∷◌, ◌++◌}
use Rattle.value_bytes.specs.Numbers.{number_bytes}
use Rattle.value_bytes.proofs.MemberLaws.{key_put}
use Rattle.value_bytes.proofs.members.KeySpelled.push_to.Goals as goal

pub returns-clause-ok : goal.returns-clause-ok
returns-clause-ok c =
    rw (← c.self.view_is)
    (c.in_ok-push_number.ensures.ok
    ∙ ap (λ (l : List ℕ). l ++ number_bytes c.self.inside.id)
    (c.in_ok-push.ensures.items ∙ ap (λ b. c.args.out.now.items ++ b ∷ []) c.byte_of.ensures.byte)
    ∙ key_put (record { kind = c.self.inside.kind; id = c.self.inside.id }) c.args.out.now.items)
