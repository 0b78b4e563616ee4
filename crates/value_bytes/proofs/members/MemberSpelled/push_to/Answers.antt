use Rattle.std.proofs.Common.{ap, ◌∙◌, List, ℕ, ◌++◌}
use Rattle.value_bytes.specs.Texts.{text_bytes}
use Rattle.value_bytes.proofs.MemberLaws.{member_put}
use Rattle.value_bytes.proofs.members.MemberSpelled.push_to.Goals as goal

pub returns-clause-ok : goal.returns-clause-ok
returns-clause-ok c =
    c.in_ok-push_text.ensures.ok
    ∙ ap (λ (l : List ℕ). c.push_to.new.out.items ++ text_bytes l) c.as_str.ensures.characters
    ∙ ap (λ (l : List ℕ). l ++ text_bytes c.args.self.now.role) c.in_ok-push_to.ensures.ok
    ∙ member_put c.args.self.now c.args.out.now.items
