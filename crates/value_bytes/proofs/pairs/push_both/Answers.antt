use Rattle.std.proofs.Common.{ap, ◌∙◌, List, ℕ, ◌++◌, append_assoc}
use Rattle.value_bytes.proofs.pairs.push_both.Goals as goal

pub returns-clause-ok : goal.returns-clause-ok
returns-clause-ok g c =
    let two = g.B.Spelled.spell c.args.two.now in
    c.in_ok-push_to-2.ensures.ok ∙ ap (λ (l : List ℕ). l ++ two) c.in_ok-push_to.ensures.ok
    ∙ append_assoc c.args.out.now.items (g.A.Spelled.spell c.args.one.now) two
