use Rattle.std.proofs.Common.{ap, ◌∙◌, List, ℕ, ◌++◌}
use Rattle.value_bytes.proofs.NodeLaws.{some_tags, record_put}
use Rattle.value_bytes.proofs.nodes.NodeRecordSpelled.push_to.Goals as goal

pub returns-clause-ok : goal.returns-clause-ok
returns-clause-ok c =
    c.in_ok-push_to-2.ensures.ok ∙ ap (λ (l : List ℕ). l ++ some_tags c.args.self.now.tags) c.in_ok-push_to.ensures.ok
    ∙ record_put c.args.self.now c.args.out.now.items
