use Rattle.std.proofs.Common.{ap, ◌∙◌, List, ℕ, ◌++◌, length, append_assoc}
use Rattle.value_bytes.specs.Forms.{all_bytes}
use Rattle.value_bytes.specs.Numbers.{number_bytes}
use Rattle.value_bytes.specs.Lists.{list_bytes}
use Rattle.value_bytes.proofs.lists.ItemsSpelled.push_to.Goals as goal

pub returns-clause-ok : goal.returns-clause-ok
unfolding list_bytes
returns-clause-ok g c =
    let spell = g.T.Spelled.spell in
    let list = c.args.self.now in
    c.in_ok-push_many.ensures.ok
    ∙ ap (λ (l : List ℕ). l ++ all_bytes spell c.as_slice-2.result.now) c.in_ok-push_number.ensures.ok
    ∙ append_assoc c.args.out.now.items (number_bytes (length c.as_slice.result.now)) (all_bytes spell c.as_slice-2.result.now)
    ∙ ap (λ (l : List _). c.args.out.now.items ++ (number_bytes (length l) ++ all_bytes spell c.as_slice-2.result.now))
    c.as_slice.ensures.items
    ∙ ap (λ (l : List _). c.args.out.now.items ++ (number_bytes (length list) ++ all_bytes spell l)) c.as_slice-2.ensures.items
