use Rattle.std.proofs.Common.{ap, ◌∙◌, List, ℕ, ◌++◌}
use Rattle.value_bytes.proofs.spelled.push_form.Goals as goal

pub returns-clause-ok : goal.returns-clause-ok
returns-clause-ok g c =
    c.in_ok-push_to.ensures.ok ∙ ap (λ (l : List ℕ). l ++ g.T.Spelled.spell c.args.value.now) c.in_ok-push.ensures.items
