-- An imported store has buckets, and one that was only made has none.
use Rattle.std.proofs.Common.{◌∙◌, ◌≤◌, ℕ, refl, sym, ap, subst}
use Rattle.chain_store.specs.declared.root.Root.{Root}
use Rattle.update_flow.proofs.Judgements.{with_buckets, without_buckets}
use Rattle.update_flow.proofs.judging.judge_meant.Goals as goal

pub returns-then-has_buckets-clause-exact : goal.returns-then-has_buckets-clause-exact
returns-then-has_buckets-clause-exact g c = λ image has empty today.
    c.judge_import.ensures.exact image has empty (with_buckets image
    (subst (λ (n : ℕ). 1 ≤ n) (ap (λ (r : Root). r.buckets) has.root) (c.if-has_buckets.ensures.some refl)) today)

pub returns-clause-exact : goal.returns-clause-exact
returns-clause-exact g c = λ image has empty today.
    c.judge_blank.ensures.exact image has empty (without_buckets image
    (ap (λ (r : Root). r.buckets) (sym has.root) ∙ c.if-has_buckets.ensures.none refl) today)
