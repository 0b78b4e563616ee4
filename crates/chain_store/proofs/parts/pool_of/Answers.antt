use Rattle.std.proofs.Common.{◌≡◌, ◌++◌, ◌∷◌, [], ◌+◌, ◌-◌, suc, ℕ, List, append_assoc, sym, ap, ◌∙◌, arith}
use Rattle.chain_store.specs.Parts.{up_from}
use Rattle.chain_store.proofs.parts.pool_of.Goals as goal

pub loop-page-preserved : goal.loop-page-preserved
loop-page-preserved c =
    let pool : List ℕ = c.loop-page.pool.items in
    let page : ℕ = c.loop-page.page in
    let behind : List ℕ = up_from (page + 1) (c.in-Some.end - (page + 1)) in
    let one : c.in-Some.end - page ≡ suc (c.in-Some.end - (page + 1)) = omega (arith, c.loop-page-test.true) in
    ap (λ (l : List ℕ). l ++ behind) c.in_ok-push.ensures.items
    ∙ append_assoc pool (page ∷ []) behind
    ∙ ap (λ (n : ℕ). pool ++ up_from page n) (sym one)
    ∙ c.loop-page.invariant
