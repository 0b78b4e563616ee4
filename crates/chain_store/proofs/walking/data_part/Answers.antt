use Rattle.std.proofs.Common.{◌≢◌, ◌-◌, ◌+◌, ℕ, take, drop, sym, ap, ◌∙◌}
use Rattle.chain_store.specs.Links.{owner_of}
use Rattle.chain_store.proofs.Paths.{data_of-free, data_of-part}
use Rattle.chain_store.proofs.walking.data_part.Goals as goal

pub returns-then-half_at-eq-FREE : goal.returns-then-half_at-eq-FREE
returns-then-half_at-eq-FREE c = sym (data_of-free c.args.page.now (sym c.half_at.ensures ∙ c.if-half_at-eq-FREE.true))

pub returns : goal.returns
returns c =
    let other : owner_of c.args.page.now ≢ 4294967295 = λ is. c.if-half_at-eq-FREE.false (c.half_at.ensures ∙ is) in
    ap (λ (n : ℕ). take (16 + n - 16) (drop 16 c.args.page.now)) c.half_at-many.ensures
    ∙ data_of-part c.args.page.now other
