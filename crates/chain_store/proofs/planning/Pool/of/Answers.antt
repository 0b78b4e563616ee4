use Rattle.std.proofs.Common.{◌≡◌, ◌++◌, ◌+◌, ◌-◌, ◌≤◌, ℕ, List, length, sym, ap, subst, ◌∙◌}
use Rattle.chain_store.specs.Parts.{given, growth, up_from}
use Rattle.chain_store.specs.Plan.{spare_of, wanted, whole_pool}
use Rattle.chain_store.proofs.Pools.{pool_enough}
use Rattle.chain_store.proofs.planning.Pool.of.Goals as goal

pub returns : goal.returns
returns c =
    let parts = c.args.parts.now in
    let bases = c.args.bases.now in
    let free : List ℕ = c.args.free.now in
    let spare : List ℕ = c.give_all-2.new.spare.items in
    let spare_is : spare ≡ spare_of parts bases =
    c.in_ok-give_all-2.ensures ∙ ap (λ (l : List ℕ). l ++ given bases)
    (c.in_ok-give_all.ensures ∙ ap (λ (l : List ℕ). l ++ given parts) c.new-spare.ensures.items) in
    let own_is : c.in-Some.own ≡ growth parts = c.in-Some.ensures in
    let taken_is : c.in-Some-growth_with.taken ≡ wanted parts bases =
    c.in-Some-growth_with.ensures ∙ ap (λ (n : ℕ). n + growth bases) own_is in
    let pages_are : c.in_ok-pages.pages.items ≡ whole_pool parts bases free c.args.home =
    c.in_ok-pages.ensures.pool
    ∙ ap (λ (n : ℕ). (spare ++ free) ++ up_from c.args.home (n - (length spare + length free))) taken_is
    ∙ ap (λ (l : List ℕ). (l ++ free) ++ up_from c.args.home (wanted parts bases - (length l + length free))) spare_is in
    record {
      pages_are = pages_are;
      given_are = c.len-given.ensures ∙ c.give_all-2.new.spare.ok.0 ∙ ap (λ (l : List ℕ). length l) spare_is;
      own_is = own_is;
      taken_are = taken_is;
      last = c.in_ok-pages.ensures.«end»
          ∙ ap (λ (n : ℕ). c.args.home + (n - (length spare + length free))) taken_is
          ∙ ap (λ (l : List ℕ). c.args.home + (wanted parts bases - (length l + length free))) spare_is;
      last_small = c.in_ok-pages.ensures.small;
      enough = subst (λ (l : List ℕ). wanted parts bases ≤ length l) (sym pages_are) (pool_enough parts bases free c.args.home);
    }
