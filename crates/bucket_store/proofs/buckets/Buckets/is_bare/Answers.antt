-- A bucket without a page that the transaction does not have has nothing.
use Rattle.std.proofs.Common.{ℕ, sym, ap, ◌∙◌}
use Rattle.std.specs.FinMap as map
use Rattle.chain_store.specs.Chains.{first_of}
use Rattle.bucket_store.specs.Transaction.{bucket_at}
use Rattle.bucket_store.proofs.Bare.{bare_above, bare_found, bare_values, not_there}
use Rattle.bucket_store.proofs.Openings.{none_of}
use Rattle.value_bytes.specs.StoreMap.{map_number}
use Rattle.value_bytes.proofs.MapNumbers.{map_number-below}
use Rattle.bucket_store.proofs.buckets.Buckets.is_bare.Goals as goal

pub returns-clause-none : goal.returns-clause-none
returns-clause-none g c bare pages values content =
    let self = c.args.self.now in
    let which : ℕ = map_number c.args.map in
    let n = c.chain_of-n.result in
    let none = none_of c.has.result (map.get self.cache n) c.has.ensures.1 (not_there c.has.result bare) in
    bare_values pages self (bucket_at self which c.args.key) values c.requires.ready.going (bare_above self which c.args.key)
    (ap (λ (k : ℕ). first_of self.chains k) (sym c.chain_of-n.ensures.chain) ∙ sym c.first_page.ensures ∙ c.if-first_page-ne0.false)
    (ap (λ (k : ℕ). map.get self.cache k) (sym c.chain_of-n.ensures.chain) ∙ none) content

pub returns-clause-found : goal.returns-clause-found
returns-clause-found g c bare rest now has =
    bare_found rest now c.args.self.now (map_number c.args.map) c.args.key (map_number-below c.args.map) c.requires.ready.some
    (returns-clause-none g c bare) has
