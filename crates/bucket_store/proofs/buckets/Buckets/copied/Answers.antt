-- The copy of a value is the value.
use Rattle.std.proofs.Common.{List, ℕ, Some, sym, ap, ◌∙◌}
use Rattle.bucket_store.proofs.buckets.Buckets.copied.Goals as goal

pub returns-in_ok-copy-in-Some-clause-found : goal.returns-in_ok-copy-in-Some-clause-found
returns-in_ok-copy-in-Some-clause-found g c rest now has =
    ap (λ (bytes : List ℕ). Some bytes) (c.from_vec.ensures.items ∙ c.in_ok-copy-in-Some.ensures.items)
    ∙ sym (c.in-Some.ensures.found rest now has)

pub returns-in-None-clause-found : goal.returns-in-None-clause-found
returns-in-None-clause-found g c rest now has = sym (c.in-None.ensures.found rest now has)
