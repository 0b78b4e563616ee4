-- A value is set in a bucket, where that is there.
use Rattle.std.proofs.Common.{◌≡◌, ◌⊎◌, ℕ, Bool, true, false, List, Some, refl, inl, inr}
use Rattle.std.specs.Option.{is_some}
use Rattle.std.specs.FinMap as map
use Rattle.bucket_store.specs.Cache.{CacheMap, changed_to}
use Rattle.bucket_store.specs.declared.cache.Cached.{Cached}
use Rattle.bucket_store.proofs.Caches.{true_is_some}
use Rattle.bucket_store.proofs.Openings.{there_own}

-- the bucket has the value, or nothing was changed
pub set_or_same : (there : Bool) (old new : CacheMap) (n key : ℕ) (value : List ℕ) → there ≡ is_some (map.get old n)
    → ((own : Cached) → map.get old n ≡ Some own → new ≡ map.insert old n (changed_to own (map.insert own.bucket.values key value)))
    → (there ≡ false → new ≡ old)
    → ((own : Cached) × (map.get old n ≡ Some own) × (new ≡ map.insert old n (changed_to own (map.insert own.bucket.values key value))))
    ⊎ (new ≡ old)
set_or_same true old new n key value there changed none =
    let found = there_own (map.get old n) (true_is_some true (map.get old n) there refl) in inl (found.0, found.1, changed found.0 found.1)
set_or_same false old new n key value there changed none = inr (none refl)
