-- Which page is blamed where the chains of a store are not those of a sound one.
-- docs/FILES.md, "Chains": each page behind the root page is in just one chain or free, and a page tells the number of its chain.
use Rattle.std.specs.Prelude.{◌≡◌, ◌≢◌, ◌⊎◌, ◌+◌, ◌<◌, ◌≤◌, ℕ, List, [], ◌∷◌, ◌++◌, flat_map, length, map, Result, Ok, Err}
use Rattle.std.specs.FinMap as finite
use Rattle.std.specs.List.{AllByRecursion, range_with_len}
use Rattle.page_journal.specs.declared.fault.StoreFault.{StoreFault}
use Rattle.page_journal.specs.declared.fault.StoreFault.TheVariants.{BadStore}
use Rattle.chain_store.specs.Chain.{HasPages, data_in}
use Rattle.chain_store.specs.Directories.{IsChain, root_in}
use Rattle.chain_store.specs.Links.{page_in}
use Rattle.chain_store.specs.State.{IsIn, IsOwner}
use Rattle.chain_store.specs.Store.{HasBytes, IsRefused, kept_first}
use Rattle.chain_store.specs.declared.kept.Kept.{Kept}
use Rattle.chain_store.specs.declared.layout.TheConstants.{FREE}
use Rattle.bucket_records.specs.Records.{BucketMap, IsBucket, IsNoBucket}
use Rattle.bucket_store.specs.Buckets.{bucket_in}
use Rattle.bucket_store.specs.Image.{bucket_chain}

-- the chains of the buckets of a map
abbrev pub chains_in : (buckets m : ℕ) → List ℕ
chains_in buckets m = map (bucket_chain m) (range_with_len 0 buckets)

-- all chains that are loaded, in their order: the style, the due tiles, each bucket of each map, and the free pages
abbrev pub loads : (buckets : ℕ) → List ℕ
loads buckets = 1 ∷ 2 ∷ (flat_map (chains_in buckets) (range_with_len 0 8) ++ FREE ∷ [])

-- how many buckets each map of the store has
abbrev pub buckets_told : List (List ℕ) → ℕ
buckets_told pages = (root_in (page_in pages 1)).buckets

-- the chain with this number is one, and where it is that of a bucket its bytes are records
pub record IsLoaded (pages : List (List ℕ)) (kept : Kept) (n : ℕ) : Type 0 where
  pub ns : List ℕ
  pub has : HasPages (page_in pages) (length pages + 1) n (kept_first kept n) ns
  pub records : 16 ≤ n → IsChain n → (values : BucketMap)
      × IsBucket (buckets_told pages) (bucket_in n) (data_in (page_in pages) ns) (finite.entries values)

-- it is refused at this page, or it is that of a bucket, its bytes are no records, and it begins there
abbrev pub IsRefusedAt : List (List ℕ) → Kept → (n at : ℕ) → Type 0
IsRefusedAt pages kept n at = IsRefused pages n (kept_first kept n) at
    ⊎ ((16 ≤ n) × IsChain n × ((bytes : List ℕ) × HasBytes pages n (kept_first kept n) bytes
    × IsNoBucket (buckets_told pages) (bucket_in n) bytes × (at ≡ kept_first kept n)))

-- all of them are accepted
abbrev pub AreLoaded : List (List ℕ) → Kept → Type 0
AreLoaded pages kept = AllByRecursion (IsLoaded pages kept) (loads (buckets_told pages))

-- the first that is not is refused at this page
pub record IsFirstRefused (pages : List (List ℕ)) (kept : Kept) (at : ℕ) : Type 0 where
  pub before : List ℕ
  pub n : ℕ
  pub after : List ℕ
  pub order : loads (buckets_told pages) ≡ before ++ n ∷ after
  pub accepted : AllByRecursion (IsLoaded pages kept) before
  pub refused : IsRefusedAt pages kept n at

-- a chain, or the free pages, have this page
abbrev pub IsOwned : List (List ℕ) → Kept → ℕ → Type 0
IsOwned pages kept p = (n : ℕ) × IsOwner n × IsIn (page_in pages) (length pages + 1) (kept_first kept) n p

-- so is each page behind the root page
abbrev pub AreOwned : List (List ℕ) → Kept → Type 0
AreOwned pages kept = (p : ℕ) → 2 ≤ p → p < length pages + 1 → IsOwned pages kept p

-- the lowest page behind the root page that none of them has
pub record IsLeftOver (pages : List (List ℕ)) (kept : Kept) (at : ℕ) : Type 0 where
  pub behind : (2 ≤ at) × (at < length pages + 1)
  pub none : ¬ IsOwned pages kept at
  pub lowest : (p : ℕ) → 2 ≤ p → p < at → IsOwned pages kept p

-- the text with this number is to be empty
abbrev pub IsUnused : ℕ → Type 0
IsUnused n = (n < 8) × (n ≢ 1) × (n ≢ 2)

-- the chains that are to be empty are chains, whatever they hold
abbrev pub AreChains : List (List ℕ) → Kept → Type 0
AreChains pages kept = (n : ℕ) → IsUnused n → (bytes : List ℕ) × HasBytes pages n (kept_first kept n) bytes

-- a survey of all chains of a store may give this answer
abbrev pub Surveys : List (List ℕ) → Kept → Result (Unit {0}) StoreFault → Type 0
Surveys pages kept (Ok done) = AreLoaded pages kept × AreOwned pages kept
Surveys pages kept (Err (BadStore at)) = IsFirstRefused pages kept at ⊎ (AreLoaded pages kept × IsLeftOver pages kept at)
Surveys pages kept (Err _) = Unit {0}
