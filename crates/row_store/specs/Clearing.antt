-- All rows are taken out of a store.
use Rattle.std.specs.Prelude.{◌≡◌, ◌≢◌, ◌⊎◌, ◌<◌, ℕ, ◌==◌, false, List, None, Result, Ok, Err, OnOk, if◌then◌else◌}
use Rattle.std.specs.FinMap as finite
use Rattle.outside.specs.declared.disk.Disk.{Ghosts}
use Rattle.page_journal.specs.Journal.{is_broken}
use Rattle.page_journal.specs.declared.fault.StoreFault.{StoreFault}
use Rattle.page_journal.specs.declared.fault.StoreFault.TheVariants.{BadStore}
use Rattle.chain_store.specs.Chains.{OnlyRead, journal_of}
use Rattle.bucket_records.specs.Records.{BucketMap}
use Rattle.bucket_store.specs.Buckets.{bucket_count}
use Rattle.bucket_store.specs.Image.{Has, Image, IsSoundAnswer, OnlyLooks, bucket_chain}
use Rattle.bucket_store.specs.Transaction.{Content, IsBad, IsOpenStore, chains_of, has_refused}
use Rattle.bucket_store.specs.declared.buckets.Buckets.{Buckets}
use Rattle.value_bytes.specs.StoreMap.{map_number}
use Rattle.value_bytes.specs.declared.store_map.StoreMap.TheVariants.{NodeRows, OtherRows}
use Rattle.row_store.specs.Loading.{Looks}

-- a store with nothing in a map, and all else as it is
unfoldable pub without_map : ℕ → Image → Image
without_map which image = record {
  root = image.root;
  texts = image.texts;
  maps = λ m. if m == which then finite.empty else image.maps m;
}

-- a store with nothing in the two maps of rows
abbrev pub without_rows : Image → Image
without_rows image = without_map (map_number OtherRows) (without_map (map_number NodeRows) image)

-- a call that empties a map may be refused so: one of its buckets cannot be read
abbrev pub ClearsMap : {D T : Type 0} {g : Ghosts D} → List (List ℕ) → Buckets D g → ℕ → Result T StoreFault → Type 0
ClearsMap pages buckets which (Ok done) = Unit {0}
ClearsMap pages buckets which (Err (BadStore at)) =
    (bucket : ℕ) × (bucket < bucket_count (chains_of buckets)) × IsBad pages buckets (bucket_chain which bucket) at
ClearsMap pages buckets which (Err _) = Unit {0}

-- and so may one that empties both
abbrev pub ClearsRows : {D T : Type 0} {g : Ghosts D} → List (List ℕ) → Buckets D g → Result T StoreFault → Type 0
ClearsRows pages buckets result = ClearsMap pages buckets (map_number NodeRows) result ⊎ ClearsMap pages buckets (map_number OtherRows) result

-- of a map these keys are gone, no other key has become another, and all else is as it was
pub record Without (which : ℕ) (Part : ℕ → Type 0) (old new : Image) : Type 0 where
  pub root : new.root ≡ old.root
  pub texts : (n : ℕ) → new.texts n ≡ old.texts n
  pub others : (m : ℕ) → m ≢ which → new.maps m ≡ old.maps m
  pub gone : (key : ℕ) → Part key → finite.get (new.maps which) key ≡ None
  pub fewer : (key : ℕ) → (finite.get (new.maps which) key ≡ finite.get (old.maps which) key) ⊎ (finite.get (new.maps which) key ≡ None)

-- calls that were answered have taken these keys out of a map
pub record Took {D : Type 0} {g : Ghosts D} (which : ℕ) (Part : ℕ → Type 0) (old new : Buckets D g) : Type 0 where
  pub gone : (rest now : Image) → Has rest now old → (later : Image) × Without which Part now later × Has rest later new
  pub opens : (pages : List (List ℕ)) → IsOpenStore pages old → IsOpenStore pages new
  pub keeps : (pages : List (List ℕ)) → IsOpenStore pages old → (n : ℕ) (values : BucketMap) → Content pages old n values
      → (later : BucketMap) × Content pages new n later
  pub same : OnlyLooks old new
  pub stays : OnlyRead (chains_of old) (chains_of new)
  pub still : is_broken (journal_of (chains_of new)) ≡ is_broken (journal_of (chains_of old))
  pub going : has_refused new ≡ false

-- what a call that takes these keys out of a map does, whatever it answers
pub record TakesOut {D T : Type 0} {g : Ghosts D} (which : ℕ) (Part : ℕ → Type 0) (old new : Buckets D g) (result : Result T StoreFault) : Type 0 where
  pub took : OnOk result (Took which Part old new)
  pub answers : (pages : List (List ℕ)) → IsOpenStore pages old → ClearsMap pages old which result
  pub sound : (rest now : Image) → Has rest now old → IsSoundAnswer result
  pub opens : (pages : List (List ℕ)) → IsOpenStore pages old → IsOpenStore pages new
  pub looks : Looks old new result
