-- Values that the maps of a store keep, as typed calls get and set them by their spelling.
use Rattle.std.specs.Prelude.{◌≡◌, ◌⊎◌, ℕ, List, Option, Some, Result, Ok, Err, IfOk}
use Rattle.std.specs.Ordering.{nat_cmp}
use Rattle.std.specs.FinMap as map
use Rattle.outside.specs.declared.disk.Disk.{Ghosts}
use Rattle.page_journal.specs.declared.fault.StoreFault.{StoreFault}
use Rattle.page_journal.specs.declared.fault.StoreFault.TheVariants.{BadStore, OutOfMemory}
use Rattle.chain_store.specs.Chains.{first_of}
use Rattle.bucket_records.specs.Records.{BucketMap}
use Rattle.bucket_store.specs.Calls.{KeepsContent}
pub use Rattle.bucket_store.specs.Calls.{SetsValue, TakesValue, Touches}
use Rattle.bucket_store.specs.Image.{Has, Image, IsSoundAnswer}
use Rattle.bucket_store.specs.Transaction.{Content, IsBad, chains_of}
pub use Rattle.bucket_store.specs.Transaction.{bucket_at}
use Rattle.bucket_store.specs.declared.buckets.Buckets.{Buckets}
use Rattle.value_bytes.specs.Forms.{IsNoValue, NeedsFor}
use Rattle.value_bytes.specs.Maps.{HoldsMap, ReadAs}
use Rattle.value_bytes.specs.declared.fault.ValueFault.{ValueFault}
use Rattle.value_bytes.specs.declared.fault.ValueFault.TheVariants as faults

-- what is answered where a value is not read whose bucket begins at this page
abbrev pub refusal_of : ValueFault → ℕ → StoreFault
refusal_of faults.NotSpelled page = BadStore page
refusal_of faults.OutOfMemory page = OutOfMemory

-- reading these bytes, if there are any, may give this answer
abbrev pub ReadsAs : {V : Type 0} → (V → List ℕ) → (V → Type 0) → Option (List ℕ) → Result (Option V) ValueFault → Type 0
ReadsAs spell Is bytes (Ok found) = ReadAs spell Is bytes found
ReadsAs spell Is bytes (Err fault) = (own : List ℕ) × (bytes ≡ Some own) × NeedsFor (IsNoValue spell Is own) fault

-- the transaction has bytes for the key that are no value's, in a bucket that begins at this page
pub record IsUnread {V D : Type 0} {g : Ghosts D} (spell : V → List ℕ) (Is : V → Type 0) (pages : List (List ℕ)) (buckets : Buckets D g)
    (which key at : ℕ) : Type 0 where
  pub values : BucketMap
  pub content : Content pages buckets (bucket_at buckets which key) values
  pub bytes : List ℕ
  pub there : map.get values key ≡ Some bytes
  pub none : IsNoValue spell Is bytes
  pub begins : at ≡ first_of (chains_of buckets) (bucket_at buckets which key)

-- a call that gets a value may give this answer, by the records that the transaction has in the bucket
abbrev pub Gets : {V D : Type 0} {g : Ghosts D} → (V → List ℕ) → (V → Type 0) → List (List ℕ) → Buckets D g → ℕ → ℕ
    → Result (Option V) StoreFault → Type 0
Gets spell Is pages buckets which key (Ok found) = (values : BucketMap) → Content pages buckets (bucket_at buckets which key) values
    → ReadAs spell Is (map.get values key) found
Gets spell Is pages buckets which key (Err (BadStore at)) = IsBad pages buckets (bucket_at buckets which key) at
    ⊎ IsUnread spell Is pages buckets which key at
Gets spell Is pages buckets which key (Err _) = Unit {0}

-- what a call that gets a value does, by all that the transaction has
pub record GetsValue {V D : Type 0} {g : Ghosts D} (spell : V → List ℕ) (Is : V → Type 0) (which key : ℕ) (old new : Buckets D g)
    (result : Result (Option V) StoreFault) : Type 0 where
  pub bytes : IfOk result (λ found. (rest now : Image) → Has rest now old → ReadAs spell Is (map.get (now.maps which) key) found)
  pub value : IfOk result (λ found. (rest now : Image) (values : map.FinMap nat_cmp V) → Has rest now old
      → HoldsMap spell Is (now.maps which) values → found ≡ map.get values key)
  pub sound : (rest now : Image) (values : map.FinMap nat_cmp V) → Has rest now old → HoldsMap spell Is (now.maps which) values
      → IsSoundAnswer result
  pub keeps : KeepsContent old new result
