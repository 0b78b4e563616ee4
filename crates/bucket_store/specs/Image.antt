-- A store by what it means: its fields, its texts and its eight finite maps; and what a transaction makes of it.
use Rattle.std.specs.Prelude.{◌≡◌, ◌≢◌, ℕ, ◌+◌, ◌*◌, ◌%◌, ◌==◌, ◌<◌, ◌≤◌, false, List, [], Option, None, Some, Result, Ok, Err}
use Rattle.std.specs.Prelude.{if◌then◌else◌}
use Rattle.std.specs.FinMap as map
use Rattle.outside.specs.Disk.{DiskView, Only, Tells}
use Rattle.outside.specs.declared.disk.Disk.{Ghosts}
use Rattle.page_journal.specs.Journal.{is_broken}
use Rattle.page_journal.specs.Pages.{gate}
use Rattle.page_journal.specs.declared.fault.StoreFault.{StoreFault}
use Rattle.page_journal.specs.declared.fault.StoreFault.TheVariants.{DiskFault, OutOfMemory, StoreFull}
use Rattle.page_journal.specs.declared.layout.TheConstants.{FORMAT, OPEN}
use Rattle.chain_store.specs.Answers.{Looked, RestsWith}
use Rattle.chain_store.specs.Chains.{disk_of, journal_of, kept_of, root_of, written_of}
use Rattle.chain_store.specs.Known.{own_or}
use Rattle.chain_store.specs.State.{HasState, IsState}
use Rattle.chain_store.specs.Store.{Keeps}
use Rattle.chain_store.specs.declared.root.Root.{Root}
use Rattle.bucket_records.specs.Records.{BucketMap, IsBucket}
use Rattle.bucket_store.specs.Transaction.{Content, IsOpenStore, chains_of}
use Rattle.bucket_store.specs.declared.buckets.Buckets.{Buckets}

-- what a store means: its fields, its strings 0 to 7, and its maps 0 to 7
pub record Image : Type 0 where
  pub root : Root
  pub texts : ℕ → List ℕ
  pub maps : ℕ → BucketMap

-- the records of one bucket of a map are those whose keys are of the bucket
pub record IsPart (buckets bucket : ℕ) (whole own : BucketMap) : Type 0 where
  pub each : (key : ℕ) → map.get own key ≡ (if key % buckets == bucket then map.get whole key else None)

-- the chain of this bucket of a map
abbrev pub bucket_chain : ℕ → ℕ → ℕ
bucket_chain m bucket = 16 + 65536 * m + bucket

-- these are the records of a bucket of a map, by rising key
pub record IsBucketOf (image : Image) (m bucket : ℕ) (records : List (ℕ × List ℕ)) : Type 0 where
  pub own : BucketMap
  pub part : IsPart image.root.buckets bucket (image.maps m) own
  pub are : records ≡ map.entries own

-- these strings spell it: the texts are the first of them, and each bucket's string is its records. Without buckets the
-- maps are empty.
pub record Spells (image : Image) (strings : ℕ → List ℕ) : Type 0 where
  pub texts : (n : ℕ) → n < 8 → strings n ≡ image.texts n
  pub parts : (m bucket : ℕ) → m < 8 → bucket < image.root.buckets → (own : BucketMap)
      × IsPart image.root.buckets bucket (image.maps m) own
      × IsBucket image.root.buckets bucket (strings (bucket_chain m bucket)) (map.entries own)
  pub none : image.root.buckets ≡ 0 → (m : ℕ) → m < 8 → image.maps m ≡ map.empty

-- what a crash leaves is a store that means this
pub record HasImage (image : Image) (left : List ℕ) : Type 0 where
  pub strings : ℕ → List ℕ
  pub state : HasState image.root strings left
  pub spells : Spells image strings

-- the disk is at rest with a store that means this: it gives one that does, a crash leaves nothing else, and its journal
-- is shut
pub record HoldsImage (image : Image) (view : DiskView) : Type 0 where
  pub bytes : List ℕ
  pub told : Tells view bytes
  pub only : Only bytes view.crashes
  pub shut : gate bytes ≢ OPEN
  pub has : HasImage image bytes

-- a map with this value for a key, or without the key
abbrev pub with_entry : ℕ → Option (List ℕ) → BucketMap → BucketMap
with_entry key None values = map.remove values key
with_entry key (Some value) values = map.insert values key value

-- a store with this value for a key of a map, or without the key; with this text; and with these fields
unfoldable pub with_value : ℕ → ℕ → Option (List ℕ) → Image → Image
with_value m key value image = record {
  root = image.root;
  texts = image.texts;
  maps = λ k. if k == m then with_entry key value (image.maps k) else image.maps k;
}

unfoldable pub with_text : ℕ → List ℕ → Image → Image
with_text n bytes image = record {
  root = image.root;
  texts = λ k. if k == n then bytes else image.texts k;
  maps = image.maps;
}

unfoldable pub with_root : Root → Image → Image
with_root root image = record { root = root; texts = image.texts; maps = image.maps }

-- fields with another number of buckets
abbrev pub with_buckets : ℕ → Root → Root
with_buckets buckets root = record { format = root.format; state = root.state; changes = root.changes; buckets = buckets }

-- what `format` leaves means this
unfoldable pub fresh_image : Image
fresh_image = record {
  root = record { format = FORMAT; state = 0; changes = 0; buckets = 0 };
  texts = λ n. [];
  maps = λ m. map.empty;
}

-- the store under the transaction is at rest and means this: the disk gives a store that does, a crash leaves nothing
-- else, and no journal is open
pub record RestsAt {D : Type 0} {g : Ghosts D} (image : Image) (buckets : Buckets D g) : Type 0 where
  pub pages : List (List ℕ)
  pub rests : RestsWith pages (journal_of (chains_of buckets))
  pub keeps : Keeps pages (kept_of (chains_of buckets))
  pub strings : ℕ → List ℕ
  pub state : IsState image.root strings pages
  pub spells : Spells image strings

-- it rests so, no disk fault was met, and the transaction has made this of it
pub record Has {D : Type 0} {g : Ghosts D} (rest now : Image) (buckets : Buckets D g) : Type 0 where
  pub pages : List (List ℕ)
  pub opens : IsOpenStore pages buckets
  pub strings : ℕ → List ℕ
  pub state : IsState rest.root strings pages
  pub spells : Spells rest strings
  pub whole : is_broken (journal_of (chains_of buckets)) ≡ false
  pub root : root_of (chains_of buckets) ≡ now.root
  pub texts : (n : ℕ) → n < 8 → own_or (map.get (written_of (chains_of buckets)) n) (strings n) ≡ now.texts n
  pub parts : (m bucket : ℕ) → m < 8 → bucket < now.root.buckets → (own : BucketMap)
      × IsPart now.root.buckets bucket (now.maps m) own × Content pages buckets (bucket_chain m bucket) own
  pub none : now.root.buckets ≡ 0 → (m : ℕ) → m < 8 → now.maps m ≡ map.empty

-- the store was only looked at: what it means at rest, and all that a crash may leave, are as before, and the disk's count
-- of faults has not fallen
pub record OnlyLooks {D : Type 0} {g : Ghosts D} (old new : Buckets D g) : Type 0 where
  pub looked : Looked (journal_of (chains_of old)) (journal_of (chains_of new))
  pub kept : kept_of (chains_of new) ≡ kept_of (chains_of old)
  pub later : (disk_of (chains_of old)).faults ≤ (disk_of (chains_of new)).faults

-- a store that means something refuses no call that reads it, but where the disk fails or memory runs out
abbrev pub IsSoundAnswer : {T : Type 0} → Result T StoreFault → Type 0
IsSoundAnswer (Ok value) = Unit {0}
IsSoundAnswer (Err DiskFault) = Unit {0}
IsSoundAnswer (Err OutOfMemory) = Unit {0}
IsSoundAnswer (Err _) = ⊥

-- and a commit of it none, but where the disk fails, memory runs out, or it would have more pages than the limit
abbrev pub IsSoundCommit : {T : Type 0} → ℕ → Result T StoreFault → Type 0
IsSoundCommit limit (Ok value) = Unit {0}
IsSoundCommit limit (Err DiskFault) = Unit {0}
IsSoundCommit limit (Err OutOfMemory) = Unit {0}
IsSoundCommit limit (Err (StoreFull pages)) = limit < pages
IsSoundCommit limit (Err _) = ⊥
