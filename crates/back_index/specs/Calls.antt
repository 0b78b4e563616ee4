-- What calls on the index leave of a store, whatever they answer.
use Rattle.std.specs.Prelude.{◌≡◌, ℕ, ◌||◌, true, false, is_err, List, Result, IfErr, OnOk}
use Rattle.outside.specs.declared.disk.Disk.{Ghosts}
use Rattle.page_journal.specs.Answers.{HasDiskCause, answers_disk_fault}
use Rattle.page_journal.specs.Journal.{is_broken}
use Rattle.page_journal.specs.declared.fault.StoreFault.{StoreFault}
use Rattle.chain_store.specs.Answers.{IsReadAnswer}
use Rattle.chain_store.specs.Chains.{OnlyRead, disk_of, first_of, journal_of}
use Rattle.bucket_store.specs.Buckets.{bucket_count, chain_at}
use Rattle.bucket_store.specs.Image.{Image, Has}
use Rattle.bucket_store.specs.Transaction.{chains_of, has_refused}
use Rattle.bucket_store.specs.declared.buckets.Buckets.{Buckets}
use Rattle.osm_base.specs.values.Ids.{AreRisingIds}
use Rattle.store_maps.specs.Asked.{May}
use Rattle.value_bytes.specs.StoreMap.{map_number}
use Rattle.back_index.specs.Reads.{HasReadOnly, ReadsBuckets}
use Rattle.back_index.specs.Visits.{Refuses}
use Rattle.back_index.specs.declared.visit.Visit.{Visit}

-- the first page that the bucket of a key has in the store, or 0 where it is empty there
abbrev pub page_in : {D : Type 0} {g : Ghosts D} → Buckets D g → ℕ → ℕ → ℕ
page_in buckets which key = first_of (chains_of buckets) (chain_at (bucket_count (chains_of buckets)) which key)

abbrev pub page_at : {D : Type 0} {g : Ghosts D} → Buckets D g → Visit → ℕ
page_at buckets visit = page_in buckets (map_number visit.map) visit.id

-- the store at rest was only looked at; the answer is one of a call that reads, each refusal with its cause, and the
-- transaction has refused a call where it is one
pub record IsAnswered {D T : Type 0} {g : Ghosts D} (old new : Buckets D g) (result : Result T StoreFault) : Type 0 where
  pub stays : OnlyRead (chains_of old) (chains_of new)
  pub alone : IsReadAnswer (is_broken (journal_of (chains_of old))) result
  pub broken : is_broken (journal_of (chains_of new)) ≡ (is_broken (journal_of (chains_of old)) || answers_disk_fault result)
  pub refused : has_refused new ≡ is_err result
  pub cause : HasDiskCause (disk_of (chains_of old)).faults (disk_of (chains_of new)).faults result

-- what each call on the lists leaves of the store. Of buckets it read no more than those of chains, each once, and of keys no more than
-- these; on a store that means something it is refused for the disk, for want of memory, or for a page where there is such damage.
pub record TouchesLists {D T : Type 0} {g : Ghosts D} (Keys : May → Type 0) (Damage : Image → ℕ → Type 0) (old new : Buckets D g)
    (result : Result T StoreFault) : Type 0 where
  pub answers : IsAnswered old new result
  pub reads : OnOk result (ReadsBuckets old new)
  pub stops : (rest now : Image) → Has rest now old → IfErr result (Refuses (Damage now))
  pub within : (may : May) → Keys may → HasReadOnly may old → HasReadOnly may new

-- and of one that only asks: but for a fault of the disk the transaction has what it had
pub record AsksLists {D T : Type 0} {g : Ghosts D} (Keys : May → Type 0) (Damage : Image → ℕ → Type 0) (old new : Buckets D g)
    (result : Result T StoreFault) : Type 0 where
  pub touches : TouchesLists Keys Damage old new result
  pub has : answers_disk_fault result ≡ false → (rest now : Image) → Has rest now old → Has rest now new

-- it needs no key, and there is no damage that it meets
abbrev pub NoKey : May → Type 0
NoKey may = Unit {0}

abbrev pub NoDamage : Image → ℕ → Type 0
NoDamage now at = ⊥

-- rising ids are found, such as this is said of where the transaction has something
pub record FindsIds {D : Type 0} {g : Ghosts D} (Are : Image → List ℕ → Type 0) (buckets : Buckets D g) (ids : List ℕ) : Type 0 where
  pub rising : AreRisingIds ids
  pub are : (rest now : Image) → Has rest now buckets → Are now ids

-- the transaction has refused a call, and has all that it had
pub record Marks {D : Type 0} {g : Ghosts D} (old new : Buckets D g) : Type 0 where
  pub chains : chains_of new ≡ chains_of old
  pub refused : has_refused new ≡ true
  pub has : (rest now : Image) → Has rest now old → Has rest now new
