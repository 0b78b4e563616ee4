-- What calls that find and set values in the buckets of a store leave of it, and how they may be refused.
use Rattle.std.specs.Prelude.{◌≡◌, ◌||◌, is_err, List, Result, IfOk, OnOk}
use Rattle.outside.specs.declared.disk.Disk.{Ghosts}
use Rattle.page_journal.specs.Answers.{HasDiskCause, answers_disk_fault}
use Rattle.page_journal.specs.Journal.{is_broken}
use Rattle.page_journal.specs.declared.fault.StoreFault.{StoreFault}
use Rattle.chain_store.specs.Answers.{IsReadAnswer}
use Rattle.chain_store.specs.Chains.{OnlyRead, disk_of, journal_of}
use Rattle.style_read.specs.declared.style.TableDef.{TableDef}
use Rattle.bucket_store.specs.Image.{Has, Image, IsSoundAnswer}
use Rattle.bucket_store.specs.Transaction.{chains_of, has_refused}
use Rattle.bucket_store.specs.declared.buckets.Buckets.{Buckets}
use Rattle.back_index.specs.Reads.{HasReadOnly, ReadsBuckets}
use Rattle.store_maps.specs.Asked.{May}
use Rattle.store_maps.specs.Maps.{Maps}
use Rattle.update_flow.specs.maps.Held.{Beside, HasMaps}

-- the store at rest was only looked at, each of its buckets once. The answer is one of a call that reads, a refusal with its cause, and the
-- transaction has refused a call where it is one.
pub record Touched {D T : Type 0} {g : Ghosts D} (old new : Buckets D g) (result : Result T StoreFault) : Type 0 where
  pub stays : OnlyRead (chains_of old) (chains_of new)
  pub alone : IsReadAnswer (is_broken (journal_of (chains_of old))) result
  pub broken : is_broken (journal_of (chains_of new)) ≡ (is_broken (journal_of (chains_of old)) || answers_disk_fault result)
  pub refused : has_refused new ≡ is_err result
  pub cause : HasDiskCause (disk_of (chains_of old)).faults (disk_of (chains_of new)).faults result
  pub reads : OnOk result (ReadsBuckets old new)

-- a call that only asks, and no keys but these: the transaction has what it had
pub record Asks {D T : Type 0} {g : Ghosts D} (Keys : May → Type 0) (old new : Buckets D g) (result : Result T StoreFault) : Type 0 where
  pub has : OnOk result ((rest now : Image) → Has rest now old → Has rest now new)
  pub within : (may : May) → Keys may → HasReadOnly may old → HasReadOnly may new
  pub touched : Touched old new result

-- what it finds is this value of the maps, and where there are maps it is refused for no fault of the store's
pub record Finds {D A : Type 0} {g : Ghosts D} (definitions : List TableDef) (value : Maps → A) (old : Buckets D g)
    (result : Result A StoreFault) : Type 0 where
  pub found : IfOk result (λ found. (under : Beside) (maps : Maps) → HasMaps definitions under maps old → found ≡ value maps)
  pub sound : (under : Beside) (maps : Maps) → HasMaps definitions under maps old → IsSoundAnswer result

-- a call that puts values or takes them out, of no keys but these: where the transaction has what it reads it is refused for no fault
-- of the store's
pub record Puts {D T : Type 0} {g : Ghosts D} (Keys : May → Type 0) (old new : Buckets D g) (result : Result T StoreFault) : Type 0 where
  pub sound : (rest now : Image) → Has rest now old → IsSoundAnswer result
  pub within : (may : May) → Keys may → HasReadOnly may old → HasReadOnly may new
  pub touched : Touched old new result
