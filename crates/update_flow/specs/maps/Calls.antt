-- What calls on the maps of a store leave of it.
use Rattle.std.specs.Prelude.{◌≡◌, ◌||◌, ℕ, Bool, false, List, Option, is_some}
use Rattle.osm_base.specs.map.Known.{Question}
use Rattle.outside.specs.declared.disk.Disk.{Ghosts}
use Rattle.page_journal.specs.declared.fault.StoreFault.{StoreFault}
use Rattle.page_journal.specs.declared.fault.StoreFault.TheVariants.{DiskFault, OutOfMemory}
use Rattle.chain_store.specs.Chains.{disk_of}
use Rattle.style_read.specs.Style.{StyleOf}
use Rattle.bucket_store.specs.Image.{OnlyLooks}
use Rattle.bucket_store.specs.Transaction.{chains_of, has_refused}
use Rattle.bucket_store.specs.declared.buckets.Buckets.{Buckets}
use Rattle.back_index.specs.Index.{Asked, Bears, is_spent}
use Rattle.back_index.specs.Reads.{ReadsBuckets}
use Rattle.store_maps.specs.Maps.{Maps}
use Rattle.update_flow.specs.maps.Held.{Beside, HasMaps}
use Rattle.update_flow.specs.declared.maps.kept.StoreTxn.{StoreTxn}

-- the buckets of the store, its style, and why the last call that was refused was refused
abbrev pub buckets_of : {D : Type 0} {g : Ghosts D} → StoreTxn D g → Buckets D g
buckets_of kept = kept.indexed.buckets

abbrev pub style_in : {D : Type 0} {g : Ghosts D} → StoreTxn D g → StyleOf
style_in kept = kept.style.now

abbrev pub stop_of : {D : Type 0} {g : Ghosts D} → StoreTxn D g → Option StoreFault
stop_of kept = kept.indexed.stopped

abbrev pub faults_of : {D : Type 0} {g : Ghosts D} → StoreTxn D g → ℕ
faults_of kept = (disk_of (chains_of (buckets_of kept))).faults

-- the transaction has these maps, over this
abbrev pub Keeps : {D : Type 0} {g : Ghosts D} → StoreTxn D g → Beside → Maps → Type 0
Keeps kept under maps = HasMaps (style_in kept).tables under maps (buckets_of kept)

-- nothing may be asked or set any more
abbrev pub is_over : {D : Type 0} {g : Ghosts D} → StoreTxn D g → Bool
is_over kept = is_some (stop_of kept) || is_spent (buckets_of kept)

-- of the store at rest calls have only read, each bucket once and no text unless a call was refused, and its style is the same
pub record IsLater {D : Type 0} {g : Ghosts D} (first last : StoreTxn D g) : Type 0 where
  pub looks : OnlyLooks (buckets_of first) (buckets_of last)
  pub reads : has_refused (buckets_of last) ≡ false → ReadsBuckets (buckets_of first) (buckets_of last)
  pub same_style : style_in last ≡ style_in first

-- these questions to the index were asked, and nothing else was done
pub record AreAsked {D : Type 0} {g : Ghosts D} (questions : List Question) (old new : StoreTxn D g) : Type 0 where
  pub asked : Asked questions (buckets_of old) (stop_of old) (buckets_of new) (stop_of new)
  pub same_style : style_in new ≡ style_in old

-- the last call that was refused may have been refused so, where the disk had met so many faults before it
abbrev pub WasRefused : {D : Type 0} {g : Ghosts D} → StoreTxn D g → ℕ → StoreFault → Type 0
WasRefused kept count fault = Bears (buckets_of kept) (stop_of kept) count fault

-- whatever maps it has, the disk may fail and memory may run out
abbrev pub IsAllowed : StoreFault → Type 0
IsAllowed DiskFault = Unit {0}
IsAllowed OutOfMemory = Unit {0}
IsAllowed _ = ⊥
