-- The records of nodes of an old store are written anew.
-- docs/FILES.md, "Buckets, and the eight maps": behind the place of each stands the mark of tags that nobody knows.
use Rattle.std.specs.Prelude.{◌≡◌, ◌%◌, ℕ, List, Option, None, Some, Result, IfErr, OnOk}
use Rattle.std.specs.List.{AllByRecursion}
use Rattle.std.specs.FinMap as finite
use Rattle.osm_base.specs.values.Place.{PlaceOf}
use Rattle.outside.specs.declared.disk.Disk.{Ghosts}
use Rattle.page_journal.specs.declared.fault.StoreFault.{StoreFault}
use Rattle.bucket_store.specs.Image.{Has, Image}
use Rattle.bucket_store.specs.declared.buckets.Buckets.{Buckets}
use Rattle.value_bytes.specs.Forms.{IsNoValue}
use Rattle.value_bytes.specs.Nodes.{record_bytes}
use Rattle.middle_nodes.specs.Old.{IsOldPlace, old_bytes, unknown}
use Rattle.value_bytes.specs.StoreMap.{map_number}
use Rattle.value_bytes.specs.declared.store_map.StoreMap.TheVariants.{Nodes}
use Rattle.row_store.specs.Loading.{Looks}
use Rattle.back_index.specs.Calls.{page_in}
use Rattle.back_index.specs.Reads.{ReadsBuckets}
use Rattle.back_index.specs.Visits.{OnlyMap, Refuses}

-- the bytes of a record are those of a place alone, and then those of this place and unknown tags; without a record there is none then
abbrev pub IsRenewed : Option (List ℕ) → Option (List ℕ) → Type 0
IsRenewed None new = new ≡ None
IsRenewed (Some bytes) new = (place : Option PlaceOf) × IsOldPlace place × (bytes ≡ old_bytes place)
    × (new ≡ Some (record_bytes (unknown place)))

-- the records of these nodes are written anew, and all else in the store stays
pub record Renews (Part : ℕ → Type 0) (now after : Image) : Type 0 where
  pub only : OnlyMap (map_number Nodes) now after
  pub here : (id : ℕ) → Part id → IsRenewed (finite.get (now.maps (map_number Nodes)) id) (finite.get (after.maps (map_number Nodes)) id)
  pub beside : (id : ℕ) → ¬ Part id → finite.get (after.maps (map_number Nodes)) id ≡ finite.get (now.maps (map_number Nodes)) id

-- a node
abbrev pub Any : ℕ → Type 0
Any id = Unit {0}

-- a node of a bucket
abbrev pub IsIn : ℕ → ℕ → ℕ → Type 0
IsIn buckets bucket id = id % buckets ≡ bucket % buckets

-- these records are in the store
abbrev pub AreThere : Image → List (ℕ × List ℕ) → Type 0
AreThere now records = AllByRecursion (λ one. finite.get (now.maps (map_number Nodes)) one.0 ≡ Some one.1) records

-- the record of one of these nodes does not read, and its bucket begins at this page
pub record HasOldUnread {D : Type 0} {g : Ghosts D} (Part : ℕ → Type 0) (buckets : Buckets D g) (now : Image) (at : ℕ) : Type 0 where
  pub id : ℕ
  pub among : Part id
  pub bytes : List ℕ
  pub there : finite.get (now.maps (map_number Nodes)) id ≡ Some bytes
  pub none : IsNoValue old_bytes IsOldPlace bytes
  pub page_is : at ≡ page_in buckets (map_number Nodes) id

-- the store at rest was only looked at, each of its buckets once
pub record LooksOnce {D T : Type 0} {g : Ghosts D} (old new : Buckets D g) (result : Result T StoreFault) : Type 0 where
  pub looks : Looks old new result
  pub reads : OnOk result (ReadsBuckets old new)

-- and on a store that means something of which this is given it was refused for the disk, for want of memory, or for such damage
pub record RenewsOnce {D T : Type 0} {g : Ghosts D} (Given : Image → Type 0) (Damage : Image → ℕ → Type 0) (old new : Buckets D g)
    (result : Result T StoreFault) : Type 0 where
  pub looks : Looks old new result
  pub reads : OnOk result (ReadsBuckets old new)
  pub stops : (rest now : Image) → Has rest now old → Given now → IfErr result (Refuses (Damage now))

-- nothing need be given
abbrev pub Always : Image → Type 0
Always now = Unit {0}
