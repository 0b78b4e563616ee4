-- What a follower's store makes of rows that a block tells.
use Rattle.std.specs.Prelude.{◌≡◌, ◌<◌, ◌==◌, ℕ, List, IfSome, if◌then◌else◌}
use Rattle.std.specs.FinMap as finite
use Rattle.std.specs.List.{AllByRecursion}
use Rattle.outside.specs.declared.disk.Disk.{Ghosts}
use Rattle.osm_base.specs.declared.values.row.RowChange.{RowChange}
use Rattle.osm_base.specs.map.Spots.{TableMap}
use Rattle.style_read.specs.declared.style.TableDef.{TableDef}
use Rattle.chain_store.specs.declared.root.Root.{Root}
use Rattle.bucket_store.specs.Image.{Has, Image, with_root, with_text}
use Rattle.bucket_store.specs.declared.buckets.Buckets.{Buckets}
use Rattle.row_store.specs.Tables.{HoldsTables}
use Rattle.store_maps.specs.Rows.{Fits}
use Rattle.update_flow.specs.Settling.{counted_to}
use Rattle.update_flow.specs.State.{follower_buckets}
use Rattle.update_flow.specs.declared.fields.TheConstants.{FOLLOWING, IMPORTED_FORMAT, STYLE_TEXT}

-- where a row stands, it is of one of these tables, with a cell for each of its columns
abbrev pub FitsTable : List TableDef → RowChange → Type 0
FitsTable definitions change = IfSome change.row (λ row. Fits definitions (record { table = change.table; row = row }))

abbrev pub AllFit : List TableDef → List RowChange → Type 0
AllFit definitions changes = AllByRecursion (FitsTable definitions) changes

-- but for the two maps of rows it is the same store
pub record IsBeside (old new : Image) : Type 0 where
  pub root : new.root ≡ old.root
  pub texts : (n : ℕ) → new.texts n ≡ old.texts n
  pub maps : (m : ℕ) → m < 6 → new.maps m ≡ old.maps m

-- a transaction has made of a store one whose maps hold these tables, and which is else the same
pub record HasTables {D : Type 0} {g : Ghosts D} (definitions : List TableDef) (tables : TableMap) (rest now : Image)
    (buckets : Buckets D g) : Type 0 where
  pub later : Image
  pub has : Has rest later buckets
  pub holds : HoldsTables definitions later.maps tables
  pub beside : IsBeside now later

-- the fields of a follower's store of a version, with so many buckets, and a store with them and with these bytes of its style
abbrev pub following_root : (version buckets : ℕ) → Root
following_root version buckets = record { format = IMPORTED_FORMAT; state = FOLLOWING; changes = version; buckets = buckets }

abbrev pub styled : ℕ → List ℕ → Image → Image
styled version bytes image = with_root (following_root version image.root.buckets) (with_text STYLE_TEXT bytes image)

-- a store has room for whole tables: its maps of rows are empty, it has buckets, and it is else the same
pub record HasRoom (old new : Image) : Type 0 where
  pub buckets : new.root.buckets ≡ (if old.root.buckets == 0 then follower_buckets else old.root.buckets)
  pub texts : (n : ℕ) → new.texts n ≡ old.texts n
  pub maps : (m : ℕ) → m < 6 → new.maps m ≡ old.maps m
  pub none : (definitions : List TableDef) → HoldsTables definitions new.maps finite.empty

-- a store with this number of changes
abbrev pub versioned : ℕ → Image → Image
versioned version image = with_root (counted_to version image.root) image
