-- The rows of all objects of a store, or those of one table.
use Rattle.std.specs.Prelude.{◌≡◌, ◌⊎◌, ◌||◌, ◌/◌, ◌%◌, ℕ, nat_eq, Bool, true, is_err, List, [], ◌∷◌, Option, None, Some, Result, OnOk}
use Rattle.std.specs.Prelude.{if◌then◌else◌}
use Rattle.std.specs.FinMap as map
use Rattle.outside.specs.declared.disk.Disk.{Ghosts}
use Rattle.osm_base.specs.declared.values.key.Kind.TheVariants as kinds
use Rattle.osm_base.specs.declared.values.row.Row.{Row}
use Rattle.osm_base.specs.declared.values.row.TableRow.{TableRow}
use Rattle.osm_base.specs.map.Spots.{SpotOf, TableMap}
use Rattle.osm_base.specs.values.Key.{IsId, KeyOf}
use Rattle.page_journal.specs.Answers.{HasDiskCause, answers_disk_fault}
use Rattle.page_journal.specs.Journal.{is_broken}
use Rattle.page_journal.specs.declared.fault.StoreFault.{StoreFault}
use Rattle.chain_store.specs.Answers.{IsReadAnswer}
use Rattle.chain_store.specs.Chains.{OnlyRead, disk_of, journal_of}
use Rattle.bucket_records.specs.Records.{BucketMap}
use Rattle.bucket_store.specs.Image.{Has, Image, OnlyLooks}
use Rattle.bucket_store.specs.Transaction.{chains_of, has_refused}
use Rattle.bucket_store.specs.declared.buckets.Buckets.{Buckets}
use Rattle.style_read.specs.declared.style.TableDef.{TableDef}
use Rattle.row_store.specs.Rows.{AreRows, rows_bytes}
use Rattle.value_bytes.specs.StoreMap.{map_number}
use Rattle.value_bytes.specs.declared.store_map.StoreMap.{StoreMap}
use Rattle.value_bytes.specs.declared.store_map.StoreMap.TheVariants.{NodeRows}

-- the rows of a table are wanted: those of one table are, or of all
abbrev pub is_wanted : Option ℕ → ℕ → Bool
is_wanted None table = true
is_wanted (Some one) table = nat_eq one table

-- the row of a table among rows, or else this
abbrev pub row_or : List TableRow → ℕ → Option Row → Option Row
row_or [] table other = other
row_or (row ∷ rows) table other = if nat_eq row.table table then Some row.row else row_or rows table other

-- the row of a key's table is there, if it is wanted
abbrev pub with_wanted : Option ℕ → KeyOf → TableRow → TableMap → TableMap
with_wanted wanted key row tables =
    if is_wanted wanted row.table then map.insert tables (record { table = row.table; key = key }) row.row else tables

abbrev pub with_all : Option ℕ → KeyOf → List TableRow → TableMap → TableMap
with_all wanted key [] tables = tables
with_all wanted key (row ∷ rows) tables = with_wanted wanted key row (with_all wanted key rows tables)

-- the key whose rows a map has under a number
abbrev pub key_of : ℕ → ℕ → KeyOf
key_of which number = if nat_eq which (map_number NodeRows) then record { kind = kinds.Node; id = number } else
    (if nat_eq (number % 2) 0 then record { kind = kinds.Way; id = number / 2 } else record { kind = kinds.Relation; id = number / 2 })

abbrev pub spot_at : ℕ → ℕ → ℕ → SpotOf
spot_at which number table = record { table = table; key = key_of which number }

-- rows by where they stand
abbrev pub RowsBySpot : Type 0
RowsBySpot = SpotOf → Option Row

-- the bytes that a map has under a number tell the wanted rows of its key
pub record IsTold (definitions : List TableDef) (wanted : Option ℕ) (which : ℕ) (rows : RowsBySpot) (number : ℕ)
    (bytes : List ℕ) : Type 0 where
  pub own : List TableRow
  pub are : AreRows definitions own
  pub bytes_are : bytes ≡ rows_bytes own
  pub id : IsId (key_of which number).id
  pub at : (table : ℕ) → rows (spot_at which number table) ≡ (if is_wanted wanted table then row_or own table None else None)

-- the bytes that a map has under a number are rows of a key that an object can have
pub record AreRowsOf (definitions : List TableDef) (which number : ℕ) (bytes : List ℕ) : Type 0 where
  pub own : List TableRow
  pub are : AreRows definitions own
  pub bytes_are : bytes ≡ rows_bytes own
  pub id : IsId (key_of which number).id

-- so are all that a map has
abbrev pub HasOnlyRows : List TableDef → StoreMap → Image → Type 0
HasOnlyRows definitions map_of image = (number : ℕ) (bytes : List ℕ) → map.get (image.maps (map_number map_of)) number ≡ Some bytes
    → AreRowsOf definitions (map_number map_of) number bytes

-- all that a map has tells rows
abbrev pub AreTold : List TableDef → Option ℕ → ℕ → RowsBySpot → BucketMap → Type 0
AreTold definitions wanted which rows values = (number : ℕ) (bytes : List ℕ) → map.get values number ≡ Some bytes
    → IsTold definitions wanted which rows number bytes

abbrev pub TellsRows : List TableDef → Option ℕ → StoreMap → RowsBySpot → Image → Type 0
TellsRows definitions wanted map rows image = AreTold definitions wanted (map_number map) rows (image.maps (map_number map))

-- at each spot stands its row or none
abbrev pub IsWithin : RowsBySpot → TableMap → Type 0
IsWithin rows tables = (spot : SpotOf) → (map.get tables spot ≡ rows spot) ⊎ (map.get tables spot ≡ None)

-- what is there stays, nothing wrong comes, and the rows of these numbers are there then
pub record Fills (which : ℕ) (rows : RowsBySpot) (Part : ℕ → Type 0) (old new : TableMap) : Type 0 where
  pub keeps : (spot : SpotOf) → map.get old spot ≡ rows spot → map.get new spot ≡ rows spot
  pub within : IsWithin rows old → IsWithin rows new
  pub gives : IsWithin rows old → (number : ℕ) → Part number → (table : ℕ)
      → map.get new (spot_at which number table) ≡ rows (spot_at which number table)

-- a number is among those of these records
abbrev pub Among : List (ℕ × List ℕ) → ℕ → Type 0
Among [] number = ⊥
Among (one ∷ records) number = (one.0 ≡ number) ⊎ Among records number

-- what calls that only read leave of the store, whatever they answer
pub record Looks {D T : Type 0} {g : Ghosts D} (old new : Buckets D g) (result : Result T StoreFault) : Type 0 where
  pub same : OnlyLooks old new
  pub stays : OnlyRead (chains_of old) (chains_of new)
  pub alone : IsReadAnswer (is_broken (journal_of (chains_of old))) result
  pub broken : is_broken (journal_of (chains_of new)) ≡ (is_broken (journal_of (chains_of old)) || answers_disk_fault result)
  pub refused : has_refused new ≡ is_err result
  pub cause : HasDiskCause (disk_of (chains_of old)).faults (disk_of (chains_of new)).faults result

-- and where they are answered the transaction has made the same as before
pub record LooksWithin {D T : Type 0} {g : Ghosts D} (old new : Buckets D g) (result : Result T StoreFault) : Type 0 where
  pub has : OnOk result ((rest now : Image) → Has rest now old → Has rest now new)
  pub looks : Looks old new result
