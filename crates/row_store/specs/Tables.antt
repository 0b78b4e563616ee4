-- The rows of tables, as the two maps of rows of a store hold them.
-- docs/FILES.md, "Buckets, and the eight maps": the rows of a node stand in a map of their own, by its id; those of a way or of a relation
-- in another, by twice the id of a way, and twice the id of a relation and 1.
use Rattle.std.specs.Prelude.{◌≡◌, ◌⊎◌, ◌<◌, ◌≤◌, ℕ, nat_lt, length, get_or, List, [], ◌∷◌, ◌++◌, Option, None, Some, Result, Ok, Err, IsSome, OnOk}
use Rattle.std.specs.List.{filter}
use Rattle.std.specs.Option.{option_map}
use Rattle.std.specs.FinMap as finite
use Rattle.outside.specs.declared.disk.Disk.{Ghosts}
use Rattle.osm_base.specs.declared.values.row.Row.{Row}
use Rattle.osm_base.specs.declared.values.row.TableRow.{TableRow}
use Rattle.osm_base.specs.map.Spots.{SpotOf, TableMap, with_row}
use Rattle.osm_base.specs.values.Key.{IsId}
use Rattle.page_journal.specs.declared.fault.StoreFault.{StoreFault}
use Rattle.page_journal.specs.declared.fault.StoreFault.TheVariants.{BadStore}
use Rattle.style_read.specs.declared.style.TableDef.{TableDef}
use Rattle.value_bytes.specs.Maps.{HoldsMap, ReadAs}
use Rattle.value_bytes.specs.StoreMap.{map_number}
use Rattle.value_bytes.specs.declared.store_map.StoreMap.TheVariants.{NodeRows, OtherRows}
use Rattle.bucket_records.specs.Records.{BucketMap}
use Rattle.bucket_store.specs.Image.{Has, Image, IsSoundAnswer, with_value}
use Rattle.bucket_store.specs.Transaction.{BringsBucket, IsBad, IsOpenStore, bucket_at}
use Rattle.bucket_store.specs.Typed.{IsUnread}
use Rattle.bucket_store.specs.declared.buckets.Buckets.{Buckets}
use Rattle.store_maps.specs.Asked.{row_key}
use Rattle.store_maps.specs.Delta.{kept_row}
use Rattle.store_maps.specs.Maps.{RowMap, empty_maps, kept_rows, unless_empty}
use Rattle.row_store.specs.Maps.{map_of}
use Rattle.row_store.specs.Rows.{AreRows, rows_bytes}

-- the two maps hold these tables, under their definitions, and no other row; each row is of a key that an object can have
pub record HoldsTables (definitions : List TableDef) (kept : ℕ → BucketMap) (tables : TableMap) : Type 0 where
  pub node_rows : RowMap
  pub other_rows : RowMap
  pub nodes : HoldsMap rows_bytes (AreRows definitions) (kept (map_number NodeRows)) node_rows
  pub others : HoldsMap rows_bytes (AreRows definitions) (kept (map_number OtherRows)) other_rows
  pub rows : (spot : SpotOf) → kept_row (record empty_maps { node_rows = node_rows; other_rows = other_rows }) spot ≡ finite.get tables spot
  pub ids : (spot : SpotOf) → IsSome (finite.get tables spot) → IsId spot.key.id

-- the row of a table, if there is one
abbrev pub own_row : ℕ → Option Row → List TableRow
own_row table None = []
own_row table (Some row) = record { table = table; row = row } ∷ []

-- the rows of a key once this is its row in a table, or it has none there: those of the tables before and behind are as they were
abbrev pub turned : List TableRow → ℕ → Option Row → List TableRow
turned rows table row = filter (λ own. nat_lt own.table table) rows ++ own_row table row ++ filter (λ own. nat_lt table own.table) rows

-- and the bytes that they have: none where no row is left
abbrev pub turned_bytes : Option (List TableRow) → ℕ → Option Row → Option (List ℕ)
turned_bytes found table row = option_map rows_bytes (unless_empty (turned (kept_rows found) table row))

-- a call that changes the rows of a key may be refused so: its bucket cannot be read, or its bytes are no rows'
abbrev pub MayTurn : {D : Type 0} {g : Ghosts D} → List TableDef → List (List ℕ) → Buckets D g → ℕ → ℕ → Result (Unit {0}) StoreFault → Type 0
MayTurn definitions pages buckets which key (Ok done) = Unit {0}
MayTurn definitions pages buckets which key (Err (BadStore at)) = IsBad pages buckets (bucket_at buckets which key) at
    ⊎ IsUnread rows_bytes (AreRows definitions) pages buckets which key at
MayTurn definitions pages buckets which key (Err _) = Unit {0}

-- what a call that gives the spot of a key in a table this row, or none, does: the bytes of the key's rows become others, and all else of the
-- store is as it was. So where the maps hold tables, they hold then the tables with this row.
pub record SetsRow {D : Type 0} {g : Ghosts D} (definitions : List TableDef) (spot : SpotOf) (row : Option Row) (old new : Buckets D g)
    (result : Result (Unit {0}) StoreFault) : Type 0 where
  pub answers : (pages : List (List ℕ)) → IsOpenStore pages old
      → MayTurn definitions pages old (map_of spot.key.kind) (row_key spot.key.kind spot.key.id) result
  pub has : OnOk result ((rest now : Image) → Has rest now old → (found : Option (List TableRow))
      × ReadAs rows_bytes (AreRows definitions) (finite.get (now.maps (map_of spot.key.kind)) (row_key spot.key.kind spot.key.id)) found
      × Has rest (with_value (map_of spot.key.kind) (row_key spot.key.kind spot.key.id) (turned_bytes found spot.table row) now) new)
  pub tables : OnOk result ((rest now : Image) (tables : TableMap) → Has rest now old → HoldsTables definitions now.maps tables
      → (bytes : Option (List ℕ)) × Has rest (with_value (map_of spot.key.kind) (row_key spot.key.kind spot.key.id) bytes now) new
      × HoldsTables definitions (with_value (map_of spot.key.kind) (row_key spot.key.kind spot.key.id) bytes now).maps
      (with_row tables spot row))
  pub sound : (rest now : Image) (tables : TableMap) → Has rest now old → HoldsTables definitions now.maps tables → IsSoundAnswer result

-- rows of these tables that have a spelling, or none at all
abbrev pub MaySpell : List TableDef → List TableRow → Type 0
MaySpell definitions [] = Unit {0}
MaySpell definitions (first ∷ rest) = AreRows definitions (first ∷ rest)

-- what a call that gives a key of a map these bytes, or none, does
pub record SetsBytes {D : Type 0} {g : Ghosts D} (which key : ℕ) (bytes : Option (List ℕ)) (old new : Buckets D g)
    (result : Result (Unit {0}) StoreFault) : Type 0 where
  pub answers : (pages : List (List ℕ)) → IsOpenStore pages old → BringsBucket pages old (bucket_at old which key) result
  pub has : OnOk result ((rest now : Image) → Has rest now old → Has rest (with_value which key bytes now) new)
  pub sound : (rest now : Image) → Has rest now old → IsSoundAnswer result

-- where the row of a table stands among the rows of a key, or would
pub record StandsAt (rows : List TableRow) (table at : ℕ) : Type 0 where
  pub within : at ≤ length rows
  pub before : (place : ℕ) (own : TableRow) → place < at → (get_or rows place own).table < table
  pub behind : (own : TableRow) → at < length rows → table ≤ (get_or rows at own).table
