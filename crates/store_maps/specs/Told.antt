-- What is told of the rows of keys that differ: key by key, and of a key table by table.
use Rattle.std.specs.Prelude.{ℕ, List, if◌then◌else◌, Option, None, Some}
use Rattle.std.specs.List.{filter_map, flat_map, range_with_len}
use Rattle.osm_base.specs.declared.values.row.RowChange.{RowChange}
use Rattle.osm_base.specs.declared.values.row.TableRow.{TableRow}
use Rattle.osm_base.specs.values.Key.{KeyOf}
use Rattle.store_maps.specs.Delta.{row_in}
use Rattle.store_maps.specs.SameRows.{same_found}

-- the change of the row of a key in a table, if there is one
abbrev pub change_in : KeyOf → (old new : List TableRow) → ℕ → Option RowChange
change_in key old new table = if same_found (row_in old table) (row_in new table) then None
    else Some (record { table = table; key = key; row = row_in new table })

-- in so many tables
unfoldable pub told_key : ℕ → KeyOf → (old new : List TableRow) → List RowChange
told_key tables key old new = filter_map (change_in key old new) (range_with_len 0 tables)

-- of all these keys
abbrev pub told_all : ℕ → (old new : KeyOf → List TableRow) → List KeyOf → List RowChange
told_all tables old new keys = flat_map (λ key. told_key tables key (old key) (new key)) keys
