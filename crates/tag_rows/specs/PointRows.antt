-- The rows of the points so far, while files are read.
use Rattle.std.specs.Prelude.{◌≡◌, ℕ, List, [], fold, Option, None, Some, refl}
use Rattle.std.specs.Coded.{Coded, code_by, coded×, coded_list, coded_ℕ}
use Rattle.std.specs.FinMap as finite
use Rattle.osm_base.specs.declared.values.key.Kind.{Kind}
use Rattle.osm_base.specs.declared.values.key.Kind.TheVariants as kinds
use Rattle.osm_base.specs.declared.values.object.Entry.{Entry}
use Rattle.osm_base.specs.map.Objects.{ObjectSet}
use Rattle.tag_rows.specs.RowsById.{RowMap, set_row, all_rows_text}
use Rattle.tag_rows.specs.Points.{tag_row, node_row}

-- the key that is asked for, and the rows of the nodes that have one, by their ids
pub record Rows : Type 0 where
  pub key : List ℕ
  pub rows : RowMap

-- these are stored as the pair of their fields
abbrev pub rows_code : Coded Rows
rows_code =
    code_by (List ℕ × RowMap) (coded× (coded_list coded_ℕ) (finite.code coded_ℕ (coded_list coded_ℕ))) (λ points. (points.key, points.rows))
    (λ pair. record { key = pair.0; rows = pair.1 }) (λ _. refl)

-- with this row of a node, or with none where it is empty
abbrev pub with_row : Rows → ℕ → List ℕ → Rows
with_row points id row = record { key = points.key; rows = set_row points.rows id row }

-- after an entry of this kind
abbrev pub after_kind : Kind → Rows → Entry → Rows
after_kind kinds.Node points entry = with_row points entry.key.id (tag_row points.key entry)
after_kind kinds.Way points entry = points
after_kind kinds.Relation points entry = points

-- after one entry
abbrev pub after_entry : Rows → Entry → Rows
after_entry points entry = after_kind entry.key.kind points entry

-- the rows in order
abbrev pub rows_text : Rows → List ℕ
rows_text points = all_rows_text points.rows

-- the row of a node of these objects, or nothing
abbrev pub node_row_at : List ℕ → ObjectSet → ℕ → List ℕ
node_row_at key objects id = node_row key id (finite.get objects (record { kind = kinds.Node; id = id }))

-- the row that is kept, or nothing
abbrev pub shown : Option (List ℕ) → List ℕ
shown None = []
shown (Some row) = row

-- these are the rows of the nodes of these objects
abbrev pub Shows : Rows → ObjectSet → Type 0
Shows points objects = (id : ℕ) → shown (finite.get points.rows id) ≡ node_row_at points.key objects id

-- before any file is read
abbrev pub no_rows : List ℕ → Rows
no_rows key = record { key = key; rows = finite.empty }

-- the rows after these entries, in order
abbrev pub after_entries : Rows → List Entry → Rows
after_entries points entries = fold after_entry points entries
