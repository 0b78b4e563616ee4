-- The entries of a first import.
-- osm2pgsql manual, "Preparing OSM Data": the objects of a file come in order, nodes first, then ways, then relations, each by rising id.
use Rattle.std.specs.Prelude.{◌≡◌, ℕ, List, [], map, None}
use Rattle.std.specs.List.{filter}
use Rattle.osm_base.specs.declared.values.key.Kind.{Kind}
use Rattle.osm_base.specs.declared.values.object.Entry.{Entry}
use Rattle.osm_base.specs.declared.values.row.TableRow.{TableRow}
use Rattle.osm_base.specs.map.Listers.{is_kind}
use Rattle.osm_base.specs.values.Key.{KeyOf}
use Rattle.style_read.specs.Style.{StyleOf}
use Rattle.row_rules.specs.Wanted.{may_have_rows}
use Rattle.store_maps.specs.Maps.{Maps, rows_at}

-- the entries whose objects a table may want: no other has rows
abbrev pub wanted_among : StyleOf → List Entry → List Entry
wanted_among style entries = filter (λ (entry : Entry). may_have_rows style entry.object) entries

-- the keys of entries
abbrev pub keys_named : List Entry → List KeyOf
keys_named entries = map (λ (entry : Entry). entry.key) entries

-- the ids of those of one kind
abbrev pub ids_named : Kind → List Entry → List ℕ
ids_named kind entries = map (λ (entry : Entry). entry.key.id) (filter (λ (entry : Entry). is_kind kind entry.key.kind) entries)

-- a key that is to have no rows has none
abbrev pub LacksRows : Maps → (KeyOf → List TableRow) → Type 0
LacksRows maps rows = (own : KeyOf) → rows own ≡ [] → rows_at maps own.kind own.id ≡ None
