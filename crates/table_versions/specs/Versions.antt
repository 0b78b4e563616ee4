-- The versions of the tables that a history of deltas makes.
use Rattle.std.specs.Prelude.{ℕ, ◌+◌, List, fold, length}
use Rattle.osm_base.specs.declared.values.row.Delta.{Delta}
use Rattle.osm_base.specs.map.Spots.{TableMap, changed_all}
use Rattle.table_versions.specs.Fronts.{FrontOf}

-- what a delta makes of tables, and deltas, one after another
abbrev pub applied : TableMap → Delta → TableMap
applied tables delta = changed_all tables delta.changes

abbrev pub after : TableMap → List Delta → TableMap
after tables deltas = fold applied tables deltas

-- the tables that a history makes of the first ones, and how many changes they have seen
abbrev pub tables_of : FrontOf → TableMap
tables_of front = after front.first front.log

abbrev pub version_of : FrontOf → ℕ
version_of front = front.base + length front.log
