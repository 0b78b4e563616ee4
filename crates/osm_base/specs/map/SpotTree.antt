-- The rows of a tree of them.
use Rattle.std.specs.BTreeMap.{BTreeMap}
use Rattle.std.specs.FinMap as map
use Rattle.osm_base.specs.declared.values.row.Row.{Row}
use Rattle.osm_base.specs.map.Spots.{SpotOf, TableMap}

abbrev pub rows_in : BTreeMap SpotOf Row → TableMap
rows_in rows = map.from_entries rows.entries
