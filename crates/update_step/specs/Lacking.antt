-- The keys of a change that have no rows before it.
-- osm2pgsql manual, "Updating an Existing Database": the rows of a changed object are deleted; of one that no table could want there are
-- none.
use Rattle.std.specs.Prelude.{◌≡◌, List, []}
use Rattle.std.specs.List.{AllByRecursion}
use Rattle.osm_base.specs.declared.values.row.TableRow.{TableRow}
use Rattle.osm_base.specs.values.Key.{KeyOf}

-- each of these keys is without rows
abbrev pub AreLacking : (KeyOf → List TableRow) → List KeyOf → Type 0
AreLacking rows keys = AllByRecursion (λ own. rows own ≡ []) keys
