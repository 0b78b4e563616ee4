-- What a change makes of all maps of a store: its entries, and the rows of the keys whose rows may be others after it.
-- osm2pgsql manual, "Updating an Existing Database": what depends on a changed object is processed again, and all else stays.
use Rattle.std.specs.Prelude.{List, [], ◌∷◌, fold}
use Rattle.osm_base.specs.declared.values.object.Entry.{Entry}
use Rattle.osm_base.specs.declared.values.row.TableRow.{TableRow}
use Rattle.osm_base.specs.values.Key.{KeyOf}
use Rattle.style_read.specs.declared.style.TableDef.{TableDef}
use Rattle.store_maps.specs.Rows.{AreKept}
use Rattle.store_maps.specs.Maps.{Maps, set_rows}
use Rattle.store_maps.specs.Step.{change_on}

-- each of these keys has its rows
abbrev pub set_all_rows : Maps → (KeyOf → List TableRow) → List KeyOf → Maps
set_all_rows maps rows keys = fold (λ (maps : Maps) (own : KeyOf). set_rows maps own.kind own.id (rows own)) maps keys

-- the maps after a change that is processed again at these keys
abbrev pub appended : Maps → List Entry → (KeyOf → List TableRow) → List KeyOf → Maps
appended maps entries rows keys = set_all_rows (change_on maps entries) rows keys

-- rows of a key as these tables may have them, or none
abbrev pub MayKeep : List TableDef → List TableRow → Type 0
MayKeep tables [] = Unit {0}
MayKeep tables (first ∷ rest) = AreKept tables (first ∷ rest)
