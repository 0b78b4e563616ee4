-- Boxes by their spots, and those of a table that pass a test.
use Rattle.std.specs.Prelude.{ℕ, ◌==◌, Bool, false, ◌&&◌, List, map, Option, None, Some}
use Rattle.std.specs.Option.{option_map_or}
use Rattle.std.specs.BTreeMap.{BTreeMap}
use Rattle.std.specs.FinMap as finite
use Rattle.osm_base.specs.declared.values.place.GeoBox.{GeoBox}
use Rattle.osm_base.specs.map.Spots.{SpotOf, spot_cmp}
use Rattle.osm_base.specs.values.Key.{KeyOf}
use Rattle.lanes_geo.specs.Box.{meets}
use Rattle.grid_index.specs.Cells.{is_candidate}

-- the boxes at spots
abbrev pub BoxMap : Type 0
BoxMap = finite.FinMap spot_cmp GeoBox

-- those of a tree of them
abbrev pub boxes_in : BTreeMap SpotOf GeoBox → BoxMap
boxes_in tree = finite.from_entries tree.entries

-- the row of an object in a table has this box from now on, or none
abbrev pub with_box : BoxMap → (table : ℕ) → KeyOf → Option GeoBox → BoxMap
with_box boxes table key None = finite.remove boxes (record { table = table; key = key })
with_box boxes table key (Some box) = finite.insert boxes (record { table = table; key = key }) box

-- the box at a spot is one of a table, and passes a test
abbrev pub is_wanted : (GeoBox → Bool) → BoxMap → (table : ℕ) → SpotOf → Bool
is_wanted test boxes table spot = (spot.table == table) && option_map_or test (finite.get boxes spot) false

-- the boxes of a table that pass a test
abbrev pub wanted : (GeoBox → Bool) → BoxMap → (table : ℕ) → BoxMap
wanted test boxes table = finite.retain_keys boxes (is_wanted test boxes table)

-- the keys of their objects, by rising spots
abbrev pub keys_of : BoxMap → List KeyOf
keys_of boxes = map (λ spot. spot.key) (finite.keys boxes)

-- the keys whose boxes are wide or share a cell with the asked one
abbrev pub candidates : BoxMap → (table : ℕ) → GeoBox → List KeyOf
candidates boxes table asked = keys_of (wanted (is_candidate asked) boxes table)

-- the keys whose boxes meet the asked one
abbrev pub found_in : BoxMap → (table : ℕ) → GeoBox → List KeyOf
found_in boxes table asked = keys_of (wanted (meets asked) boxes table)
