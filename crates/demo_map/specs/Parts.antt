-- The parts of the map and of its changes that have an entry of each square, or of each tenth.
use Rattle.std.specs.Prelude.{ℕ, ◌+◌, ◌*◌, ◌/◌, Bool, true, List, [], ◌∷◌, map, if◌then◌else◌}
use Rattle.std.specs.List.{filter}
use Rattle.osm_base.specs.declared.values.object.Entry.{Entry}
use Rattle.osm_base.specs.values.Key.{KeyOf, node_key, way_key, relation_key}
use Rattle.demo_map.specs.declared.parts.Part.{Part}
use Rattle.demo_map.specs.declared.parts.Part.TheVariants.{Ways, Routes, Moved, Gone}
use Rattle.demo_map.specs.Demo.{is_tenth, way_of, route_of, moved_of, gone_of}

-- a square has an entry
abbrev pub takes_square : Part → (square : ℕ) → Bool
takes_square Ways square = true
takes_square _ square = is_tenth square

-- the entry of such a square
unfoldable pub entry_of : Part → (count square : ℕ) → Entry
entry_of Ways count square = way_of square
entry_of Routes count square = route_of count square
entry_of Moved count square = moved_of square
entry_of Gone count square = gone_of square

-- what there is of a square, and of several
abbrev pub made_of : Part → (count square : ℕ) → List Entry
made_of part count square = if takes_square part square then entry_of part count square ∷ [] else []

abbrev pub made_by : Part → (count : ℕ) → List ℕ → List Entry
made_by part count squares = map (entry_of part count) (filter (takes_square part) squares)

-- no entry from this square on has a key below this one
unfoldable pub first_of : Part → (square : ℕ) → KeyOf
first_of Ways square = way_key (square + 1)
first_of Routes square = relation_key ((square + 9) / 10 + 1)
first_of Moved square = node_key (4 * square + 3)
first_of Gone square = node_key (4 * square + 1)
