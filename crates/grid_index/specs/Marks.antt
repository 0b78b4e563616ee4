-- The mark of a box: its table, the part of the earth that holds it, and the key of its object.
use Rattle.std.specs.Prelude.{◌≡◌, ℕ, ◌+◌, ◌*◌, Bool, true, List, Option, None, Some}
use Rattle.std.specs.List.{list_any}
use Rattle.std.specs.declared.cmp.Ordering.{Ordering}
use Rattle.std.specs.Ordering.{is_eq, nat_cmp, on, then_cmp}
use Rattle.osm_base.specs.declared.values.place.GeoBox.{GeoBox}
use Rattle.osm_base.specs.map.Spots.{SpotOf}
use Rattle.osm_base.specs.values.KeyOrder.{key_cmp}
use Rattle.grid_index.specs.declared.marks.Mark.{Mark}
use Rattle.grid_index.specs.Cells.{cells_of, level_of, part}

-- the number of a part, from 1: the parts of a level are numbered column by column
unfoldable pub mark_number : (level column row : ℕ) → ℕ
mark_number level column row = ((level * 1024 + column) * 1024 + row) + 1

-- the part that holds a box
abbrev pub part_of : GeoBox → ℕ
part_of box = mark_number (level_of (cells_of box)) (part (level_of (cells_of box)) (cells_of box).west)
    (part (level_of (cells_of box)) (cells_of box).south)

-- the mark of the box at a spot
abbrev pub mark_of : SpotOf → GeoBox → Mark
mark_of spot box = record { table = spot.table; part = part_of box; key = spot.key }

-- by table, then by part, then by key
abbrev pub mark_cmp : Mark → Mark → Ordering
mark_cmp = then_cmp (on (λ mark. mark.table) nat_cmp) (then_cmp (on (λ mark. mark.part) nat_cmp) (on (λ mark. mark.key) key_cmp))

-- a mark is among these
abbrev pub has : List Mark → Mark → Bool
has marks mark = list_any (λ other. is_eq (mark_cmp mark other)) marks

-- the box at a spot is marked, if there is one
abbrev pub IsMarked : List Mark → SpotOf → Option GeoBox → Type 0
IsMarked marks spot None = Unit {0}
IsMarked marks spot (Some box) = has marks (mark_of spot box) ≡ true
