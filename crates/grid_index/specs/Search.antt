-- What a search has found so far.
use Rattle.std.specs.Prelude.{◌≡◌, ℕ, ◌≤◌, Bool, true, false, if◌then◌else◌, List, Option, None, Some, ◌⊎◌}
use Rattle.std.specs.FinMap as finite
use Rattle.osm_base.specs.declared.values.place.GeoBox.{GeoBox}
use Rattle.osm_base.specs.map.Spots.{SpotOf}
use Rattle.lanes_geo.specs.Box.{meets}
use Rattle.grid_index.specs.declared.cells.Cells.{Cells}
use Rattle.grid_index.specs.declared.marks.Mark.{Mark}
use Rattle.grid_index.specs.Cells.{is_candidate, part}
use Rattle.grid_index.specs.Grid.{BoxMap}
use Rattle.grid_index.specs.Marks.{has, mark_number}

-- the test of a search: that a box meets the asked one, or may be near it
abbrev pub passes : (exact : Bool) → (asked box : GeoBox) → Bool
passes true asked box = meets asked box
passes false asked box = is_candidate asked box

-- what is found once a spot is looked at too
abbrev pub with_passed : (GeoBox → Bool) → BoxMap → SpotOf → Option GeoBox → BoxMap
with_passed test found spot None = found
with_passed test found spot (Some box) = if test box then finite.insert found spot box else found

-- a spot has what is wanted there
abbrev pub IsDone : (wanted found : BoxMap) → SpotOf → Type 0
IsDone wanted found spot = finite.get found spot ≡ finite.get wanted spot

-- nothing but what is wanted is found
abbrev pub IsPart : (wanted found : BoxMap) → Type 0
IsPart wanted found = (spot : SpotOf) → (finite.get found spot ≡ None) ⊎ IsDone wanted found spot

-- more of what is wanted is found, and no less
pub record Grows (wanted old new : BoxMap) : Type 0 where
  pub part : IsPart wanted new
  pub keeps : (spot : SpotOf) → IsDone wanted old spot → IsDone wanted new spot

-- the spot of a mark
abbrev pub spot_of : Mark → SpotOf
spot_of mark = record { table = mark.table; key = mark.key }

-- the marks of a table in these parts are looked at
abbrev pub CoversParts : List Mark → (table : ℕ) → (wanted found : BoxMap) → (first last : ℕ) → Type 0
CoversParts marks table wanted found first last =
    (mark : Mark) → has marks mark ≡ true → mark.table ≡ table → first ≤ mark.part → mark.part ≤ last → IsDone wanted found (spot_of mark)

-- so are those in the parts of a level that these cells reach
abbrev pub CoversLevel : List Mark → (table : ℕ) → (wanted found : BoxMap) → (level : ℕ) → Cells → Type 0
CoversLevel marks table wanted found level cells =
    (column : ℕ) → part level cells.west ≤ column → column ≤ part level cells.east
    → CoversParts marks table wanted found (mark_number level column (part level cells.south))
    (mark_number level column (part level cells.north))
