-- Places that lie on no segment.
use Rattle.std.proofs.Common.{◌≡◌, ◌≤◌, refl, arith, List, [], ◌∷◌, length, false}
use Rattle.osm_base.specs.values.Place.{PlaceOf}
use Rattle.lanes_geo.specs.Nesting.{lies_on}

pub no_segment : (xs : List PlaceOf) (place : PlaceOf) → length xs ≤ 1 → false ≡ lies_on xs place
no_segment [] place h = refl
no_segment (x ∷ []) place h = refl
no_segment (x ∷ y ∷ xs) place h = absurd (omega arith)
