-- The places of nodes, in a list by rising ids.
use Rattle.std.specs.Prelude.{◌≡◌, ℕ, List, [], ◌∷◌, length, Option, None, Some}
use Rattle.std.specs.FinMap as map
use Rattle.std.specs.Ordering.{nat_cmp}
use Rattle.osm_base.specs.values.Ids.{IsRising}
use Rattle.osm_base.specs.values.Place.{PlaceOf}

-- the places of nodes by their ids
abbrev pub PlaceMap : Type 0
PlaceMap = map.FinMap nat_cmp PlaceOf

-- the ids that have a place, each with it
abbrev pub placed : (ids : List ℕ) → (places : List (Option PlaceOf)) → List (ℕ × PlaceOf)
placed [] places = []
placed (id ∷ ids) [] = []
placed (id ∷ ids) (None ∷ places) = placed ids places
placed (id ∷ ids) (Some place ∷ places) = (id, place) ∷ placed ids places

-- rising ids, and as many places
pub record AreNodePlaces (ids : List ℕ) (places : List (Option PlaceOf)) : Type 0 where
  pub rise : IsRising ids
  pub each : length places ≡ length ids
