-- Whether a segment crosses the latitude of the north west corner of a tile east of it.
use Rattle.std.proofs.Common.{◌≡◌, ℕ, ◌<◌, ◌≤◌, refl, arith, nat_lt, ℤ, pos, ◌-ℤ◌, int_lt, true, false, ◌⊎◌, inl, inr}
use Rattle.std.proofs.lemmas.Int.{ints}
use Rattle.std.proofs.lemmas.Bool.Decides.{nat_tests}
use Rattle.osm_base.specs.values.Place.{PlaceOf}
use Rattle.lanes_geo.specs.Crossing.{Segment, crosses}
use Rattle.tile_cover.specs.Tile.{is_on_one_side}
use Rattle.tile_cover.proofs.Sides.{IsTold, IsToldPlace}

pub lat_order : (y z : ℤ) (a b : ℕ) → y ≡ pos a -ℤ pos 900000000 → z ≡ pos b -ℤ pos 900000000 → int_lt y z ≡ nat_lt a b
lat_order y z a b e f = rw (e, f) (grind (arith, ints))

lt_is : (x y : ℕ) → x < y → nat_lt x y ≡ true
lt_is x y e = grind (arith, nat_tests)

not_lt : (x y : ℕ) → y ≤ x → nat_lt x y ≡ false
not_lt x y e = grind (arith, nat_tests)

-- none of a segment that does not go through the northern side
pub crosses_none : (s : Segment) (place : PlaceOf) (A a B b X v : ℕ) → IsTold s A a B b → IsToldPlace place X v → a ≤ b → (b ≤ v) ⊎ (v < a)
    → crosses place s ≡ false
crosses_none s place A a B b X v e f up (inl g) =
    rw (lat_order _ _ v a f.lat e.start_lat, lat_order _ _ v b f.lat e.end_lat, not_lt v a (omega arith), not_lt v b g) refl
crosses_none s place A a B b X v e f up (inr g) =
    rw (lat_order _ _ v a f.lat e.start_lat, lat_order _ _ v b f.lat e.end_lat, lt_is v a g, lt_is v b (omega arith)) refl

-- and of one that does: whether the place is west of its line
pub crosses_through : (s : Segment) (place : PlaceOf) (A a B b X v : ℕ) → IsTold s A a B b → IsToldPlace place X v → a ≤ v → v < b
    → crosses place s ≡ is_on_one_side s place
crosses_through s place A a B b X v e f south north =
    rw (
      lat_order _ _ v a f.lat e.start_lat,
      lat_order _ _ v b f.lat e.end_lat,
      lat_order _ _ a b e.start_lat e.end_lat,
      not_lt v a south,
      lt_is v b north,
      lt_is a b (omega arith),
    ) refl
