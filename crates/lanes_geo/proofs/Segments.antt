-- Segments, and the places that they join.
use Rattle.std.proofs.Common.{◌≡◌, ℕ, ◌+◌, ◌<◌, ◌≤◌, ◌-◌, suc, pos, refl, ap, arith, List, [], ◌∷◌, map, length, take, drop, get_or}
use Rattle.std.proofs.Common.{slice_range}
use lib.Lanes.{chunk}
use Rattle.std.specs.List.{AllByRecursion}
use Rattle.std.proofs.lemmas.Grind.{common_steps}
use Rattle.osm_base.specs.values.Place.{PlaceOf}
use Rattle.lanes_geo.specs.Crossing.{segments_from}
use Rattle.lanes_geo.specs.Grid.{IsPlace}
use Rattle.lanes_geo.proofs.Crossed.{EndsOnEarth}

pub length-segments_from : (p : PlaceOf) (xs : List PlaceOf) → length (segments_from p xs) ≡ length xs
length-segments_from p [] = refl
length-segments_from p (x ∷ xs) = ap suc (length-segments_from x xs)

pub starts_from : (f : PlaceOf → ℕ) (p : PlaceOf) (xs : List PlaceOf)
    → map f (take (length xs) (p ∷ xs)) ≡ map (λ s. f s.start) (segments_from p xs)
starts_from f p [] = refl
starts_from f p (x ∷ xs) = ap (λ ys. f p ∷ ys) (starts_from f x xs)

pub ends_from : (f : PlaceOf → ℕ) (p : PlaceOf) (xs : List PlaceOf) → map f xs ≡ map (λ s. f s.end) (segments_from p xs)
ends_from f p [] = refl
ends_from f p (x ∷ xs) = ap (λ ys. f x ∷ ys) (ends_from f x xs)

pub ends_on_earth : (p : PlaceOf) (xs : List PlaceOf) → IsPlace p → AllByRecursion IsPlace xs
    → AllByRecursion EndsOnEarth (segments_from p xs)
ends_on_earth p [] e f = tt
ends_on_earth p (x ∷ xs) e f = ((e, f.0), ends_on_earth x xs f.0 f.1)

-- what is left from a place on
south_west : PlaceOf
south_west = record { lon = pos 0; lat = pos 0 }

pub rest_at : (i : ℕ) (xs : List PlaceOf) → i < length xs → (p : PlaceOf) × (drop i xs ≡ p ∷ drop (i + 1) xs)
rest_at i xs h = (get_or xs i south_west, grind (arith, common_steps))

pub next_place : (xs : List PlaceOf) (i j : ℕ) (p : PlaceOf) → j ≡ i + 1 → i < length xs → p ≡ get_or xs i p → drop i xs ≡ p ∷ drop j xs
next_place xs i j p e h f = grind (arith, common_steps)

-- seventeen places, and the sixteen from the first and from the second on
pub record Window (ring : List PlaceOf) (at : ℕ) : Type 0 where
  pub first : PlaceOf
  pub others : List PlaceOf
  pub long : length others ≡ 16
  pub all : slice_range ring at (at + 17) ≡ first ∷ others
  pub starts : chunk at 16 ring ≡ take (length others) (first ∷ others)
  pub ends : chunk (at + 1) 16 ring ≡ others

long_enough : (at : ℕ) (ring : List PlaceOf) → at + 17 ≤ length ring → length (take 16 (drop (at + 1) ring)) ≡ 16
long_enough at ring h = grind (arith, common_steps)

shorter : (p : PlaceOf) (ys : List PlaceOf) → take 16 (p ∷ ys) ≡ take 16 (p ∷ take 16 ys)
shorter p ys = grind (arith, common_steps)

seventeen : (at : ℕ) → (at + 17) - at ≡ 17
seventeen at = omega arith

pub window : (ring : List PlaceOf) (at : ℕ) → at + 17 ≤ length ring → Window ring at
window ring at h =
    let r = rest_at at ring (omega arith) in
    let long = long_enough at ring h in
    record {
      first = r.0;
      others = take 16 (drop (at + 1) ring);
      long = long;
      all = rw (seventeen at, r.1);
      starts = rw (long, r.1) (shorter r.0 (drop (at + 1) ring));
      ends = refl;
    }
