-- A ring does not hold itself.
use Rattle.std.proofs.Common.{◌≡◌, refl, arith, List, [], ◌∷◌, Bool, true, false, ◌||◌, None, ℤ, ◌-ℤ◌, ◌*ℤ◌, int_le, pos}
use Rattle.std.specs.List.{AllByRecursion, list_any}
use Rattle.std.proofs.lemmas.Int.{ints}
use Rattle.std.proofs.Math.IntN.{*ℤ-zero, zero-*ℤ}
use Rattle.osm_base.specs.values.Place.{PlaceOf}
use Rattle.lanes_geo.specs.Crossing.{Segment, segments_from, across, along}
use Rattle.lanes_geo.specs.Nesting.{Ring, are_equal, is_between, lies_within, lies_on, first_off, holds}

same : (z : ℤ) → int_le z z ≡ true
same z = grind (arith, ints)

pub equal : (y z : ℤ) → y ≡ z → are_equal y z ≡ true
equal y z e = rw (e, same z)

pub first_between : (y z : ℤ) → is_between y z y ≡ true
first_between y z = grind (arith, ints)

last_between : (y z : ℤ) → is_between y z z ≡ true
last_between y z = grind (arith, ints)

pub nothing_left : (z : ℤ) → z -ℤ z ≡ pos 0
nothing_left z = omega (arith, ints)

pub start_on : (a b : PlaceOf) → lies_within a (record { start = a; end = b }) ≡ true
start_on a b =
    let flat : across a (record { start = a; end = b }) ≡ along a (record { start = a; end = b }) =
    rw (nothing_left a.lon, nothing_left a.lat, zero-*ℤ (b.lat -ℤ a.lat), *ℤ-zero (b.lon -ℤ a.lon)) in
    rw (first_between a.lon b.lon, first_between a.lat b.lat, equal _ _ flat)

pub end_on : (a b : PlaceOf) → lies_within b (record { start = a; end = b }) ≡ true
end_on a b = rw (last_between a.lon b.lon, last_between a.lat b.lat, same ((b.lon -ℤ a.lon) *ℤ (b.lat -ℤ a.lat)))

or_true : (b : Bool) → (b || true) ≡ true
or_true true = refl
or_true false = refl

later : (s : Segment) (segments : List Segment) (xs : List PlaceOf) → AllByRecursion (λ p. list_any (lies_within p) segments ≡ true) xs
    → AllByRecursion (λ p. list_any (lies_within p) (s ∷ segments) ≡ true) xs
later s segments [] all = tt
later s segments (x ∷ xs) all = ((rw all.0 (or_true (lies_within x s))), later s segments xs all.1)

ends_on : (p : PlaceOf) (xs : List PlaceOf) → AllByRecursion (λ q. list_any (lies_within q) (segments_from p xs) ≡ true) xs
ends_on p [] = tt
ends_on p (x ∷ xs) = (rw (end_on p x), later (record { start = p; end = x }) (segments_from x xs) xs (ends_on x xs))

none_off : (ring : Ring) (xs : List PlaceOf) → AllByRecursion (λ q. lies_on ring q ≡ true) xs → first_off ring xs ≡ None
none_off ring [] all = refl
none_off ring (x ∷ xs) all = rw all.0 (none_off ring xs all.1)

pub not_itself : (ring : Ring) → holds ring ring ≡ false
not_itself [] = refl
not_itself (p ∷ []) = refl
not_itself (p ∷ x ∷ xs) =
    let first : lies_on (p ∷ (x ∷ xs)) p ≡ true = rw (start_on p x) in
    rw (none_off (p ∷ (x ∷ xs)) (p ∷ (x ∷ xs)) (first, ends_on p (x ∷ xs)))
