-- A place outside the box of a ring neither lies on it nor is within it.
use Rattle.std.proofs.Common.{◌≡◌, ℕ, ◌+◌, ◌*◌, ◌<◌, ◌≤◌, ◌%◌, suc, zero, inl, inr, subst, ap, ◌||◌, ◌-ℤ◌, ◌==◌, refl, sym, ◌∙◌, arith, List, [], ◌∷◌, Bool, true, false, cond, ◌&&◌, nat_lt}
use Rattle.std.proofs.Common.{ℤ, pos, neg_ℤ, ◌+ℤ◌, ◌≤ℤ◌, ◌<ℤ◌, int_lt, int_le, unsigned_abs, count_by}
use Rattle.std.specs.List.{AllByRecursion, list_any}
use Rattle.std.proofs.lemmas.Int.{ints}
use Rattle.std.proofs.lemmas.Bool.{cases_lt, false≢true}
use Rattle.std.proofs.lemmas.Bool.Decides.{nat_tests}
use Rattle.std.proofs.Math.IntN.{zero-*ℤ}
use Rattle.std.proofs.Math.Nat.{le_of_mul-le-mul_left}
use Rattle.std.proofs.lemmas.Nat.{mul-le}
use Rattle.std.proofs.lemmas.List.Sums.{sum_by-cons}
use Rattle.osm_base.specs.values.Line.{is_closed}
use Rattle.osm_base.specs.values.Place.{PlaceOf}
use Rattle.osm_base.specs.declared.values.place.GeoBox.{GeoBox}
use Rattle.lanes_geo.specs.Box.{IsWithin, meets}
use Rattle.lanes_geo.specs.Crossing.{Segment, across, along, segments_from, crosses, odd}
use Rattle.lanes_geo.specs.Grid.{IsPlace, apart, east_of, north_of}
use Rattle.lanes_geo.proofs.Crossed.{EndsOnEarth, differ, crosses_is}
use Rattle.lanes_geo.proofs.Level.{IsOnSide, none_crossed}
use Rattle.lanes_geo.proofs.Sides.{shifted}
use Rattle.lanes_geo.specs.Nesting.{first_off, holds, is_between, is_inside, lies_on, lies_within}
use Rattle.ring_nest.specs.Around.{at_place, is_well_within, may_hold, start}
use Rattle.ring_nest.proofs.Closed.{last_from, comes_back, place_at}
use Rattle.ring_nest.proofs.Itself.{end_on, equal, first_between, nothing_left, start_on}

-- why a place is outside a box
pub data Outside (box : GeoBox) (place : PlaceOf) : Type 0 where
  West : place.lon <ℤ box.west → Outside box place
  East : box.east <ℤ place.lon → Outside box place
  South : place.lat <ℤ box.south → Outside box place
  North : box.north <ℤ place.lat → Outside box place

-- why a place is on a side of a box or beyond it; the south side itself is left out
pub data Beyond (box : GeoBox) (place : PlaceOf) : Type 0 where
  OnWest : place.lon ≤ℤ box.west → Beyond box place
  OnEast : box.east ≤ℤ place.lon → Beyond box place
  OverSouth : place.lat <ℤ box.south → Beyond box place
  OnNorth : box.north ≤ℤ place.lat → Beyond box place

beyond : (box : GeoBox) (place : PlaceOf) → Outside box place → Beyond box place
beyond box place (West h) = OnWest (omega (arith, ints))
beyond box place (East h) = OnEast (omega (arith, ints))
beyond box place (South h) = OverSouth h
beyond box place (North h) = OnNorth (omega (arith, ints))

below : (y z : ℤ) → int_le y z ≡ false → z <ℤ y
below y z h = grind (arith, ints)

-- no number lies between two that are both above it, or both below
not_between : (first last number : ℤ) → (number <ℤ first) × (number <ℤ last) → is_between first last number ≡ false
not_between first last number h = grind (arith, ints)

not_between_below : (first last number : ℤ) → (first <ℤ number) × (last <ℤ number) → is_between first last number ≡ false
not_between_below first last number h = grind (arith, ints)

never : (b : Bool) → (b && false) ≡ false
never true = refl
never false = refl

same_side_parity : (b : Bool) → cond {A = ℕ} (differ b b) 1 0 ≡ 0
same_side_parity true = refl
same_side_parity false = refl

is_less : (y z : ℤ) → y <ℤ z → int_lt y z ≡ true
is_less y z h = grind (arith, ints)

-- no number of a box is beyond its sides
west_of : (box : GeoBox) (place other : PlaceOf) → place.lon <ℤ box.west → IsWithin box other → place.lon <ℤ other.lon
west_of box place other h w = let e = w.west in omega (arith, ints)

east_of_all : (box : GeoBox) (place other : PlaceOf) → box.east <ℤ place.lon → IsWithin box other → other.lon <ℤ place.lon
east_of_all box place other h w = let e = w.east in omega (arith, ints)

south_of : (box : GeoBox) (place other : PlaceOf) → place.lat <ℤ box.south → IsWithin box other → place.lat <ℤ other.lat
south_of box place other h w = let e = w.south in omega (arith, ints)

north_of_all : (box : GeoBox) (place other : PlaceOf) → box.north <ℤ place.lat → IsWithin box other → other.lat <ℤ place.lat
north_of_all box place other h w = let e = w.north in omega (arith, ints)

both_false : (a b c : Bool) → a ≡ false → ((a && b) && c) ≡ false
both_false a b c e = rw e

second_false : (a b c : Bool) → b ≡ false → ((a && b) && c) ≡ false
second_false true b c e = rw e
second_false false b c e = refl

one_off : (box : GeoBox) (place : PlaceOf) (s : Segment) → Outside box place → IsWithin box s.start → IsWithin box s.end
    → lies_within place s ≡ false
one_off box place s (West h) e f = both_false _ _ _ (not_between _ _ _ (west_of box place s.start h e, west_of box place s.end h f))
one_off box place s (East h) e f = both_false _ _ _
    (not_between_below _ _ _ (east_of_all box place s.start h e, east_of_all box place s.end h f))
one_off box place s (South h) e f = second_false (is_between s.start.lon s.end.lon place.lon) _ _
    (not_between _ _ _ (south_of box place s.start h e, south_of box place s.end h f))
one_off box place s (North h) e f = second_false (is_between s.start.lon s.end.lon place.lon) _ _
    (not_between_below _ _ _ (north_of_all box place s.start h e, north_of_all box place s.end h f))

off_from : (box : GeoBox) (place p : PlaceOf) (xs : List PlaceOf) → Outside box place → IsWithin box p → AllByRecursion (IsWithin box) xs
    → list_any (lies_within place) (segments_from p xs) ≡ false
off_from box place p [] h e f = refl
off_from box place p (x ∷ xs) h e f =
    let one = one_off box place (record { start = p; end = x }) h e f.0 in
    let more = off_from box place x xs h f.0 f.1 in
    rw (one, more)

pub off : (box : GeoBox) (place : PlaceOf) (ring : List PlaceOf) → Outside box place → AllByRecursion (IsWithin box) ring
    → lies_on ring place ≡ false
off box place [] h f = refl
off box place (p ∷ xs) h f = off_from box place p xs h f.0 f.1

-- the order of two longitudes
no_farther : (y z : ℤ) → y ≤ℤ z → neg_ℤ (pos 1800000000) ≤ℤ y → unsigned_abs (y +ℤ pos 1800000000) ≤ unsigned_abs (z +ℤ pos 1800000000)
no_farther y z h k = grind (arith, ints)

no_west : (box : GeoBox) (place other : PlaceOf) → place.lon ≤ℤ box.west → IsWithin box other → place.lon ≤ℤ other.lon
no_west box place other h w = let e = w.west in omega (arith, ints)

no_east : (box : GeoBox) (place other : PlaceOf) → box.east ≤ℤ place.lon → IsWithin box other → other.lon ≤ℤ place.lon
no_east box place other h w = let e = w.east in omega (arith, ints)

no_north : (box : GeoBox) (place other : PlaceOf) → box.north ≤ℤ place.lat → IsWithin box other → other.lat ≤ℤ place.lat
no_north box place other h w = let e = w.north in omega (arith, ints)

-- a place that no end of a segment is east of
to_the_west : (P F T A B : ℕ) → A ≤ P → B ≤ P → nat_lt (P * (F + T)) (F * B + T * A) ≡ false
to_the_west P F T A B a b =
    let one = mul-le F B F P (omega arith) b in
    let two = mul-le T A T P (omega arith) a in
    grind (arith, nat_tests)

never_east : (box : GeoBox) (place : PlaceOf) (s : Segment) → IsPlace place → EndsOnEarth s → box.east ≤ℤ place.lon → IsWithin box s.start
    → IsWithin box s.end
    → crosses place s ≡ false
never_east box place s here ends h e f =
    let a = no_farther s.start.lon place.lon (no_east box place s.start h e) ends.0.west in
    let b = no_farther s.end.lon place.lon (no_east box place s.end h f) ends.1.west in
    let none = to_the_west (east_of place) (apart (north_of place) (north_of s.start)) (apart (north_of place) (north_of s.end))
    (east_of s.start) (east_of s.end) a b in
    crosses_is place s here ends ∙ (rw none (never
    (differ (nat_lt (north_of place) (north_of s.start)) (nat_lt (north_of place) (north_of s.end)))))

never_from : (box : GeoBox) (place p : PlaceOf) (xs : List PlaceOf) → IsPlace place → box.east ≤ℤ place.lon → IsPlace p
    → AllByRecursion IsPlace xs
    → IsWithin box p → AllByRecursion (IsWithin box) xs → count_by (crosses place) (segments_from p xs) ≡ 0
never_from box place p [] here h p_on on e f = refl
never_from box place p (x ∷ xs) here h p_on on e f =
    let one = never_east box place (record { start = p; end = x }) here (p_on, on.0) h e f.0 in
    let more = never_from box place x xs here h on.0 on.1 f.0 f.1 in
    rw (sum_by-cons, one, more)

-- ---- a place that no end of a segment is west of, and that the segment does not pass on its east side, lies on it

same_spot : (p q : PlaceOf) → p.lon ≡ q.lon → p.lat ≡ q.lat → p ≡ q
same_spot p q lon lat = ap (λ (own : ℤ). place_at own p.lat) lon ∙ ap (place_at q.lon) lat

-- numbers that are as far from the least one are the same
back_at : (y z : ℤ) (least a b : ℕ) → y ≡ pos a -ℤ pos least → z ≡ pos b -ℤ pos least → a ≡ b → y ≡ z
back_at y z least a b e f same = omega (arith, ints)

same_lon : (p q : PlaceOf) → IsPlace p → IsPlace q → east_of p ≡ east_of q → p.lon ≡ q.lon
same_lon p q a b e = back_at p.lon q.lon 1800000000 (east_of p) (east_of q) (shifted p.lon 1800000000 a.west) (shifted q.lon 1800000000 b.west) e

same_lat : (p q : PlaceOf) → IsPlace p → IsPlace q → north_of p ≡ north_of q → p.lat ≡ q.lat
same_lat p q a b e = back_at p.lat q.lat 900000000 (north_of p) (north_of q) (shifted p.lat 900000000 a.south) (shifted q.lat 900000000 b.south) e

at_spot : (p q : PlaceOf) → IsPlace p → IsPlace q → east_of p ≡ east_of q → north_of p ≡ north_of q → p ≡ q
at_spot p q a b e f = same_spot p q (same_lon p q a b e) (same_lat p q a b f)

order_at : (y z : ℤ) (least a b : ℕ) → y ≡ pos a -ℤ pos least → z ≡ pos b -ℤ pos least → a ≤ b → y ≤ℤ z
order_at y z least a b e f same = omega (arith, ints)

lat_order : (p q : PlaceOf) → IsPlace p → IsPlace q → north_of p ≤ north_of q → p.lat ≤ℤ q.lat
lat_order p q a b e =
    order_at p.lat q.lat 900000000 (north_of p) (north_of q) (shifted p.lat 900000000 a.south) (shifted q.lat 900000000 b.south) e

is_between_two : (y z n : ℤ) → (y ≤ℤ n) × (n ≤ℤ z) → is_between y z n ≡ true
is_between_two y z n h = grind (arith, ints)

is_between_turned : (y z n : ℤ) → (z ≤ℤ n) × (n ≤ℤ y) → is_between y z n ≡ true
is_between_turned y z n h = grind (arith, ints)

-- on a segment that goes straight north or south
upright : (place : PlaceOf) (s : Segment) → place.lon ≡ s.start.lon → s.end.lon ≡ s.start.lon → is_between s.start.lat s.end.lat place.lat ≡ true
    → lies_within place s ≡ true
upright place s e f between =
    let flat : across place s ≡ along place s =
    rw (e, f, nothing_left s.start.lon, zero-*ℤ (s.end.lat -ℤ s.start.lat), zero-*ℤ (place.lat -ℤ s.start.lat)) in
    rw (equal _ _ flat, between, e, f, first_between s.start.lon s.start.lon)

-- latitudes between those of both ends
lat_between : (place : PlaceOf) (s : Segment) → IsPlace place → EndsOnEarth s
    → differ (nat_lt (north_of place) (north_of s.start)) (nat_lt (north_of place) (north_of s.end)) ≡ true
    → is_between s.start.lat s.end.lat place.lat ≡ true
lat_between place s here ends d = elim (cases_lt (north_of place) (north_of s.start)) [
  | inl below_start ↦
      let other : north_of s.end ≤ north_of place = grind (arith, nat_tests) in
      is_between_turned s.start.lat s.end.lat place.lat (lat_order s.end place ends.1 here other, lat_order place s.start here ends.0 (omega arith))
  | inr above_start ↦
      let other : north_of place < north_of s.end = grind (arith, nat_tests) in
      is_between_two s.start.lat s.end.lat place.lat (lat_order s.start place ends.0 here (omega arith), lat_order place s.end here ends.1 (omega arith))
]

-- the sums of products, where they are equal though no factor of the one is less
pub data Tight (P F T A B : ℕ) : Type 0 where
  AtStart : F ≡ 0 → A ≡ P → Tight P F T A B
  AtEnd : T ≡ 0 → B ≡ P → Tight P F T A B
  Along : A ≡ P → B ≡ P → Tight P F T A B

tight : (P F T A B : ℕ) → P ≤ A → P ≤ B → 0 < F + T → F * B + T * A ≤ P * (F + T) → Tight P F T A B
tight P zero zero A B a b some low = absurd (omega arith)
tight P zero (suc T) A B a b some low =
    AtStart refl (let less : A ≤ P = le_of_mul-le-mul_left {k = suc T} (omega arith) (omega arith) in omega arith)
tight P (suc F) zero A B a b some low =
    AtEnd refl (let less : B ≤ P = le_of_mul-le-mul_left {k = suc F} (omega arith) (omega arith) in omega arith)
tight P (suc F) (suc T) A B a b some low =
    let one = mul-le (suc F) P (suc F) B (omega arith) b in
    let two = mul-le (suc T) P (suc T) A (omega arith) a in
    let start : A ≤ P = le_of_mul-le-mul_left {k = suc T} (omega (arith, one, low)) (omega arith) in
    let stop : B ≤ P = le_of_mul-le-mul_left {k = suc F} (omega (arith, two, low)) (omega arith) in
    Along (omega arith) (omega arith)

no_way : (h a : ℕ) → apart h a ≡ 0 → h ≡ a
no_way h a e = omega (arith, e)

touches : (place : PlaceOf) (s : Segment) → IsPlace place → EndsOnEarth s
    → differ (nat_lt (north_of place) (north_of s.start)) (nat_lt (north_of place) (north_of s.end)) ≡ true
    → Tight (east_of place) (apart (north_of place) (north_of s.start)) (apart (north_of place) (north_of s.end)) (east_of s.start) (east_of s.end)
    → lies_within place s ≡ true
touches place s here ends d (AtStart f a) =
    subst (λ own. lies_within own s ≡ true) (sym (at_spot place s.start here ends.0 (sym a) (no_way _ _ f))) (start_on s.start s.end)
touches place s here ends d (AtEnd t b) =
    subst (λ own. lies_within own s ≡ true) (sym (at_spot place s.end here ends.1 (sym b) (no_way _ _ t))) (end_on s.start s.end)
touches place s here ends d (Along a b) =
    upright place s (same_lon place s.start here ends.0 (sym a)) (same_lon s.end s.start ends.1 ends.0 (b ∙ sym a)) (lat_between place s here ends d)

-- the side of a place on which another one is
side : PlaceOf → PlaceOf → Bool
side place other = nat_lt (north_of place) (north_of other)

apart_some : (h a b : ℕ) → differ (nat_lt h a) (nat_lt h b) ≡ true → 0 < apart h a + apart h b
apart_some h a b e = grind (arith, nat_tests)

and_true : (p z : Bool) → (p ≡ true → z ≡ true) → (p && z) ≡ p
and_true true z f = f refl
and_true false z f = refl

always_east : (box : GeoBox) (place : PlaceOf) (s : Segment) → IsPlace place → EndsOnEarth s → place.lon ≤ℤ box.west → IsWithin box s.start
    → IsWithin box s.end → lies_within place s ≡ false
    → crosses place s ≡ differ (side place s.start) (side place s.end)
unfolding side
always_east box place s here ends h e f free =
    let P = east_of place in
    let F = apart (north_of place) (north_of s.start) in
    let T = apart (north_of place) (north_of s.end) in
    let a = no_farther place.lon s.start.lon (no_west box place s.start h e) here.west in
    let b = no_farther place.lon s.end.lon (no_west box place s.end h f) here.west in
    crosses_is place s here ends ∙ and_true (differ (nat_lt (north_of place) (north_of s.start)) (nat_lt (north_of place) (north_of s.end)))
    _
    (λ d. elim (cases_lt (P * (F + T)) (F * east_of s.end + T * east_of s.start)) [
      | inl less ↦ grind (arith, nat_tests)
      | inr most ↦
          let on = touches place s here ends d (tight P F T (east_of s.start) (east_of s.end) a b
          (apart_some (north_of place) (north_of s.start) (north_of s.end) d) most) in
          absurd (false≢true (sym free ∙ on))
    ])

parity_step : (a b c : Bool) (n : ℕ) → n % 2 ≡ cond (differ b c) 1 0 → (cond (differ a b) 1 0 + n) % 2 ≡ cond (differ a c) 1 0
parity_step true true true n e = omega (arith, e)
parity_step true true false n e = omega (arith, e)
parity_step true false true n e = omega (arith, e)
parity_step true false false n e = omega (arith, e)
parity_step false true true n e = omega (arith, e)
parity_step false true false n e = omega (arith, e)
parity_step false false true n e = omega (arith, e)
parity_step false false false n e = omega (arith, e)

neither : (a b : Bool) → (a || b) ≡ false → (a ≡ false) × (b ≡ false)
neither false b e = (refl, e)
neither true b e = absurd (cc)

parity_from : (box : GeoBox) (place p : PlaceOf) (xs : List PlaceOf) → IsPlace place → place.lon ≤ℤ box.west → IsPlace p
    → AllByRecursion IsPlace xs
    → IsWithin box p → AllByRecursion (IsWithin box) xs → list_any (lies_within place) (segments_from p xs) ≡ false
    → count_by (crosses place) (segments_from p xs) % 2 ≡ cond (differ (side place p) (side place (last_from p xs))) 1 0
parity_from box place p [] here h p_on on e f free = sym (same_side_parity (side place p))
parity_from box place p (x ∷ xs) here h p_on on e f free =
    let parts = neither (lies_within place (record { start = p; end = x })) _ free in
    let one = always_east box place (record { start = p; end = x }) here (p_on, on.0) h e f.0 parts.0 in
    let more = parity_from box place x xs here h on.0 on.1 f.0 f.1 parts.1 in
    rw (sum_by-cons, one) (parity_step (side place p) (side place x) (side place (last_from x xs)) _ more)

all_south : (box : GeoBox) (place : PlaceOf) (xs : List PlaceOf) → place.lat <ℤ box.south → AllByRecursion (IsWithin box) xs
    → AllByRecursion (IsOnSide place true) xs
all_south box place [] h f = tt
all_south box place (x ∷ xs) h f = (is_less place.lat x.lat (south_of box place x h f.0), all_south box place xs h f.1)

no_less : (y z : ℤ) → z ≤ℤ y → int_lt y z ≡ false
no_less y z h = grind (arith, ints)

all_north : (box : GeoBox) (place : PlaceOf) (xs : List PlaceOf) → box.north ≤ℤ place.lat → AllByRecursion (IsWithin box) xs
    → AllByRecursion (IsOnSide place false) xs
all_north box place [] h f = tt
all_north box place (x ∷ xs) h f = (no_less place.lat x.lat (no_north box place x h f.0), all_north box place xs h f.1)

even_is : (n : ℕ) → n % 2 ≡ 0 → (n % 2 == 1) ≡ false
even_is n e = rw e

pub not_odd : (box : GeoBox) (place : PlaceOf) (ring : List PlaceOf) → IsPlace place → AllByRecursion IsPlace ring
    → AllByRecursion (IsWithin box) ring → is_closed ring ≡ true
    → Beyond box place → lies_on ring place ≡ false → odd ring place ≡ false
not_odd box place [] here on f closed h free = refl
not_odd box place (p ∷ xs) here on f closed (OnWest h) free =
    let parity = parity_from box place p xs here h on.0 on.1 f.0 f.1 free in
    let same = same_side_parity (side place p) in
    even_is (count_by (crosses place) (segments_from p xs)) (parity ∙ (rw (comes_back p xs closed) same))
not_odd box place (p ∷ xs) here on f closed (OnEast h) free = rw (never_from box place p xs here h on.0 on.1 f.0 f.1)
not_odd box place (p ∷ xs) here on f closed (OverSouth h) free =
    let all = all_south box place (p ∷ xs) h f in
    rw (none_crossed true place p xs all.0 all.1)
not_odd box place (p ∷ xs) here on f closed (OnNorth h) free =
    let all = all_north box place (p ∷ xs) h f in
    rw (none_crossed false place p xs all.0 all.1)

-- a place of a box that does not meet another one is outside that
outside : (asked box : GeoBox) (place : PlaceOf) (a b c d : Bool) → a ≡ int_le box.west asked.east → b ≡ int_le asked.west box.east
    → c ≡ int_le box.south asked.north → d ≡ int_le asked.south box.north → IsWithin asked place → ((a && b) && (c && d)) ≡ false
    → Outside box place
outside asked box place false b c d e f g h w none =
    West (let l = below box.west asked.east (sym e) in let m = w.east in omega (arith, ints))
outside asked box place true false c d e f g h w none =
    East (let l = below asked.west box.east (sym f) in let m = w.west in omega (arith, ints))
outside asked box place true true false d e f g h w none =
    South (let l = below box.south asked.north (sym g) in let m = w.north in omega (arith, ints))
outside asked box place true true true false e f g h w none =
    North (let l = below asked.south box.north (sym h) in let m = w.south in omega (arith, ints))
outside asked box place true true true true e f g h w none = absurd (cc)

own_place : (place : PlaceOf) → IsWithin (at_place place) place
own_place place = record { west = omega (arith, ints); south = omega (arith, ints); east = omega (arith, ints); north = omega (arith, ints) }

pub place_out : (box : GeoBox) (place : PlaceOf) → meets (at_place place) box ≡ false → Outside box place
place_out box place none = outside (at_place place) box place _ _ _ _ refl refl refl refl (own_place place) none

-- a ring holds none that begins outside its box
pub holds_none : (ring other : List PlaceOf) (box : GeoBox) → is_closed ring ≡ true → AllByRecursion IsPlace ring
    → AllByRecursion IsPlace other → AllByRecursion (IsWithin box) ring → meets (start other) box ≡ false → holds ring other ≡ false
holds_none ring [] box closed on other_on f none = refl
holds_none ring (p ∷ ps) box closed on other_on f none =
    let out = place_out box p none in
    let first = off box p ring out f in
    rw first (not_odd box p ring other_on.0 on f closed (beyond box p out) first)

-- nor does one of whose places the first that does not lie on it is outside its box
pub out_of_it : (ring rest : List PlaceOf) (place : PlaceOf) (box : GeoBox) → is_closed ring ≡ true → AllByRecursion IsPlace ring
    → IsPlace place → AllByRecursion (IsWithin box) ring → meets (at_place place) box ≡ false
    → is_inside ring (first_off ring (place ∷ rest)) ≡ false
out_of_it ring rest place box closed on here f none =
    let out = place_out box place none in
    let first = off box place ring out f in
    rw first (not_odd box place ring here on f closed (beyond box place out) first)

-- whether a place with this answer of the ring is not within it
clear_of : (ring : List PlaceOf) (place : PlaceOf) (rest : List PlaceOf) (b : Bool) → lies_on ring place ≡ b → (b ≡ false → odd ring place ≡ false)
    → is_inside ring (first_off ring rest) ≡ false → is_inside ring (first_off ring (place ∷ rest)) ≡ false
clear_of ring place rest true on none later = rw on later
clear_of ring place rest false off none later = rw off (none refl)

not_above : (y z : ℤ) → int_lt y z ≡ false → z ≤ℤ y
not_above y z e = grind (arith, ints)

-- a place that is not well within a box
sides : (box : GeoBox) (place : PlaceOf) (a b c d : Bool) → int_lt box.west place.lon ≡ a → int_lt place.lon box.east ≡ b
    → int_le box.south place.lat ≡ c → int_lt place.lat box.north ≡ d → ((a && b) && (c && d)) ≡ false → Beyond box place
sides box place false b c d e f g h none = OnWest (not_above box.west place.lon e)
sides box place true false c d e f g h none = OnEast (not_above place.lon box.east f)
sides box place true true false d e f g h none = OverSouth (below box.south place.lat g)
sides box place true true true false e f g h none = OnNorth (not_above place.lat box.north h)
sides box place true true true true e f g h none = absurd (cc)

pub not_well_within : (box : GeoBox) (place : PlaceOf) → is_well_within box place ≡ false → Beyond box place
not_well_within box place none = sides box place _ _ _ _ refl refl refl refl none

-- nor does a ring in a box hold one that may not be held by any in it
pub holds_none_beside : (ring other : List PlaceOf) (box : GeoBox) → is_closed ring ≡ true → AllByRecursion IsPlace ring
    → AllByRecursion IsPlace other → AllByRecursion (IsWithin box) ring → may_hold box other ≡ false → holds ring other ≡ false
holds_none_beside ring [] box closed on other_on f beside = refl
holds_none_beside ring (p ∷ []) box closed on other_on f beside =
    clear_of ring p [] _ refl (not_odd box p ring other_on.0 on f closed (not_well_within box p beside)) refl
holds_none_beside ring (p ∷ q ∷ rest) box closed on other_on f beside =
    let both_off = neither (meets (at_place q) box) (is_well_within box p) beside in
    clear_of ring p (q ∷ rest) _ refl (not_odd box p ring other_on.0 on f closed (not_well_within box p both_off.1))
    (out_of_it ring rest q box closed on other_on.1.0 f both_off.0)
