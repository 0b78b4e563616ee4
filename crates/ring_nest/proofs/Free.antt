-- A place that lies on no ring: no place of the ring has its latitude, and the ring crosses it as often as the place next to it in the west.
use Rattle.std.proofs.Common.{◌≡◌, ◌≢◌, refl, sym, ap, ◌∙◌, inl, inr, Bool, true, false, ◌&&◌, ◌||◌, List, [], ◌∷◌, arith}
use Rattle.std.proofs.Common.{ℤ, pos, ◌-ℤ◌, ◌*ℤ◌, ◌<ℤ◌, int_lt, int_le}
use Rattle.std.proofs.Math.IntN.{pred_ℤ-*ℤ, -ℤ_one}
use Rattle.std.specs.List.{AllByRecursion, list_any}
use Rattle.std.proofs.lemmas.Bool.{cases_Bool, false≢true}
use Rattle.std.proofs.lemmas.Int.{ints}
use Rattle.lanes_geo.specs.Crossing.{Segment, across, along, crosses, segments_from}
use Rattle.osm_base.specs.values.Place.{PlaceOf}
use Rattle.lanes_geo.specs.Nesting.{are_equal, is_between, lies_within}
use Rattle.ring_nest.specs.Told.{westward}

one_less : (x a k : ℤ) → (x -ℤ pos 1 -ℤ a) *ℤ k ≡ (x -ℤ a) *ℤ k -ℤ k
one_less x a k =
    let same : x -ℤ pos 1 -ℤ a ≡ (x -ℤ a) -ℤ pos 1 = omega (arith, ints) in
    ap (λ (own : ℤ). own *ℤ k) (same ∙ -ℤ_one (x -ℤ a)) ∙ pred_ℤ-*ℤ (x -ℤ a) k

both_parts : (a b c : Bool) → ((a && b) && c) ≡ true → (b ≡ true) × (c ≡ true)
both_parts true true true e = (refl, refl)
both_parts true true false e = absurd (cc)
both_parts true false c e = absurd (cc)
both_parts false b c e = absurd (cc)

same_number : (y z : ℤ) → are_equal y z ≡ true → (int_lt y z ≡ false) × (y ≡ z)
same_number y z e = (grind (arith, ints), grind (arith, ints))

not_less_back : (y z : ℤ) → y ≡ z → int_lt z y ≡ false
not_less_back y z e = rw e (grind (arith, ints))

-- a latitude between two others that is neither
data Strictly (a b n : ℤ) : Type 0 where
  Northward : a <ℤ n → n <ℤ b → Strictly a b n
  Southward : b <ℤ n → n <ℤ a → Strictly a b n

apart_from : (y z : ℤ) → int_le y z ≡ true → y ≢ z → y <ℤ z
apart_from y z e other = grind (arith, ints)

and_both : (a b : Bool) → (a && b) ≡ true → (a ≡ true) × (b ≡ true)
and_both true b e = (refl, e)
and_both false b e = absurd (cc)

or_second : (a b : Bool) → (a || b) ≡ true → a ≡ false → b ≡ true
or_second true b e f = absurd (cc)
or_second false b e f = e

turned : (y z : ℤ) → y ≢ z → z ≢ y
turned y z other same = other (sym same)

strictly : (a b n : ℤ) → is_between a b n ≡ true → a ≢ n → b ≢ n → Strictly a b n
strictly a b n e f g = elim (cases_Bool (int_le a n && int_le n b)) [
  | inl straight ↦
      let parts = and_both (int_le a n) (int_le n b) straight in
      Northward (apart_from a n parts.0 f) (apart_from n b parts.1 (turned b n g))
  | inr other ↦
      let parts = and_both (int_le b n) (int_le n a) (or_second (int_le a n && int_le n b) _ e other) in
      Southward (apart_from b n parts.0 g) (apart_from n a parts.1 (turned a n f))
]

is_less : (y z : ℤ) → y <ℤ z → int_lt y z ≡ true
is_less y z h = grind (arith, ints)

is_not_less : (y z : ℤ) → z <ℤ y → int_lt y z ≡ false
is_not_less y z h = grind (arith, ints)

less_by : (x y k : ℤ) → x ≡ y → pos 0 <ℤ k → int_lt (x -ℤ k) y ≡ true
less_by x y k e some = rw e (grind (arith, ints))

more_by : (x y k : ℤ) → x ≡ y → k <ℤ pos 0 → int_lt y (x -ℤ k) ≡ true
more_by x y k e some = rw e (grind (arith, ints))

not_less_same : (x y : ℤ) → x ≡ y → int_lt x y ≡ false
not_less_same x y e = rw e (grind (arith, ints))

crosses_north : (place : PlaceOf) (s : Segment) → int_lt place.lat s.start.lat ≡ false → int_lt place.lat s.end.lat ≡ true
    → int_lt s.start.lat s.end.lat ≡ true → crosses place s ≡ int_lt (across place s) (along place s)
crosses_north place s e f g = rw (e, f, g) refl

crosses_south : (place : PlaceOf) (s : Segment) → int_lt place.lat s.start.lat ≡ true → int_lt place.lat s.end.lat ≡ false
    → int_lt s.start.lat s.end.lat ≡ false → crosses place s ≡ int_lt (along place s) (across place s)
crosses_south place s e f g = rw (e, f, g) refl

westward_north : (place : PlaceOf) (s : Segment) → s.start.lat <ℤ place.lat → place.lat <ℤ s.end.lat → across place s ≡ along place s
    → (crosses place s ≡ false) × (crosses (westward place) s ≡ true)
westward_north place s from to flat =
    let a = is_not_less place.lat s.start.lat from in
    let b = is_less place.lat s.end.lat to in
    let c : int_lt s.start.lat s.end.lat ≡ true = is_less s.start.lat s.end.lat (omega (arith, ints)) in
    let rise : pos 0 <ℤ (s.end.lat -ℤ s.start.lat) = omega (arith, ints) in (
      crosses_north place s a b c ∙ not_less_same _ _ flat,
      crosses_north (westward place) s a b c
          ∙ ap (λ own. int_lt own (along place s)) (one_less place.lon s.start.lon (s.end.lat -ℤ s.start.lat))
          ∙ less_by (across place s) (along place s) (s.end.lat -ℤ s.start.lat) flat rise,
    )

westward_south : (place : PlaceOf) (s : Segment) → s.end.lat <ℤ place.lat → place.lat <ℤ s.start.lat → across place s ≡ along place s
    → (crosses place s ≡ false) × (crosses (westward place) s ≡ true)
westward_south place s from to flat =
    let a = is_less place.lat s.start.lat to in
    let b = is_not_less place.lat s.end.lat from in
    let c : int_lt s.start.lat s.end.lat ≡ false = is_not_less s.start.lat s.end.lat (omega (arith, ints)) in
    let fall : (s.end.lat -ℤ s.start.lat) <ℤ pos 0 = omega (arith, ints) in (
      crosses_south place s a b c ∙ not_less_same _ _ (sym flat),
      crosses_south (westward place) s a b c
          ∙ ap (λ own. int_lt (along place s) own) (one_less place.lon s.start.lon (s.end.lat -ℤ s.start.lat))
          ∙ more_by (across place s) (along place s) (s.end.lat -ℤ s.start.lat) flat fall,
    )

passed_in_west : (place : PlaceOf) (s : Segment) → across place s ≡ along place s → Strictly s.start.lat s.end.lat place.lat
    → (crosses place s ≡ false) × (crosses (westward place) s ≡ true)
passed_in_west place s flat (Northward from to) = westward_north place s from to flat
passed_in_west place s flat (Southward from to) = westward_south place s from to flat

-- no segment goes through the place
segment_free : (place : PlaceOf) (s : Segment) → s.start.lat ≢ place.lat → s.end.lat ≢ place.lat → (crosses (westward place) s ≡ true → crosses place s ≡ true)
    → lies_within place s ≡ false
segment_free place s f g same = elim (cases_Bool (lies_within place s)) [
  | inl on ↦
      let parts = both_parts _ _ _ on in
      let flat = (same_number (across place s) (along place s) parts.1).1 in
      let passed = passed_in_west place s flat (strictly s.start.lat s.end.lat place.lat parts.0 f g) in
      absurd (false≢true (sym passed.0 ∙ same passed.1))
  | inr off ↦ off
]

-- ---- of all segments

-- what passes the place next to it in the west passes the place
abbrev AreFar : PlaceOf → List Segment → Type 0
AreFar place some = AllByRecursion (λ s. crosses (westward place) s ≡ true → crosses place s ≡ true) some

pub lies_on_none : (place p : PlaceOf) (ps : List PlaceOf) → p.lat ≢ place.lat → AllByRecursion (λ (own : PlaceOf). own.lat ≢ place.lat) ps
    → AreFar place (segments_from p ps) → list_any (lies_within place) (segments_from p ps) ≡ false
lies_on_none place p [] f others far = refl
lies_on_none place p (q ∷ ps) f others far =
    let one = segment_free place (record { start = p; end = q }) f others.0 far.0 in
    let more = lies_on_none place q ps others.0 others.1 far.1 in
    rw (one, more)
