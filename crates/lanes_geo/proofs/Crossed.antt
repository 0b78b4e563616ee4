-- Whether a segment is crossed, told by natural numbers.
use Rattle.std.proofs.Common.{◌≡◌, ℕ, ◌+◌, ◌*◌, ◌<◌, ◌≤◌, refl, arith, nat_lt, ℤ, pos, ◌-ℤ◌, int_lt, Bool, true, false, ◌&&◌, if◌then◌else◌}
use mathlib.Core.Bool.{beq}
use Rattle.std.proofs.lemmas.Int.{ints}
use Rattle.std.proofs.lemmas.Bool.Decides.{nat_tests}
use Rattle.osm_base.specs.values.Place.{PlaceOf}
use Rattle.lanes_geo.specs.Crossing.{Segment, crosses}
use Rattle.lanes_geo.specs.Grid.{IsPlace, apart, east_of, north_of}
use Rattle.lanes_geo.proofs.Sides.{shifted, going_north, going_south}

-- whether two tests differ
abbrev pub differ : Bool → Bool → Bool
differ p q = if beq p q then false else true

abbrev pub EndsOnEarth : Segment → Type 0
EndsOnEarth segment = IsPlace segment.start × IsPlace segment.end

-- the two sums of products whose order says the side
abbrev pub west_sum : PlaceOf → Segment → ℕ
west_sum place segment = east_of place * (apart (north_of place) (north_of segment.start) + apart (north_of place) (north_of segment.end))

abbrev pub east_sum : PlaceOf → Segment → ℕ
east_sum place segment =
    apart (north_of place) (north_of segment.start) * east_of segment.end
    + apart (north_of place) (north_of segment.end) * east_of segment.start

pick : (h a b : ℕ) (p q r x y z : Bool) → p ≡ nat_lt h a → q ≡ nat_lt h b → r ≡ nat_lt a b → (a ≤ h → h < b → x ≡ z)
    → (b ≤ h → h < a → y ≡ z)
    → (if (differ p q) then (if r then x else y) else false) ≡ (differ p q && z)
pick h a b true true r x y z e f g north south = refl
pick h a b false false r x y z e f g north south = refl
pick h a b true false true x y z e f g north south =
    let l : h < a = grind (arith, nat_tests) in
    let m : b ≤ h = grind (arith, nat_tests) in
    let n : a < b = grind (arith, nat_tests) in
    absurd (omega arith)
pick h a b true false false x y z e f g north south =
    let l : h < a = grind (arith, nat_tests) in
    let m : b ≤ h = grind (arith, nat_tests) in
    south m l
pick h a b false true true x y z e f g north south =
    let l : a ≤ h = grind (arith, nat_tests) in
    let m : h < b = grind (arith, nat_tests) in
    north l m
pick h a b false true false x y z e f g north south =
    let l : a ≤ h = grind (arith, nat_tests) in
    let m : h < b = grind (arith, nat_tests) in
    let n : b ≤ a = grind (arith, nat_tests) in
    absurd (omega arith)

ordered : (y z : ℤ) (least a b : ℕ) → y ≡ pos a -ℤ pos least → z ≡ pos b -ℤ pos least → int_lt y z ≡ nat_lt a b
ordered y z least a b e f = rw (e, f) (grind (arith, ints))

between : (y z : ℤ) (least a b : ℕ) → y ≡ pos a -ℤ pos least → z ≡ pos b -ℤ pos least → y -ℤ z ≡ pos a -ℤ pos b
between y z least a b e f = omega (arith, ints)

pub crosses_is : (place : PlaceOf) (segment : Segment) → IsPlace place → EndsOnEarth segment
    → crosses place segment ≡ (differ (nat_lt (north_of place) (north_of segment.start)) (nat_lt (north_of place) (north_of segment.end))
    && nat_lt (west_sum place segment) (east_sum place segment))
crosses_is place segment here ends =
    let start = segment.start in
    let end = segment.end in
    let ph = shifted place.lat 900000000 here.south in
    let sh = shifted start.lat 900000000 ends.0.south in
    let eh = shifted end.lat 900000000 ends.1.south in
    let pe = shifted place.lon 1800000000 here.west in
    let se = shifted start.lon 1800000000 ends.0.west in
    let ee = shifted end.lon 1800000000 ends.1.west in
    let h = north_of place in
    let a = north_of start in
    let b = north_of end in
    let p : int_lt place.lat start.lat ≡ nat_lt h a = ordered _ _ 900000000 h a ph sh in
    let q : int_lt place.lat end.lat ≡ nat_lt h b = ordered _ _ 900000000 h b ph eh in
    let r : int_lt start.lat end.lat ≡ nat_lt a b = ordered _ _ 900000000 a b sh eh in
    rw (← p, ← q) (pick h a b (int_lt place.lat start.lat) (int_lt place.lat end.lat) (int_lt start.lat end.lat) _ _ _ p q r
    (λ l m. going_north _ _ _ _ (east_of place) (east_of start) (east_of end) h a b (apart h a) (apart h b)
    (between _ _ 1800000000 _ _ pe se) (between _ _ 900000000 _ _ eh sh) (between _ _ 1800000000 _ _ ee se)
    (between _ _ 900000000 _ _ ph sh)
    (omega arith) (omega arith))
    (λ l m. going_south _ _ _ _ (east_of place) (east_of start) (east_of end) h a b (apart h a) (apart h b)
    (between _ _ 1800000000 _ _ pe se) (between _ _ 900000000 _ _ eh sh) (between _ _ 1800000000 _ _ ee se)
    (between _ _ 900000000 _ _ ph sh)
    (omega arith) (omega arith)))

-- the order of two latitudes
pub south_is : (place other : PlaceOf) → IsPlace place → IsPlace other
    → int_lt place.lat other.lat ≡ nat_lt (north_of place) (north_of other)
south_is place other e f = ordered _ _ 900000000 (north_of place) (north_of other) (shifted place.lat 900000000 e.south)
    (shifted other.lat 900000000 f.south)
