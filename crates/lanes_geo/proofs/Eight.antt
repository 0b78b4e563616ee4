-- The coordinates of eight places in a vector, and the test of four such vectors.
use Rattle.std.proofs.Common.{◌≡◌, ℕ, ◌+◌, ◌*◌, ◌≤◌, ◌-◌, ◌^◌, ◌%◌, suc, zero, refl, sym, ap, ◌∙◌, arith, int_lt, Bool, true, false, cond}
use Rattle.std.proofs.Common.{◌&&◌, ◌||◌, List, [], ◌∷◌, map, length, get_or, slice_range, w32, of_z, to_z, bit_and, bit_or, ℤ, pos, negsuc}
use Rattle.std.proofs.Common.{neg_ℤ, ◌≤ℤ◌, FitsSigned}
use lib.Lanes.{mask_l, top, zip2, chunk}
use Rattle.std.specs.List.{AllByRecursion}
use Rattle.std.proofs.lemmas.Int.{ints, to_z-of_z}
use Rattle.std.proofs.lemmas.Simd.{mask_l-mod, length-zip2}
use Rattle.osm_base.specs.values.Place.{PlaceOf}
use Rattle.lanes_geo.specs.Crossing.{crossings}
use Rattle.lanes_geo.specs.Grid.{IsPlace, bounds_of, coordinates_of}
use Rattle.lanes_geo.proofs.Level.{IsOnSide, all_joined, none_level}
use Rattle.lanes_geo.proofs.Segments.{next_place}

pub eight : (xs : List PlaceOf) (i : ℕ) (a b c d e f g h : PlaceOf) → i + 8 ≤ length xs → a ≡ get_or xs i a → b ≡ get_or xs (i + 1) b
    → c ≡ get_or xs (i + 2) c → d ≡ get_or xs (i + 3) d → e ≡ get_or xs (i + 4) e → f ≡ get_or xs (i + 5) f → g ≡ get_or xs (i + 6) g
    → h ≡ get_or xs (i + 7) h
    → chunk i 8 xs ≡ a ∷ b ∷ c ∷ d ∷ e ∷ f ∷ g ∷ h ∷ []
eight xs i a b c d e f g h long ea eb ec ed ee ef eg eh =
    rw (
      next_place xs i (i + 1) a refl (omega arith) ea,
      next_place xs (i + 1) (i + 2) b (omega arith) (omega arith) eb,
      next_place xs (i + 2) (i + 3) c (omega arith) (omega arith) ec,
      next_place xs (i + 3) (i + 4) d (omega arith) (omega arith) ed,
      next_place xs (i + 4) (i + 5) e (omega arith) (omega arith) ee,
      next_place xs (i + 5) (i + 6) f (omega arith) (omega arith) ef,
      next_place xs (i + 6) (i + 7) g (omega arith) (omega arith) eg,
      next_place xs (i + 7) (i + 8) h (omega arith) (omega arith) eh,
    )

fits : (z : ℤ) → neg_ℤ (pos 1800000000) ≤ℤ z → z ≤ℤ pos 1800000000 → FitsSigned w32 z
fits (pos n) h k = record { sfits = omega (arith, ints) }
fits (negsuc n) h k = record { sfits = omega (arith, ints) }

lat_fits : (z : ℤ) → neg_ℤ (pos 900000000) ≤ℤ z → z ≤ℤ pos 900000000 → FitsSigned w32 z
lat_fits z h k = fits z (omega (arith, ints)) (omega (arith, ints))

pub lon_again : (p : PlaceOf) (z : ℤ) → IsPlace p → z ≡ p.lon → to_z w32 (of_z w32 z) ≡ p.lon
lon_again p z here e = rw e (to_z-of_z w32 p.lon (fits p.lon here.west here.east))

pub lat_again : (p : PlaceOf) (z : ℤ) → IsPlace p → z ≡ p.lat → to_z w32 (of_z w32 z) ≡ p.lat
lat_again p z here e = rw e (to_z-of_z w32 p.lat (lat_fits p.lat here.south here.north))

-- a lane that is all ones, or 0, and a comparison of two signed lanes
abbrev pub full : Bool → ℕ
full test = cond test (2 ^ 32 - 1) 0

abbrev pub below_signed : ℕ → ℕ → ℕ
below_signed a b = full (int_lt (to_z w32 a) (to_z w32 b))

-- whether each number of some places is above its bound
abbrev pub sides_of : PlaceOf → List PlaceOf → List Bool
sides_of place [] = []
sides_of place (p ∷ ps) = false ∷ (int_lt place.lat p.lat ∷ sides_of place ps)

not_above : (z : ℤ) → z ≤ℤ pos 1800000000 → int_lt (pos 1800000000) z ≡ false
not_above z h = grind (arith, ints)

lon_lane : (p : PlaceOf) → IsPlace p → below_signed (of_z w32 (pos 1800000000)) (of_z w32 p.lon) ≡ full false
lon_lane p here = rw (to_z-of_z w32 p.lon (fits p.lon here.west here.east), not_above p.lon here.east)

lat_lane : (place p : PlaceOf) → IsPlace place → IsPlace p
    → below_signed (of_z w32 place.lat) (of_z w32 p.lat) ≡ full (int_lt place.lat p.lat)
lat_lane place p here there =
    rw (to_z-of_z w32 place.lat (lat_fits place.lat here.south here.north), to_z-of_z w32 p.lat (lat_fits p.lat there.south there.north))

compared : (place : PlaceOf) (n : ℕ) (ps : List PlaceOf) → length ps ≡ n → IsPlace place → AllByRecursion IsPlace ps
    → zip2 below_signed (map (of_z w32) (bounds_of place n)) (map (of_z w32) (coordinates_of ps)) ≡ map full (sides_of place ps)
compared place zero [] e here others = refl
compared place zero (p ∷ ps) e here others = absurd (omega arith)
compared place (suc n) [] e here others = absurd (omega arith)
compared place (suc n) (p ∷ ps) e here others =
    let lon = lon_lane p others.0 in
    let lat = lat_lane place p here others.0 in
    let more = compared place n ps (omega arith) here others.1 in
    λ i. lon i ∷ (lat i ∷ more i)

-- both tests, or one of them
abbrev pub joined_bits : Bool → Bool → Bool → Bool
joined_bits true p q = p && q
joined_bits false p q = p || q

one_and : (p q : Bool) → bit_and (full p) (full q) ≡ full (p && q)
one_and true true = refl
one_and true false = refl
one_and false true = refl
one_and false false = refl

one_or : (p q : Bool) → bit_or (full p) (full q) ≡ full (p || q)
one_or true true = refl
one_or true false = refl
one_or false true = refl
one_or false false = refl

and_lanes : (xs ys : List Bool) → zip2 (λ a b. bit_and a b) (map full xs) (map full ys) ≡ map full (zip2 (joined_bits true) xs ys)
and_lanes [] ys = refl
and_lanes (x ∷ xs) [] = refl
and_lanes (x ∷ xs) (y ∷ ys) =
    let one = one_and x y in
    let more = and_lanes xs ys in
    λ i. one i ∷ more i

or_lanes : (xs ys : List Bool) → zip2 (λ a b. bit_or a b) (map full xs) (map full ys) ≡ map full (zip2 (joined_bits false) xs ys)
or_lanes [] ys = refl
or_lanes (x ∷ xs) [] = refl
or_lanes (x ∷ xs) (y ∷ ys) =
    let one = one_or x y in
    let more = or_lanes xs ys in
    λ i. one i ∷ more i

one_top : (p : Bool) → top 31 (full p) ≡ p
one_top true = refl
one_top false = refl

tops : (xs : List Bool) → map (top 31) (map full xs) ≡ xs
tops [] = refl
tops (x ∷ xs) =
    let one = one_top x in
    let more = tops xs in
    λ i. one i ∷ more i

-- four lists of tests, joined
abbrev pub four : Bool → List Bool → List Bool → List Bool → List Bool → List Bool
four side ps qs rs ss = zip2 (joined_bits side) (zip2 (joined_bits side) (zip2 (joined_bits side) ps qs) rs) ss

-- a mask with each second bit, or with none
abbrev pub second_bits : Bool → ℕ → ℕ
second_bits side zero = 0
second_bits true (suc n) = 2 + 4 * second_bits true n
second_bits false (suc n) = 0

next_bits : (side first test : Bool) (n bits : ℕ) → first ≡ false
    → cond first 1 0 + 2 * (cond test 1 0 + 2 * bits) ≡ second_bits side (suc n)
    → (test ≡ side) × (bits ≡ second_bits side n)
next_bits side true test n bits f e = absurd cc
next_bits true false true n bits f e = (refl, omega arith)
next_bits true false false n bits f e = absurd (omega arith)
next_bits false false true n bits f e = absurd (omega arith)
next_bits false false false zero bits f e = (refl, omega arith)
next_bits false false false (suc n) bits f e = (refl, omega arith)

all_four : (side p q r s : Bool) → joined_bits side (joined_bits side (joined_bits side p q) r) s ≡ side
    → (p ≡ side) × ((q ≡ side) × ((r ≡ side) × (s ≡ side)))
all_four true true true true true e = (refl, (refl, (refl, refl)))
all_four true true true true false e = absurd cc
all_four true true true false s e = absurd cc
all_four true true false r s e = absurd cc
all_four true false q r s e = absurd cc
all_four false false false false false e = (refl, (refl, (refl, refl)))
all_four false false false false true e = absurd cc
all_four false false false true s e = absurd cc
all_four false false true r s e = absurd cc
all_four false true q r s e = absurd cc

no_lon : (side : Bool) → joined_bits side (joined_bits side (joined_bits side false false) false) false ≡ false
no_lon true = refl
no_lon false = refl

abbrev pub AllOnSide : PlaceOf → Bool → List PlaceOf → Type 0
AllOnSide place side ps = AllByRecursion (IsOnSide place side) ps

four_sides : (side : Bool) (place : PlaceOf) (n : ℕ) (ps qs rs ss : List PlaceOf) → length ps ≡ n → length qs ≡ n → length rs ≡ n
    → length ss ≡ n
    → mask_l (four side (sides_of place ps) (sides_of place qs) (sides_of place rs) (sides_of place ss)) ≡ second_bits side n
    → AllOnSide place side ps × (AllOnSide place side qs × (AllOnSide place side rs × AllOnSide place side ss))
four_sides side place zero [] [] [] [] ep eq er es e = (tt, (tt, (tt, tt)))
four_sides side place zero (p ∷ ps) qs rs ss ep eq er es e = absurd (omega arith)
four_sides side place zero [] (q ∷ qs) rs ss ep eq er es e = absurd (omega arith)
four_sides side place zero [] [] (r ∷ rs) ss ep eq er es e = absurd (omega arith)
four_sides side place zero [] [] [] (s ∷ ss) ep eq er es e = absurd (omega arith)
four_sides side place (suc n) [] qs rs ss ep eq er es e = absurd (omega arith)
four_sides side place (suc n) (p ∷ ps) [] rs ss ep eq er es e = absurd (omega arith)
four_sides side place (suc n) (p ∷ ps) (q ∷ qs) [] ss ep eq er es e = absurd (omega arith)
four_sides side place (suc n) (p ∷ ps) (q ∷ qs) (r ∷ rs) [] ep eq er es e = absurd (omega arith)
four_sides side place (suc n) (p ∷ ps) (q ∷ qs) (r ∷ rs) (s ∷ ss) ep eq er es e =
    let next = next_bits side _ _ n _ (no_lon side) e in
    let one = all_four side _ _ _ _ next.0 in
    let more = four_sides side place n ps qs rs ss (omega arith) (omega arith) (omega arith) (omega arith) next.1 in
    ((one.0, more.0), ((one.1.0, more.1.0), ((one.1.1.0, more.1.1.0), (one.1.1.1, more.1.1.1))))

length-sides : (place : PlaceOf) (n : ℕ) (ps : List PlaceOf) → length ps ≡ n → length (sides_of place ps) ≡ 2 * n
length-sides place zero [] e = refl
length-sides place zero (p ∷ ps) e = absurd (omega arith)
length-sides place (suc n) [] e = absurd (omega arith)
length-sides place (suc n) (p ∷ ps) e = let more = length-sides place n ps (omega arith) in omega (arith, more)

length-four : (side : Bool) (ps qs rs ss : List Bool) → length ps ≡ 16 → length qs ≡ 16 → length rs ≡ 16 → length ss ≡ 16
    → length (four side ps qs rs ss) ≡ 16
length-four side ps qs rs ss ep eq er es =
    let two = length-zip2 (joined_bits side) ps qs (ep ∙ sym eq) ∙ ep in
    let three = length-zip2 (joined_bits side) (zip2 (joined_bits side) ps qs) rs (two ∙ sym er) ∙ two in
    length-zip2 (joined_bits side) (zip2 (joined_bits side) (zip2 (joined_bits side) ps qs) rs) ss (three ∙ sym es) ∙ three

-- four vectors of coordinates above the bounds of a place
abbrev pub above_in : List ℤ → List ℤ → List ℕ
above_in bounds numbers = zip2 below_signed (map (of_z w32) bounds) (map (of_z w32) numbers)

pub record EightPlaces (numbers : List ℤ) (ps : List PlaceOf) : Type 0 where
  pub long : length ps ≡ 8
  pub on_earth : AllByRecursion IsPlace ps
  pub is : numbers ≡ coordinates_of ps

eight_lanes : (place : PlaceOf) (bounds numbers : List ℤ) (ps : List PlaceOf) → IsPlace place → bounds ≡ bounds_of place 8
    → EightPlaces numbers ps
    → above_in bounds numbers ≡ map full (sides_of place ps)
eight_lanes place bounds numbers ps here e x = rw (e, x.is) (compared place 8 ps x.long here x.on_earth)

from_bits : (side : Bool) (place : PlaceOf) (bounds ks bs cs ds : List ℤ) (ps qs rs ss : List PlaceOf) (tests : List Bool)
    → EightPlaces ks ps → EightPlaces bs qs
    → EightPlaces cs rs → EightPlaces ds ss → tests
    ≡ four side (sides_of place ps) (sides_of place qs) (sides_of place rs) (sides_of place ss)
    → mask_l tests % 2 ^ 64 ≡ second_bits side 8
    → AllOnSide place side ps × (AllOnSide place side qs × (AllOnSide place side rs × AllOnSide place side ss))
from_bits side place bounds ks bs cs ds ps qs rs ss tests a b c d is e =
    let sides = λ (xs : List PlaceOf). sides_of place xs in
    let long : length tests ≡ 16 =
    rw is (length-four side (sides ps) (sides qs) (sides rs) (sides ss) (length-sides place 8 ps a.long) (length-sides place 8 qs b.long)
    (length-sides place 8 rs c.long) (length-sides place 8 ss d.long)) in
    let value = sym (mask_l-mod tests 64 (omega (arith, long))) ∙ e in
    four_sides side place 8 ps qs rs ss a.long b.long c.long d.long (ap mask_l (sym is) ∙ value)

-- four vectors whose lanes, put together by a bit operation, are all on one side
module _ (side : Bool) (op : ℕ → ℕ → ℕ) (lanes : (xs ys : List Bool)
    → zip2 (λ x y. op x y) (map full xs) (map full ys) ≡ map full (zip2 (joined_bits side) xs ys)) where
  all_side : (place : PlaceOf) (bounds ks bs cs ds : List ℤ) (ps qs rs ss : List PlaceOf) → IsPlace place → bounds ≡ bounds_of place 8
      → EightPlaces ks ps
      → EightPlaces bs qs → EightPlaces cs rs → EightPlaces ds ss
      → mask_l (map (top 31) (zip2 (λ x y. op x y)
      (zip2 (λ x y. op x y) (zip2 (λ x y. op x y) (above_in bounds ks) (above_in bounds bs)) (above_in bounds cs))
      (above_in bounds ds))) % 2 ^ 64 ≡ second_bits side 8
      → AllOnSide place side ps × (AllOnSide place side qs × (AllOnSide place side rs × AllOnSide place side ss))
  all_side place bounds ks bs cs ds ps qs rs ss here e a b c d bits =
      let xs = sides_of place ps in
      let ys = sides_of place qs in
      let zs = sides_of place rs in
      let us = sides_of place ss in
      from_bits side place bounds ks bs cs ds ps qs rs ss _ a b c d
      (rw (
        eight_lanes place bounds ks ps here e a,
        eight_lanes place bounds bs qs here e b,
        eight_lanes place bounds cs rs here e c,
        eight_lanes place bounds ds ss here e d,
        lanes xs ys,
        lanes (zip2 (joined_bits side) xs ys) zs,
        lanes (zip2 (joined_bits side) (zip2 (joined_bits side) xs ys) zs) us,
      ) (tops (four side xs ys zs us)))
      bits

pub north_level : (place : PlaceOf) (bounds ks bs cs ds : List ℤ) (ps qs rs ss : List PlaceOf) → IsPlace place → bounds ≡ bounds_of place 8
    → EightPlaces ks ps
    → EightPlaces bs qs → EightPlaces cs rs → EightPlaces ds ss
    → mask_l (map (top 31) (zip2 (λ x y. bit_and x y)
    (zip2 (λ x y. bit_and x y) (zip2 (λ x y. bit_and x y) (above_in bounds ks) (above_in bounds bs)) (above_in bounds cs))
    (above_in bounds ds))) % 2 ^ 64 ≡ 43690
    → AllOnSide place true ps × (AllOnSide place true qs × (AllOnSide place true rs × AllOnSide place true ss))
north_level = all_side true bit_and and_lanes

pub south_level : (place : PlaceOf) (bounds ks bs cs ds : List ℤ) (ps qs rs ss : List PlaceOf) → IsPlace place → bounds ≡ bounds_of place 8
    → EightPlaces ks ps
    → EightPlaces bs qs → EightPlaces cs rs → EightPlaces ds ss
    → mask_l (map (top 31) (zip2 (λ x y. bit_or x y)
    (zip2 (λ x y. bit_or x y) (zip2 (λ x y. bit_or x y) (above_in bounds ks) (above_in bounds bs)) (above_in bounds cs))
    (above_in bounds ds))) % 2 ^ 64 ≡ 0
    → AllOnSide place false ps × (AllOnSide place false qs × (AllOnSide place false rs × AllOnSide place false ss))
south_level = all_side false bit_or or_lanes

-- the places of four vectors, and the one after them
pub all_level : (side : Bool) (place last : PlaceOf) (ring : List PlaceOf) (at : ℕ) → at + 33 ≤ length ring
    → AllOnSide place side (chunk at 8 ring)
    × (AllOnSide place side (chunk (at + 8) 8 ring)
    × (AllOnSide place side (chunk (at + 16) 8 ring) × AllOnSide place side (chunk (at + 24) 8 ring)))
    → last ≡ get_or ring (at + 32) last → IsOnSide place side last → crossings (slice_range ring at (at + 33)) place ≡ 0
all_level side place last ring at h all e one =
    let P = IsOnSide place side in
    let two = all_joined P 8 8 at (at + 8) ring (omega arith) all.0 all.1.0 in
    let three = all_joined P 16 8 at (at + 16) ring (omega arith) two all.1.1.0 in
    let four = all_joined P 24 8 at (at + 24) ring (omega arith) three all.1.1.1 in
    none_level side place last ring at h four e one
