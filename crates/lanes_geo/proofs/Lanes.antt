-- Vectors, lane by lane.
use Rattle.std.proofs.Common.{◌≡◌, ℕ, ◌+◌, ◌*◌, ◌<◌, ◌≤◌, ◌-◌, ◌^◌, ◌%◌, refl, sym, ap, ◌∙◌, arith, nat_lt, Bool, true, false, cond, ◌&&◌}
use Rattle.std.proofs.Common.{if◌then◌else◌, List, [], ◌∷◌, map, length, Fits, w32, bit_xor, ℤ, pos, neg_ℤ, ◌+ℤ◌, ◌≤ℤ◌, unsigned_abs}
use Rattle.std.proofs.Common.{count_by, replicate}
use Rattle.std.proofs.lemmas.List.{length-map}
use lib.Count.{ones as count_ones}
use lib.Lanes.{zip2, sel_l, top, Each1, mask_l}
use Rattle.std.specs.List.{AllByRecursion}
use Rattle.std.proofs.lemmas.Nat.{mul-le}
use Rattle.std.proofs.lemmas.Int.{ints}
use Rattle.std.proofs.lemmas.Simd.{mask_l-mod, ones-mask_l, splat_is_map}
use Rattle.std.proofs.lemmas.Bool.Decides.{nat_tests}
use mathlib.Core.Bool.{beq}
use Rattle.osm_base.specs.values.Place.{PlaceOf}
use Rattle.lanes_geo.specs.Crossing.{Segment, crosses}
use Rattle.lanes_geo.specs.Grid.{IsPlace, apart, kept, east_of, north_of}
use Rattle.lanes_geo.proofs.Crossed.{EndsOnEarth, differ, crosses_is}

-- a comparison of two narrow lanes
abbrev pub below32 : ℕ → ℕ → ℕ
below32 a b = cond (nat_lt a b) (2 ^ 32 - 1) 0

distance : (x h : ℕ) (b : Bool) → nat_lt x h ≡ b → x < 2 ^ 32 → h < 2 ^ 32
    → (cond (top 31 (cond b (2 ^ 32 - 1) 0)) h x + (2 ^ 32 - cond (top 31 (cond b (2 ^ 32 - 1) 0)) x h)) % 2 ^ 32 ≡ (x - h) + (h - x)
distance x h true e f g = let l : x < h = grind (arith, nat_tests) in omega arith
distance x h false e f g = let l : h ≤ x = grind (arith, nat_tests) in omega arith

pub apart_lanes : (h : ℕ) (xs : List ℕ) → h < 2 ^ 32 → Each1 (Fits w32) xs
    → zip2 (λ a b. (a + (2 ^ 32 - b)) % 2 ^ 32)
    (sel_l (map (top 31) (zip2 below32 xs (map (λ _. h) xs))) (map (λ _. h) xs) xs)
    (sel_l (map (top 31) (zip2 below32 xs (map (λ _. h) xs))) xs (map (λ _. h) xs))
    ≡ map (apart h) xs
apart_lanes h [] f e = refl
apart_lanes h (x ∷ xs) f e =
    let one = distance x h (nat_lt x h) refl e.0.fits f in
    let more = apart_lanes h xs f e.1 in
    λ i. one i ∷ more i

-- a number where two tests differ
one_kept : (p q : Bool) (n : ℕ) → cond (top 31 (bit_xor (cond p (2 ^ 32 - 1) 0) (cond q (2 ^ 32 - 1) 0))) n 0 ≡ (if (beq p q) then 0 else n)
one_kept true true n = refl
one_kept true false n = refl
one_kept false true n = refl
one_kept false false n = refl

-- the mask of the segments that straddle
abbrev pub straddling : ℕ → List ℕ → List ℕ → List Bool
straddling h xs ys = map (top 31) (zip2 (λ a b. bit_xor a b) (zip2 below32 (map (λ _. h) xs) xs) (zip2 below32 (map (λ _. h) ys) ys))

pub from_lanes : (h : ℕ) (xs ys : List ℕ) → length xs ≡ length ys
    → sel_l (straddling h xs ys) (map (apart h) xs) (map (λ _. 0) xs) ≡ zip2 (λ start end. kept h start end start) xs ys
from_lanes h [] ys e = refl
from_lanes h (x ∷ xs) [] e = absurd (omega arith)
from_lanes h (x ∷ xs) (y ∷ ys) e =
    let one = one_kept (nat_lt h x) (nat_lt h y) (apart h x) in
    let more = from_lanes h xs ys (omega arith) in
    λ i. one i ∷ more i

pub to_lanes : (h : ℕ) (xs ys : List ℕ) → length xs ≡ length ys
    → sel_l (straddling h xs ys) (map (apart h) ys) (map (λ _. 0) ys) ≡ zip2 (λ start end. kept h start end end) xs ys
to_lanes h [] [] e = refl
to_lanes h [] (y ∷ ys) e = absurd (omega arith)
to_lanes h (x ∷ xs) [] e = absurd (omega arith)
to_lanes h (x ∷ xs) (y ∷ ys) e =
    let one = one_kept (nat_lt h x) (nat_lt h y) (apart h y) in
    let more = to_lanes h xs ys (omega arith) in
    λ i. one i ∷ more i

-- what the lanes give for the starts and the ends of segments
abbrev pub apart_in : List ℕ → List ℕ → List ℕ
apart_in hs xs = zip2 (λ a b. (a + (2 ^ 32 - b)) % 2 ^ 32) (sel_l (map (top 31) (zip2 below32 xs hs)) hs xs)
    (sel_l (map (top 31) (zip2 below32 xs hs)) xs hs)

pub kept_lanes : (h : ℕ) (xs ys hs zs : List ℕ) → length xs ≡ 16 → length ys ≡ 16 → hs ≡ replicate 16 h → zs ≡ replicate 16 0
    → h < 2 ^ 32 → Each1 (Fits w32) xs → Each1 (Fits w32) ys
    → (sel_l (map (top 31) (zip2 (λ a b. bit_xor a b) (zip2 below32 hs xs) (zip2 below32 hs ys))) (apart_in hs xs) zs
    ≡ zip2 (λ start end. kept h start end start) xs ys)
    × (sel_l (map (top 31) (zip2 (λ a b. bit_xor a b) (zip2 below32 hs xs) (zip2 below32 hs ys))) (apart_in hs ys) zs
    ≡ zip2 (λ start end. kept h start end end) xs ys)
kept_lanes h xs ys hs zs m n e f fits_h fits_xs fits_ys =
    let hs_x = e ∙ splat_is_map xs 16 h m in
    let hs_y = e ∙ splat_is_map ys 16 h n in
    let zs_x = f ∙ splat_is_map xs 16 0 m in
    let zs_y = f ∙ splat_is_map ys 16 0 n in
    let above_x = ap (λ ls. zip2 below32 ls xs) hs_x in
    let above_y = ap (λ ls. zip2 below32 ls ys) hs_y in
    let apart_x = ap (λ ls. apart_in ls xs) hs_x ∙ apart_lanes h xs fits_h fits_xs in
    let apart_y = ap (λ ls. apart_in ls ys) hs_y ∙ apart_lanes h ys fits_h fits_ys in (
      rw (above_x, above_y, apart_x, zs_x) (from_lanes h xs ys (m ∙ sym n)),
      rw (above_x, above_y, apart_y, zs_y) (to_lanes h xs ys (m ∙ sym n)),
    )

-- the same of two wide ones, and what wide lanes make
abbrev pub below64 : ℕ → ℕ → ℕ
below64 a b = cond (nat_lt a b) (2 ^ 64 - 1) 0

abbrev pub plus64 : ℕ → ℕ → ℕ
plus64 a b = (a + b) % 2 ^ 64

abbrev pub times64 : ℕ → ℕ → ℕ
times64 a b = (a * b) % 2 ^ 64

-- a sum of narrow lanes
abbrev pub plus32 : ℕ → ℕ → ℕ
plus32 a b = (a + b) % 2 ^ 32

mask_top : (z : Bool) → top 63 (cond z (2 ^ 64 - 1) 0) ≡ z
mask_top true = refl
mask_top false = refl

small : (n : ℕ) → n < 2 ^ 64 → n % 2 ^ 64 ≡ n
small n h = omega arith

low : (z : ℤ) (bound : ℕ) → neg_ℤ (pos bound) ≤ℤ z → z ≤ℤ pos bound → unsigned_abs (z +ℤ pos bound) ≤ 2 * bound
low z bound h k = grind (arith, ints)

-- no product and no sum is above its greatest
no_wrap : (P F T A B : ℕ) → P ≤ 3600000000 → A ≤ 3600000000 → B ≤ 3600000000 → F ≤ 1800000000 → T ≤ 1800000000
    → nat_lt (times64 P (plus32 F T)) (plus64 (times64 F B) (times64 T A)) ≡ nat_lt (P * (F + T)) (F * B + T * A)
no_wrap P F T A B p a b f t =
    let sum = mul-le P (F + T) 3600000000 3600000000 p (omega arith) in
    let one = mul-le F B 1800000000 3600000000 f b in
    let two = mul-le T A 1800000000 3600000000 t a in
    let e1 : plus32 F T ≡ F + T = omega arith in
    let e2 = small (P * (F + T)) (omega arith) in
    let e3 = small (F * B) (omega arith) in
    let e4 = small (T * A) (omega arith) in
    let e5 = small (F * B + T * A) (omega arith) in
    rw (e1, e2, e3, e4, e5)

abbrev pub from_of : PlaceOf → Segment → ℕ
from_of place segment = apart (north_of place) (north_of segment.start)

abbrev pub to_of : PlaceOf → Segment → ℕ
to_of place segment = apart (north_of place) (north_of segment.end)

-- what is kept of the ends of a segment
abbrev pub kept_from : PlaceOf → Segment → ℕ
kept_from place segment = kept (north_of place) (north_of segment.start) (north_of segment.end) (north_of segment.start)

abbrev pub kept_to : PlaceOf → Segment → ℕ
kept_to place segment = kept (north_of place) (north_of segment.start) (north_of segment.end) (north_of segment.end)

abbrev pub kept_both : PlaceOf → Segment → ℕ
kept_both place segment = plus32 (kept_from place segment) (kept_to place segment)

nothing : (P A B : ℕ) → nat_lt (times64 P (plus32 0 0)) (plus64 (times64 0 B) (times64 0 A)) ≡ false
nothing P A B =
    let e : times64 P (plus32 0 0) ≡ 0 = omega arith in
    let f : plus64 (times64 0 B) (times64 0 A) ≡ 0 = omega arith in
    rw (e, f)

-- no product is above another where the ends are not kept
by_tests : (p q : Bool) (P F T A B : ℕ) → P ≤ 3600000000 → A ≤ 3600000000 → B ≤ 3600000000 → F ≤ 1800000000 → T ≤ 1800000000
    → nat_lt (times64 P (plus32 (if (beq p q) then 0 else F) (if (beq p q) then 0 else T)))
    (plus64 (times64 (if (beq p q) then 0 else F) B) (times64 (if (beq p q) then 0 else T) A))
    ≡ (differ p q && nat_lt (P * (F + T)) (F * B + T * A))
by_tests true true P F T A B p a b f t = nothing P A B
by_tests true false P F T A B p a b f t = no_wrap P F T A B p a b f t
by_tests false true P F T A B p a b f t = no_wrap P F T A B p a b f t
by_tests false false P F T A B p a b f t = nothing P A B

lane : (place : PlaceOf) (segment : Segment) → IsPlace place → EndsOnEarth segment
    → top 63 (below64 (times64 (east_of place) (kept_both place segment))
    (plus64 (times64 (kept_from place segment) (east_of segment.end)) (times64 (kept_to place segment) (east_of segment.start))))
    ≡ crosses place segment
lane place segment here ends =
    let pn = low place.lat 900000000 here.south here.north in
    let pe = low place.lon 1800000000 here.west here.east in
    let sn = low segment.start.lat 900000000 ends.0.south ends.0.north in
    let se = low segment.start.lon 1800000000 ends.0.west ends.0.east in
    let en = low segment.end.lat 900000000 ends.1.south ends.1.north in
    let ee = low segment.end.lon 1800000000 ends.1.west ends.1.east in
    mask_top _ ∙ by_tests (nat_lt (north_of place) (north_of segment.start)) (nat_lt (north_of place) (north_of segment.end))
    (east_of place) (from_of place segment) (to_of place segment) (east_of segment.start) (east_of segment.end)
    pe se ee (omega arith) (omega arith) ∙ sym (crosses_is place segment here ends)

crossed_lanes : (place : PlaceOf) (vs : List Segment) → IsPlace place → AllByRecursion EndsOnEarth vs
    → map (top 63) (zip2 below64
    (zip2 times64 (map (λ _. east_of place) vs) (map (kept_both place) vs))
    (zip2 plus64 (zip2 times64 (map (kept_from place) vs) (map (λ s. east_of s.end) vs))
    (zip2 times64 (map (kept_to place) vs) (map (λ s. east_of s.start) vs))))
    ≡ map (crosses place) vs
crossed_lanes place [] here ends = refl
crossed_lanes place (s ∷ vs) here ends =
    let one = lane place s here ends.0 in
    let more = crossed_lanes place vs here ends.1 in
    λ i. one i ∷ more i

pub counted : (place : PlaceOf) (vs : List Segment) (east both from to start_easts end_easts : List ℕ)
    → IsPlace place → AllByRecursion EndsOnEarth vs → length vs ≡ 8
    → east ≡ replicate 8 (east_of place) → both ≡ map (kept_both place) vs → from ≡ map (kept_from place) vs → to ≡ map (kept_to place) vs
    → start_easts ≡ map (λ s. east_of s.start) vs → end_easts ≡ map (λ s. east_of s.end) vs
    → count_ones (mask_l (map (top 63) (zip2 below64
    (zip2 times64 east both) (zip2 plus64 (zip2 times64 from end_easts) (zip2 times64 to start_easts)))) % 2 ^ 64)
    ≡ count_by (crosses place) vs
counted place vs east both from to start_easts end_easts here on_earth long e1 e2 e3 e4 e5 e6 =
    let len : length (map (crosses place) vs) ≤ 64 = rw length-map (omega arith) in
    let east_is = e1 ∙ splat_is_map vs 8 (east_of place) long in
    rw (east_is, e2, e3, e4, e5, e6, crossed_lanes place vs here on_earth, mask_l-mod (map (crosses place) vs) 64 len)
    (ones-mask_l (crosses place) vs)
