-- Marks of boxes, four at a time.
use Rattle.std.proofs.Common.{◌≡◌, ℕ, ◌+◌, ◌*◌, ◌/◌, ◌<◌, ◌≤◌, ◌-◌, ◌^◌, ◌%◌, ◌==◌, refl, sym, ap, ◌∙◌, arith, nat_le, int_le, take-add}
use Rattle.std.proofs.Common.{Bool, true, false, cond, ◌&&◌, List, [], ◌∷◌, ◌++◌, map, length, take, drop, get_or, set, bit_and, ℤ, w32}
use Rattle.std.proofs.Common.{FitsSigned, to_z, of_z}
use lib.Lanes.{mask_l, top, zip2, chunk}
use Rattle.std.proofs.lemmas.Bool.Decides.{nat_tests}
use Rattle.std.proofs.lemmas.Grind.{common_steps}
use Rattle.std.proofs.lemmas.Int.{ints, to_z-of_z}
use Rattle.std.proofs.lemmas.Simd.{length-zip2, mask_l-mod}
use Rattle.osm_base.specs.declared.values.place.GeoBox.{GeoBox}
use Rattle.lanes_geo.specs.Box.{meets}
use Rattle.lanes_geo.specs.Grid.{FitBox, raised, side_lanes, least_lanes, most_lanes, sixteen}

abbrev at_most32 : ℕ → ℕ → ℕ
at_most32 a b = cond (nat_le a b) (2 ^ 32 - 1) 0

mask_and : (p q : Bool) → top 31 (bit_and (cond p (2 ^ 32 - 1) 0) (cond q (2 ^ 32 - 1) 0)) ≡ (p && q)
mask_and true true = refl
mask_and true false = refl
mask_and false true = refl
mask_and false false = refl

pub between : (ls ss ms : List ℕ) → map (top 31) (zip2 (λ a b. bit_and a b) (zip2 at_most32 ls ss) (zip2 at_most32 ss ms))
    ≡ zip2 (λ a b. a && b) (zip2 nat_le ls ss) (zip2 nat_le ss ms)
between [] ss ms = refl
between (l ∷ ls) [] ms = refl
between (l ∷ ls) (s ∷ ss) [] = refl
between (l ∷ ls) (s ∷ ss) (m ∷ ms) =
    let one = mask_and (nat_le l s) (nat_le s m) in
    let more = between ls ss ms in
    λ i. one i ∷ more i

pub between_mask : (ls ss ms : List ℕ) → length ls ≡ 16 → length ss ≡ 16 → length ms ≡ 16
    → mask_l (map (top 31) (zip2 (λ a b. bit_and a b) (zip2 at_most32 ls ss) (zip2 at_most32 ss ms))) % 2 ^ 64
    ≡ mask_l (zip2 (λ a b. a && b) (zip2 nat_le ls ss) (zip2 nat_le ss ms))
between_mask ls ss ms l s m =
    let one : length (zip2 nat_le ls ss) ≡ 16 = length-zip2 nat_le ls ss (l ∙ sym s) ∙ l in
    let two : length (zip2 nat_le ss ms) ≡ 16 = length-zip2 nat_le ss ms (s ∙ sym m) ∙ s in
    let all : length (zip2 (λ a b. a && b) (zip2 nat_le ls ss) (zip2 nat_le ss ms)) ≤ 64 =
    rw (length-zip2 (λ a b. a && b) (zip2 nat_le ls ss) (zip2 nat_le ss ms) (one ∙ sym two) ∙ one) (omega arith) in
    rw between (mask_l-mod (zip2 (λ a b. a && b) (zip2 nat_le ls ss) (zip2 nat_le ss ms)) 64 all)

-- four bits as a number
abbrev nibble : Bool → Bool → Bool → Bool → ℕ
nibble a b c d = cond a 1 0 + 2 * (cond b 1 0 + 2 * (cond c 1 0 + 2 * cond d 1 0))

one_bit : (b : Bool) → cond b 1 0 ≤ 1
one_bit true = omega arith
one_bit false = omega arith

all_set : (a b c d : Bool) → (nibble a b c d == 15) ≡ (a && b && c && d)
all_set true true true true = refl
all_set true true true false = refl
all_set true true false true = refl
all_set true true false false = refl
all_set true false true true = refl
all_set true false true false = refl
all_set true false false true = refl
all_set true false false false = refl
all_set false true true true = refl
all_set false true true false = refl
all_set false true false true = refl
all_set false true false false = refl
all_set false false true true = refl
all_set false false true false = refl
all_set false false false true = refl
all_set false false false false = refl

lowest : (a b c d : Bool) (ms : List Bool) → mask_l (a ∷ (b ∷ (c ∷ (d ∷ ms)))) % 16 ≡ nibble a b c d
lowest a b c d ms =
    let e = one_bit a in
    let f = one_bit b in
    let g = one_bit c in
    let h = one_bit d in
    omega arith

higher : (a b c d : Bool) (ms : List Bool) → mask_l (a ∷ (b ∷ (c ∷ (d ∷ ms)))) / 16 ≡ mask_l ms
higher a b c d ms =
    let e = one_bit a in
    let f = one_bit b in
    let g = one_bit c in
    let h = one_bit d in
    omega arith

at_most : (y z : ℤ) → FitsSigned w32 y → FitsSigned w32 z → nat_le (raised y) (raised z) ≡ int_le y z
at_most y z e f = grind (arith, ints)

not_below : (z : ℤ) → FitsSigned w32 z → nat_le (raised z) 4294967295 ≡ true
not_below z e = grind (arith, ints)

not_above : (n : ℕ) → nat_le 0 n ≡ true
not_above n = grind (arith, nat_tests)

regroup : (a b c d : Bool) → ((true && a) && (true && b) && (c && true) && (d && true)) ≡ ((a && c) && (b && d))
regroup true true true true = refl
regroup true true true false = refl
regroup true true false true = refl
regroup true true false false = refl
regroup true false true true = refl
regroup true false true false = refl
regroup true false false true = refl
regroup true false false false = refl
regroup false true true true = refl
regroup false true true false = refl
regroup false true false true = refl
regroup false true false false = refl
regroup false false true true = refl
regroup false false true false = refl
regroup false false false true = refl
regroup false false false false = refl

abbrev west_of : GeoBox → GeoBox → Bool
west_of asked box = nat_le 0 (raised box.west) && nat_le (raised box.west) (raised asked.east)

abbrev south_of : GeoBox → GeoBox → Bool
south_of asked box = nat_le 0 (raised box.south) && nat_le (raised box.south) (raised asked.north)

abbrev east_of : GeoBox → GeoBox → Bool
east_of asked box = nat_le (raised asked.west) (raised box.east) && nat_le (raised box.east) 4294967295

abbrev north_of : GeoBox → GeoBox → Bool
north_of asked box = nat_le (raised asked.south) (raised box.north) && nat_le (raised box.north) 4294967295

one_box : (asked box : GeoBox) (ms : List Bool) → FitBox asked → FitBox box
    → (mask_l (west_of asked box ∷ (south_of asked box ∷ (east_of asked box ∷ (north_of asked box ∷ ms)))) % 16 == 15) ≡ meets asked box
one_box asked box ms a b =
    rw (
      lowest,
      all_set,
      not_above (raised box.west),
      not_above (raised box.south),
      not_below box.east b.east,
      not_below box.north b.north,
      at_most box.west asked.east b.west a.east,
      at_most box.south asked.north b.south a.north,
      at_most asked.west box.east a.west b.east,
      at_most asked.south box.north a.south b.north,
    )
    (regroup (int_le box.west asked.east) (int_le box.south asked.north) (int_le asked.west box.east) (int_le asked.south box.north))

-- the tests of four boxes
pub tests : GeoBox → List GeoBox → List Bool
tests asked [] = []
tests asked (box ∷ boxes) = west_of asked box ∷ (south_of asked box ∷ (east_of asked box ∷ (north_of asked box ∷ tests asked boxes)))

pub bits_of : (asked one two three four : GeoBox) (bits : ℕ) (ls ss ms : List ℕ) → FitBox asked
    → FitBox one × FitBox two × FitBox three × FitBox four
    → ls ≡ sixteen (least_lanes asked) → ms ≡ sixteen (most_lanes asked)
    → ss ≡ side_lanes one ++ (side_lanes two ++ (side_lanes three ++ side_lanes four))
    → bits ≡ mask_l (zip2 (λ a b. a && b) (zip2 nat_le ls ss) (zip2 nat_le ss ms))
    → ((bits % 16 == 15) ≡ meets asked one) × ((bits / 16 % 16 == 15) ≡ meets asked two) × ((bits / 16 / 16 % 16 == 15) ≡ meets asked three)
    × ((bits / 16 / 16 / 16 % 16 == 15) ≡ meets asked four)
unfolding tests
bits_of asked one two three four bits ls ss ms a f e1 e2 e3 e4 =
    let b0 : bits ≡ mask_l (tests asked (one ∷ (two ∷ (three ∷ (four ∷ []))))) = e4 ∙ (rw (e1, e2, e3)) in
    let b1 : bits / 16 ≡ mask_l (tests asked (two ∷ (three ∷ (four ∷ [])))) =
    rw b0 (higher _ _ _ _ (tests asked (two ∷ (three ∷ (four ∷ []))))) in
    let b2 : bits / 16 / 16 ≡ mask_l (tests asked (three ∷ (four ∷ []))) = rw b1 (higher _ _ _ _ (tests asked (three ∷ (four ∷ [])))) in
    let b3 : bits / 16 / 16 / 16 ≡ mask_l (tests asked (four ∷ [])) = rw b2 (higher _ _ _ _ (tests asked (four ∷ []))) in (
      rw b0 (one_box asked one (tests asked (two ∷ (three ∷ (four ∷ [])))) a f.0),
      rw b1 (one_box asked two (tests asked (three ∷ (four ∷ []))) a f.1),
      rw b2 (one_box asked three (tests asked (four ∷ [])) a f.2),
      rw b3 (one_box asked four [] a f.3),
    )

-- one more mark
pub one_set : (m : List Bool) (i next : ℕ) (v : Bool) → next ≡ i + 1 → i < length m → take next (set m i v) ≡ take i m ++ v ∷ []
one_set m i next v e h = grind (arith, common_steps)

pub four_at : (boxes : List GeoBox) (at : ℕ) (a b c d : GeoBox) → at + 4 ≤ length boxes → a ≡ get_or boxes at a
    → b ≡ get_or boxes (at + 1) b
    → c ≡ get_or boxes (at + 2) c → d ≡ get_or boxes (at + 3) d → chunk at 4 boxes ≡ a ∷ (b ∷ (c ∷ (d ∷ [])))
four_at boxes at a b c d h e f g i =
    let first : drop at boxes ≡ a ∷ drop (at + 1) boxes = grind (arith, common_steps) in
    let second : drop (at + 1) boxes ≡ b ∷ drop (at + 2) boxes = grind (arith, common_steps) in
    let third : drop (at + 2) boxes ≡ c ∷ drop (at + 3) boxes = grind (arith, common_steps) in
    let fourth : drop (at + 3) boxes ≡ d ∷ drop (at + 4) boxes = grind (arith, common_steps) in
    rw (first, second, third, fourth)

-- a number that was passed on
pub as_raised : (z : ℤ) (n : ℕ) → n ≡ raised (to_z w32 (of_z w32 z)) → FitsSigned w32 z → n ≡ raised z
as_raised z n e f = e ∙ ap raised (to_z-of_z w32 z f)

-- the boxes up to a place, and four more
pub four_more : (boxes : List GeoBox) (at : ℕ) → at + 4 ≤ length boxes → take (at + 4) boxes ≡ take at boxes ++ chunk at 4 boxes
four_more boxes at h = take-add at 4 boxes
