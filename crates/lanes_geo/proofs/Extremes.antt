-- The least and the greatest of lists.
use Rattle.std.proofs.Common.{◌≡◌, ℕ, ◌+◌, ◌*◌, ◌<◌, ◌≤◌, ◌-◌, ◌^◌, refl, sym, ◌∙◌, arith, nat_lt, Bool, true, false, cond, List, [], ◌∷◌}
use Rattle.std.proofs.Common.{◌++◌, map, length, take, drop, get_or, min, max, ℤ, pos, ◌-ℤ◌}
use lib.Lanes.{top, zip2, sel_l, chunk}
use Rattle.std.proofs.Math.Seq.{take-add}
use Rattle.std.proofs.lemmas.List.{map-append, length-map, take-append-drop}
use Rattle.std.proofs.lemmas.Simd.{length-zip2, length-chunk}
use Rattle.std.specs.Int.{int_min, int_max}
use Rattle.std.specs.List.{AllByRecursion, fold}
use Rattle.std.proofs.lemmas.Bool.Decides.{nat_tests}
use Rattle.std.proofs.lemmas.Grind.{common_steps}
use Rattle.std.proofs.lemmas.Int.{ints, clamps}
use Rattle.osm_base.specs.values.Place.{PlaceOf}
use Rattle.lanes_geo.specs.Grid.{IsPlace, least_of, greatest_of}
use Rattle.lanes_geo.proofs.Lanes.{below32}

one_min : (x y : ℕ) (b : Bool) → nat_lt x y ≡ b → cond (top 31 (cond b (2 ^ 32 - 1) 0)) x y ≡ min x y
one_min x y true e = let l : x < y = grind (arith, nat_tests) in omega arith
one_min x y false e = let l : y ≤ x = grind (arith, nat_tests) in omega arith

one_max : (x y : ℕ) (b : Bool) → nat_lt x y ≡ b → cond (top 31 (cond b (2 ^ 32 - 1) 0)) y x ≡ max x y
one_max x y true e = let l : x < y = grind (arith, nat_tests) in omega arith
one_max x y false e = let l : y ≤ x = grind (arith, nat_tests) in omega arith

pub lower_lanes : (xs ys : List ℕ) → sel_l (map (top 31) (zip2 below32 xs ys)) xs ys ≡ zip2 min xs ys
lower_lanes [] ys = refl
lower_lanes (x ∷ xs) [] = refl
lower_lanes (x ∷ xs) (y ∷ ys) =
    let one = one_min x y (nat_lt x y) refl in
    let more = lower_lanes xs ys in
    λ i. one i ∷ more i

pub higher_lanes : (xs ys : List ℕ) → length xs ≡ length ys → sel_l (map (top 31) (zip2 below32 xs ys)) ys xs ≡ zip2 max xs ys
higher_lanes [] ys e = refl
higher_lanes (x ∷ xs) [] e = refl
higher_lanes (x ∷ xs) (y ∷ ys) e =
    let one = one_max x y (nat_lt x y) refl in
    let more = higher_lanes xs ys (omega arith) in
    λ i. one i ∷ more i

pub least_zip2 : (xs ys : List ℕ) → length xs ≡ length ys → least_of (zip2 min xs ys) ≡ min (least_of xs) (least_of ys)
least_zip2 [] [] e = omega arith
least_zip2 [] (y ∷ ys) e = absurd (omega arith)
least_zip2 (x ∷ xs) [] e = absurd (omega arith)
least_zip2 (x ∷ xs) (y ∷ ys) e = let more = least_zip2 xs ys (omega arith) in omega (arith, more)

pub greatest_zip2 : (xs ys : List ℕ) → length xs ≡ length ys → greatest_of (zip2 max xs ys) ≡ max (greatest_of xs) (greatest_of ys)
greatest_zip2 [] [] e = omega arith
greatest_zip2 [] (y ∷ ys) e = absurd (omega arith)
greatest_zip2 (x ∷ xs) [] e = absurd (omega arith)
greatest_zip2 (x ∷ xs) (y ∷ ys) e = let more = greatest_zip2 xs ys (omega arith) in omega (arith, more)

pub bounded : (xs : List ℕ) → least_of xs ≤ 4294967295
bounded [] = omega arith
bounded (x ∷ xs) = let more = bounded xs in omega (arith, more)

pub least-append : (xs ys : List ℕ) → least_of (xs ++ ys) ≡ min (least_of xs) (least_of ys)
least-append [] ys = let b = bounded ys in omega (arith, b)
least-append (x ∷ xs) ys = let more = least-append xs ys in omega (arith, more)

pub greatest-append : (xs ys : List ℕ) → greatest_of (xs ++ ys) ≡ max (greatest_of xs) (greatest_of ys)
greatest-append [] ys = omega arith
greatest-append (x ∷ xs) ys = let more = greatest-append xs ys in omega (arith, more)

-- a coordinate, and the natural number that stands for it
abbrev pub StandsFor : (PlaceOf → ℤ) → (PlaceOf → ℕ) → ℕ → Type 0
StandsFor f g least = (p : PlaceOf) → IsPlace p → (f p ≡ pos (g p) -ℤ pos least) × (g p ≤ 2 * least)

min_step : (least : ℕ) (y z : ℤ) (a b : ℕ) → y ≡ pos a -ℤ pos least → z ≡ pos b -ℤ pos least → int_min y z ≡ pos (min a b) -ℤ pos least
min_step least y z a b e f = omega (arith, ints, clamps, e, f)

max_step : (least : ℕ) (y z : ℤ) (a b : ℕ) → y ≡ pos a -ℤ pos least → z ≡ pos b -ℤ pos least → int_max y z ≡ pos (max a b) -ℤ pos least
max_step least y z a b e f = omega (arith, ints, clamps, e, f)

pub folds_min : (f : PlaceOf → ℤ) (g : PlaceOf → ℕ) (least : ℕ) → StandsFor f g least → (z : ℤ) (n : ℕ) (ps : List PlaceOf)
    → AllByRecursion IsPlace ps → z ≡ pos n -ℤ pos least → n ≤ 4294967295
    → fold int_min z (map f ps) ≡ pos (min n (least_of (map g ps))) -ℤ pos least
folds_min f g least h z n [] on_earth e le =
    let q : min n 4294967295 ≡ n = omega arith in
    rw q e
folds_min f g least h z n (p ∷ ps) on_earth e le =
    let one = h p on_earth.0 in
    let step = min_step least z (f p) n (g p) e one.0 in
    let more = folds_min f g least h (int_min z (f p)) (min n (g p)) ps on_earth.1 step (omega arith) in
    let q : min (min n (g p)) (least_of (map g ps)) ≡ min n (min (g p) (least_of (map g ps))) = omega arith in
    rw (← q) more

pub folds_max : (f : PlaceOf → ℤ) (g : PlaceOf → ℕ) (least : ℕ) → StandsFor f g least → (z : ℤ) (n : ℕ) (ps : List PlaceOf)
    → AllByRecursion IsPlace ps → z ≡ pos n -ℤ pos least
    → fold int_max z (map f ps) ≡ pos (max n (greatest_of (map g ps))) -ℤ pos least
folds_max f g least h z n [] on_earth e =
    let q : max n 0 ≡ n = omega arith in
    rw q e
folds_max f g least h z n (p ∷ ps) on_earth e =
    let one = h p on_earth.0 in
    let step = max_step least z (f p) n (g p) e one.0 in
    let more = folds_max f g least h (int_max z (f p)) (max n (g p)) ps on_earth.1 step in
    let q : max (max n (g p)) (greatest_of (map g ps)) ≡ max n (max (g p) (greatest_of (map g ps))) = omega arith in
    rw (← q) more

-- none is above twice the greatest
pub least_bound : (f : PlaceOf → ℤ) (g : PlaceOf → ℕ) (least : ℕ) → StandsFor f g least → (p : PlaceOf) (ps : List PlaceOf)
    → AllByRecursion IsPlace (p ∷ ps) → least_of (map g (p ∷ ps)) ≤ 2 * least
least_bound f g least h p ps on_earth = let one = h p on_earth.0 in omega (arith, one.1)

pub greatest_bound : (f : PlaceOf → ℤ) (g : PlaceOf → ℕ) (least : ℕ) → StandsFor f g least → (ps : List PlaceOf)
    → AllByRecursion IsPlace ps → greatest_of (map g ps) ≤ 2 * least
greatest_bound f g least h [] on_earth = omega arith
greatest_bound f g least h (p ∷ ps) on_earth =
    let one = h p on_earth.0 in
    let more = greatest_bound f g least h ps on_earth.1 in
    omega (arith, one.1, more)

-- one more
pub least_next : (xs : List ℕ) (i x : ℕ) → i < length xs → x ≡ get_or xs i x → least_of (drop i xs) ≡ min x (least_of (drop (i + 1) xs))
least_next xs i x h e =
    let first : drop i xs ≡ x ∷ drop (i + 1) xs = grind (arith, common_steps) in
    rw first

pub greatest_next : (xs : List ℕ) (i x : ℕ) → i < length xs → x ≡ get_or xs i x
    → greatest_of (drop i xs) ≡ max x (greatest_of (drop (i + 1) xs))
greatest_next xs i x h e =
    let first : drop i xs ≡ x ∷ drop (i + 1) xs = grind (arith, common_steps) in
    rw first

pub place_next : (ps : List PlaceOf) (i : ℕ) (p : PlaceOf) → i < length ps → p ≡ get_or ps i p → drop i ps ≡ p ∷ drop (i + 1) ps
place_next ps i p h e = grind (arith, common_steps)

pub place_last : (ps : List PlaceOf) (i : ℕ) (p : PlaceOf) → i < length ps → p ≡ get_or ps i p → take (i + 1) ps ≡ take i ps ++ p ∷ []
place_last ps i p h e = grind (arith, common_steps)

pub least_more : (f : PlaceOf → ℕ) (ps : List PlaceOf) (at : ℕ) (lanes new block : List ℕ) → length lanes ≡ 16 → at + 16 ≤ length ps
    → least_of lanes ≡ least_of (map f (take at ps)) → block ≡ map f (chunk at 16 ps) → new ≡ zip2 min lanes block
    → (length new ≡ 16) × (least_of new ≡ least_of (map f (take (at + 16) ps)))
least_more f ps at lanes new block long room so_far e g =
    let block_long : length block ≡ 16 = rw e (length-map (chunk at 16 ps) f ∙ length-chunk at 16 ps room) in
    let same = long ∙ sym block_long in (
      rw g (length-zip2 min lanes block same ∙ long),
      rw (
        g,
        least_zip2 lanes block same,
        so_far,
        e,
        take-add at 16 ps,
        map-append f (take at ps) (chunk at 16 ps),
        least-append (map f (take at ps)) (map f (chunk at 16 ps)),
      ),
    )

pub greatest_more : (f : PlaceOf → ℕ) (ps : List PlaceOf) (at : ℕ) (lanes new block : List ℕ) → length lanes ≡ 16 → at + 16 ≤ length ps
    → greatest_of lanes ≡ greatest_of (map f (take at ps)) → block ≡ map f (chunk at 16 ps) → new ≡ zip2 max lanes block
    → (length new ≡ 16) × (greatest_of new ≡ greatest_of (map f (take (at + 16) ps)))
greatest_more f ps at lanes new block long room so_far e g =
    let block_long : length block ≡ 16 = rw e (length-map (chunk at 16 ps) f ∙ length-chunk at 16 ps room) in
    let same = long ∙ sym block_long in (
      rw g (length-zip2 max lanes block same ∙ long),
      rw (
        g,
        greatest_zip2 lanes block same,
        so_far,
        e,
        take-add at 16 ps,
        map-append f (take at ps) (chunk at 16 ps),
        greatest-append (map f (take at ps)) (map f (chunk at 16 ps)),
      ),
    )

pub least_end : (f : PlaceOf → ℕ) (ps : List PlaceOf) (at low end : ℕ) (rest : List PlaceOf) → rest ≡ drop at ps
    → low ≡ least_of (map f (take at ps)) → end ≡ min low (least_of (map f rest)) → end ≡ least_of (map f ps)
least_end f ps at low end rest e g h =
    h ∙ (rw (
      e,
      g,
      ← least-append (map f (take at ps)) (map f (drop at ps)),
      ← map-append f (take at ps) (drop at ps),
      take-append-drop at ps,
    ))

pub greatest_end : (f : PlaceOf → ℕ) (ps : List PlaceOf) (at low end : ℕ) (rest : List PlaceOf) → rest ≡ drop at ps
    → low ≡ greatest_of (map f (take at ps)) → end ≡ max low (greatest_of (map f rest)) → end ≡ greatest_of (map f ps)
greatest_end f ps at low end rest e g h =
    h ∙ (rw (
      e,
      g,
      ← greatest-append (map f (take at ps)) (map f (drop at ps)),
      ← map-append f (take at ps) (drop at ps),
      take-append-drop at ps,
    ))
