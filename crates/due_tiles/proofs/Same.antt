-- A set of tiles has one list of runs.
use Rattle.std.proofs.Common.{◌≡◌, ℕ, ◌+◌, ◌*◌, ◌<◌, ◌≤◌, ◌^◌, ◌==◌, nat_le, zero, suc, length, take, refl, sym, ap, subst, arith, Bool}
use Rattle.std.proofs.Common.{true, false, ◌&&◌, ◌||◌, ◌⊎◌, inl, inr, List, [], ◌∷◌, ◌∙◌}
use Rattle.std.specs.List.{AllByRecursion}
use Rattle.std.proofs.Math.Nat.{pow-le-pow_right}
use Rattle.std.proofs.lemmas.Bool.Decides.{nat_tests}
use Rattle.tile_cover.specs.declared.runs.Run.{Run}
use Rattle.tile_cover.specs.Runs.{IsRun, IsTileSet, start_of, end_of, holds, has}
use Rattle.due_tiles.proofs.Merging.{each, rest_set}

-- the number of a tile, counted as the columns of runs are
abbrev pub place : ℕ → ℕ → ℕ → ℕ
place zoom x y = (zoom * 65536 + y) * 131072 + x

-- a run stands behind a tile or before it
abbrev Misses : ℕ → Run → Type 0
Misses tile run = (tile < start_of run) ⊎ (end_of run < tile)

three_true : (p q r t : Bool) → (p && (q && (r && t))) ≡ true → (p ≡ true) × (q ≡ true) × (r ≡ true) × (t ≡ true)
three_true true true true true e = (refl, refl, refl, refl)
three_true true true true false e = absurd (cc)
three_true true true false t e = absurd (cc)
three_true true false r t e = absurd (cc)
three_true false q r t e = absurd (cc)

same_number : (m n : ℕ) → (m == n) ≡ true → m ≡ n
same_number m n e = grind (arith, nat_tests)

up_to : (m n : ℕ) → nat_le m n ≡ true → m ≤ n
up_to m n e = grind (arith, nat_tests)

-- a run that has a tile neither begins behind it nor ends before it, and one that does has none
pub record Reaches (zoom x y : ℕ) (run : Run) : Type 0 where
  pub same_zoom : run.zoom ≡ zoom
  pub same_row : run.y ≡ y
  pub begun : run.first ≤ x
  pub ended : x ≤ run.last

pub reaches : (zoom x y : ℕ) (run : Run) → holds zoom x y run ≡ true → Reaches zoom x y run
reaches zoom x y run e =
    let parts = three_true (run.zoom == zoom) (run.y == y) (nat_le run.first x) (nat_le x run.last) e in
    record { same_zoom = same_number _ _ parts.0; same_row = same_number _ _ parts.1; begun = up_to _ _ parts.2; ended = up_to _ _ parts.3 }

not_test : (p : Bool) → (p ≡ true → ⊥) → p ≡ false
not_test true f = absurd (f refl)
not_test false f = refl

missed : (zoom x y : ℕ) (run : Run) → Misses (place zoom x y) run → holds zoom x y run ≡ false
missed zoom x y run e = not_test _ (λ f. apart (reaches zoom x y run f) e)
  where
    apart : Reaches zoom x y run → Misses (place zoom x y) run → ⊥
    apart f (inl g) = let a = f.same_zoom in let b = f.same_row in let c = f.begun in omega (arith, a, b, c, g)
    apart f (inr g) = let a = f.same_zoom in let b = f.same_row in let c = f.ended in omega (arith, a, b, c, g)

pub all_missed : (zoom x y : ℕ) (runs : List Run) → AllByRecursion (Misses (place zoom x y)) runs → has runs zoom x y ≡ false
all_missed zoom x y [] e = refl
all_missed zoom x y (run ∷ runs) e = rw (missed zoom x y run e.0, all_missed zoom x y runs e.1) refl

-- a run has the tiles of its columns
holds_own : (zoom x y : ℕ) (run : Run) → run.zoom ≡ zoom → run.y ≡ y → run.first ≤ x → x ≤ run.last → holds zoom x y run ≡ true
holds_own zoom x y run e f g h = grind (arith, nat_tests)

pub has_own : (zoom x y : ℕ) (run : Run) (runs : List Run) → run.zoom ≡ zoom → run.y ≡ y → run.first ≤ x → x ≤ run.last
    → has (run ∷ runs) zoom x y ≡ true
has_own zoom x y run runs e f g h = rw (holds_own zoom x y run e f g h) refl

-- the first of two sets with the same tiles
abbrev SameTiles : List Run → List Run → Type 0
SameTiles left right = (zoom x y : ℕ) → has left zoom x y ≡ has right zoom x y

not_earlier : (run other : Run) (runs others : List Run) → IsTileSet (run ∷ runs) → IsTileSet (other ∷ others)
    → SameTiles (run ∷ runs) (other ∷ others)
    → start_of run < start_of other → ⊥
not_earlier run other runs others set other_set same earlier =
    let ordered = set.each.0.ordered in
    let other_ordered = other_set.each.0.ordered in
    let here = has_own run.zoom run.first run.y run runs refl refl (omega arith) ordered in
    let none = all_missed run.zoom run.first run.y (other ∷ others)
    (inl earlier, each others (λ later follows. inl (omega (arith, earlier, follows, other_ordered))) other_set.apart.0) in
    let both : true ≡ false = sym here ∙ same run.zoom run.first run.y ∙ none in
    cc

not_longer : (run other : Run) (runs others : List Run) → IsTileSet (run ∷ runs) → IsTileSet (other ∷ others)
    → SameTiles (run ∷ runs) (other ∷ others)
    → run.zoom ≡ other.zoom → run.y ≡ other.y → run.first ≡ other.first → run.last < other.last → ⊥
not_longer run other runs others set other_set same zoom row first longer =
    let ordered = set.each.0.ordered in
    let here = has_own run.zoom (run.last + 1) run.y other others (sym zoom) (sym row) (omega (arith, first, ordered))
    (omega (arith, longer)) in
    let none = all_missed run.zoom (run.last + 1) run.y (run ∷ runs)
    (inr (omega arith), each runs (λ later follows. inl (omega (arith, follows))) set.apart.0) in
    let both : true ≡ false = sym here ∙ sym (same run.zoom (run.last + 1) run.y) ∙ none in
    cc

-- a number of a column tells zoom, row and column
parts_of : (a b c d e f : ℕ) → c < 65536 → d < 65536 → e < 131072 → f < 131072 → (a * 65536 + c) * 131072 + e ≡ (b * 65536 + d) * 131072 + f
    → (a ≡ b) × (c ≡ d) × (e ≡ f)
parts_of a b c d e f h i j k same =
    let rows : a * 65536 + c ≡ b * 65536 + d = omega (arith, j, k, same) in
    let zooms : a ≡ b = omega (arith, h, i, rows) in
    (zooms, omega (arith, rows, zooms), omega (arith, rows, same))

record Fits (run : Run) : Type 0 where
  row : run.y < 65536
  first : run.first < 131072

fits : (run : Run) → IsRun run → Fits run
fits run this =
    let bound : 2 ^ run.zoom ≤ 2 ^ 16 = pow-le-pow_right {n = 2} (omega arith) this.shallow in
    let row = this.row in
    let ordered = this.ordered in
    let column = this.column in
    record { row = omega (arith, bound, row); first = omega (arith, bound, ordered, column) }

level : (m n : ℕ) → (m < n → ⊥) → (n < m → ⊥) → m ≡ n
level m n e f = omega (arith, e, f)

same_run : (run other : Run) → run.zoom ≡ other.zoom → run.y ≡ other.y → run.first ≡ other.first → run.last ≡ other.last → run ≡ other
same_run run other zoom row first last =
    rebuilt run.zoom other.zoom run.y other.y run.first other.first run.last other.last zoom row first last
  where
    rebuilt : (a b c d e f g h : ℕ) → a ≡ b → c ≡ d → e ≡ f → g ≡ h
        → ◌≡◌ {A = Run} (record { zoom = a; y = c; first = e; last = g }) (record { zoom = b; y = d; first = f; last = h })
    rebuilt a b c d e f g h i j k l = rw (i, j, k, l) refl

first_same : (run other : Run) (runs others : List Run) → IsTileSet (run ∷ runs) → IsTileSet (other ∷ others)
    → SameTiles (run ∷ runs) (other ∷ others) → run ≡ other
first_same run other runs others set other_set same =
    let turned : SameTiles (other ∷ others) (run ∷ runs) = λ zoom x y. sym (same zoom x y) in
    let starts = level (start_of run) (start_of other) (not_earlier run other runs others set other_set same)
    (not_earlier other run others runs other_set set turned) in
    let one = fits run set.each.0 in
    let two = fits other other_set.each.0 in
    let parts = parts_of run.zoom other.zoom run.y other.y run.first other.first one.row two.row one.first two.first starts in
    let lasts = level run.last other.last
    (not_longer run other runs others set other_set same parts.0 parts.1 parts.2)
    (not_longer other run others runs other_set set turned (sym parts.0) (sym parts.1) (sym parts.2)) in
    same_run run other parts.0 parts.1 parts.2 lasts

-- and those behind it
behind_missed : (zoom x y : ℕ) (run : Run) (runs : List Run) → IsTileSet (run ∷ runs) → holds zoom x y run ≡ true
    → has runs zoom x y ≡ false
behind_missed zoom x y run runs set e =
    let here = reaches zoom x y run e in
    let same_zoom = here.same_zoom in
    let same_row = here.same_row in
    let ended = here.ended in
    all_missed zoom x y runs (each runs (λ later follows. inl (omega (arith, same_zoom, same_row, ended, follows))) set.apart.0)

rest_same : (run : Run) (runs others : List Run) → IsTileSet (run ∷ runs) → IsTileSet (run ∷ others) → SameTiles (run ∷ runs) (run ∷ others)
    → SameTiles runs others
rest_same run runs others set other_set same zoom x y = go (holds zoom x y run) refl (same zoom x y)
  where
    go : (here : Bool) → here ≡ holds zoom x y run → (here || has runs zoom x y) ≡ (here || has others zoom x y)
        → has runs zoom x y ≡ has others zoom x y
    go true e f = behind_missed zoom x y run runs set (sym e) ∙ sym (behind_missed zoom x y run others other_set (sym e))
    go false e f = f

pub one_list : (left right : List Run) → IsTileSet left → IsTileSet right → ((zoom x y : ℕ) → has left zoom x y ≡ has right zoom x y)
    → left ≡ right
one_list [] [] left_set right_set same = refl
one_list [] (run ∷ runs) left_set right_set same =
    let here = has_own run.zoom run.first run.y run runs refl refl (omega arith) right_set.each.0.ordered in
    let both : true ≡ false = sym here ∙ sym (same run.zoom run.first run.y) in
    absurd (cc)
one_list (run ∷ runs) [] left_set right_set same =
    let here = has_own run.zoom run.first run.y run runs refl refl (omega arith) left_set.each.0.ordered in
    let both : true ≡ false = sym here ∙ same run.zoom run.first run.y in
    absurd (cc)
one_list (run ∷ runs) (other ∷ others) left_set right_set same =
    let first : run ≡ other = first_same run other runs others left_set right_set same in
    rest (one_list runs others) first left_set right_set same
  where
    rest : (IsTileSet runs → IsTileSet others → SameTiles runs others → runs ≡ others) → run ≡ other → IsTileSet (run ∷ runs)
        → IsTileSet (other ∷ others)
        → SameTiles (run ∷ runs) (other ∷ others) → run ∷ runs ≡ other ∷ others
    rest again first left_set right_set same =
        let right : IsTileSet (run ∷ others) = rw first right_set in
        let tiles : SameTiles (run ∷ runs) (run ∷ others) = subst (λ own. SameTiles (run ∷ runs) (own ∷ others)) (sym first) same in
        let behind : runs ≡ others = again (rest_set run runs left_set) (rest_set run others right)
        (rest_same run runs others left_set right tiles) in
        rw (first, behind) refl

pub all_taken_runs : (runs : List Run) (n : ℕ) → length runs ≤ n → take n runs ≡ runs
all_taken_runs [] zero e = refl
all_taken_runs [] (suc n) e = refl
all_taken_runs (run ∷ runs) zero e = absurd (omega (arith, e))
all_taken_runs (run ∷ runs) (suc n) e = ap (λ own. run ∷ own) (all_taken_runs runs n (omega (arith, e)))
