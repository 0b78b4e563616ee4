-- Two sets of tiles, taken run by run in the order of their beginnings.
use Rattle.std.proofs.Common.{◌≡◌, ℕ, ◌+◌, ◌<◌, ◌≤◌, Bool, true, false, ◌||◌, inl, inr, List, [], ◌∷◌, nat_le, length, refl, sym, ap, subst}
use Rattle.std.proofs.Common.{◌∙◌, arith}
use Rattle.std.proofs.lemmas.Bool.Decides.{nat_tests}
use Rattle.std.specs.List.{AllByRecursion}
use Rattle.tile_cover.specs.declared.runs.Run.{Run}
use Rattle.tile_cover.specs.Runs.{IsRun, IsTileSet, Follows, BeginsLater, Adds, start_of, holds, has}
use Rattle.due_tiles.specs.Joining.{BeginsBefore, IsFirst, IsTaken}

pub each : {P Q : Run → Type 0} (runs : List Run) → ((run : Run) → P run → Q run) → AllByRecursion P runs → AllByRecursion Q runs
each [] f all = tt
each (run ∷ runs) f all = (f run all.0, each runs f all.1)

each_two : {P Q R : Run → Type 0} (runs : List Run) → ((run : Run) → P run → Q run → R run) → AllByRecursion P runs → AllByRecursion Q runs
    → AllByRecursion R runs
each_two [] f all others = tt
each_two (run ∷ runs) f all others = (f run all.0 others.0, each_two runs f all.1 others.1)

follows_later : (run other : Run) → IsRun run → Follows run other → start_of run ≤ start_of other
follows_later run other is follows = let ordered = is.ordered in omega (arith, follows)

pub rest_set : (run : Run) (runs : List Run) → IsTileSet (run ∷ runs) → IsTileSet runs
rest_set run runs set = record { each = set.each.1; apart = set.apart.1 }

pub first_before : (run : Run) (runs : List Run) → IsTileSet (run ∷ runs) → BeginsBefore run runs
first_before run runs set = each runs (λ other follows. follows_later run other set.each.0 follows) set.apart.0

-- what begins before a run begins before those behind it
pub before_all : (run other : Run) (runs : List Run) → start_of run ≤ start_of other → IsTileSet (other ∷ runs)
    → BeginsBefore run (other ∷ runs)
before_all run other runs before set = (before, each runs (λ own later. omega (arith, before, later)) (first_before other runs set))

-- of two sets these are left, and the others stand together in a third one
pub record IsMerged (left right left_rest right_rest set : List Run) : Type 0 where
  pub tiles : (zoom x y : ℕ) → ((has set zoom x y || has left_rest zoom x y) || has right_rest zoom x y)
      ≡ (has left zoom x y || has right zoom x y)
  pub later_left : AllByRecursion (λ run. BeginsLater set run) left_rest
  pub later_right : AllByRecursion (λ run. BeginsLater set run) right_rest
  pub left_set : IsTileSet left_rest
  pub right_set : IsTileSet right_rest

pub all_later : (runs : List Run) → AllByRecursion (λ run. BeginsLater [] run) runs
all_later [] = tt
all_later (run ∷ runs) = (tt, all_later runs)

pub merged_none : (left right set : List Run) → IsTileSet left → IsTileSet right → set ≡ [] → IsMerged left right left right set
merged_none left right set left_set right_set none =
    subst (λ own. IsMerged left right left right own) (sym none)
    (record {
      tiles = λ zoom x y. refl;
      later_left = all_later left;
      later_right = all_later right;
      left_set = left_set;
      right_set =
          right_set;
    })

pub merged_all : (left right left_rest right_rest set : List Run) → IsMerged left right left_rest right_rest set → length left_rest ≤ 0
    → length right_rest ≤ 0
    → (zoom x y : ℕ) → has set zoom x y ≡ (has left zoom x y || has right zoom x y)
merged_all left right [] [] set merged none nothing zoom x y = sym (or-none (has set zoom x y)) ∙ merged.tiles zoom x y
  where
    or-none : (b : Bool) → ((b || false) || false) ≡ b
    or-none true = refl
    or-none false = refl
merged_all left right (run ∷ left_rest) right_rest set merged none nothing zoom x y = absurd (omega (arith, none))
merged_all left right [] (run ∷ right_rest) set merged none nothing zoom x y = absurd (omega (arith, nothing))

from_left-tiles : (s h l r : Bool) → (((s || h) || l) || r) ≡ ((s || (h || l)) || r)
from_left-tiles true h l r = refl
from_left-tiles false h l r = refl

from_right-tiles : (s h l r : Bool) → (((s || h) || l) || r) ≡ ((s || l) || (h || r))
from_right-tiles true h l r = refl
from_right-tiles false true true r = refl
from_right-tiles false true false r = refl
from_right-tiles false false l r = refl

from_left : (left right rest kept set new : List Run) (run : Run) → IsMerged left right (run ∷ rest) kept set → BeginsBefore run kept
    → Adds set new run → IsMerged left right rest kept new
from_left left right rest kept set new run merged before adds = record {
  tiles = λ zoom x y.
      ap (λ b. (b || has rest zoom x y) || has kept zoom x y) (adds.tiles zoom x y)
      ∙ from_left-tiles (has set zoom x y) (holds zoom x y run) (has rest zoom x y) (has kept zoom x y)
      ∙ merged.tiles zoom x y;
  later_left = each_two rest (λ next later begins. adds.later next later begins) merged.later_left.1
      (first_before run rest merged.left_set);
  later_right = each_two kept (λ next later begins. adds.later next later begins) merged.later_right before;
  left_set = rest_set run rest merged.left_set;
  right_set = merged.right_set;
}

from_right : (left right rest kept set new : List Run) (run : Run) → IsMerged left right kept (run ∷ rest) set → BeginsBefore run kept
    → Adds set new run → IsMerged left right kept rest new
from_right left right rest kept set new run merged before adds = record {
  tiles = λ zoom x y.
      ap (λ b. (b || has kept zoom x y) || has rest zoom x y) (adds.tiles zoom x y)
      ∙ from_right-tiles (has set zoom x y) (holds zoom x y run) (has kept zoom x y) (has rest zoom x y)
      ∙ merged.tiles zoom x y;
  later_left = each_two kept (λ next later begins. adds.later next later begins) merged.later_left before;
  later_right = each_two rest (λ next later begins. adds.later next later begins) merged.later_right.1
      (first_before run rest merged.right_set);
  left_set = merged.left_set;
  right_set = rest_set run rest merged.right_set;
}

module _ (left right left_rest right_rest set : List Run) (run : Run) (left_behind right_behind : List Run)
    (merged : IsMerged left right left_rest right_rest set) where
  by_left : IsFirst left_rest left_behind right_rest right_behind run → IsMerged left right (run ∷ left_behind) right_rest set
  by_left first = subst (λ own. IsMerged left right own right_rest set) first.parts merged

  by_right : IsFirst right_rest right_behind left_rest left_behind run → IsMerged left right left_rest (run ∷ right_behind) set
  by_right first = subst (λ own. IsMerged left right left_rest own set) first.parts merged

  pub merged_step : (new : List Run) → IsTaken left_rest right_rest run left_behind right_behind → Adds set new run
      → IsMerged left right left_behind right_behind new
  merged_step new taken adds = elim taken as (λ _. IsMerged left right left_behind right_behind new) [
    | inl first ↦ subst (λ own. IsMerged left right left_behind own new) (sym first.same)
        (from_left left right left_behind right_rest set new run (by_left first) first.before adds)
    | inr first ↦ subst (λ own. IsMerged left right own right_behind new) (sym first.same)
        (from_right left right right_behind left_rest set new run (by_right first) first.before adds)
  ]

  pub taken_run : IsTaken left_rest right_rest run left_behind right_behind → IsRun run
  taken_run taken = elim taken as (λ _. IsRun run) [
    | inl first ↦ (by_left first).left_set.each.0
    | inr first ↦ (by_right first).right_set.each.0
  ]

  pub taken_later : IsTaken left_rest right_rest run left_behind right_behind → BeginsLater set run
  taken_later taken = elim taken as (λ _. BeginsLater set run) [
    | inl first ↦ (by_left first).later_left.0
    | inr first ↦ (by_right first).later_right.0
  ]

pub taken_less : (left right : List Run) (run : Run) (left_rest right_rest : List Run) → IsTaken left right run left_rest right_rest
    → length left_rest + length right_rest < length left + length right
taken_less left right run left_rest right_rest taken =
    elim taken as (λ _. length left_rest + length right_rest < length left + length right) [
      | inl first ↦ let shorter = ap length first.parts in let same = ap length first.same in omega arith
      | inr first ↦ let shorter = ap length first.parts in let same = ap length first.same in omega arith
    ]

pub before_true : (run other : Run) → true ≡ nat_le (start_of run) (start_of other) → start_of run ≤ start_of other
before_true run other e = number_true (start_of run) (start_of other) e
  where
    number_true : (a b : ℕ) → true ≡ nat_le a b → a ≤ b
    number_true a b e = grind (arith, nat_tests)

pub before_false : (run other : Run) → false ≡ nat_le (start_of run) (start_of other) → start_of other ≤ start_of run
before_false run other e = number_false (start_of run) (start_of other) e
  where
    number_false : (a b : ℕ) → false ≡ nat_le a b → b ≤ a
    number_false a b e = grind (arith, nat_tests)
