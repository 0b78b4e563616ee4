-- The text of the boundary table, read.
use Rattle.std.proofs.Common.{◌≡◌, ◌≤◌, ℕ, zero, suc, ◌+◌, ◌^◌, List, [], ◌∷◌, length, refl, sym, ap, subst, ◌∙◌, arith}
use Rattle.std.specs.Prelude.{codes, min}
use Rattle.std.proofs.Math.Nat.{one-le-pow}
use Rattle.opl_lines.specs.Lines.{lines_of}
use Rattle.tile_cover.specs.Boundaries.{Breaks, HasItsLine, IsBadLine, IsTableOf, TooMany, WrongCount, lats_of}
use Rattle.tile_cover.specs.Table.{BoundsOf}
use Rattle.tile_cover.specs.declared.fault.BoundsFault.{BoundsFault}
use Rattle.tile_cover.specs.declared.fault.BoundsFault.TheVariants.{Bad}
use Rattle.demo_map.specs.Style.{DEMO_BOUNDS, demo_bounds}

abbrev five_lines : List (List ℕ)
five_lines = codes "850511288" ∷ codes "665132604" ∷ codes "0" ∷ codes "-665132604" ∷ codes "-850511288" ∷ []

lines_of-DEMO_BOUNDS : lines_of DEMO_BOUNDS ≡ five_lines
unfolding lines_of DEMO_BOUNDS
lines_of-DEMO_BOUNDS = refl

lats_of-five : lats_of five_lines ≡ demo_bounds.lats
lats_of-five = refl

no_bad_line : (line : ℕ) → IsBadLine five_lines line → ⊥
no_bad_line line (Breaks short is) =
    let all : length (lats_of five_lines) ≡ 5 = refl in
    let most : min (length five_lines) 65537 ≡ 5 = refl in
    omega (arith, short, all, most)
no_bad_line line (TooMany there more is) =
    let all : length five_lines ≡ 5 = refl in
    omega (arith, more, all)
no_bad_line line (WrongCount good few none is) = none 2 (omega arith) refl

zoom_is : (zoom : ℕ) → 5 ≡ 2 ^ zoom + 1 → zoom ≡ 2
zoom_is zero same = omega (arith, same)
zoom_is (suc zero) same = omega (arith, same)
zoom_is (suc (suc zero)) same = refl
zoom_is (suc (suc (suc more))) same =
    let some : 1 ≤ 2 ^ more = one-le-pow more 2 (omega arith) in
    omega (arith, same, some)

lines_are : (text : List ℕ) → text ≡ DEMO_BOUNDS → lines_of text ≡ five_lines
lines_are text same = ap lines_of same ∙ lines_of-DEMO_BOUNDS

pub never_bad : (text : List ℕ) (fault : BoundsFault) (line : ℕ) → text ≡ DEMO_BOUNDS → fault ≡ Bad line → HasItsLine (lines_of text) fault
    → ⊥
never_bad text fault line same is bad =
    no_bad_line line (subst (λ lines. IsBadLine lines line) (lines_are text same) (subst (λ own. HasItsLine (lines_of text) own) is bad))

pub read_is : (text : List ℕ) (table : BoundsOf) → text ≡ DEMO_BOUNDS → IsTableOf (lines_of text) table.zoom
    → table.lats ≡ lats_of (lines_of text) → table ≡ demo_bounds
read_is text table same good lats =
    let count : 5 ≡ 2 ^ table.zoom + 1 = sym (ap (λ lines. length lines) (lines_are text same)) ∙ good.whole in
    let two : table.zoom ≡ 2 = zoom_is table.zoom count in
    let own : table.lats ≡ demo_bounds.lats = lats ∙ ap lats_of (lines_are text same) ∙ lats_of-five in
    λ i. record { zoom = two i; lats = own i }
