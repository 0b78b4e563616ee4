-- Numbers that rise, and all numbers below one that pass a test.
use Rattle.std.proofs.Common.{◌≡◌, ℕ, suc, zero, ◌+◌, ◌-◌, ◌*◌, ◌/◌, ◌%◌, ◌^◌, ◌<◌, ◌≤◌, ◌==◌, append_assoc, rules, Bool, true, false, ◌&&◌}
use Rattle.std.proofs.Common.{◌||◌, cond, List, [], ◌∷◌, ◌++◌, refl, sym, ap, subst, ◌∙◌, nat_eq, nat_le, nat_lt, arith}
use mathlib.Core.Bool.{false≢true}
use Rattle.std.specs.declared.cmp.Ordering.TheVariants.{Less}
use Rattle.std.specs.Ordering.{nat_cmp}
use Rattle.std.specs.List.{AllByRecursion, filter, range_with_len}
use Rattle.std.specs.List.Sorted.{IsStrictlySortedBy}
use Rattle.std.specs.Prelude.{flat_map}
use Rattle.std.specs.Cmp.{both_ways}
use Rattle.std.proofs.Math.Nat.{div-lt_iff_lt-mul}
use Rattle.std.proofs.lemmas.Bool.Decides.{nat_tests}
use Rattle.std.proofs.lemmas.List.Folds.{list_any-append}
use Rattle.std.proofs.lemmas.Nat.{div-add-mod', div-mul-add, mod-mul-add, pow-add}
use Rattle.tile_cover.specs.declared.runs.Run.{Run}
use Rattle.tile_cover.specs.Runs.{IsRun}
use Rattle.due_tiles.specs.TileText.{is_above, is_listed, line_of, zoom_text, zooms_text}
use Rattle.std.proofs.lemmas.List.Kept.{IsStrictlySortedBy-filter}
use Rattle.osm_base.specs.values.Ids.{IsRising, has}
use Rattle.object_fold.proofs.SortedIds.{same_rising}

less_of : (one other : ℕ) → one < other → nat_cmp one other ≡ Less
less_of one other less = grind (arith, nat_tests)

above : (one from count : ℕ) → one < from → AllByRecursion (λ other. nat_cmp one other ≡ Less) (range_with_len from count)
above one from zero less = tt
above one from (suc count) less = (less_of one from less, above one (from + 1) count (omega arith))

range-rise : (from count : ℕ) → IsRising (range_with_len from count)
unfolding IsStrictlySortedBy
range-rise from zero = tt
range-rise from (suc count) = (above from (from + 1) count (omega arith), range-rise (from + 1) count)

within : (from count number : ℕ) → (nat_eq from number || (nat_le (from + 1) number && nat_lt number ((from + 1) + count)))
    ≡ (nat_le from number && nat_lt number (from + suc count))
within from count number = grind (arith, nat_tests)

has-range : (from count number : ℕ) → has (range_with_len from count) number ≡ (nat_le from number && nat_lt number (from + count))
has-range from zero number = grind (arith, nat_tests)
has-range from (suc count) number = ap (λ b. nat_eq from number || b) (has-range (from + 1) count number) ∙ within from count number

same_number : (one other : ℕ) → nat_eq one other ≡ true → one ≡ other
same_number one other same = grind (arith, nat_tests)

has-filter : (test : ℕ → Bool) (numbers : List ℕ) (number : ℕ) → has (filter test numbers) number ≡ (test number && has numbers number)
has-filter test [] number = elim (test number) as (λ b. false ≡ (b && false)) [ true ↦ refl | false ↦ refl ]
has-filter test (first ∷ numbers) number =
    elim (test first) as (λ b. test first ≡ b
    → has (cond b (first ∷ filter test numbers) (filter test numbers)) number
    ≡ (test number && (nat_eq first number || has numbers number))) [
      | true ↦ λ passes. ap (λ b. nat_eq first number || b) (has-filter test numbers number) ∙ passing (nat_eq first number) passes refl
      | false ↦ λ fails. has-filter test numbers number ∙ failing (nat_eq first number) fails refl
    ] refl
  where
    passing : (same : Bool) → test first ≡ true → nat_eq first number ≡ same
        → (same || (test number && has numbers number)) ≡ (test number && (same || has numbers number))
    passing true passes same = sym (ap (λ b. b && true) (ap test (sym (same_number first number same)) ∙ passes))
    passing false passes differs = refl

    failing : (same : Bool) → test first ≡ false → nat_eq first number ≡ same
        → (test number && has numbers number) ≡ (test number && (same || has numbers number))
    failing true fails same = ap (λ b. b && has numbers number) (ap test (sym (same_number first number same)) ∙ fails)
        ∙ sym (ap (λ b. b && true) (ap test (sym (same_number first number same)) ∙ fails))
    failing false fails differs = refl

-- the rising numbers that pass a test, all of them below a bound, are those that are left of all numbers
pub all_passing : (test : ℕ → Bool) (bound : ℕ) (numbers : List ℕ) → IsRising numbers → ((number : ℕ) → has numbers number ≡ test number)
    → ((number : ℕ) → test number ≡ true → number < bound)
    → numbers ≡ filter test (range_with_len 0 bound)
all_passing test bound numbers rise are below =
    same_rising numbers (filter test (range_with_len 0 bound)) rise
    (IsStrictlySortedBy-filter nat_cmp test (range_with_len 0 bound) (range-rise 0 bound))
    (λ number. are number ∙ chosen number (test number) refl ∙ sym (has-filter test (range_with_len 0 bound) number))
  where
    there : (number : ℕ) → number < bound → has (range_with_len 0 bound) number ≡ true
    there number less = has-range 0 bound number ∙ tests number less
      where
        tests : (number : ℕ) → number < bound → (nat_le 0 number && nat_lt number (0 + bound)) ≡ true
        tests number less = grind (arith, nat_tests)

    chosen : (number : ℕ) (is : Bool) → test number ≡ is → is ≡ (is && has (range_with_len 0 bound) number)
    chosen number true is = sym (there number (below number is))
    chosen number false is = refl

-- the number of a tile tells its column and its row
number_is : (x side y number : ℕ) → y < side → nat_eq (x * side + y) number ≡ (nat_eq y (number % side) && nat_eq (number / side) x)
number_is x side y number within = both_ways (nat_eq (x * side + y) number) (nat_eq y (number % side) && nat_eq (number / side) x)
    (λ same. forth (same_number (x * side + y) number same))
    (λ both. back (both_true (nat_eq y (number % side)) (nat_eq (number / side) x) both))
  where
    equal : (one other : ℕ) → one ≡ other → nat_eq one other ≡ true
    equal one other same = grind (arith, nat_tests)

    both_true : (a b : Bool) → (a && b) ≡ true → (a ≡ true) × (b ≡ true)
    both_true true b e = (refl, e)
    both_true false b e = absurd (false≢true e)

    forth : x * side + y ≡ number → (nat_eq y (number % side) && nat_eq (number / side) x) ≡ true
    forth is =
        let row : y ≡ number % side = sym (mod-mul-add x side y within) ∙ ap (λ n. n % side) is in
        let column : number / side ≡ x = ap (λ n. n / side) (sym is) ∙ div-mul-add x side y within in
        (λ i. equal y (number % side) row i && equal (number / side) x column i)

    back : (nat_eq y (number % side) ≡ true) × (nat_eq (number / side) x ≡ true) → nat_eq (x * side + y) number ≡ true
    back is =
        let row : y ≡ number % side = same_number y (number % side) is.0 in
        let column : number / side ≡ x = same_number (number / side) x is.1 in
        equal (x * side + y) number ((λ i. sym column i * side + row i) ∙ div-add-mod' number side)

columns_more : (a start : Bool) (first q x : ℕ) → first ≤ x
    → (((a && (nat_le first q && nat_lt q x)) || start) || ((a && nat_eq q x) || false))
    ≡ ((a && (nat_le first q && nat_lt q (x + 1))) || start)
columns_more false true first q x after = refl
columns_more false false first q x after = refl
columns_more true true first q x after = grind (arith, nat_tests)
columns_more true false first q x after = grind (arith, nat_tests)

-- one column more of a row
pub row_more : (numbers new start : List ℕ) (side y first x number : ℕ) → y < side → first ≤ x → new ≡ numbers ++ (x * side + y) ∷ []
    → has numbers number ≡ ((nat_eq y (number % side) && (nat_le first (number / side) && nat_lt (number / side) x)) || has start number)
    → has new number ≡ ((nat_eq y (number % side) && (nat_le first (number / side) && nat_lt (number / side) (x + 1))) || has start number)
row_more numbers new start side y first x number within after pushed before =
    ap (λ own. has own number) pushed
    ∙ list_any-append (λ other. nat_eq other number) numbers ((x * side + y) ∷ [])
    ∙ (λ i. before i || (number_is x side y number within i || false))
    ∙ columns_more (nat_eq y (number % side)) (has start number) first (number / side) x after

-- a row or a column, seen from a zoom that is not deeper
pub lifted_below : (deeper zoom n : ℕ) → zoom ≤ deeper → n < 2 ^ deeper → n / 2 ^ (deeper - zoom) < 2 ^ zoom
lifted_below deeper zoom n above below =
    (div-lt_iff_lt-mul {k = 2 ^ (deeper - zoom)} {x = n} {y = 2 ^ zoom} (pow-pos (deeper - zoom))).1
    (subst (λ own. n < own) (ap (λ own. 2 ^ own) (parts deeper zoom above) ∙ pow-add 2 zoom (deeper - zoom)) below)
  where
    parts : (deeper zoom : ℕ) → zoom ≤ deeper → deeper ≡ zoom + (deeper - zoom)
    parts deeper zoom above = omega arith

    pow-pos : (n : ℕ) → 0 < 2 ^ n
    pow-pos n = search (rules, arith)

above_below : (zoom x y : ℕ) (run : Run) → IsRun run → is_above zoom x y run ≡ true → x < 2 ^ zoom
above_below zoom x y run is above =
    let zooms = first_true (nat_le zoom run.zoom)
    (((run.y / 2 ^ (run.zoom - zoom)) == y) &&
    (nat_le (run.first / 2 ^ (run.zoom - zoom)) x && nat_le x (run.last / 2 ^ (run.zoom - zoom)))) above in
    let rest = first_true ((run.y / 2 ^ (run.zoom - zoom)) == y)
    (nat_le (run.first / 2 ^ (run.zoom - zoom)) x && nat_le x (run.last / 2 ^ (run.zoom - zoom))) zooms.1 in
    let columns = first_true (nat_le (run.first / 2 ^ (run.zoom - zoom)) x) (nat_le x (run.last / 2 ^ (run.zoom - zoom))) rest.1 in
    let lifted : run.last / 2 ^ (run.zoom - zoom) < 2 ^ zoom =
    lifted_below run.zoom zoom run.last (at_most zoom run.zoom zooms.0) is.column in
    let most : x ≤ run.last / 2 ^ (run.zoom - zoom) = at_most x (run.last / 2 ^ (run.zoom - zoom)) columns.1 in
    omega (arith, lifted, most)
  where
    first_true : (a b : Bool) → (a && b) ≡ true → (a ≡ true) × (b ≡ true)
    first_true true b e = (refl, e)
    first_true false b e = absurd (false≢true e)

    at_most : (a b : ℕ) → nat_le a b ≡ true → a ≤ b
    at_most a b e = grind (arith, nat_tests)

pub listed_below : (runs : List Run) (zoom number : ℕ) → AllByRecursion IsRun runs → is_listed runs zoom number ≡ true
    → number < 2 ^ zoom * 2 ^ zoom
listed_below [] zoom number all listed = absurd (false≢true listed)
listed_below (run ∷ runs) zoom number all listed =
    elim (is_above zoom (number / 2 ^ zoom) (number % 2 ^ zoom) run) as
    (λ b. is_above zoom (number / 2 ^ zoom) (number % 2 ^ zoom) run ≡ b → (b || is_listed runs zoom number) ≡ true
    → number < 2 ^ zoom * 2 ^ zoom) [
      | true ↦ λ above _. (div-lt_iff_lt-mul {k = 2 ^ zoom} {x = number} {y = 2 ^ zoom} (pow-pos zoom)).0
          (above_below zoom (number / 2 ^ zoom) (number % 2 ^ zoom) run all.0 above)
      | false ↦ λ _ later. listed_below runs zoom number all.1 later
    ] refl listed
  where
    pow-pos : (n : ℕ) → 0 < 2 ^ n
    pow-pos n = search (rules, arith)

pub zooms-step : (runs : List Run) (zoom : ℕ) → zoom < 17
    → zooms_text runs zoom (17 - zoom) ≡ zoom_text runs zoom ++ zooms_text runs (zoom + 1) (17 - (zoom + 1))
zooms-step runs zoom within = ap (zooms_text runs zoom) (left zoom within)
  where
    left : (zoom : ℕ) → zoom < 17 → 17 - zoom ≡ suc (17 - (zoom + 1))
    left zoom within = omega arith

pub text_step : (text zoom_lines rest new all : List ℕ) → new ≡ text ++ zoom_lines → text ++ (zoom_lines ++ rest) ≡ all → new ++ rest ≡ all
text_step text zoom_lines rest new all pushed is = ap (λ own. own ++ rest) pushed ∙ append_assoc text zoom_lines rest ∙ is

pub lines_of_zoom : (runs : List Run) (zoom : ℕ) (numbers slice : List ℕ) → AllByRecursion IsRun runs → slice ≡ numbers → IsRising numbers
    → ((number : ℕ) → has numbers number ≡ is_listed runs zoom number)
    → flat_map (line_of zoom) slice ≡ zoom_text runs zoom
unfolding zoom_text
lines_of_zoom runs zoom numbers slice all same rise listed =
    ap (flat_map (line_of zoom)) (same ∙ all_passing (is_listed runs zoom) (2 ^ zoom * 2 ^ zoom) numbers rise listed
    (λ number is. listed_below runs zoom number all is))
