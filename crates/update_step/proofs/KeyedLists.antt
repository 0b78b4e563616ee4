-- Lists of rows beside the keys to which they belong, and numbers of tables.
use Rattle.std.proofs.Common.{◌≡◌, ◌≢◌, ◌<◌, ℕ, zero, suc, ◌+◌, Bool, true, false, ◌||◌, List, [], ◌∷◌, ◌++◌, add-one, append_assoc, drop}
use Rattle.std.proofs.Common.{get_or, length, map, take, Option, Some, None, refl, sym, ap, subst, ◌∙◌, arith, nat_eq}
use Rattle.std.specs.Prelude.{IsTrue, if◌then◌else◌}
use Rattle.std.specs.List.{AllByRecursion, cons_option, filter_map, flat_map, fold, list_any, range_with_len}
use Rattle.std.proofs.lemmas.List.Sums.{fold_more}
use Rattle.std.specs.Option.{option_to_list}
use Rattle.std.proofs.lemmas.Bool.Decides.{nat_tests}
use Rattle.std.proofs.lemmas.List.{append-nil, take_more}
use Rattle.std.proofs.lemmas.List.Elements.{filter_map-append}
use Rattle.std.proofs.lemmas.List.Folds.{list_any-append}
use Rattle.osm_base.specs.declared.values.row.Row.{Row}
use Rattle.osm_base.specs.declared.values.row.TableRow.{TableRow}
use Rattle.osm_base.specs.values.Key.{KeyOf}
use Rattle.row_rules.proofs.TableRows.{drop_item}
use Rattle.store_maps.specs.Delta.{row_in}
use Rattle.store_maps.specs.SameRows.{same_row}
use Rattle.store_maps.proofs.RowEquality.{same_row-is}

met : (number table : ℕ) → number ≡ table → nat_eq number table ≡ true
met number table same = grind (arith, nat_tests)

apart : (number table : ℕ) → number ≢ table → nat_eq number table ≡ false
apart number table differs = grind (arith, nat_tests)

module _ (rows : List TableRow) (at table : ℕ) (own : TableRow) (below : at < length rows) (is : own ≡ get_or rows at own)
    (none : row_in (drop at rows) table ≡ row_in rows table) where
  there : row_in (drop at rows) table ≡ (if nat_eq own.table table then Some own.row else row_in (drop (at + 1) rows) table)
  there = ap (λ rest. row_in rest table) (drop_item rows at own below is)

  -- the row of the table stands there
  pub found_here : own.table ≡ table → Some own.row ≡ row_in rows table
  found_here same = sym (there ∙ ap (λ b. if b then Some own.row else row_in (drop (at + 1) rows) table) (met own.table table same)) ∙ none

  -- it stands behind it
  pub found_later : own.table ≢ table → row_in (drop (at + 1) rows) table ≡ row_in rows table
  found_later differs = sym (there ∙ ap (λ b. if b then Some own.row else row_in (drop (at + 1) rows) table)
      (apart own.table table differs)) ∙ none

-- an answer that tells whether two rows are equal is that of the test
pub told_same : (answer : Bool) (one other : Row) → (IsTrue answer → one ≡ other) × (one ≡ other → IsTrue answer)
    → answer ≡ same_row one other
told_same true one other tells = sym ((same_row-is one other).1 (tells.0 refl))
told_same false one other tells = elim (same_row one other) as (λ b. same_row one other ≡ b → false ≡ b) [
  | true ↦ λ is. tells.1 ((same_row-is one other).0 is)
  | false ↦ λ _. refl
] refl

-- what holds of all holds at a place
pub all_at : {X : Type 0} (P : X → Type 0) (xs : List X) (at : ℕ) (x default : X) → AllByRecursion P xs → at < length xs
    → x ≡ get_or xs at default → P x
all_at P [] at x default all below is = absurd (omega (arith, below))
all_at P (first ∷ xs) zero x default all below is = subst P (sym is) all.0
all_at P (first ∷ xs) (suc at) x default all below is = all_at P xs at x default all.1 (omega (arith, below)) is

got-map : {X Y : Type 0} (of : X → Y) (xs : List X) (at : ℕ) (x : X) (y : Y) → at < length xs
    → get_or (map of xs) at y ≡ of (get_or xs at x)
got-map of [] at x y below = absurd (omega (arith, below))
got-map of (first ∷ xs) zero x y below = refl
got-map of (first ∷ xs) (suc at) x y below = got-map of xs at x y (omega (arith, below))

-- the rows at a place are those of the key there
pub rows_there : {Y : Type 0} (of : KeyOf → Y) (keys : List KeyOf) (rows : List Y) (at : ℕ) (key default : KeyOf) (own : Y)
    → rows ≡ map of keys → at < length keys → key ≡ get_or keys at default → own ≡ get_or rows at own → own ≡ of key
rows_there of keys rows at key default own are below key_is own_is =
    own_is ∙ ap (λ all. get_or all at own) are ∙ got-map of keys at default own below ∙ ap of (sym key_is)

-- one more

pub fold-more : {X Y : Type 0} (of : Y → X → Y) (start : Y) (xs : List X) (at : ℕ) (x : X) → at < length xs → x ≡ get_or xs at x
    → fold of start (take (at + 1) xs) ≡ of (fold of start (take at xs)) x
fold-more of start xs at x below is = fold_more of start xs at x below ∙ ap (of (fold of start (take at xs))) (sym is)

pub flat-append : {X Y : Type 0} (of : X → List Y) (xs ys : List X) → flat_map of (xs ++ ys) ≡ flat_map of xs ++ flat_map of ys
flat-append of [] ys = refl
flat-append of (x ∷ xs) ys = ap (λ rest. of x ++ rest) (flat-append of xs ys) ∙ sym (append_assoc (of x) (flat_map of xs) (flat_map of ys))

pub flat-more : {X Y : Type 0} (of : X → List Y) (xs : List X) (at : ℕ) (x default : X) → at < length xs → x ≡ get_or xs at default
    → flat_map of (take (at + 1) xs) ≡ flat_map of (take at xs) ++ of x
flat-more of xs at x default below is =
    ap (flat_map of) (take_more xs at default below ∙ ap (λ own. take at xs ++ own ∷ []) (sym is)) ∙ flat-append of (take at xs) (x ∷ [])
    ∙ ap (λ rest. flat_map of (take at xs) ++ rest) (append-nil (of x))

map_last : {X Y : Type 0} (of : X → Y) (xs : List X) (x : X) → map of (xs ++ x ∷ []) ≡ map of xs ++ of x ∷ []
map_last of [] x = refl
map_last of (first ∷ xs) x = ap (λ rest. of first ∷ rest) (map_last of xs x)

pub map-more : {X Y : Type 0} (of : X → Y) (xs : List X) (at : ℕ) (x default : X) → at < length xs → x ≡ get_or xs at default
    → map of (take (at + 1) xs) ≡ map of (take at xs) ++ of x ∷ []
map-more of xs at x default below is =
    ap (map of) (take_more xs at default below ∙ ap (λ own. take at xs ++ own ∷ []) (sym is)) ∙ map_last of (take at xs) x

or-false : (b : Bool) → (b || false) ≡ b
or-false true = refl
or-false false = refl

pub any-more : {X : Type 0} (test : X → Bool) (xs : List X) (at : ℕ) (x default : X) → at < length xs → x ≡ get_or xs at default
    → list_any test (take (at + 1) xs) ≡ (list_any test (take at xs) || test x)
any-more test xs at x default below is =
    ap (list_any test) (take_more xs at default below ∙ ap (λ own. take at xs ++ own ∷ []) (sym is))
    ∙ list_any-append test (take at xs) (x ∷ []) ∙ ap (λ b. list_any test (take at xs) || b) (or-false (test x))

range_snoc : (a n : ℕ) → range_with_len a (suc n) ≡ range_with_len a n ++ (a + n) ∷ []
range_snoc a zero = ap (λ (k : ℕ). k ∷ []) (omega arith)
range_snoc a (suc n) = ap (λ (xs : List ℕ). a ∷ xs)
    (range_snoc (a + 1) n ∙ ap (λ (k : ℕ). range_with_len (a + 1) n ++ k ∷ []) (omega arith))

range-more : (n : ℕ) → range_with_len 0 (n + 1) ≡ range_with_len 0 n ++ n ∷ []
range-more n = rw add-one (range_snoc 0 n)
    ∙ ap (λ (k : ℕ). range_with_len 0 n ++ k ∷ []) (let zero_more : 0 + n ≡ n = omega arith in zero_more)

one_of : {X : Type 0} (found : Option X) → cons_option found [] ≡ option_to_list found
one_of None = refl
one_of (Some x) = refl

pub found-more : {X : Type 0} (h : ℕ → Option X) (n : ℕ)
    → filter_map h (range_with_len 0 (n + 1)) ≡ filter_map h (range_with_len 0 n) ++ option_to_list (h n)
found-more h n = ap (filter_map h) (range-more n) ∙ filter_map-append h (range_with_len 0 n) (n ∷ [])
    ∙ ap (λ (xs : List _). filter_map h (range_with_len 0 n) ++ xs) (one_of (h n))

pub range-any-more : (test : ℕ → Bool) (n : ℕ) → list_any test (range_with_len 0 (n + 1)) ≡ (list_any test (range_with_len 0 n) || test n)
range-any-more test n = ap (list_any test) (range-more n) ∙ list_any-append test (range_with_len 0 n) (n ∷ [])
    ∙ ap (λ b. list_any test (range_with_len 0 n) || b) (or-false (test n))

pub or-assoc : (a b c : Bool) → ((a || b) || c) ≡ (a || (b || c))
or-assoc true b c = refl
or-assoc false b c = refl
