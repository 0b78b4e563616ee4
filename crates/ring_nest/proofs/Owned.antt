-- Depths and owners, by the numbers of the rings that hold each ring.
use Rattle.std.proofs.Common.{length-append, ◌≡◌, ◌≢◌, ℕ, ◌+◌, ◌-◌, ◌<◌, ◌≤◌, ◌==◌, suc, zero, refl, sym, ap, ◌∙◌, arith, List, [], ◌∷◌}
use Rattle.std.proofs.Common.{◌++◌, length, map, take, get_or, Bool, true, false, cond, not, ◌&&◌, ◌||◌, if◌then◌else◌, nat_le, nat_lt, Option}
use Rattle.std.proofs.Common.{Some, None, zero-add, add-zero, count_by}
use Rattle.std.proofs.Math.Logic.{∥∥₁_elim}
use Rattle.std.proofs.Props.{props}
use Rattle.std.specs.List.{AllByRecursion, filter, list_any, position_from, range_with_len}
use Rattle.std.specs.List.Sorted.{IsPermutation}
use Rattle.std.proofs.lemmas.Bool.Decides.{nat_tests}
use Rattle.std.proofs.lemmas.List.{ext_get_or, get_or-map}
use Rattle.std.proofs.lemmas.List.FromFn.{get_or-map-range_with_len, length-map-range_with_len}
use Rattle.std.proofs.lemmas.List.Sorted.{IsPermutation-append, IsPermutation-trans, length_permutation, list_any-IsPermutation}
use Rattle.std.proofs.lemmas.List.Sorted.{sum_by-IsPermutation}
use Rattle.std.proofs.lemmas.List.Folds.{list_any-append}
use Rattle.std.proofs.lemmas.List.Sums.{length-filter, sum_by-cons}
use Rattle.lanes_geo.specs.Nesting.{Ring, depth, holds, owner, owns, ring_at}
use Rattle.ring_nest.specs.declared.tree.Tree.{Tree}
use Rattle.ring_nest.specs.Holders.{HoldsAll, IsLeast, few_of, holders_in, is_above, is_holder, lesser_of, numbers_of}
use Rattle.ring_nest.proofs.Held.{next_of}

-- one number more
pub range_more : (from some : ℕ) → range_with_len from (suc some) ≡ range_with_len from some ++ (from + some) ∷ []
range_more from zero = rw add-zero
range_more from (suc some) =
    let same : (from + 1) + some ≡ from + suc some = omega arith in
    rw (range_more (from + 1) some, same)

-- the rings by their numbers are the rings
pub rings_are : (rings : List Ring) → map (ring_at rings) (range_with_len 0 (length rings)) ≡ rings
rings_are rings =
    let same = length-map-range_with_len (ring_at rings) 0 (length rings) in
    ext_get_or [] (map (ring_at rings) (range_with_len 0 (length rings))) rings same
    (λ i h. get_or-map-range_with_len (ring_at rings) 0 (length rings) i i [] (omega (arith, h, same)) (zero-add i))

count_map : (f : ℕ → Ring) (p : Ring → Bool) (numbers : List ℕ) → count_by (λ number. p (f number)) numbers ≡ count_by p (map f numbers)
count_map f p [] = refl
count_map f p (number ∷ numbers) = rw (
  sum_by-cons (λ n. cond (p (f n)) 1 0) number numbers,
  sum_by-cons (λ ring. cond (p ring) 1 0) (f number) (map f numbers),
  count_map f p numbers,
)

-- a ring is as deep as it has holders
pub depth_is : (rings : List Ring) (order : List ℕ) (ring : Ring) → IsPermutation (range_with_len 0 (length rings)) order
    → length (filter (is_holder rings ring) order) ≡ depth rings ring
depth_is rings order ring permutation =
    length-filter (is_holder rings ring) order
    ∙ sum_by-IsPermutation (λ number. cond (is_holder rings ring number) 1 0) (range_with_len 0 (length rings)) order permutation
    ∙ count_map (ring_at rings) (λ other. holds other ring) (range_with_len 0 (length rings)) ∙ ap (λ all. depth all ring) (rings_are rings)

depths_from : (rings some : List Ring) (order : List ℕ) → IsPermutation (range_with_len 0 (length rings)) order
    → map (λ ring. length (filter (is_holder rings ring) order)) some ≡ map (depth rings) some
depths_from rings [] order permutation = refl
depths_from rings (ring ∷ some) order permutation = rw (depth_is rings order ring permutation, depths_from rings some order permutation)

pub depths_are : (rings : List Ring) (tree : Tree) → HoldsAll rings tree
    → map (λ ring. length (holders_in rings tree ring)) rings ≡ map (depth rings) rings
depths_are rings tree h = ∥∥₁_elim h.all (hlevel props) (depths_from rings rings (numbers_of tree))

always : (b : Bool) → (b || true) ≡ false → ⊥
always true e = cc
always false e = cc

any_filter_next : (p q : ℕ → Bool) (number : ℕ) (numbers : List ℕ) (b : Bool)
    → list_any q (filter p numbers) ≡ list_any (λ n. p n && q n) numbers
    → list_any q (cond b (number ∷ filter p numbers) (filter p numbers)) ≡ ((b && q number) || list_any (λ n. p n && q n) numbers)
any_filter_next p q number numbers true e = ap (λ b. q number || b) e
any_filter_next p q number numbers false e = e

pub any_filter : (p q : ℕ → Bool) (numbers : List ℕ) → list_any q (filter p numbers) ≡ list_any (λ number. p number && q number) numbers
any_filter p q [] = refl
any_filter p q (number ∷ numbers) = any_filter_next p q number numbers (p number) (any_filter p q numbers)

pub any_same : (p q : ℕ → Bool) (from count : ℕ) → ((number : ℕ) → number < from + count → p number ≡ q number)
    → list_any p (range_with_len from count) ≡ list_any q (range_with_len from count)
any_same p q from zero same = refl
any_same p q from (suc count) same = rw (same from (omega arith), any_same p q (from + 1) count (λ number h. same number (omega arith)))

-- a test of the holders of a ring, as one of all numbers
any_holder : (rings : List Ring) (order : List ℕ) (ring : Ring) (q : ℕ → Bool) → IsPermutation (range_with_len 0 (length rings)) order
    → list_any q (filter (is_holder rings ring) order)
    ≡ list_any (λ number. is_holder rings ring number && q number) (range_with_len 0 (length rings))
any_holder rings order ring q permutation =
    any_filter (is_holder rings ring) q order
    ∙ sym (list_any-IsPermutation (λ number. is_holder rings ring number && q number)
    (range_with_len 0 (length rings)) order permutation)

-- a number that passes stands in the range
pub record StandsIn (p : ℕ → Bool) (number from count : ℕ) : Type 0 where
  pub low : from ≤ number
  pub high : number < from + count
  pub passes : p number ≡ true

is_this_next : (b : Bool) (one number : ℕ) → (b && (one == number)) ≡ true → (one ≡ number) × (b ≡ true)
is_this_next true one number e = (grind (arith, nat_tests), refl)
is_this_next false one number e = absurd (cc)

is_this : (p : ℕ → Bool) (one number : ℕ) → (p one && (one == number)) ≡ true → (one ≡ number) × (p one ≡ true)
is_this p one number e = is_this_next (p one) one number e

stands_next : (p : ℕ → Bool) (number from count : ℕ) (b : Bool) → (p from && (from == number)) ≡ b
    → (b || list_any (λ n. p n && (n == number)) (range_with_len (from + 1) count)) ≡ true
    → (list_any (λ n. p n && (n == number)) (range_with_len (from + 1) count) ≡ true → StandsIn p number (from + 1) count)
    → StandsIn p number from (suc count)
stands_next p number from count true o e more =
    let is = is_this p from number o in
    let same = is.0 in
    record { low = omega (arith, same); high = omega (arith, same); passes = rw same at is.1 }
stands_next p number from count false o e more =
    let next = more e in
    let low = next.low in
    let high = next.high in
    record { low = omega (arith, low); high = omega (arith, high); passes = next.passes }

pub stands : (p : ℕ → Bool) (number from count : ℕ) → list_any (λ n. p n && (n == number)) (range_with_len from count) ≡ true
    → StandsIn p number from count
stands p number from zero e = absurd (cc)
stands p number from (suc count) e = stands_next p number from count (p from && (from == number)) refl e (stands p number (from + 1) count)

none_next : (rings : List Ring) (ring : Ring) (from : ℕ) (rest : Option ℕ) (b any : Bool) → (b || any) ≡ false → (any ≡ false → rest ≡ None)
    → (if b then Some from else rest) ≡ None
none_next rings ring from rest true any e more = absurd (cc)
none_next rings ring from rest false any e more = more e

-- the number of the first ring, counted from a number on, that an inner ring belongs to
abbrev pub owner_from : List Ring → ℕ → List Ring → Ring → Option ℕ
owner_from rings number rest other = position_from (λ ring. owns rings ring other) number rest

-- where no number passes, there is no owner
pub owner_none : (rings : List Ring) (ring : Ring) (from count : ℕ)
    → list_any (λ number. owns rings (ring_at rings number) ring) (range_with_len from count) ≡ false
    → owner_from rings from (map (ring_at rings) (range_with_len from count)) ring ≡ None
owner_none rings ring from zero e = refl
owner_none rings ring from (suc count) e =
    none_next rings ring from (owner_from rings (from + 1) (map (ring_at rings) (range_with_len (from + 1) count)) ring)
    (owns rings (ring_at rings from) ring)
    (list_any (λ number. owns rings (ring_at rings number) ring) (range_with_len (from + 1) count)) e
    (owner_none rings ring (from + 1) count)

first_is : (from least : ℕ) (any : Bool) → from ≤ least → (nat_lt from least || any) ≡ false → from ≡ least
first_is from least any low e = grind (arith, nat_tests)

after : (own : ℕ → Bool) (from least : ℕ) → own from ≡ false → own least ≡ true → from ≤ least → from + 1 ≤ least
after own from least o found low =
    let other : from ≢ least = λ same. absurd (cc) in
    omega arith

some_next : (own : ℕ → Bool) (from least : ℕ) (rest : Option ℕ) (b any : Bool) → own from ≡ b → own least ≡ true → from ≤ least
    → ((b && nat_lt from least) || any) ≡ false
    → (from + 1 ≤ least → any ≡ false → rest ≡ Some least) → (if b then Some from else rest) ≡ Some least
some_next own from least rest true any o found low e more =
    let same : from ≡ least = first_is from least any low e in
    ap Some same
some_next own from least rest false any o found low e more = more (after own from least o found low) e

-- the least number that passes is the owner
pub owner_some : (rings : List Ring) (ring : Ring) (least from count : ℕ) → owns rings (ring_at rings least) ring ≡ true → from ≤ least
    → least < from + count
    → list_any (λ number. owns rings (ring_at rings number) ring && nat_lt number least) (range_with_len from count) ≡ false
    → owner_from rings from (map (ring_at rings) (range_with_len from count)) ring ≡ Some least
owner_some rings ring least from zero found low high e = absurd (omega arith)
owner_some rings ring least from (suc count) found low high e =
    some_next (λ number. owns rings (ring_at rings number) ring) from least
    (owner_from rings (from + 1) (map (ring_at rings) (range_with_len (from + 1) count)) ring)
    (owns rings (ring_at rings from) ring) (list_any (λ number. owns rings (ring_at rings number) ring && nat_lt number least)
    (range_with_len (from + 1) count)) refl found low e
    (λ next none. owner_some rings ring least (from + 1) count found next (omega arith) none)

pub owns_is : (rings : List Ring) (depths : List ℕ) (ring : Ring) (number : ℕ) → depths ≡ map (depth rings) rings → number < length rings
    → (is_holder rings ring number && is_above depths (depth rings ring) number) ≡ owns rings (ring_at rings number) ring
owns_is rings depths ring number e h =
    let deep : get_or depths number 0 ≡ depth rings (ring_at rings number) = rw e (get_or-map (depth rings) rings number [] 0 h) in
    rw deep

swap_tests : (a b c : Bool) → (a && (b && c)) ≡ ((a && b) && c)
swap_tests true b c = refl
swap_tests false b c = refl

owner_least : (rings : List Ring) (depths order : List ℕ) (ring : Ring) → depths ≡ map (depth rings) rings
    → IsPermutation (range_with_len 0 (length rings)) order
    → (r : Option ℕ) → IsLeast (is_above depths (depth rings ring)) (filter (is_holder rings ring) order) r
    → owner_from rings 0 (map (ring_at rings) (range_with_len 0 (length rings))) ring ≡ r
owner_least rings depths order ring e permutation None least =
    let none = sym (any_holder rings order ring (is_above depths (depth rings ring)) permutation) ∙ least in
    let same = any_same (λ number. is_holder rings ring number && is_above depths (depth rings ring) number)
    (λ number. owns rings (ring_at rings number) ring) 0 (length rings)
    (λ number h. owns_is rings depths ring number e (omega arith)) in
    owner_none rings ring 0 (length rings) (sym same ∙ none)
owner_least rings depths order ring e permutation (Some found) least =
    let in_range = stands (is_holder rings ring) found 0 (length rings)
    (sym (any_holder rings order ring (λ number. number == found) permutation) ∙ least.1) in
    let high = in_range.high in
    let within : found < length rings = omega (arith, high) in
    let owned : owns rings (ring_at rings found) ring ≡ true =
    sym (owns_is rings depths ring found e within) ∙ (rw (in_range.passes, least.0)) in
    let none = sym (any_holder rings order ring (λ number. is_above depths (depth rings ring) number && nat_lt number found) permutation)
    ∙ least.2 in
    let same = any_same (λ number. is_holder rings ring number && (is_above depths (depth rings ring) number && nat_lt number found))
    (λ number. owns rings (ring_at rings number) ring && nat_lt number found) 0 (length rings)
    (λ number h. swap_tests (is_holder rings ring number) (is_above depths (depth rings ring) number) (nat_lt number found)
    ∙ ap (λ b. b && nat_lt number found) (owns_is rings depths ring number e (omega arith))) in
    owner_some rings ring found 0 (length rings) owned (omega arith) high (sym same ∙ none)

few_next : (b : Bool) (holders few : List ℕ) → (if b then Some holders else None) ≡ Some few → few ≡ holders
few_next true holders few e = cc
few_next false holders few e = absurd (cc)

-- the holders of a ring, where they were kept
pub kept_is : (rings : List Ring) (tree : Tree) (kept : List (Option (List ℕ))) (at : ℕ) (own : Option (List ℕ)) (few : List ℕ)
    → kept ≡ map (λ ring. few_of (holders_in rings tree ring)) rings → at < length rings → own ≡ get_or kept at own → own ≡ Some few
    → few ≡ holders_in rings tree (ring_at rings at)
kept_is rings tree kept at own few e low f g =
    let one = get_or-map (λ ring. few_of (holders_in rings tree ring)) rings at [] own low in
    let here = holders_in rings tree (ring_at rings at) in
    few_next (nat_le (length here) 8) here few (sym one ∙ ap (λ all. get_or all at own) (sym e) ∙ sym f ∙ g)

-- the owner of a ring is the least of its holders that are one less deep
pub owner_is : (rings : List Ring) (tree : Tree) (depths : List ℕ) (at : ℕ) (r : Option ℕ) → HoldsAll rings tree
    → depths ≡ map (depth rings) rings → at < length rings
    → IsLeast (is_above depths (get_or depths at 0)) (holders_in rings tree (ring_at rings at)) r → owner rings (ring_at rings at) ≡ r
owner_is rings tree depths at r h e low least =
    let ring = ring_at rings at in
    let deep : get_or depths at 0 ≡ depth rings ring = rw e (get_or-map (depth rings) rings at [] 0 low) in
    let here = rw deep at least in
    ap (λ all. owner_from rings 0 all ring) (sym (rings_are rings))
    ∙ ∥∥₁_elim h.all (hlevel props) (λ all. owner_least rings depths (numbers_of tree) ring e all r here)

all_below_next : (number count : ℕ) (any : Bool) → (not (nat_lt number count) || any) ≡ false → (number < count) × (any ≡ false)
all_below_next number count true e = absurd (always (not (nat_lt number count)) e)
all_below_next number count false e = (grind (arith, nat_tests), refl)

all_below : (numbers : List ℕ) (count : ℕ) → list_any (λ number. not (nat_lt number count)) numbers ≡ false
    → AllByRecursion (λ number. number < count) numbers
all_below [] count e = tt
all_below (number ∷ numbers) count e =
    let both = all_below_next number count (list_any (λ n. not (nat_lt n count)) numbers) e in
    (both.0, all_below numbers count both.1)

is_below : (number count : ℕ) → number < count → not (nat_lt number count) ≡ false
is_below number count h = grind (arith, nat_tests)

none_above : (numbers : List ℕ) (count : ℕ) → AllByRecursion (λ number. number < count) numbers
    → list_any (λ number. not (nat_lt number count)) numbers ≡ false
none_above [] count all = refl
none_above (number ∷ numbers) count all = rw (is_below number count all.0) (none_above numbers count all.1)

-- numbers in another order are the same numbers
pub order_below : (count : ℕ) (numbers order : List ℕ) → IsPermutation numbers order → AllByRecursion (λ number. number < count) numbers
    → AllByRecursion (λ number. number < count) order
order_below count numbers order permutation all =
    all_below order count (sym (list_any-IsPermutation (λ number. not (nat_lt number count)) numbers order permutation)
    ∙ none_above numbers count all)

pub range_below : (from some count : ℕ) → from + some ≤ count → AllByRecursion (λ number. number < count) (range_with_len from some)
range_below from zero count h = tt
range_below from (suc some) count h = (omega arith, range_below (from + 1) some count (omega arith))

all_part : {A : Type 0} (P : A → Type 0) (xs ys : List A) → AllByRecursion P (xs ++ ys) → AllByRecursion P xs × AllByRecursion P ys
all_part P [] ys all = (tt, all)
all_part P (x ∷ xs) ys all = let parts = all_part P xs ys all.1 in ((all.0, parts.0), parts.1)

-- the numbers of two halves
pub halves_below : (count : ℕ) (numbers front back : List ℕ) → IsPermutation numbers (front ++ back)
    → AllByRecursion (λ number. number < count) numbers
    → AllByRecursion (λ number. number < count) front × AllByRecursion (λ number. number < count) back
halves_below count numbers front back permutation all =
    all_part (λ number. number < count) front back (order_below count numbers (front ++ back) permutation all)

pub halves_long : (numbers front back : List ℕ) → IsPermutation numbers (front ++ back) → length front + length back ≡ length numbers
halves_long numbers front back permutation = sym (length-append front back) ∙ length_permutation numbers (front ++ back) permutation

-- the numbers of two halves in other orders
pub halves_join : (numbers front back left right : List ℕ) → IsPermutation numbers (front ++ back) → IsPermutation front left
    → IsPermutation back right
    → IsPermutation numbers (left ++ right)
halves_join numbers front back left right permutation one other =
    IsPermutation-trans numbers (front ++ back) (left ++ right) permutation (IsPermutation-append front left back right one other)

all_filter_next : {A : Type 0} (P : A → Type 0) (b : Bool) (x : A) (xs : List A) → P x → AllByRecursion P xs
    → AllByRecursion P (cond b (x ∷ xs) xs)
all_filter_next P true x xs one all = (one, all)
all_filter_next P false x xs one all = all

pub all_filter : {A : Type 0} (P : A → Type 0) (p : A → Bool) (xs : List A) → AllByRecursion P xs → AllByRecursion P (filter p xs)
all_filter P p [] all = tt
all_filter P p (x ∷ xs) all = all_filter_next P (p x) x (filter p xs) all.0 (all_filter P p xs all.1)

-- the numbers that hold a ring are numbers of rings
pub holders_below : (rings : List Ring) (tree : Tree) (ring : Ring) → HoldsAll rings tree
    → AllByRecursion (λ number. number < length rings) (holders_in rings tree ring)
holders_below rings tree ring h =
    all_filter (λ number. number < length rings) (is_holder rings ring) (numbers_of tree)
    (∥∥₁_elim h.all (hlevel props) (λ all. order_below (length rings) (range_with_len 0 (length rings)) (numbers_of tree) all
    (range_below 0 (length rings) (length rings) (omega arith))))

least_next : (p : ℕ → Bool) (numbers : List ℕ) (number : ℕ) (r : Option ℕ) → p number ≡ false → IsLeast p numbers r
    → IsLeast p (numbers ++ number ∷ []) r
least_next p numbers number None e least = list_any-append p numbers (number ∷ []) ∙ (rw (least, e))
least_next p numbers number (Some found) e least = (
  least.0,
  list_any-append (λ n. n == found) numbers (number ∷ []) ∙ (rw least.1),
  list_any-append (λ n. p n && nat_lt n found) numbers (number ∷ []) ∙ (rw (least.2, e)),
)

-- a number that does not pass changes nothing
pub least_same : (p : ℕ → Bool) (numbers : List ℕ) (at : ℕ) (r : Option ℕ) → at < length numbers → p (get_or numbers at 0) ≡ false
    → IsLeast p (take at numbers) r → IsLeast p (take (at + 1) numbers) r
least_same p numbers at r h e least = rw (next_of numbers at 0 h) (least_next p (take at numbers) (get_or numbers at 0) r e least)

is_less : (m n : ℕ) → nat_lt m n ≡ true → m ≤ n
is_less m n e = grind (arith, nat_tests)

itself : (n : ℕ) → (n == n) ≡ true
itself n = grind (arith, nat_tests)

not_less : (m n : ℕ) → n ≤ m → nat_lt m n ≡ false
not_less m n h = grind (arith, nat_tests)

or_true : (b : Bool) → (b || true) ≡ true
or_true true = refl
or_true false = refl

-- where none passed, none that passes is less
none_less_next : (a b any all : Bool) → (a || any) ≡ false → (any ≡ false → all ≡ false) → ((a && b) || all) ≡ false
none_less_next true b any all e more = absurd (cc)
none_less_next false b any all e more = more e

none_less : (p q : ℕ → Bool) (numbers : List ℕ) → list_any p numbers ≡ false → list_any (λ n. p n && q n) numbers ≡ false
none_less p q [] e = refl
none_less p q (number ∷ numbers) e = none_less_next (p number) (q number) (list_any p numbers) (list_any (λ n. p n && q n) numbers) e
    (none_less p q numbers)

still_not_less : (number less more : ℕ) → less ≤ more → (nat_lt number more || false) ≡ false → (nat_lt number less || false) ≡ false
still_not_less number less more h e = grind (arith, nat_tests)

not_less_next : (number less more : ℕ) (any all : Bool) → less ≤ more → (nat_lt number more || any) ≡ false → (any ≡ false → all ≡ false)
    → (nat_lt number less || all) ≡ false
not_less_next number less more true all h e next = absurd (always (nat_lt number more) e)
not_less_next number less more false all h e next = rw (next refl) (still_not_less number less more h e)

fewer_less_next : (a : Bool) (number less more : ℕ) (any all : Bool) → less ≤ more → ((a && nat_lt number more) || any) ≡ false
    → (any ≡ false → all ≡ false)
    → ((a && nat_lt number less) || all) ≡ false
fewer_less_next true number less more any all h e next = not_less_next number less more any all h e next
fewer_less_next false number less more any all h e next = next e

fewer_less : (p : ℕ → Bool) (numbers : List ℕ) (less more : ℕ) → less ≤ more → list_any (λ n. p n && nat_lt n more) numbers ≡ false
    → list_any (λ n. p n && nat_lt n less) numbers ≡ false
fewer_less p [] less more h e = refl
fewer_less p (number ∷ numbers) less more h e =
    fewer_less_next (p number) number less more (list_any (λ n. p n && nat_lt n more) numbers)
    (list_any (λ n. p n && nat_lt n less) numbers) h e (fewer_less p numbers less more h)

least_cases : (p : ℕ → Bool) (numbers : List ℕ) (number found : ℕ) (b : Bool) → nat_lt number found ≡ b → p number ≡ true
    → IsLeast p numbers (Some found)
    → IsLeast p (numbers ++ number ∷ []) (Some (if b then number else found))
least_cases p numbers number found true o e least =
    let before = fewer_less p numbers number found (is_less number found o) least.2 in (
      e,
      list_any-append (λ n. n == number) numbers (number ∷ []) ∙ (rw (itself number) (or_true (list_any (λ n. n == number) numbers))),
      list_any-append (λ n. p n && nat_lt n number) numbers (number ∷ []) ∙ (rw (before, e, not_less number number (omega arith))),
    )
least_cases p numbers number found false o e least = (
  least.0,
  list_any-append (λ n. n == found) numbers (number ∷ []) ∙ (rw least.1),
  list_any-append (λ n. p n && nat_lt n found) numbers (number ∷ []) ∙ (rw (least.2, e, o)),
)

least_one : (p : ℕ → Bool) (numbers : List ℕ) (number : ℕ) (r : Option ℕ) → p number ≡ true → IsLeast p numbers r
    → IsLeast p (numbers ++ number ∷ []) (Some (lesser_of r number))
least_one p numbers number None e least =
    let before = none_less p (λ n. nat_lt n number) numbers least in (
      e,
      list_any-append (λ n. n == number) numbers (number ∷ []) ∙ (rw (itself number) (or_true (list_any (λ n. n == number) numbers))),
      list_any-append (λ n. p n && nat_lt n number) numbers (number ∷ []) ∙ (rw (before, e, not_less number number (omega arith))),
    )
least_one p numbers number (Some found) e least = least_cases p numbers number found (nat_lt number found) refl e least

-- a number that passes may be the least
pub least_more : (p : ℕ → Bool) (numbers : List ℕ) (at : ℕ) (r : Option ℕ) → at < length numbers → p (get_or numbers at 0) ≡ true
    → IsLeast p (take at numbers) r → IsLeast p (take (at + 1) numbers) (Some (lesser_of r (get_or numbers at 0)))
least_more p numbers at r h e least = rw (next_of numbers at 0 h) (least_one p (take at numbers) (get_or numbers at 0) r e least)

pub one_above : (deep depth : ℕ) → deep ≡ depth - 1 → 0 < depth → (deep + 1 == depth) ≡ true
one_above deep depth e h = grind (arith, nat_tests)

pub not_above : (deep depth : ℕ) → deep ≢ depth - 1 → 0 < depth → (deep + 1 == depth) ≡ false
not_above deep depth e h = grind (arith, nat_tests)
