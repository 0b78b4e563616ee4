-- Owners by trees of the rings of one depth.
use Rattle.std.proofs.Common.{◌≡◌, ◌≢◌, ℕ, ◌+◌, ◌-◌, ◌<◌, ◌%◌, ◌==◌, suc, zero, refl, sym, ap, ◌∙◌, arith, List, [], ◌∷◌}
use Rattle.std.proofs.Common.{◌++◌, length, map, get_or, set, Bool, true, false, cond, ◌&&◌, nat_lt, Option, Some, None, zero-add, add-one}
use Rattle.std.specs.List.{AllByRecursion, filter, list_any, range_with_len}
use Rattle.std.specs.List.Sorted.{IsPermutation}
use Rattle.std.proofs.lemmas.Bool.Decides.{nat_tests}
use Rattle.std.proofs.lemmas.List.{append-nil, get_or-map, get_or-set_other, get_or-set_same, get_or_default}
use Rattle.std.proofs.lemmas.List.{length-map, length-set}
use Rattle.std.proofs.lemmas.List.Elements.{filter-append}
use Rattle.std.proofs.lemmas.List.Sorted.{list_any-IsPermutation}
use Rattle.std.proofs.lemmas.List.Sums.{count_by-le-length}
use Rattle.osm_base.specs.declared.values.place.GeoBox.{GeoBox}
use Rattle.lanes_geo.specs.Nesting.{Ring, depth, holds, owns, ring_at}
use Rattle.ring_nest.specs.declared.tree.Tree.{Tree}
use Rattle.ring_nest.specs.DepthTrees.{HasLists, of_depth}
use Rattle.ring_nest.specs.Around.{around}
use Rattle.ring_nest.specs.Holders.{IsLeast, holders_in, inner_owner, is_above, is_holder, numbers_of}
use Rattle.ring_nest.proofs.Filled.{inner_is}
use Rattle.ring_nest.proofs.Owned.{all_filter, any_filter, any_same, owner_from, owner_none, owner_some, owns_is, range_below, range_more, rings_are, stands}

turned : (a b c : Bool) → (a && (b && c)) ≡ ((b && a) && c)
turned true true c = refl
turned true false c = refl
turned false true c = refl
turned false false c = refl

and_true : (b : Bool) → (b && true) ≡ b
and_true true = refl
and_true false = refl

-- a test of the holders of a ring among the rings that are one less deep, as one of all numbers
any_owner : (rings : List Ring) (depths order : List ℕ) (ring : Ring) (q : ℕ → Bool) → depths ≡ map (depth rings) rings
    → IsPermutation (filter (is_above depths (depth rings ring)) (range_with_len 0 (length rings))) order
    → list_any q (filter (is_holder rings ring) order)
    ≡ list_any (λ number. owns rings (ring_at rings number) ring && q number) (range_with_len 0 (length rings))
any_owner rings depths order ring q e permutation =
    any_filter (is_holder rings ring) q order
    ∙ sym (list_any-IsPermutation (λ number. is_holder rings ring number && q number)
    (filter (is_above depths (depth rings ring)) (range_with_len 0 (length rings))) order permutation)
    ∙ any_filter (is_above depths (depth rings ring)) (λ number. is_holder rings ring number && q number) (range_with_len 0 (length rings))
    ∙ any_same (λ number. is_above depths (depth rings ring) number && (is_holder rings ring number && q number))
    (λ number. owns rings (ring_at rings number) ring && q number) 0 (length rings)
    (λ number h. turned (is_above depths (depth rings ring) number) (is_holder rings ring number) (q number)
    ∙ ap (λ b. b && q number) (owns_is rings depths ring number e (omega arith)))

-- the owner of a ring is the least of its holders among the rings that are one less deep
owner_of_depth : (rings : List Ring) (depths order : List ℕ) (ring : Ring) → depths ≡ map (depth rings) rings
    → IsPermutation (filter (is_above depths (depth rings ring)) (range_with_len 0 (length rings))) order
    → (r : Option ℕ) → IsLeast (λ number. true) (filter (is_holder rings ring) order) r
    → owner_from rings 0 (map (ring_at rings) (range_with_len 0 (length rings))) ring ≡ r
owner_of_depth rings depths order ring e permutation None least =
    let same = any_same (λ number. owns rings (ring_at rings number) ring && true) (λ number. owns rings (ring_at rings number) ring)
    0 (length rings) (λ number h. and_true (owns rings (ring_at rings number) ring)) in
    owner_none rings ring 0 (length rings)
    (sym same ∙ sym (any_owner rings depths order ring (λ number. true) e permutation) ∙ least)
owner_of_depth rings depths order ring e permutation (Some found) least =
    let in_range = stands (λ number. owns rings (ring_at rings number) ring) found 0 (length rings)
    (sym (any_owner rings depths order ring (λ number. number == found) e permutation) ∙ least.1) in
    let none = sym (any_owner rings depths order ring (λ number. nat_lt number found) e permutation) ∙ least.2 in
    owner_some rings ring found 0 (length rings) in_range.passes (omega arith) in_range.high none

odd_more : (deep : ℕ) → deep % 2 ≢ 0 → (deep - 1) + 1 ≡ deep
odd_more deep h = omega (arith, h)

-- the ring that an inner ring belongs to
pub owner_in_tree : (rings : List Ring) (depths : List ℕ) (at : ℕ) (tree : Tree) (r : Option ℕ) → depths ≡ map (depth rings) rings
    → at < length rings → get_or depths at 0 % 2 ≢ 0
    → IsPermutation (of_depth depths (length rings) (get_or depths at 0 - 1)) (numbers_of tree)
    → IsLeast (λ number. true) (holders_in rings tree (ring_at rings at)) r → r ≡ inner_owner rings (ring_at rings at)
owner_in_tree rings depths at tree r e low odd_one permutation least =
    let ring = ring_at rings at in
    let inner = inner_is rings depths at ring e low (get_or_default rings at [] ring low) odd_one in
    let here : get_or depths at 0 ≡ depth rings ring = rw e (get_or-map (depth rings) rings at [] 0 low) in
    let next : (get_or depths at 0 - 1) + 1 ≡ depth rings ring = odd_more (get_or depths at 0) odd_one ∙ here in
    let order = rw next at permutation in
    let own = owner_of_depth rings depths (numbers_of tree) ring e order r least in
    rw inner (sym (ap (λ all. owner_from rings 0 all ring) (sym (rings_are rings)) ∙ own))

-- a ring is no deeper than there are rings
depth_below : (rings some : List Ring) → AllByRecursion (λ deep. deep < length rings + 1) (map (depth rings) some)
depth_below rings [] = tt
depth_below rings (ring ∷ some) =
    let low = count_by-le-length (λ other. holds other ring) rings in
    (omega (arith, low), depth_below rings some)

pub depths_below : (rings : List Ring) (depths : List ℕ) → depths ≡ map (depth rings) rings
    → AllByRecursion (λ deep. deep < length depths + 1) depths
depths_below rings depths e = rw (e, length-map rings (depth rings)) (depth_below rings rings)

pub depth_at : (rings : List Ring) (depths : List ℕ) (at : ℕ) → depths ≡ map (depth rings) rings → at < length rings
    → get_or depths at 0 < length rings + 1
depth_at rings depths at e low =
    let here : get_or depths at 0 ≡ depth rings (ring_at rings at) = rw e (get_or-map (depth rings) rings at [] 0 low) in
    let least = count_by-le-length (λ other. holds other (ring_at rings at)) rings in
    let most : depth rings (ring_at rings at) < length rings + 1 = omega (arith, least) in
    rw here most

above_is : (deep other : ℕ) (b : Bool) → (deep == other) ≡ b → (deep + 1 == other + 1) ≡ b
above_is deep other true e = grind (arith, nat_tests)
above_is deep other false e = grind (arith, nat_tests)

of_depth_next : (depths : List ℕ) (at deep : ℕ) (b : Bool) → (get_or depths at 0 == deep) ≡ b
    → of_depth depths (at + 1) deep ≡ of_depth depths at deep ++ cond b (at ∷ []) []
of_depth_next depths at deep b e =
    let here : is_above depths (deep + 1) at ≡ b = above_is (get_or depths at 0) deep b e in
    let more : range_with_len 0 (at + 1) ≡ range_with_len 0 at ++ at ∷ [] = rw (add-one, range_more 0 at, zero-add) refl in
    ap (filter (is_above depths (deep + 1))) more ∙ filter-append (is_above depths (deep + 1)) (range_with_len 0 at) (at ∷ [])
    ∙ ap (λ c. of_depth depths at deep ++ cond c (at ∷ []) []) here

list_next : (depths : List ℕ) (at : ℕ) (lists : List (List ℕ)) (deep : ℕ) (b : Bool) → HasLists depths at lists
    → get_or depths at 0 < length lists → deep < length lists → (get_or depths at 0 == deep) ≡ b
    → get_or (set lists (get_or depths at 0) (get_or lists (get_or depths at 0) [] ++ at ∷ [])) deep [] ≡ of_depth depths (at + 1) deep
list_next depths at lists deep true w h low e =
    let same : get_or depths at 0 ≡ deep = grind (arith, nat_tests) in
    rw same (get_or-set_same lists deep (get_or lists deep [] ++ at ∷ []) [] low
    ∙ ap (λ xs. xs ++ at ∷ []) (w.each deep low) ∙ sym (of_depth_next depths at deep true e))
list_next depths at lists deep false w h low e =
    let other : deep ≢ get_or depths at 0 = grind (arith, nat_tests) in
    get_or-set_other lists (get_or depths at 0) deep (get_or lists (get_or depths at 0) [] ++ at ∷ []) [] other
    ∙ w.each deep low ∙ sym (of_depth_next depths at deep false e ∙ append-nil (of_depth depths at deep))

-- one number more
pub lists_next : (depths : List ℕ) (at deep : ℕ) (lists : List (List ℕ)) → HasLists depths at lists → deep ≡ get_or depths at 0
    → deep < length lists → HasLists depths (at + 1) (set lists deep (get_or lists deep [] ++ at ∷ []))
lists_next depths at deep lists w e h =
    let low = rw e at h in
    let long = length-set lists (get_or depths at 0) (get_or lists (get_or depths at 0) [] ++ at ∷ []) in
    rw e (record {
      long = long ∙ w.long;
      each = λ other less. list_next depths at lists other (get_or depths at 0 == other) w low (rw long at less) refl;
    })

-- the numbers of each list are numbers of boxes
pub lists_below : (rings : List Ring) (boxes : List GeoBox) (depths : List ℕ) (lists : List (List ℕ)) → boxes ≡ map around rings
    → depths ≡ map (depth rings) rings → HasLists depths (length depths) lists → (deep : ℕ) → deep < length lists
    → AllByRecursion (λ number. number < length boxes) (get_or lists deep [])
lists_below rings boxes depths lists e f w deep low =
    let many : length depths ≡ length boxes = rw (e, f, length-map rings (depth rings), length-map rings around) refl in
    rw (w.each deep low, ← many) (all_filter (λ number. number < length depths) (is_above depths (deep + 1))
    (range_with_len 0 (length depths)) (range_below 0 (length depths) (length depths) (omega arith)))

-- a member of numbers that are all less
pub deep_below : (depths : List ℕ) (at count : ℕ) → AllByRecursion (λ deep. deep < count) depths → at < length depths
    → get_or depths at 0 < count
deep_below [] at count all low = absurd (omega arith)
deep_below (deep ∷ depths) zero count all low = all.0
deep_below (deep ∷ depths) (suc at) count all low = deep_below depths at count all.1 (omega arith)
