-- Places among tags whose keys rise.
use Rattle.std.proofs.Common.{◌≡◌, ℕ, zero, suc, Bool, true, false, cond, ◌&&◌, T, Some, None, List, [], ◌∷◌, ◌++◌, length, take, drop}
use Rattle.std.proofs.Common.{refl, sym, ◌∙◌, ap, subst, arith}
use Rattle.std.proofs.lemmas.List.{take-append-drop}
use Rattle.std.specs.Ordering.{nat_cmp, is_eq, is_lt, ordering_reverse}
use Rattle.std.specs.declared.cmp.Ordering.{Ordering}
use Rattle.std.specs.declared.cmp.Ordering.TheVariants.{Less, Equal, Greater}
use Rattle.std.specs.Cmp.Lexicographic.{slice_cmp, nat_list_cmp_total}
use Rattle.std.specs.FinMap as map
use Rattle.std.specs.FinMap.{find, put, is_sorted, nat_cmp-IsAntisymmetric, slice_cmp-IsAntisymmetric}
use Rattle.std.specs.FinMap.Entries.{below_all, by_order}
use Rattle.osm_base.specs.values.TagOrder.{IsAbove, IsBelow, BelongsAt}
use Rattle.osm_base.specs.values.Tags.{TagPairs}

abbrev pub order : List ℕ → List ℕ → Ordering
order = slice_cmp nat_cmp

pub both_left : (a b : Bool) → T (a && b) → T a
both_left true b t = tt
both_left false b t = t

pub both_right : (a b : Bool) → T (a && b) → T b
both_right true b t = t
both_right false b t = absurd t

pub less : (o : Ordering) → T (is_lt o) → o ≡ Less
less Less t = refl
less Equal t = absurd t
less Greater t = absurd t

find-above : (key : List ℕ) (front back : TagPairs) → IsAbove key front → find order key (front ++ back) ≡ find order key back
find-above key [] back h = refl
find-above key (pair ∷ front) back h =
    ap (λ o. cond (is_eq o) (Some pair.1) (find order key (front ++ back))) h.0 ∙ find-above key front back h.1

find-below : (key : List ℕ) (pairs : TagPairs) → IsBelow key pairs → find order key pairs ≡ None
find-below key [] h = refl
find-below key (pair ∷ pairs) h =
    ap (λ o. cond (is_eq o) (Some pair.1) (find order key pairs)) h.0 ∙ find-below key pairs h.1

-- where a key belongs it is not there
pub find-BelongsAt : (key : List ℕ) (pairs : TagPairs) (place : ℕ) → BelongsAt key pairs place → find order key pairs ≡ None
find-BelongsAt key pairs place h =
    ap (find order key) (sym (take-append-drop place pairs))
    ∙ find-above key (take place pairs) (drop place pairs) h.before
    ∙ find-below key (drop place pairs) h.behind

first_below_all : (pair : List ℕ × List ℕ) (pairs : TagPairs) → T (below_all order pair.0 pairs)
    → put order pair.0 pair.1 pairs ≡ pair ∷ pairs
first_below_all pair [] h = refl
first_below_all pair (next ∷ pairs) h =
    ap (λ o. by_order o (pair ∷ next ∷ pairs) ((next.0, pair.1) ∷ pairs) (next ∷ put order pair.0 pair.1 pairs)) (less _ (both_left _ _ h))

no_entries : (pairs : TagPairs) → length pairs ≡ 0 → pairs ≡ []
no_entries [] e = refl
no_entries (pair ∷ pairs) e = absurd (omega arith)

-- tags whose keys rise are the entries of their map, in its order
pub entries-from_entries : (pairs : TagPairs) → T (is_sorted order pairs) → map.entries (map.from_entries {R = order} pairs) ≡ pairs
entries-from_entries [] h = no_entries _ (sym (map.len-entries (map.empty {R = order})) ∙ map.len-empty order (List ℕ))
entries-from_entries (pair ∷ pairs) h =
    map.entries-insert nat_list_cmp_total (map.from_entries pairs) pair.0 pair.1
    ∙ ap (put order pair.0 pair.1) (entries-from_entries pairs (both_right _ _ h))
    ∙ first_below_all pair pairs (both_left _ _ h)

pub len-from_entries : (pairs : TagPairs) → T (is_sorted order pairs) → map.len (map.from_entries {R = order} pairs) ≡ length pairs
len-from_entries pairs h = map.len-entries (map.from_entries pairs) ∙ ap length (entries-from_entries pairs h)

turned : (key other : List ℕ) (o : Ordering) → order key other ≡ o → order other key ≡ ordering_reverse o
turned key other o e = nat_list_cmp_total.antisymm other key ∙ ap ordering_reverse e

below_all-at : (key : List ℕ) (pairs : TagPairs) (place : ℕ) (pair : List ℕ × List ℕ) (rest : TagPairs)
    → T (below_all order key pairs) → drop place pairs ≡ pair ∷ rest → order key pair.0 ≡ Less
below_all-at key [] zero pair rest h e = absurd (cc)
below_all-at key [] (suc place) pair rest h e = absurd (cc)
below_all-at key (first ∷ pairs) zero pair rest h e =
    let same : first ≡ pair = cc in
    subst (λ one. order key one.0 ≡ Less) same (less _ (both_left _ _ h))
below_all-at key (first ∷ pairs) (suc place) pair rest h e = below_all-at key pairs place pair rest (both_right _ _ h) e

all_above : (key : List ℕ) (other : List ℕ) (pairs : TagPairs) → order key other ≡ Less → T (below_all order other pairs)
    → IsBelow key pairs
all_above key other [] e h = tt
all_above key other (pair ∷ pairs) e h =
    (nat_list_cmp_total.trans key other pair.0 e (less _ (both_left _ _ h)), all_above key other pairs e (both_right _ _ h))

-- a key above the one at a place is above all up to it
pub IsAbove-through : (key : List ℕ) (pairs : TagPairs) (place : ℕ) (pair : List ℕ × List ℕ) (rest : TagPairs)
    → T (is_sorted order pairs) → drop place pairs ≡ pair ∷ rest → order pair.0 key ≡ Less → IsAbove key (take (suc place) pairs)
IsAbove-through key [] zero pair rest h e o = tt
IsAbove-through key [] (suc place) pair rest h e o = tt
IsAbove-through key (first ∷ pairs) zero pair rest h e o =
    let same : first ≡ pair = cc in
    (turned first.0 key Less (subst (λ one. order one.0 key ≡ Less) (sym same) o), tt)
IsAbove-through key (first ∷ pairs) (suc place) pair rest h e o = (
  turned first.0 key Less (nat_list_cmp_total.trans first.0 pair.0 key (below_all-at first.0 pairs place pair rest (both_left _ _ h) e) o),
  IsAbove-through key pairs place pair rest (both_right _ _ h) e o,
)

-- one below the key at a place is below all from it on
pub IsBelow-from : (key : List ℕ) (pairs : TagPairs) (place : ℕ) (pair : List ℕ × List ℕ) (rest : TagPairs)
    → T (is_sorted order pairs) → drop place pairs ≡ pair ∷ rest → order pair.0 key ≡ Greater → IsBelow key (drop place pairs)
IsBelow-from key [] zero pair rest h e o = tt
IsBelow-from key [] (suc place) pair rest h e o = tt
IsBelow-from key (first ∷ pairs) zero pair rest h e o =
    let same : first ≡ pair = cc in
    let below : order key first.0 ≡ Less = turned first.0 key Greater (subst (λ one. order one.0 key ≡ Greater) (sym same) o) in
    (below, all_above key first.0 pairs below (both_left _ _ h))
IsBelow-from key (first ∷ pairs) (suc place) pair rest h e o = IsBelow-from key pairs place pair rest (both_right _ _ h) e o

-- a key that stands at a place is found there
pub find-at : (key : List ℕ) (pairs : TagPairs) (place : ℕ) (pair : List ℕ × List ℕ) (rest : TagPairs)
    → T (is_sorted order pairs) → drop place pairs ≡ pair ∷ rest → order pair.0 key ≡ Equal → find order key pairs ≡ Some pair.1
find-at key [] zero pair rest h e o = absurd (cc)
find-at key [] (suc place) pair rest h e o = absurd (cc)
find-at key (first ∷ pairs) zero pair rest h e o =
    let same : first ≡ pair = cc in
    ap (λ one. find order key (one ∷ pairs)) same
    ∙ ap (λ r. cond (is_eq r) (Some pair.1) (find order key pairs)) (turned pair.0 key Equal o)
find-at key (first ∷ pairs) (suc place) pair rest h e o =
    let below : order first.0 key ≡ Less =
    ap (order first.0) (sym (slice_cmp-IsAntisymmetric nat_cmp-IsAntisymmetric pair.0 key o))
    ∙ below_all-at first.0 pairs place pair rest (both_left _ _ h) e in
    ap (λ r. cond (is_eq r) (Some first.1) (find order key pairs)) (turned first.0 key Less below)
    ∙ find-at key pairs place pair rest (both_right _ _ h) e o
