-- Inner rings that are added to polygons one after the other.
use Rattle.std.proofs.Common.{◌≡◌, ◌≢◌, ℕ, ◌+◌, ◌<◌, ◌≤◌, ◌-◌, ◌%◌, ◌==◌, suc, zero, refl, ap, ◌∙◌, arith, List, [], ◌∷◌, ◌++◌, length, map}
use Rattle.std.proofs.Common.{take, get_or, set, Bool, true, false, not, cond, ◌&&◌, if◌then◌else◌, Option, Some, add-zero, sym, zero-add}
use Rattle.std.specs.List.{filter, list_all}
use Rattle.std.proofs.lemmas.Bool.Decides.{nat_tests}
use Rattle.std.proofs.lemmas.Grind.{get_or_default_zero}
use Rattle.std.proofs.lemmas.List.{append-nil, get_or_default, length-map}
use Rattle.lanes_geo.specs.Nesting.{Ring, depth, holds, is_outer, owns, owner, belongs, ring_at}
use Rattle.ring_nest.specs.declared.tree.Tree.{Tree}
use Rattle.ring_nest.specs.Holders.{HoldsAll, IsLeast, holders_in, inner_owner, is_above}
use Rattle.ring_nest.specs.Polygons.{polygons_from, slots_from}
use Rattle.ring_nest.proofs.Owned.{owner_from, owner_is}
use Rattle.ring_nest.proofs.Held.{next_of}

-- what a function gives for a member
pub mapped_at : {A : Type 0} (f : Ring → A) (rings : List Ring) (values : List A) (at : ℕ) (ring : Ring) (d : A) → values ≡ map f rings
    → at < length rings → ring ≡ get_or rings at ring → get_or values at d ≡ f ring
mapped_at f [] values at ring d e h g = absurd (omega arith)
mapped_at f (other ∷ rings) values zero ring d e h g = rw (e, g)
mapped_at f (other ∷ rings) values (suc at) ring d e h g = rw e (mapped_at f rings (map f rings) at ring d refl (omega arith) g)

never : (b : Bool) → (b && false) ≡ false
never true = refl
never false = refl

same_number : (n : ℕ) → (n == n) ≡ true
same_number n = grind (arith, nat_tests)

filter_cases : (p : Ring → Bool) (xs : List Ring) (x y : Ring) (b : Bool)
    → filter p (xs ++ x ∷ []) ≡ filter p xs ++ (if p x then x ∷ [] else [])
    → cond b (y ∷ filter p (xs ++ x ∷ [])) (filter p (xs ++ x ∷ [])) ≡ cond b (y ∷ filter p xs) (filter p xs)
    ++ (if p x then x ∷ [] else [])
filter_cases p xs x y true e = ap (λ ys. y ∷ ys) e
filter_cases p xs x y false e = e

filter-last : (p : Ring → Bool) (xs : List Ring) (x : Ring) → filter p (xs ++ x ∷ []) ≡ filter p xs ++ (if p x then x ∷ [] else [])
filter-last p [] x = refl
filter-last p (y ∷ xs) x = filter_cases p xs x y (p y) (filter-last p xs x)

-- an outer ring is no inner one
not_inner : (rings : List Ring) (number : ℕ) (ring : Ring) → is_outer rings ring ≡ true → belongs rings number ring ≡ false
not_inner rings number ring e = rw e

not_there : (rings : List Ring) (number other : ℕ) (ring : Ring) → owner rings ring ≡ Some other → (other == number) ≡ false
    → belongs rings number ring ≡ false
not_there rings number other ring e f = rw (e, f) (never (not (is_outer rings ring)))

there : (rings : List Ring) (number : ℕ) (ring : Ring) → is_outer rings ring ≡ false → owner rings ring ≡ Some number
    → belongs rings number ring ≡ true
there rings number ring e f = rw (e, f) (same_number number)

filter_same : (rings inner : List Ring) (number : ℕ) (ring : Ring) → belongs rings number ring ≡ false
    → filter (belongs rings number) (inner ++ ring ∷ []) ≡ filter (belongs rings number) inner
filter_same rings inner number ring e = filter-last (belongs rings number) inner ring ∙ (rw (e, append-nil))

filter_more : (rings inner : List Ring) (number : ℕ) (ring : Ring) → belongs rings number ring ≡ true
    → filter (belongs rings number) (inner ++ ring ∷ []) ≡ filter (belongs rings number) inner ++ ring ∷ []
filter_more rings inner number ring e = filter-last (belongs rings number) inner ring ∙ (rw e)

-- a ring that belongs to none of the numbers from here on changes nothing
same_polygons : (rings inner : List Ring) (ring : Ring) → (number : ℕ) (rest : List Ring)
    → ((n : ℕ) → number ≤ n → belongs rings n ring ≡ false)
    → polygons_from rings (inner ++ ring ∷ []) number rest ≡ polygons_from rings inner number rest
same_polygons rings inner ring number [] none = refl
same_polygons rings inner ring number (other ∷ rest) none =
    let one = filter_same rings inner number ring (none number (omega arith)) in
    let more = same_polygons rings inner ring (number + 1) rest (λ n h. none n (omega arith)) in
    rw (one, more)

pub outer_added : (rings inner : List Ring) (ring : Ring) → is_outer rings ring ≡ true
    → polygons_from rings (inner ++ ring ∷ []) 0 rings ≡ polygons_from rings inner 0 rings
outer_added rings inner ring e = same_polygons rings inner ring 0 rings (λ n h. not_inner rings n ring e)

slots_low_next : (place : ℕ) (depths : List ℕ) (k : ℕ) (b : Bool) → place ≤ get_or (slots_from place depths) k 0
    → place + 1 ≤ get_or (slots_from (place + 1) depths) k 0
    → place ≤ get_or (slots_from (if b then place + 1 else place) depths) k 0
slots_low_next place depths k true e f = omega (arith, f)
slots_low_next place depths k false e f = e

slots_low : (place : ℕ) (depths : List ℕ) (k : ℕ) → k < length depths → place ≤ get_or (slots_from place depths) k 0
slots_low place [] k h = absurd (omega arith)
slots_low place (d ∷ depths) zero h = omega arith
slots_low place (d ∷ depths) (suc k) h =
    slots_low_next place depths k (d % 2 == 0) (slots_low place depths k (omega arith)) (slots_low (place + 1) depths k (omega arith))

other_number : (number n : ℕ) → number + 1 ≤ n → (number == n) ≡ false
other_number number n h = grind (arith, nat_tests)

later_number : (number k : ℕ) → (((number + 1) + k) == number) ≡ false
later_number number k = grind (arith, nat_tests)

moved : (number k : ℕ) → number + suc k ≡ (number + 1) + k
moved number k = omega arith

-- the place of the polygon of an outer ring, and what an inner ring of it changes
pub record Added (rings inner : List Ring) (ring : Ring) (number : ℕ) (rest : List Ring) (slot : ℕ) : Type 0 where
  pub within : slot < length (polygons_from rings inner number rest)
  pub change : polygons_from rings (inner ++ ring ∷ []) number rest
      ≡ set (polygons_from rings inner number rest) slot (get_or (polygons_from rings inner number rest) slot [] ++ ring ∷ [])

added_here : (rings inner : List Ring) (ring : Ring) (number : ℕ) (other : Ring) (rest : List Ring)
    → is_outer rings ring ≡ false → owner rings ring ≡ Some number → is_outer rings other ≡ true
    → Added rings inner ring number (other ∷ rest) 0
added_here rings inner ring number other rest e f g =
    let one = filter_more rings inner number ring (there rings number ring e f) in
    let more = same_polygons rings inner ring (number + 1) rest (λ n h. not_there rings n number ring f (other_number number n h)) in
    record { within = rw g (omega arith); change = rw (g, one, more) }

added_later : (rings inner : List Ring) (ring : Ring) (number k : ℕ) (other : Ring) (rest : List Ring) (slot : ℕ) (b : Bool)
    → is_outer rings other ≡ b
    → owner rings ring ≡ Some ((number + 1) + k) → Added rings inner ring (number + 1) rest slot
    → Added rings inner ring number (other ∷ rest) (if b then suc slot else slot)
added_later rings inner ring number k other rest slot true g f a =
    let one = filter_same rings inner number ring (not_there rings number ((number + 1) + k) ring f (later_number number k)) in
    let w = a.within in
    record { within = rw g (omega arith); change = rw (g, one, a.change) }
added_later rings inner ring number k other rest slot false g f a = record { within = rw g a.within; change = rw g a.change }

added_next : (rings inner : List Ring) (ring : Ring) (number k : ℕ) (other : Ring) (rest : List Ring) (place slot : ℕ) (d : Ring)
    → is_outer rings ring ≡ false → owner rings ring ≡ Some ((number + 1) + k) → k < length rest → is_outer rings (get_or rest k d) ≡ true
    → (b : Bool) → is_outer rings other ≡ b
    → place + slot ≡ get_or (slots_from (if is_outer rings other then place + 1 else place) (map (depth rings) rest)) k 0
    → ((place slot : ℕ) → place + slot ≡ get_or (slots_from place (map (depth rings) rest)) k 0
    → Added rings inner ring (number + 1) rest slot)
    → Added rings inner ring number (other ∷ rest) slot
added_next rings inner ring number k other rest place slot d e f h g true o s more =
    let t = rw o at s in
    let low = slots_low (place + 1) (map (depth rings) rest) k (rw (length-map rest (depth rings)) h) in
    let some : slot ≡ suc (slot - 1) = omega (arith, t, low) in
    let less : (place + 1) + (slot - 1) ≡ get_or (slots_from (place + 1) (map (depth rings) rest)) k 0 = omega (arith, t, low) in
    rw some (added_later rings inner ring number k other rest (slot - 1) true o f (more (place + 1) (slot - 1) less))
added_next rings inner ring number k other rest place slot d e f h g false o s more =
    let t = rw o at s in
    added_later rings inner ring number k other rest slot false o f (more place slot t)

pub added : (rings inner : List Ring) (ring : Ring) (number k : ℕ) (rest : List Ring) (place slot : ℕ) (d : Ring)
    → is_outer rings ring ≡ false → owner rings ring ≡ Some (number + k) → k < length rest → is_outer rings (get_or rest k d) ≡ true
    → place + slot ≡ get_or (slots_from place (map (depth rings) rest)) k 0 → Added rings inner ring number rest slot
added rings inner ring number k [] place slot d e f h g s = absurd (omega arith)
added rings inner ring number zero (other ∷ rest) place slot d e f h g s =
    let none : slot ≡ 0 = omega (arith, s) in
    rw none (added_here rings inner ring number other rest e (f ∙ (rw add-zero)) g)
added rings inner ring number (suc k) (other ∷ rest) place slot d e f h g s =
    added_next rings inner ring number k other rest place slot d e (f ∙ (rw (moved number k))) (omega arith) g (is_outer rings other) refl s
    (λ next before t. added rings inner ring (number + 1) k rest next before d e (f ∙ (rw (moved number k))) (omega arith) g t)

-- the ring that owns another one is an outer one where that is an inner one
pub record Owner (rings : List Ring) (number : ℕ) (rest : List Ring) (ring : Ring) (found : ℕ) (d : Ring) : Type 0 where
  pub k : ℕ
  pub is : found ≡ number + k
  pub within : k < length rest
  pub owned : owns rings (get_or rest k d) ring ≡ true

found_next : (rings : List Ring) (number : ℕ) (other : Ring) (rest : List Ring) (ring : Ring) (found : ℕ) (d : Ring) (b : Bool)
    → owns rings other ring ≡ b
    → (if b then Some number else owner_from rings (number + 1) rest ring) ≡ Some found
    → (owner_from rings (number + 1) rest ring ≡ Some found → Owner rings (number + 1) rest ring found d)
    → Owner rings number (other ∷ rest) ring found d
found_next rings number other rest ring found d true o e more =
    let same : number ≡ found = cc in
    record { k = 0; is = omega (arith, same); within = omega arith; owned = o }
found_next rings number other rest ring found d false o e more =
    let next = more e in
    let is = next.is in
    let within = next.within in
    record { k = suc next.k; is = omega (arith, is); within = omega (arith, within); owned = next.owned }

found_in : (rings : List Ring) (number : ℕ) (rest : List Ring) (ring : Ring) (found : ℕ) (d : Ring)
    → owner_from rings number rest ring ≡ Some found → Owner rings number rest ring found d
found_in rings number [] ring found d e = absurd (cc)
found_in rings number (other ∷ rest) ring found d e =
    found_next rings number other rest ring found d (owns rings other ring) refl e (found_in rings (number + 1) rest ring found d)

parity : (a b : ℕ) (h : Bool) → (h && (a + 1 == b)) ≡ true → (b % 2 == 0) ≡ false → (a % 2 == 0) ≡ true
parity a b true e f =
    let one : a + 1 ≡ b = grind (arith, nat_tests) in
    let two : b % 2 ≢ 0 = grind (arith, nat_tests) in
    let three : a % 2 ≡ 0 = omega (arith, one, two) in
    rw three
parity a b false e f = absurd (cc)

outer_of : (rings : List Ring) (other ring : Ring) → owns rings other ring ≡ true → is_outer rings ring ≡ false
    → is_outer rings other ≡ true
outer_of rings other ring e f = parity (depth rings other) (depth rings ring) (holds other ring) e f

slots_long : (place : ℕ) (depths : List ℕ) → length (slots_from place depths) ≡ length depths
slots_long place [] = refl
slots_long place (d ∷ depths) = ap suc (slots_long (if d % 2 == 0 then place + 1 else place) depths)

-- the place of the polygon of an inner ring
pub slot_of : (rings inner : List Ring) (ring : Ring) (depths slots : List ℕ) (found : ℕ) → depths ≡ map (depth rings) rings
    → slots ≡ slots_from 0 depths
    → is_outer rings ring ≡ false → owner rings ring ≡ Some found
    → (found < length slots) × Added rings inner ring 0 rings (get_or slots found 0)
slot_of rings inner ring depths slots found e f inner_one g =
    let o = found_in rings 0 rings ring found [] g in
    let is = o.is in
    let within = o.within in
    let same : found ≡ o.k = omega (arith, is) in
    let outer = outer_of rings (get_or rings o.k []) ring o.owned inner_one in (
      rw (f, e) (rw (slots_long 0 (map (depth rings) rings), length-map rings (depth rings)) (omega (arith, same, within))),
      added rings inner ring 0 found rings 0 (get_or slots found 0) [] inner_one (g ∙ (rw zero-add)) (omega (arith, same, within))
          (rw same outer) (zero-add (get_or slots found 0) ∙ (rw (f, e))),
    )

all_append_next : (p : Ring → Bool) (xs : List Ring) (x : Ring) (b : Bool) → (b && list_all p xs) ≡ true
    → (list_all p xs ≡ true → list_all p (xs ++ x ∷ []) ≡ true)
    → (b && list_all p (xs ++ x ∷ [])) ≡ true
all_append_next p xs x true e more = more e
all_append_next p xs x false e more = absurd (cc)

all_append : (p : Ring → Bool) (xs : List Ring) (x : Ring) → list_all p xs ≡ true → p x ≡ true → list_all p (xs ++ x ∷ []) ≡ true
all_append p [] x e f = rw f
all_append p (y ∷ xs) x e f = all_append_next p xs x (p y) e (λ more. all_append p xs x more f)

-- one ring without a place leaves no polygons
pub all_next : (p : Ring → Bool) (xs : List Ring) (at : ℕ) (d : Ring) → at < length xs → list_all p (take at xs) ≡ true
    → p (get_or xs at d) ≡ true
    → list_all p (take (at + 1) xs) ≡ true
all_next p xs at d h e f = rw (next_of xs at d h) (all_append p (take at xs) (get_or xs at d) e f)

pub one_fails : (p : Ring → Bool) (xs : List Ring) (at : ℕ) (d : Ring) → at < length xs → p (get_or xs at d) ≡ false → list_all p xs ≡ false
one_fails p [] at d h e = absurd (omega arith)
one_fails p (x ∷ xs) zero d h e = rw e
one_fails p (x ∷ xs) (suc at) d h e = rw (one_fails p xs at d (omega arith) e) (never (p x))

is_zero : (n : ℕ) → n ≢ 0 → (n == 0) ≡ false
is_zero n h = grind (arith, nat_tests)

-- an inner ring, by its depth
pub inner_is : (rings : List Ring) (depths : List ℕ) (at : ℕ) (ring : Ring) → depths ≡ map (depth rings) rings → at < length rings
    → ring ≡ get_or rings at ring
    → get_or depths at 0 % 2 ≢ 0 → is_outer rings ring ≡ false
inner_is rings depths at ring e h g odd_one =
    let deep = mapped_at (depth rings) rings depths at ring 0 e h g in
    is_zero (depth rings ring % 2) (rw deep at odd_one)

-- the ring that an inner ring belongs to
pub inner_owner_is : (rings : List Ring) (tree : Tree) (depths : List ℕ) (at deep : ℕ) (r : Option ℕ) → HoldsAll rings tree
    → depths ≡ map (depth rings) rings → at < length rings → deep ≡ get_or depths at deep → deep % 2 ≢ 0
    → IsLeast (is_above depths deep) (holders_in rings tree (ring_at rings at)) r → r ≡ inner_owner rings (ring_at rings at)
inner_owner_is rings tree depths at deep r h e low is odd_one least =
    let long : at < length depths = rw (e, length-map rings (depth rings)) low in
    let same = is ∙ get_or_default_zero depths at deep long in
    let inner = inner_is rings depths at (ring_at rings at) e low (get_or_default rings at [] (ring_at rings at) low) (rw same at odd_one) in
    rw inner (sym (owner_is rings tree depths at r h e low (rw same at least)))

pub owner_of_inner : (rings : List Ring) (owners : List (Option ℕ)) (at : ℕ) (ring : Ring) (r d : Option ℕ)
    → owners ≡ map (inner_owner rings) rings → at < length rings → ring ≡ get_or rings at ring → is_outer rings ring ≡ false
    → get_or owners at d ≡ r → owner rings ring ≡ r
owner_of_inner rings owners at ring r d e low f inner g = rw inner at (sym (mapped_at (inner_owner rings) rings owners at ring d e low f) ∙ g)
