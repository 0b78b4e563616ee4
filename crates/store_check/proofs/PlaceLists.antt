-- What is found in lists by the remainders of ids, and what a place more makes of them.
use Rattle.std.proofs.Common.{◌≡◌, ◌≢◌, ◌<◌, ◌≤◌, ◌+◌, ◌%◌, ℕ, zero, suc, Bool, true, false, cond, List, [], ◌∷◌, ◌++◌, length, get_or, set}
use Rattle.std.proofs.Common.{Option, Some, None, Result, Ok, Err, OnErr, refl, sym, ap, ◌∙◌, arith}
use Rattle.std.specs.Cmp.{nat_cmp_total}
use Rattle.std.specs.FinMap as finite
use Rattle.std.specs.FinMap.{nat_cmp-IsAntisymmetric}
use Rattle.std.specs.List.{flat_map}
use Rattle.std.specs.Option.{option_or}
use Rattle.std.specs.Ordering.{nat_cmp, eq_by_cmp}
use Rattle.osm_base.specs.values.Place.{PlaceOf}
use Rattle.store_check.specs.Places.{AreOwn, PlaceMap, joined_lists}
use Rattle.store_check.proofs.PlaceFinds.{apart_tied, chosen_or, find_both, tied_same}

abbrev found : List PlaceMap → ℕ → Option PlaceOf
found lists id = finite.find nat_cmp id (flat_map finite.entries lists)

get_joined : (lists : List PlaceMap) (id : ℕ) → finite.get (joined_lists lists) id ≡ found lists id
get_joined lists id = finite.get-from_entries nat_cmp_total (flat_map finite.entries lists) id

-- the first list goes before the others
found_first : (list : PlaceMap) (lists : List PlaceMap) (id : ℕ) → found (list ∷ lists) id ≡ option_or (finite.get list id) (found lists id)
found_first list lists id =
    find_both id (finite.entries list) (flat_map finite.entries lists)
    ∙ ap (λ place. option_or place (found lists id)) (sym (finite.get-entries list id))

or_nothing : (place : Option PlaceOf) → option_or place None ≡ place
or_nothing None = refl
or_nothing (Some place) = refl

-- an id of a remainder that is none of theirs
none_of : (count number : ℕ) (lists : List PlaceMap) (id : ℕ) → AreOwn count number lists
    → ((at : ℕ) → at < length lists → id % count ≢ number + at) → found lists id ≡ None
none_of count number [] id own apart = refl
none_of count number (list ∷ lists) id own apart =
    found_first list lists id
    ∙ ap (λ place. option_or place (found lists id)) (own.0 id (λ is. apart zero (omega arith) (omega (arith, is))))
    ∙ none_of count (number + 1) lists id own.1 (λ at within is. apart (suc at) (omega (arith, within)) (omega (arith, is)))

-- an id of the remainder of one of them
found_in : (count number : ℕ) (lists : List PlaceMap) (at id : ℕ) (list : PlaceMap) → AreOwn count number lists → at < length lists
    → id % count ≡ number + at → found lists id ≡ finite.get (get_or lists at list) id
found_in count number [] at id list own within is = absurd (omega (arith, within))
found_in count number (first ∷ lists) zero id list own within is =
    found_first first lists id
    ∙ ap (option_or (finite.get first id)) (none_of count (number + 1) lists id own.1 (λ at inside same. absurd (omega (arith, same, is))))
    ∙ or_nothing (finite.get first id)
found_in count number (first ∷ lists) (suc at) id list own within is =
    found_first first lists id
    ∙ ap (λ place. option_or place (found lists id)) (own.0 id (λ same. absurd (omega (arith, same, is))))
    ∙ found_in count (number + 1) lists at id list own.1 (omega (arith, within)) (omega (arith, is))

pub get_in : (count : ℕ) (lists : List PlaceMap) (at id : ℕ) (list : PlaceMap) → AreOwn count 0 lists → at < length lists
    → at ≡ id % count → finite.get (get_or lists at list) id ≡ finite.get (joined_lists lists) id
get_in count lists at id list own within is =
    sym (found_in count 0 lists at id list own within (omega (arith, is))) ∙ sym (get_joined lists id)

pub get_past : (count : ℕ) (lists : List PlaceMap) (at id : ℕ) → AreOwn count 0 lists → length lists ≤ at → at ≡ id % count
    → None ≡ finite.get (joined_lists lists) id
get_past count lists at id own past is =
    sym (none_of count 0 lists id own (λ other within same. absurd (omega (arith, past, within, same, is)))) ∙ sym (get_joined lists id)

skip : (b : Bool) (place : PlaceOf) (one other : Option PlaceOf) → (b ≡ true → one ≡ None)
    → option_or one (cond b (Some place) other) ≡ cond b (Some place) (option_or one other)
skip true place one other none = ap (λ found. option_or found (Some place)) (none refl)
skip false place one other none = refl

found_put : (count number : ℕ) (lists : List PlaceMap) (at id : ℕ) (place : PlaceOf) (list new : PlaceMap) (other : ℕ)
    → AreOwn count number lists → at < length lists → id % count ≡ number + at → new ≡ finite.insert (get_or lists at list) id place
    → found (set lists at new) other ≡ cond (eq_by_cmp nat_cmp other id) (Some place) (found lists other)
found_put count number [] at id place list new other own within is put = absurd (omega (arith, within))
found_put count number (first ∷ lists) zero id place list new other own within is put =
    found_first new lists other
    ∙ ap (λ (own : PlaceMap). option_or (finite.get own other) (found lists other)) put
    ∙ ap (λ place. option_or place (found lists other)) (finite.get-insert nat_cmp_total first id place other)
    ∙ sym (chosen_or (eq_by_cmp nat_cmp other id) place (finite.get first other) (found lists other))
    ∙ ap (cond (eq_by_cmp nat_cmp other id) (Some place)) (sym (found_first first lists other))
found_put count number (first ∷ lists) (suc at) id place list new other own within is put =
    found_first first (set lists at new) other
    ∙ ap (option_or (finite.get first other))
    (found_put count (number + 1) lists at id place list new other own.1 (omega (arith, within)) (omega (arith, is)) put)
    ∙ skip (eq_by_cmp nat_cmp other id) place (finite.get first other) (found lists other)
    (λ tied. own.0 other (λ same.
    let remainder = ap (λ n. n % count) (tied_same other id tied) in
    absurd (omega (arith, same, is, remainder))))
    ∙ ap (cond (eq_by_cmp nat_cmp other id) (Some place)) (sym (found_first first lists other))

-- a place more in its list
pub put_in : (count : ℕ) (lists : List PlaceMap) (at id : ℕ) (place : PlaceOf) (list new : PlaceMap) → AreOwn count 0 lists
    → at < length lists → at ≡ id % count → new ≡ finite.insert (get_or lists at list) id place
    → joined_lists (set lists at new) ≡ finite.insert (joined_lists lists) id place
put_in count lists at id place list new own within is put = finite.same_map nat_cmp_total nat_cmp-IsAntisymmetric _ _ (λ other.
    get_joined (set lists at new) other
    ∙ found_put count 0 lists at id place list new other own within (omega (arith, is)) put
    ∙ ap (cond (eq_by_cmp nat_cmp other id) (Some place)) (sym (get_joined lists other))
    ∙ sym (finite.get-insert nat_cmp_total (joined_lists lists) id place other))

-- the list of a remainder has no other ids
own_at : (count number : ℕ) (lists : List PlaceMap) (at : ℕ) (list : PlaceMap) → AreOwn count number lists → at < length lists
    → (id : ℕ) → id % count ≢ number + at → finite.get (get_or lists at list) id ≡ None
own_at count number [] at list own within id apart = absurd (omega (arith, within))
own_at count number (first ∷ lists) zero list own within id apart = own.0 id (λ same. apart (omega (arith, same)))
own_at count number (first ∷ lists) (suc at) list own within id apart =
    own_at count (number + 1) lists at list own.1 (omega (arith, within)) id (λ same. apart (omega (arith, same)))

own_set : (count number : ℕ) (lists : List PlaceMap) (at : ℕ) (new : PlaceMap) → AreOwn count number lists
    → ((id : ℕ) → id % count ≢ number + at → finite.get new id ≡ None) → AreOwn count number (set lists at new)
own_set count number [] at new own alone = tt
own_set count number (first ∷ lists) zero new own alone = ((λ id apart. alone id (λ same. apart (omega (arith, same)))), own.1)
own_set count number (first ∷ lists) (suc at) new own alone =
    (own.0, own_set count (number + 1) lists at new own.1 (λ id apart. alone id (λ same. apart (omega (arith, same)))))

pub own_put : (count : ℕ) (lists : List PlaceMap) (at id : ℕ) (place : PlaceOf) (list new : PlaceMap) → AreOwn count 0 lists
    → at < length lists → at ≡ id % count → new ≡ finite.insert (get_or lists at list) id place → AreOwn count 0 (set lists at new)
own_put count lists at id place list new own within is put = own_set count 0 lists at new own (λ other apart.
    ap (λ (own : PlaceMap). finite.get own other) put
    ∙ finite.get-insert nat_cmp_total (get_or lists at list) id place other
    ∙ ap (λ b. cond b (Some place) (finite.get (get_or lists at list) other))
    (apart_tied other id (λ same. apart (omega (arith, ap (λ n. n % count) same, is))))
    ∙ own_at count 0 lists at list own within other apart)

pub own_same : (count : ℕ) (lists : List PlaceMap) (at : ℕ) (list new : PlaceMap) → AreOwn count 0 lists → at < length lists
    → new ≡ get_or lists at list → AreOwn count 0 (set lists at new)
own_same count lists at list new own within same = own_set count 0 lists at new own (λ id apart.
    ap (λ (own : PlaceMap). finite.get own id) same ∙ own_at count 0 lists at list own within id apart)

-- a fact is one of a refusal too
pub on_err : {T E P : Type 0} (result : Result T E) → P → OnErr result P
on_err (Ok value) is = tt
on_err (Err fault) is = is

set_same : (lists : List PlaceMap) (at : ℕ) (list new : PlaceMap) → at < length lists → new ≡ get_or lists at list
    → set lists at new ≡ lists
set_same [] at list new within same = absurd (omega (arith, within))
set_same (first ∷ lists) zero list new within same = ap (λ (own : PlaceMap). own ∷ lists) same
set_same (first ∷ lists) (suc at) list new within same =
    ap (λ (own : List PlaceMap). first ∷ own) (set_same lists at list new (omega (arith, within)) same)

-- a list that stays
pub joined_same : (lists : List PlaceMap) (at : ℕ) (list new : PlaceMap) → at < length lists → new ≡ get_or lists at list
    → joined_lists (set lists at new) ≡ joined_lists lists
joined_same lists at list new within same = ap joined_lists (set_same lists at list new within same)

found_more : (lists : List PlaceMap) (list : PlaceMap) (id : ℕ) → list ≡ finite.empty → found (lists ++ list ∷ []) id ≡ found lists id
found_more [] list id none =
    found_first list [] id
    ∙ or_nothing (finite.get list id)
    ∙ ap (λ (own : PlaceMap). finite.get own id) none
    ∙ finite.get-empty nat_cmp id
found_more (first ∷ lists) list id none =
    found_first first (lists ++ list ∷ []) id
    ∙ ap (option_or (finite.get first id)) (found_more lists list id none)
    ∙ sym (found_first first lists id)

-- an empty list more
pub joined_more : (lists : List PlaceMap) (list : PlaceMap) → list ≡ finite.empty → joined_lists (lists ++ list ∷ []) ≡ joined_lists lists
joined_more lists list none = finite.same_map nat_cmp_total nat_cmp-IsAntisymmetric _ _ (λ id.
    get_joined (lists ++ list ∷ []) id ∙ found_more lists list id none ∙ sym (get_joined lists id))

own_from : (count number : ℕ) (lists : List PlaceMap) (list : PlaceMap) → list ≡ finite.empty → AreOwn count number lists
    → AreOwn count number (lists ++ list ∷ [])
own_from count number [] list none own =
    ((λ id _. ap (λ (own : PlaceMap). finite.get own id) none ∙ finite.get-empty nat_cmp id), tt)
own_from count number (first ∷ lists) list none own = (own.0, own_from count (number + 1) lists list none own.1)

pub own_more : (count : ℕ) (lists : List PlaceMap) (list : PlaceMap) → list ≡ finite.empty → AreOwn count 0 lists
    → AreOwn count 0 (lists ++ list ∷ [])
own_more count lists list none own = own_from count 0 lists list none own
