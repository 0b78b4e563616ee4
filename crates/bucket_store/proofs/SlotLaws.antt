-- What slots have, as a finite map, and what a change of one of them makes of it.
use Rattle.std.proofs.Common.{◌≡◌, ◌≢◌, ◌⊎◌, ◌<◌, ℕ, zero, suc, Bool, true, false, cond, List, [], ◌∷◌, ◌++◌, length, get_or, set}
use Rattle.std.proofs.Common.{Bor, Option, Some, None, refl, sym, ap, subst, ◌∙◌, arith, inl, inr}
use Rattle.std.proofs.lemmas.Bool.{cases_order, cases_eq}
use Rattle.std.proofs.lemmas.List.{append-nil, length-set, length_push, get_or-set_same, get_or-set_other, get_or_append_left, get_or_push}
use Rattle.std.specs.Cmp.{nat_cmp_total}
use Rattle.std.specs.FinMap as map
use Rattle.std.specs.FinMap.{nat_cmp-IsAntisymmetric}
use Rattle.std.specs.Option.{IfSome, MatchOption, option_copied, option_or}
use Rattle.std.specs.Ordering.{nat_cmp, eq_by_cmp, is_eq}
use Rattle.bucket_records.proofs.MapLaws.{less_of, equal_of, greater_of}
use Rattle.bucket_store.specs.Cache.{CacheMap}
use Rattle.bucket_store.specs.Places.{place_of}
use Rattle.bucket_store.specs.Slots.{ArePlaced, IsSlotAt, LacksSlot, keep, kept, map_of}
use Rattle.bucket_store.specs.declared.cache.Cached.{Cached}
use Rattle.bucket_store.specs.declared.places.Places.{Places}
use Rattle.bucket_store.specs.declared.slots.Slot.{Slot}

same_number : (a b : ℕ) → a ≡ b → eq_by_cmp nat_cmp a b ≡ true
same_number a b same = ap is_eq (equal_of a b same)

apart_number : (a b : ℕ) → a ≢ b → eq_by_cmp nat_cmp a b ≡ false
apart_number a b apart = elim (cases_order a b) [
  | inl same ↦ absurd (apart same)
  | inr (inl low) ↦ ap is_eq (less_of a b low)
  | inr (inr high) ↦ ap is_eq (greater_of a b high)
]

-- the bucket of a number
abbrev found : ℕ → List Slot → Option Cached
found n slots = map.find nat_cmp n (kept slots)

get_found : (slots : List Slot) (n : ℕ) → map.get (map_of slots) n ≡ found n slots
get_found slots n = map.get-from_entries nat_cmp_total (kept slots) n

alike : (b : Bool) (o : Option Cached) → o ≡ cond b o o
alike true o = refl
alike false o = refl

found_keep : (own : Option Cached) (number n : ℕ) (others : List (ℕ × Cached))
    → map.find nat_cmp n (keep own number others)
    ≡ cond (eq_by_cmp nat_cmp n number) (option_or own (map.find nat_cmp n others)) (map.find nat_cmp n others)
found_keep None number n others = alike (eq_by_cmp nat_cmp n number) (map.find nat_cmp n others)
found_keep (Some own) number n others = refl

found_past : (n : ℕ) (slot : Slot) (slots : List Slot) → n ≢ slot.number → found n (slot ∷ slots) ≡ found n slots
found_past n slot slots apart =
    found_keep slot.own slot.number n (kept slots)
    ∙ ap (λ b. cond b (option_or slot.own (found n slots)) (found n slots)) (apart_number n slot.number apart)

or_none : (o : Option Cached) → option_or o None ≡ o
or_none None = refl
or_none (Some own) = refl

found_here : (n : ℕ) (slot : Slot) (slots : List Slot) → n ≡ slot.number → found n slots ≡ None → found n (slot ∷ slots) ≡ slot.own
found_here n slot slots same none =
    found_keep slot.own slot.number n (kept slots)
    ∙ ap (λ b. cond b (option_or slot.own (found n slots)) (found n slots)) (same_number n slot.number same)
    ∙ ap (λ o. option_or slot.own o) none
    ∙ or_none slot.own

head_at : (slot : Slot) (slots : List Slot) → IsSlotAt (slot ∷ slots) 0 slot
head_at slot slots = (omega arith, refl)

later_at : (first : Slot) (slots : List Slot) (k : ℕ) (slot : Slot) → IsSlotAt slots k slot → IsSlotAt (first ∷ slots) (suc k) slot
later_at first slots k slot at = (omega (arith, at.0), at.1)

found_none : (n : ℕ) (slots : List Slot) → LacksSlot slots n → found n slots ≡ None
found_none n [] lacks = refl
found_none n (slot ∷ slots) lacks =
    found_past n slot slots (λ same. lacks zero slot (head_at slot slots) (sym same))
    ∙ found_none n slots (λ k other at. lacks (suc k) other (later_at slot slots k other at))

-- the only slot of a number has its bucket
found_at : (slots : List Slot) (k : ℕ) (slot : Slot) → IsSlotAt slots k slot
    → ((j : ℕ) (other : Slot) → IsSlotAt slots j other → other.number ≡ slot.number → j ≡ k) → found slot.number slots ≡ slot.own
found_at [] k slot at alone = absurd (omega (arith, at.0))
found_at (first ∷ slots) zero slot at alone =
    found_here slot.number first slots (ap (λ (s : Slot). s.number) at.1)
    (found_none slot.number slots (λ j other there same.
    absurd (omega (arith, alone (suc j) other (later_at first slots j other there) same))))
    ∙ ap (λ (s : Slot). s.own) (sym at.1)
found_at (first ∷ slots) (suc k) slot at alone =
    found_past slot.number first slots (λ same.
    absurd (omega (arith, alone zero first (head_at first slots) (sym same))))
    ∙ found_at slots k slot (omega (arith, at.0), at.1)
    (λ j other there same. omega (arith, alone (suc j) other (later_at first slots j other there) same))

-- a slot of the same number in the place of one
found_beside : (slots : List Slot) (k n : ℕ) (slot new : Slot) → IsSlotAt slots k slot → new.number ≡ slot.number → n ≢ slot.number
    → found n (set slots k new) ≡ found n slots
found_beside [] k n slot new at same apart = absurd (omega (arith, at.0))
found_beside (first ∷ slots) zero n slot new at same apart =
    found_past n new slots (λ is. apart (is ∙ same))
    ∙ sym (found_past n first slots (λ is. apart (is ∙ ap (λ (s : Slot). s.number) (sym at.1))))
found_beside (first ∷ slots) (suc k) n slot new at same apart =
    found_keep first.own first.number n (kept (set slots k new))
    ∙ ap (λ o. cond (eq_by_cmp nat_cmp n first.number) (option_or first.own o) o)
    (found_beside slots k n slot new (omega (arith, at.0), at.1) same apart)
    ∙ sym (found_keep first.own first.number n (kept slots))

set_at : (slots : List Slot) (k : ℕ) (slot new : Slot) → IsSlotAt slots k slot → IsSlotAt (set slots k new) k new
set_at slots k slot new at = (
  subst (λ (n : ℕ). k < n) (sym (length-set slots k new)) at.0,
  sym (get_or-set_same slots k new new at.0),
)

-- what stands in a list with another slot in one place
at_set : (slots : List Slot) (k : ℕ) (new : Slot) (j : ℕ) (other : Slot) → k < length slots → IsSlotAt (set slots k new) j other
    → ((j ≡ k) × (other ≡ new)) ⊎ IsSlotAt slots j other
at_set slots k new j other within at = elim (cases_eq j k) [
  | inl same ↦
      inl (
        same,
        at.1 ∙ ap (λ i. get_or (set slots k new) i other) same ∙ get_or-set_same slots k new other within,
      )
  | inr apart ↦
      inr (
        subst (λ (n : ℕ). j < n) (length-set slots k new) at.0,
        at.1 ∙ get_or-set_other slots k j new other apart,
      )
]

pub placed_set : (places : Places) (slots : List Slot) (k : ℕ) (slot new : Slot) → ArePlaced places slots → IsSlotAt slots k slot
    → new.number ≡ slot.number → ArePlaced places (set slots k new)
placed_set places slots k slot new placed at same j other there = elim (at_set slots k new j other at.0 there) [
  | inl here ↦
      ap (λ (s : Slot). place_of places s.number) here.1 ∙ ap (λ n. place_of places n) same ∙ placed k slot at ∙ sym here.0
  | inr beside ↦ placed j other beside
]

alone_of : (places : Places) (slots : List Slot) (k : ℕ) (slot : Slot) → ArePlaced places slots → IsSlotAt slots k slot
    → (j : ℕ) (other : Slot) → IsSlotAt slots j other → other.number ≡ slot.number → j ≡ k
alone_of places slots k slot placed at j other there same =
    sym (placed j other there) ∙ ap (λ n. place_of places n) same ∙ placed k slot at

-- what a placed slot has is what the map has
pub get_at : (places : Places) (slots : List Slot) (k : ℕ) (slot : Slot) → ArePlaced places slots → IsSlotAt slots k slot
    → map.get (map_of slots) slot.number ≡ slot.own
get_at places slots k slot placed at =
    get_found slots slot.number ∙ found_at slots k slot at (alone_of places slots k slot placed at)

pub get_none : (slots : List Slot) (n : ℕ) → LacksSlot slots n → map.get (map_of slots) n ≡ None
get_none slots n lacks = get_found slots n ∙ found_none n slots lacks

set_found : (places : Places) (slots : List Slot) (k n : ℕ) (slot new : Slot) → ArePlaced places slots → IsSlotAt slots k slot
    → new.number ≡ slot.number → map.get (map_of (set slots k new)) n ≡ cond (eq_by_cmp nat_cmp n slot.number) new.own (map.get (map_of slots) n)
set_found places slots k n slot new placed at same = elim (cases_eq n slot.number) [
  | inl is ↦
      ap (λ i. map.get (map_of (set slots k new)) i) (is ∙ sym same)
      ∙ get_at places (set slots k new) k new (placed_set places slots k slot new placed at same) (set_at slots k slot new at)
      ∙ ap (λ b. cond b new.own (map.get (map_of slots) n)) (sym (same_number n slot.number is))
  | inr apart ↦
      get_found (set slots k new) n
      ∙ found_beside slots k n slot new at same apart
      ∙ sym (get_found slots n)
      ∙ ap (λ b. cond b new.own (map.get (map_of slots) n)) (sym (apart_number n slot.number apart))
]

-- a bucket that is put in at its slot
pub put_in : (places : Places) (slots : List Slot) (k : ℕ) (slot new : Slot) (own : Cached) → ArePlaced places slots
    → IsSlotAt slots k slot → new.number ≡ slot.number → new.own ≡ Some own
    → map_of (set slots k new) ≡ map.insert (map_of slots) slot.number own
put_in places slots k slot new own placed at same is = map.same_map nat_cmp_total nat_cmp-IsAntisymmetric _ _ (λ n.
    set_found places slots k n slot new placed at same
    ∙ ap (λ o. cond (eq_by_cmp nat_cmp n slot.number) o (map.get (map_of slots) n)) is
    ∙ sym (map.get-insert nat_cmp_total (map_of slots) slot.number own n))

-- and one that is taken out
pub taken_out : (places : Places) (slots : List Slot) (k : ℕ) (slot new : Slot) → ArePlaced places slots
    → IsSlotAt slots k slot → new.number ≡ slot.number → new.own ≡ None
    → map_of (set slots k new) ≡ map.remove (map_of slots) slot.number
taken_out places slots k slot new placed at same is = map.same_map nat_cmp_total nat_cmp-IsAntisymmetric _ _ (λ n.
    set_found places slots k n slot new placed at same
    ∙ ap (λ o. cond (eq_by_cmp nat_cmp n slot.number) o (map.get (map_of slots) n)) is
    ∙ sym (map.get-remove nat_cmp_total (map_of slots) slot.number n))

keeps : (b : Bool) (o other : Option Cached) → (b ≡ true → o ≡ other) → cond b o other ≡ other
keeps true o other same = same refl
keeps false o other same = refl

is_number : (a b : ℕ) → eq_by_cmp nat_cmp a b ≡ true → a ≡ b
is_number a b tied = elim (cases_eq a b) [ inl same ↦ same | inr apart ↦ absurd (cc (tied, apart_number a b apart)) ]

-- a slot whose bucket stays
pub stays_in : (places : Places) (slots : List Slot) (k : ℕ) (slot new : Slot) → ArePlaced places slots
    → IsSlotAt slots k slot → new.number ≡ slot.number → new.own ≡ slot.own → map_of (set slots k new) ≡ map_of slots
stays_in places slots k slot new placed at same is = map.same_map nat_cmp_total nat_cmp-IsAntisymmetric _ _ (λ n.
    set_found places slots k n slot new placed at same
    ∙ keeps (eq_by_cmp nat_cmp n slot.number) new.own (map.get (map_of slots) n)
    (λ tied. is ∙ sym (get_at places slots k slot placed at) ∙ ap (λ i. map.get (map_of slots) i) (sym (is_number n slot.number tied))))

-- a slot behind the others
keep_behind : (own : Option Cached) (n : ℕ) (others more : List (ℕ × Cached)) → keep own n (others ++ more) ≡ keep own n others ++ more
keep_behind None n others more = refl
keep_behind (Some own) n others more = refl

kept_push : (slots : List Slot) (slot : Slot) → kept (slots ++ slot ∷ []) ≡ kept slots ++ keep slot.own slot.number []
kept_push [] slot = refl
kept_push (first ∷ slots) slot =
    ap (λ others. keep first.own first.number others) (kept_push slots slot)
    ∙ keep_behind first.own first.number (kept slots) (keep slot.own slot.number [])

pub push_in : (slots : List Slot) (slot : Slot) (own : Cached) → LacksSlot slots slot.number → slot.own ≡ Some own
    → map_of (slots ++ slot ∷ []) ≡ map.insert (map_of slots) slot.number own
push_in slots slot own lacks is =
    ap (λ entries. map.from_entries {R = nat_cmp} entries)
    (kept_push slots slot ∙ ap (λ (o : Option Cached). kept slots ++ keep o slot.number []) is)
    ∙ map.from_entries_push nat_cmp_total nat_cmp-IsAntisymmetric (kept slots) slot.number own (found_none slot.number slots lacks)

-- what stands in a list with a slot more
at_push : (slots : List Slot) (slot : Slot) (j : ℕ) (other : Slot) → IsSlotAt (slots ++ slot ∷ []) j other
    → ((j ≡ length slots) × (other ≡ slot)) ⊎ IsSlotAt slots j other
at_push slots slot j other at = elim (cases_eq j (length slots)) [
  | inl same ↦
      inl (
        same,
        at.1 ∙ get_or_push slots slot other j (sym same),
      )
  | inr apart ↦
      let below : j < length slots = omega (arith, at.0, length_push slots slot, apart) in
      inr (below, at.1 ∙ get_or_append_left slots (slot ∷ []) other j below)
]

pub placed_push : (old new : Places) (slots : List Slot) (slot : Slot) → ArePlaced old slots
    → ((other : ℕ) → other ≢ slot.number → place_of new other ≡ place_of old other) → place_of new slot.number ≡ length slots
    → LacksSlot slots slot.number → ArePlaced new (slots ++ slot ∷ [])
placed_push old new slots slot placed others here lacks j other at = elim (at_push slots slot j other at) [
  | inl last ↦ ap (λ (s : Slot). place_of new s.number) last.1 ∙ here ∙ sym last.0
  | inr before ↦ others other.number (lacks j other before) ∙ placed j other before
]

-- a place for a number that has no slot
pub placed_later : (old new : Places) (slots : List Slot) (n : ℕ) → ArePlaced old slots
    → ((other : ℕ) → other ≢ n → place_of new other ≡ place_of old other) → LacksSlot slots n → ArePlaced new slots
placed_later old new slots n placed others lacks j other at = others other.number (lacks j other at) ∙ placed j other at

front_at : (slots : List Slot) (slot : Slot) (j : ℕ) (other : Slot) → IsSlotAt slots j other → IsSlotAt (slots ++ slot ∷ []) j other
front_at slots slot j other at = (
  omega (arith, at.0, length_push slots slot),
  at.1 ∙ sym (get_or_append_left slots (slot ∷ []) other j at.0),
)

last_at : (slots : List Slot) (slot : Slot) → IsSlotAt (slots ++ slot ∷ []) (length slots) slot
last_at slots slot = (omega (arith, length_push slots slot), sym (get_or_push slots slot slot (length slots) refl))

pub placed_front : (places : Places) (slots : List Slot) (slot : Slot) → ArePlaced places (slots ++ slot ∷ []) → ArePlaced places slots
placed_front places slots slot placed j other at = placed j other (front_at slots slot j other at)

pub lacks_last : (places : Places) (slots : List Slot) (slot : Slot) → ArePlaced places (slots ++ slot ∷ []) → LacksSlot slots slot.number
lacks_last places slots slot placed j other at same =
    absurd (omega (
      arith,
      at.0,
      alone_of places (slots ++ slot ∷ []) (length slots) slot placed (last_at slots slot) j other (front_at slots slot j other at) same,
    ))

-- a slot without a bucket is let go
pub let_go : (slots : List Slot) (slot : Slot) → slot.own ≡ None → map_of (slots ++ slot ∷ []) ≡ map_of slots
let_go slots slot is =
    ap (λ entries. map.from_entries {R = nat_cmp} entries)
    (kept_push slots slot ∙ ap (λ (o : Option Cached). kept slots ++ keep o slot.number []) is ∙ append-nil (kept slots))

swallow : (b : Bool) (own : Cached) (o : Option Cached) → (b ≡ true → o ≡ None) → cond b None (cond b (Some own) o) ≡ o
swallow true own o none = sym (none refl)
swallow false own o none = refl

-- a bucket that was put in last is taken out
pub last_out : (places : Places) (slots : List Slot) (slot : Slot) (own : Cached) → ArePlaced places (slots ++ slot ∷ []) → slot.own ≡ Some own
    → map_of slots ≡ map.remove (map_of (slots ++ slot ∷ [])) slot.number
last_out places slots slot own placed is =
    let lacks = lacks_last places slots slot placed in
    map.same_map nat_cmp_total nat_cmp-IsAntisymmetric _ _ (λ n. sym (
    map.get-remove nat_cmp_total (map_of (slots ++ slot ∷ [])) slot.number n
    ∙ ap (λ (m : CacheMap). cond (eq_by_cmp nat_cmp n slot.number) None (map.get m n)) (push_in slots slot own lacks is)
    ∙ ap (λ (o : Option Cached). cond (eq_by_cmp nat_cmp n slot.number) None o)
    (map.get-insert nat_cmp_total (map_of slots) slot.number own n)
    ∙ swallow (eq_by_cmp nat_cmp n slot.number) own (map.get (map_of slots) n)
    (λ tied. ap (λ i. map.get (map_of slots) i) (is_number n slot.number tied) ∙ get_none slots slot.number lacks)))

pub last_there : (places : Places) (slots : List Slot) (slot : Slot) (own : Cached) → ArePlaced places (slots ++ slot ∷ []) → slot.own ≡ Some own
    → map.get (map_of (slots ++ slot ∷ [])) slot.number ≡ Some own
last_there places slots slot own placed is =
    get_at places (slots ++ slot ∷ []) (length slots) slot placed (last_at slots slot) ∙ is

-- the same of a map that the slots are
pub slot_there : (shown slots : List Slot) (k : ℕ) (slot : Slot) → shown ≡ slots → k < length shown → slot ≡ get_or slots k slot
    → IsSlotAt slots k slot
slot_there shown slots k slot same within is = (subst (λ (own : List Slot). k < length own) same within, is)

pub slot_shown : (shown slots : List Slot) (k : ℕ) (slot : Slot) → shown ≡ slots → IsSlotAt slots k slot → IsSlotAt shown k slot
slot_shown shown slots k slot same at = subst (λ (own : List Slot). IsSlotAt own k slot) (sym same) at

pub seen_at : (places : Places) (slots : List Slot) (k n : ℕ) (slot : Slot) (seen : CacheMap) → map_of slots ≡ seen → ArePlaced places slots
    → IsSlotAt slots k slot → slot.number ≡ n → map.get seen n ≡ slot.own
seen_at places slots k n slot seen is placed at number =
    ap (λ i. map.get seen i) (sym number) ∙ ap (λ (m : CacheMap). map.get m slot.number) (sym is) ∙ get_at places slots k slot placed at

pub seen_none : (shown slots : List Slot) (n : ℕ) (seen : CacheMap) → map_of slots ≡ seen → shown ≡ slots → LacksSlot shown n
    → map.get seen n ≡ None
seen_none shown slots n seen is same lacks =
    ap (λ (m : CacheMap). map.get m n) (sym is) ∙ ap (λ (own : List Slot). map.get (map_of own) n) (sym same) ∙ get_none shown n lacks

pub seen_put : (places : Places) (slots : List Slot) (k n : ℕ) (slot new : Slot) (own : Cached) (seen : CacheMap) → map_of slots ≡ seen
    → ArePlaced places slots → IsSlotAt slots k slot → slot.number ≡ n → new.number ≡ slot.number → new.own ≡ Some own
    → map_of (set slots k new) ≡ map.insert seen n own
seen_put places slots k n slot new own seen is placed at number same put =
    put_in places slots k slot new own placed at same put
    ∙ ap (λ (m : CacheMap). map.insert m slot.number own) is
    ∙ ap (λ i. map.insert seen i own) number

pub seen_stays : (places : Places) (slots : List Slot) (k : ℕ) (slot new : Slot) (seen : CacheMap) → map_of slots ≡ seen
    → ArePlaced places slots → IsSlotAt slots k slot → new.number ≡ slot.number → new.own ≡ slot.own
    → map_of (set slots k new) ≡ seen
seen_stays places slots k slot new seen is placed at same stays = stays_in places slots k slot new placed at same stays ∙ is

-- a borrowed bucket is the one that is found
pub matched : (result : Option (Bor Cached)) (own found : Option Cached) → option_copied result ≡ own → found ≡ own
    → MatchOption result (found ≡ None) (λ own. found ≡ Some own.now)
matched None own found is same = same ∙ sym is
matched (Some one) own found is same = same ∙ sym is

pub seen_out : (places : Places) (slots : List Slot) (k n : ℕ) (slot new : Slot) → ArePlaced places slots → IsSlotAt slots k slot
    → slot.number ≡ n → new.number ≡ slot.number → new.own ≡ None → map_of (set slots k new) ≡ map.remove (map_of slots) n
seen_out places slots k n slot new placed at number same out =
    taken_out places slots k slot new placed at same out ∙ ap (λ i. map.remove (map_of slots) i) number

pub if_is : (result own : Option Cached) (P : Cached → Type 0) → result ≡ own → ((one : Cached) → own ≡ Some one → P one) → IfSome result P
if_is None own P is leads = tt
if_is (Some one) own P is leads = leads one (sym is)
