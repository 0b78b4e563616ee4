-- What is found among places that are listed.
use Rattle.std.proofs.Common.{◌≡◌, ◌≢◌, ◌<◌, ◌≤◌, ◌-◌, ℕ, zero, suc, Bool, true, false, cond, List, [], ◌∷◌, ◌++◌, length, get_or, nat_eq, nat_le}
use Rattle.std.proofs.Common.{Option, Some, None, refl, sym, ap, ◌∙◌, arith}
use Rattle.std.specs.BTreeMap.{BTreeMap, Updates, get_by}
use Rattle.std.specs.Cmp.{nat_cmp_total, unsigned_tied}
use Rattle.std.specs.FinMap as finite
use Rattle.std.specs.FinMap.{nat_cmp-IsAntisymmetric}
use Rattle.std.specs.List.{slice_get}
use Rattle.std.specs.List.Sorted.{IsNonDecreasingBy}
use Rattle.std.specs.Option.{option_or, unwrap_or}
use Rattle.std.specs.Ordering.{nat_cmp, eq_by_cmp}
use Rattle.std.proofs.lemmas.Bool.Decides.{nat_tests}
use Rattle.std.proofs.lemmas.List.Sorted.{IsNonDecreasingBy-push}
use Rattle.osm_base.specs.values.Place.{PlaceOf}
use Rattle.store_check.specs.Places.{PlaceMap, id_of}
use Rattle.store_check.proofs.Trees.{got_id, put_id}

pub tied_same : (id other : ℕ) → eq_by_cmp nat_cmp id other ≡ true → id ≡ other
tied_same id other tied =
    let is : nat_eq id other ≡ true = sym (unsigned_tied id other) ∙ tied in
    grind (arith, nat_tests, is)

same_tied : (id other : ℕ) → other ≡ id → eq_by_cmp nat_cmp id other ≡ true
same_tied id other same =
    let is : nat_eq id other ≡ true = grind (arith, nat_tests) in
    unsigned_tied id other ∙ is

pub apart_tied : (id other : ℕ) → other ≢ id → eq_by_cmp nat_cmp id other ≡ false
apart_tied id other apart =
    let is : nat_eq id other ≡ false = grind (arith, nat_tests) in
    unsigned_tied id other ∙ is

pub chosen_or : (b : Bool) (place : PlaceOf) (one other : Option PlaceOf)
    → cond b (Some place) (option_or one other) ≡ option_or (cond b (Some place) one) other
chosen_or true place one other = refl
chosen_or false place one other = refl

-- the first of two lists goes before the other
pub find_both : (id : ℕ) (one other : List (ℕ × PlaceOf))
    → finite.find nat_cmp id (one ++ other) ≡ option_or (finite.find nat_cmp id one) (finite.find nat_cmp id other)
find_both id [] other = refl
find_both id (first ∷ one) other =
    ap (cond (eq_by_cmp nat_cmp id first.0) (Some first.1)) (find_both id one other)
    ∙ chosen_or (eq_by_cmp nat_cmp id first.0) first.1 (finite.find nat_cmp id one) (finite.find nat_cmp id other)

-- an id that none of them has
pub find_none : (listed : List (ℕ × PlaceOf)) (id : ℕ)
    → ((at : ℕ) (own : ℕ × PlaceOf) → at < length listed → (get_or listed at own).0 ≢ id) → finite.find nat_cmp id listed ≡ None
find_none [] id apart = refl
find_none (first ∷ listed) id apart =
    ap (λ b. cond b (Some first.1) (finite.find nat_cmp id listed)) (apart_tied id first.0 (apart zero first (omega arith)))
    ∙ find_none listed id (λ at own within. apart (suc at) own (omega (arith, within)))

-- the first one with an id
pub find_at : (listed : List (ℕ × PlaceOf)) (at id : ℕ) (own : ℕ × PlaceOf) → at < length listed → (get_or listed at own).0 ≡ id
    → ((k : ℕ) → k < at → (get_or listed k own).0 ≢ id) → finite.find nat_cmp id listed ≡ Some (get_or listed at own).1
find_at [] at id own within there before = absurd (omega (arith, within))
find_at (first ∷ listed) zero id own within there before =
    ap (λ b. cond b (Some first.1) (finite.find nat_cmp id listed)) (same_tied id first.0 there)
find_at (first ∷ listed) (suc at) id own within there before =
    ap (λ b. cond b (Some first.1) (finite.find nat_cmp id listed)) (apart_tied id first.0 (before zero (omega arith)))
    ∙ find_at listed at id own (omega (arith, within)) there (λ k less. before (suc k) (omega (arith, less)))

-- nothing stands where an id would among those in order
pub find_gap : (listed : List (ℕ × PlaceOf)) (at id : ℕ) → IsNonDecreasingBy id_of listed
    → ((k : ℕ) (own : ℕ × PlaceOf) → k < at → k < length listed → (get_or listed k own).0 < id)
    → ((own : ℕ × PlaceOf) → at < length listed → id < (get_or listed at own).0) → finite.find nat_cmp id listed ≡ None
find_gap listed at id order before behind = find_none listed id (λ k own within same.
    elim (nat_le at k) as (λ b. nat_le at k ≡ b → ⊥) [
      | true ↦ λ past.
          let from : at ≤ k = grind (arith, nat_tests, past) in
          let rises = order at k own from within in
          let more = behind own (omega (arith, from, within)) in
          absurd (omega (arith, rises, more, same))
      | false ↦ λ past.
          let less = before k own (grind (arith, nat_tests, past)) within in
          absurd (omega (arith, less, same))
    ] refl)

-- what is found in a list behind a tree
pub list_get : (rest listed : List (ℕ × PlaceOf)) (id : ℕ) → finite.get (finite.from_entries {R = nat_cmp} (rest ++ listed)) id
    ≡ option_or (finite.find nat_cmp id rest) (finite.find nat_cmp id listed)
list_get rest listed id = finite.get-from_entries nat_cmp_total (rest ++ listed) id ∙ find_both id rest listed

-- a place behind all
pub put_behind : (rest listed : List (ℕ × PlaceOf)) (id : ℕ) (place : PlaceOf) → rest ≡ [] → finite.find nat_cmp id listed ≡ None
    → finite.from_entries {R = nat_cmp} (rest ++ (listed ++ (id, place) ∷ [])) ≡ finite.insert (finite.from_entries (rest ++ listed)) id place
put_behind rest listed id place is none =
    ap (λ (own : List (ℕ × PlaceOf)). finite.from_entries {R = nat_cmp} (own ++ (listed ++ (id, place) ∷ []))) is
    ∙ finite.from_entries_push nat_cmp_total nat_cmp-IsAntisymmetric listed id place none
    ∙ sym (ap (λ (own : List (ℕ × PlaceOf)). finite.insert (finite.from_entries {R = nat_cmp} (own ++ listed)) id place) is)

found_put : (old new : BTreeMap ℕ PlaceOf) (id : ℕ) (place : PlaceOf) → Updates nat_cmp old new id (Some place) → (other : ℕ)
    → finite.find nat_cmp other new.entries ≡ cond (eq_by_cmp nat_cmp other id) (Some place) (finite.find nat_cmp other old.entries)
found_put old new id place updates other =
    sym (finite.get-from_entries nat_cmp_total new.entries other)
    ∙ ap (λ (own : PlaceMap). finite.get own other) (put_id old new id place updates)
    ∙ finite.get-insert nat_cmp_total (finite.from_entries {R = nat_cmp} old.entries) id place other
    ∙ ap (cond (eq_by_cmp nat_cmp other id) (Some place)) (finite.get-from_entries nat_cmp_total old.entries other)

-- a place in the tree
pub put_rest : (old new : BTreeMap ℕ PlaceOf) (listed : List (ℕ × PlaceOf)) (id : ℕ) (place : PlaceOf)
    → Updates nat_cmp old new id (Some place)
    → finite.from_entries {R = nat_cmp} (new.entries ++ listed) ≡ finite.insert (finite.from_entries (old.entries ++ listed)) id place
put_rest old new listed id place updates = finite.same_map nat_cmp_total nat_cmp-IsAntisymmetric _ _ (λ other.
    list_get new.entries listed other
    ∙ ap (λ found. option_or found (finite.find nat_cmp other listed)) (found_put old new id place updates other)
    ∙ sym (chosen_or (eq_by_cmp nat_cmp other id) place (finite.find nat_cmp other old.entries) (finite.find nat_cmp other listed))
    ∙ ap (cond (eq_by_cmp nat_cmp other id) (Some place)) (sym (list_get old.entries listed other))
    ∙ sym (finite.get-insert nat_cmp_total (finite.from_entries {R = nat_cmp} (old.entries ++ listed)) id place other))

pub tree_find : (tree : BTreeMap ℕ PlaceOf) (id : ℕ) → get_by (nat_cmp id) tree ≡ finite.find nat_cmp id tree.entries
tree_find tree id = got_id tree id ∙ finite.get-from_entries nat_cmp_total tree.entries id

module _ (rest listed : List (ℕ × PlaceOf)) (own : PlaceMap) (are : finite.from_entries (rest ++ listed) ≡ own) (id : ℕ) where
  -- what the tree has goes before
  pub got_rest : (place : PlaceOf) → Some place ≡ finite.find nat_cmp id rest → Some place ≡ finite.get own id
  got_rest place is =
      ap (λ found. option_or found (finite.find nat_cmp id listed)) is ∙ sym (list_get rest listed id)
      ∙ ap (λ (own : PlaceMap). finite.get own id) are

  pub got_listed : None ≡ finite.find nat_cmp id rest → finite.find nat_cmp id listed ≡ finite.get own id
  got_listed is =
      ap (λ found. option_or found (finite.find nat_cmp id listed)) is ∙ sym (list_get rest listed id)
      ∙ ap (λ (own : PlaceMap). finite.get own id) are

slice_got : (listed : List (ℕ × PlaceOf)) (at : ℕ) (last own : ℕ × PlaceOf) → slice_get listed at ≡ Some last → get_or listed at own ≡ last
slice_got [] at last own is = absurd (cc)
slice_got (first ∷ listed) zero last own is = ap (λ one. unwrap_or one last) is
slice_got (first ∷ listed) (suc at) last own is = slice_got listed at last own is

module _ (listed : List (ℕ × PlaceOf)) (id : ℕ) (last : ℕ × PlaceOf) (order : IsNonDecreasingBy id_of listed)
    (is : Some last ≡ slice_get listed (length listed - 1)) (less : last.0 < id) where
  behind_less : (at : ℕ) (own : ℕ × PlaceOf) → at < length listed → (get_or listed at own).0 < id
  behind_less at own within =
      let rises = order at (length listed - 1) own (omega (arith, within)) (omega (arith, within)) in
      let there = ap id_of (slice_got listed (length listed - 1) last own (sym is)) in
      omega (arith, rises, there, less)

  pub behind_none : finite.find nat_cmp id listed ≡ None
  behind_none = find_none listed id (λ at own within same.
      let under = behind_less at own within in
      absurd (omega (arith, under, same)))

  pub behind_order : (place : PlaceOf) → IsNonDecreasingBy id_of (listed ++ (id, place) ∷ [])
  behind_order place = IsNonDecreasingBy-push id_of listed (id, place) order (λ own some.
      let under = behind_less (length listed - 1) own (omega (arith, some)) in
      omega (arith, under))

module _ (listed : List (ℕ × PlaceOf)) (id : ℕ) (none : length listed ≤ 0) where
  pub alone_none : finite.find nat_cmp id listed ≡ None
  alone_none = find_none listed id (λ at own within same. absurd (omega (arith, none, within)))

  pub alone_order : IsNonDecreasingBy id_of listed → (place : PlaceOf) → IsNonDecreasingBy id_of (listed ++ (id, place) ∷ [])
  alone_order order place = IsNonDecreasingBy-push id_of listed (id, place) order (λ own some. absurd (omega (arith, none, some)))

pub none_listed : (listed : List (ℕ × PlaceOf)) → length listed ≡ 0 → listed ≡ []
none_listed [] none = refl
none_listed (first ∷ listed) none = absurd (omega (arith, none))

pub strict : (less more : ℕ) → less ≤ more → more ≢ less → less < more
strict less more from apart = grind (arith, nat_tests)
