-- What objects list, each by its id.
use Rattle.std.proofs.Common.{◌≡◌, ◌∙◌, ℕ, suc, Bool, true, false, ◌&&◌, ◌||◌, cond, List, [], ◌∷◌, ◌++◌, get_or, Option}
use Rattle.std.proofs.Common.{Some, nat_eq, refl, sym, ap, arith}
use Rattle.std.specs.BTreeMap.{BTreeMap}
use Rattle.std.specs.BTreeMap as tree_of
use Rattle.std.specs.FinMap as finite
use Rattle.std.specs.FinMap.{nat_cmp-IsAntisymmetric}
use Rattle.std.specs.FinMap.Entries.{find}
use Rattle.std.specs.List.{All, list_any}
use Rattle.std.specs.Ordering.{eq_by_cmp, nat_cmp}
use Rattle.std.specs.Cmp.{nat_cmp_total, unsigned_tied}
use Rattle.std.proofs.lemmas.Bool.Decides.{nat_tests}
use Rattle.std.proofs.lemmas.Cmp.{nat_eq_equiv}
use Rattle.std.proofs.lemmas.List.Folds.{list_any-append}
use Rattle.osm_base.specs.declared.values.object.Object.{Object}
use Rattle.osm_base.specs.values.Ids.{has}
use Rattle.osm_base.proofs.Found.{found}
use Rattle.store_maps.specs.Turns.{Told, listed_by}

-- what each lists is listed by its id
abbrev pub pairs_tell : (Object → List ℕ) → List (ℕ × Object) → Told
pairs_tell what pairs id by = list_any (λ (p : ℕ × Object). has (what p.1) id && nat_eq p.0 by) pairs

or_nothing : (b : Bool) → (b || false) ≡ b
or_nothing true = refl
or_nothing false = refl

-- one more
pub pairs_more : (what : Object → List ℕ) (pairs : List (ℕ × Object)) (own : ℕ) (object : Object) (id by : ℕ)
    → pairs_tell what (pairs ++ (own, object) ∷ []) id by ≡ (pairs_tell what pairs id by || (has (what object) id && nat_eq own by))
pairs_more what pairs own object id by =
    list_any-append (λ (p : ℕ × Object). has (what p.1) id && nat_eq p.0 by) pairs ((own, object) ∷ [])
    ∙ ap (λ (b : Bool). pairs_tell what pairs id by || b) (or_nothing (has (what object) id && nat_eq own by))

same_id : (one other : ℕ) → nat_eq one other ≡ true → one ≡ other
same_id one other same = grind (arith, nat_tests)

tied_id : (one other : ℕ) → eq_by_cmp nat_cmp other one ≡ nat_eq one other
tied_id one other = unsigned_tied other one ∙ nat_eq_equiv.symm other one

agree : (a b : Bool) → (a ≡ true → b ≡ true) → (b ≡ true → a ≡ true) → a ≡ b
agree true b one other = sym (one refl)
agree false true one other = other refl
agree false false one other = refl

module _ (what : Object → List ℕ) (id by : ℕ) where
  abbrev lists : Option Object → Bool
  lists found = has (listed_by what found) id

  abbrev Found : List (ℕ × Object) → ℕ × Object → Type 0
  Found all one = find nat_cmp one.0 all ≡ Some one.1

  first_lists : (all : List (ℕ × Object)) (one : ℕ × Object) (rest : Bool) → Found all one → (rest ≡ true → lists (find nat_cmp by all) ≡ true)
      → (listed tied : Bool) → has (what one.1) id ≡ listed → nat_eq one.0 by ≡ tied → ((listed && tied) || rest) ≡ true
      → lists (find nat_cmp by all) ≡ true
  first_lists all one rest found later true true is same told =
      ap lists (ap (λ (k : ℕ). find nat_cmp k all) (sym (same_id one.0 by same)) ∙ found) ∙ is
  first_lists all one rest found later true false is same told = later told
  first_lists all one rest found later false tied is same told = later told

  told_lists : (all pairs : List (ℕ × Object)) → All (Found all) pairs → pairs_tell what pairs id by ≡ true
      → lists (find nat_cmp by all) ≡ true
  told_lists all [] each told = absurd (cc)
  told_lists all (one ∷ pairs) each told =
      first_lists all one (pairs_tell what pairs id by) (each 0 one (omega arith))
      (told_lists all pairs (λ place own within. each (suc place) own (omega (arith, within))))
      (has (what one.1) id) (nat_eq one.0 by) refl refl told

  last : (a b : Bool) → b ≡ true → (a || b) ≡ true
  last true b is = refl
  last false b is = is

  one_told : (one : ℕ × Object) (pairs : List (ℕ × Object)) → (lists (find nat_cmp by pairs) ≡ true → pairs_tell what pairs id by ≡ true)
      → lists (find nat_cmp by (one ∷ pairs)) ≡ true → (tied : Bool) → nat_eq one.0 by ≡ tied → pairs_tell what (one ∷ pairs) id by ≡ true
  one_told one pairs later is true same =
      let found : find nat_cmp by (one ∷ pairs) ≡ Some one.1 =
      ap (λ (b : Bool). cond b (Some one.1) (find nat_cmp by pairs)) (tied_id one.0 by ∙ same) in
      let here : has (what one.1) id ≡ true = sym (ap lists found) ∙ is in
      λ i. (here i && same i) || pairs_tell what pairs id by
  one_told one pairs later is false other =
      let found : find nat_cmp by (one ∷ pairs) ≡ find nat_cmp by pairs =
      ap (λ (b : Bool). cond b (Some one.1) (find nat_cmp by pairs)) (tied_id one.0 by ∙ other) in
      last (has (what one.1) id && nat_eq one.0 by) (pairs_tell what pairs id by) (later (sym (ap lists found) ∙ is))

  lists_told : (pairs : List (ℕ × Object)) → lists (find nat_cmp by pairs) ≡ true → pairs_tell what pairs id by ≡ true
  lists_told [] is = absurd (cc)
  lists_told (one ∷ pairs) is = one_told one pairs (lists_told pairs) is (nat_eq one.0 by) refl

  -- where each id stands once, it is what the object with an id lists
  pub pairs_told : (pairs : List (ℕ × Object)) → All (λ (one : ℕ × Object). finite.get (finite.from_entries {R = nat_cmp} pairs) one.0 ≡ Some one.1) pairs
      → pairs_tell what pairs id by ≡ lists (finite.get (finite.from_entries {R = nat_cmp} pairs) by)
  pairs_told pairs each =
      agree (pairs_tell what pairs id by) (lists (find nat_cmp by pairs))
      (told_lists pairs pairs (λ place own within. sym (finite.get-from_entries nat_cmp_total pairs (get_or pairs place own).0) ∙ each place own within))
      (lists_told pairs)
      ∙ ap lists (sym (finite.get-from_entries nat_cmp_total pairs by))

-- a tree has each of its entries
pub found_each : (tree : BTreeMap ℕ Object) → All (λ (e : ℕ × Object). tree_of.get nat_cmp tree e.0 ≡ Some e.1) tree.entries
    → All (λ (one : ℕ × Object). finite.get (finite.from_entries {R = nat_cmp} tree.entries) one.0 ≡ Some one.1) tree.entries
found_each tree each place own within =
    sym (found nat_cmp nat_cmp_total nat_cmp-IsAntisymmetric (get_or tree.entries place own).0 tree.entries) ∙ each place own within
