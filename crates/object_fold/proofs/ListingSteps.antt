-- One id of a listing gets other listers.
use Rattle.std.proofs.Common.{◌≡◌, ℕ, Bool, true, false, not, ◌&&◌, ◌||◌, cond, List, [], ◌∷◌, Option, Some, None, Result, Ok, Err, OnErr}
use Rattle.std.proofs.Common.{refl, sym, ap, subst, ◌∙◌, arith, nat_eq}
use Rattle.std.specs.Option.{unwrap_or, IsSome}
use Rattle.std.specs.Ordering.{nat_cmp, eq_by_cmp}
use Rattle.std.specs.BTreeMap.{BTreeMap, Updates, get_by}
use Rattle.std.specs.Cmp.{nat_cmp_total, unsigned_tied}
use Rattle.std.specs.FinMap as finite
use Rattle.std.specs.FinMap.{nat_cmp-IsAntisymmetric}
use Rattle.std.proofs.lemmas.Cmp.{nat_eq_equiv}
use Rattle.std.proofs.lemmas.Bool.Decides.{nat_tests}
use Rattle.osm_base.specs.values.Ids.{has}
use Rattle.object_fold.specs.RisingIds.{Joins, Leaves}
use Rattle.osm_base.proofs.Found.{found, inserted, removed}
use Rattle.object_fold.specs.Listing.{ListingOf, listers, Lists, Unlists}

-- the listers of one id are these now, and those of the others as before
abbrev pub Sets : ℕ → List ℕ → ListingOf → ListingOf → Type 0
Sets id ids old new = (other : ℕ) → listers new other ≡ cond (nat_eq id other) ids (listers old other)

or_none : (b : Bool) (found other : Option (List ℕ)) → unwrap_or (cond b found other) [] ≡ cond b (unwrap_or found []) (unwrap_or other [])
or_none true found other = refl
or_none false found other = refl

pub inserted-sets : (old : ListingOf) (id : ℕ) (ids : List ℕ) → Sets id ids old (finite.insert old id ids)
inserted-sets old id ids other =
    ap (λ found. unwrap_or found []) (finite.get-insert nat_cmp_total old id ids other)
    ∙ or_none (eq_by_cmp nat_cmp other id) (Some ids) (finite.get old other)
    ∙ ap (λ b. cond b ids (listers old other)) (unsigned_tied other id ∙ nat_eq_equiv.symm other id)

again : (b : Bool) (own ids : List ℕ) → cond b [] (cond b ids own) ≡ cond b [] own
again true own ids = refl
again false own ids = refl

-- written and then taken away
pub removed-sets : (old : ListingOf) (id : ℕ) (ids : List ℕ) → Sets id [] old (finite.remove (finite.insert old id ids) id)
removed-sets old id ids other =
    ap (λ found. unwrap_or found []) (finite.get-remove nat_cmp_total (finite.insert old id ids) id other)
    ∙ or_none (eq_by_cmp nat_cmp other id) None (finite.get (finite.insert old id ids) other)
    ∙ (λ i. cond ((unsigned_tied other id ∙ nat_eq_equiv.symm other id) i) [] (inserted-sets old id ids other i))
    ∙ again (nat_eq id other) (listers old other) ids

and-false : (b : Bool) → (b && false) ≡ false
and-false true = refl
and-false false = refl

same_as : (id other : ℕ) → nat_eq id other ≡ true → id ≡ other
same_as id other same = grind (arith, nat_tests)

module _ (old new : ListingOf) (id lister : ℕ) (ids : List ℕ) (sets : Sets id ids old new) where
  pub lists-set : Joins lister (listers old id) ids → Lists (id ∷ []) lister old new
  lists-set joins other by =
      ap (λ own. has own by) (sets other)
      ∙ elim (nat_eq id other) as (λ b. nat_eq id other ≡ b
      → has (cond b ids (listers old other)) by ≡ (((b || false) && nat_eq lister by) || has (listers old other) by)) [
        | true ↦ λ same. joins by ∙ ap (λ own. nat_eq lister by || has (listers old own) by) (same_as id other same)
        | false ↦ λ differs. refl
      ] refl

  pub unlists-set : Leaves lister (listers old id) ids → Unlists (id ∷ []) [] lister old new
  unlists-set leaves other by =
      ap (λ own. has own by) (sets other)
      ∙ elim (nat_eq id other) as (λ b. nat_eq id other ≡ b
      → has (cond b ids (listers old other)) by ≡ (not (((b || false) && true) && nat_eq lister by) && has (listers old other) by)) [
        | true ↦ λ same. leaves by ∙ ap (λ own. not (nat_eq lister by) && has (listers old own) by) (same_as id other same)
        | false ↦ λ differs. refl
      ] refl

  pub lists-same : ids ≡ listers old id → Lists [] lister old new
  lists-same same other by =
      ap (λ own. has own by) (sets other)
      ∙ elim (nat_eq id other) as (λ b. nat_eq id other ≡ b → has (cond b ids (listers old other)) by ≡ has (listers old other) by) [
        | true ↦ λ is. ap (λ own. has own by) (same ∙ ap (listers old) (same_as id other is))
        | false ↦ λ differs. refl
      ] refl

-- the same of the trees that keep them
abbrev pub in_tree : BTreeMap ℕ (List ℕ) → ListingOf
in_tree tree = finite.from_entries tree.entries

module _ (old new : BTreeMap ℕ (List ℕ)) (id : ℕ) where
  pub written-sets : (ids : List ℕ) → Updates nat_cmp old new id (Some ids) → Sets id ids (in_tree old) (in_tree new)
  written-sets ids updates =
      subst (Sets id ids (in_tree old)) (sym (inserted nat_cmp nat_cmp_total nat_cmp-IsAntisymmetric old new id ids updates))
      (inserted-sets (in_tree old) id ids)

  pub taken-sets : (last : BTreeMap ℕ (List ℕ)) (ids : List ℕ) → Updates nat_cmp old new id (Some ids) → Updates nat_cmp new last id None
      → Sets id [] (in_tree old) (in_tree last)
  taken-sets last ids updates taken =
      subst (Sets id [] (in_tree old))
      (ap (λ (own : ListingOf). finite.remove own id) (sym (inserted nat_cmp nat_cmp_total nat_cmp-IsAntisymmetric old new id ids updates))
      ∙ sym (removed nat_cmp nat_cmp_total nat_cmp-IsAntisymmetric new last id taken))
      (removed-sets (in_tree old) id ids)

pub listers_in : (tree : BTreeMap ℕ (List ℕ)) (id : ℕ) → listers (in_tree tree) id ≡ unwrap_or (get_by (nat_cmp id) tree) []
listers_in tree id = ap (λ found. unwrap_or found []) (sym (found nat_cmp nat_cmp_total nat_cmp-IsAntisymmetric id tree.entries))

pub some_found : (tree : BTreeMap ℕ (List ℕ)) (id : ℕ) (ids : List ℕ) → Some ids ≡ get_by (nat_cmp id) tree
    → IsSome (get_by (nat_cmp id) tree)
some_found tree id ids is = subst IsSome is refl

pub on_err : {A E : Type 0} (result : Result A E) {P : Type 0} → P → OnErr result P
on_err (Ok value) p = tt
on_err (Err error) p = p

-- an id that nobody lists stays so
pub unlists-none : (old : ListingOf) (id lister : ℕ) → listers old id ≡ [] → Unlists (id ∷ []) [] lister old old
unlists-none old id lister none other by =
    elim (nat_eq id other) as (λ b. nat_eq id other ≡ b
    → has (listers old other) by ≡ (not (((b || false) && true) && nat_eq lister by) && has (listers old other) by)) [
      | true ↦ λ same.
          let empty : has (listers old other) by ≡ false = ap (λ own. has own by) (ap (listers old) (sym (same_as id other same)) ∙ none) in
          empty ∙ sym (ap (λ b. not (nat_eq lister by) && b) empty ∙ and-false (not (nat_eq lister by)))
      | false ↦ λ differs. refl
    ] refl

pub if_err : {A E : Type 0} (result : Result A E) {P Q : Type 0} → (P → Q) → OnErr result P → OnErr result Q
if_err (Ok value) f p = tt
if_err (Err error) f p = f p
