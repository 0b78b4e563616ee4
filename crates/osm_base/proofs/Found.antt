-- A map in a tree of keys, as a finite map.
use Rattle.std.proofs.Common.{◌≡◌, cond, Some, None, List, [], ◌∷◌, refl, sym, ◌∙◌, ap}
use Rattle.std.specs.Ordering.{is_eq, eq_by_cmp}
use Rattle.std.specs.Cmp.{IsTotalOrder, eq_by_cmp_equiv}
use Rattle.std.specs.declared.cmp.Ordering.{Ordering}
use Rattle.std.specs.Map.{lookup}
use Rattle.std.specs.BTreeMap.{is_at, BTreeMap, Updates}
use Rattle.std.specs.FinMap.{IsAntisymmetric, find, get, insert, remove, from_entries, get-from_entries, get-insert, get-remove, same_map}

module _ {K X : Type 0} (cmp : K → K → Ordering) (total : IsTotalOrder cmp) (same : IsAntisymmetric cmp) where
  lookup-find : (q : K) (entries : List (K × X)) → lookup (is_at (cmp q)) entries ≡ find cmp q entries
  lookup-find q [] = refl
  lookup-find q (entry ∷ entries) = ap (cond (is_eq (cmp q entry.0)) (Some entry.1)) (lookup-find q entries)

  pub found : (q : K) (entries : List (K × X)) → lookup (is_at (cmp q)) entries ≡ get (from_entries {R = cmp} entries) q
  found q entries = lookup-find q entries ∙ sym (get-from_entries total entries q)

  module _ (old new : BTreeMap K X) (k : K) where
    pub inserted : (v : X) → Updates cmp old new k (Some v) → from_entries {R = cmp} new.entries ≡ insert (from_entries old.entries) k v
    inserted v updates = same_map total same _ _ (λ q.
        sym (found q new.entries) ∙ updates.0 q
        ∙ ap (λ b. cond b (Some v) (lookup (is_at (cmp q)) old.entries)) ((eq_by_cmp_equiv total).symm k q)
        ∙ ap (cond (eq_by_cmp cmp q k) (Some v)) (found q old.entries)
        ∙ sym (get-insert total (from_entries old.entries) k v q))

    pub removed : Updates cmp old new k None → from_entries {R = cmp} new.entries ≡ remove (from_entries old.entries) k
    removed updates = same_map total same _ _ (λ q.
        sym (found q new.entries) ∙ updates.0 q
        ∙ ap (λ b. cond b None (lookup (is_at (cmp q)) old.entries)) ((eq_by_cmp_equiv total).symm k q)
        ∙ ap (cond (eq_by_cmp cmp q k) None) (found q old.entries)
        ∙ sym (get-remove total (from_entries old.entries) k q))
