-- Trees of numbers and of keys as finite maps.
use Rattle.std.proofs.Common.{◌≡◌, ℕ, List, [], Option, None, Some, refl, ap, subst, sym, ◌∙◌}
use Rattle.std.specs.declared.cmp.Ordering.{Ordering}
use Rattle.std.specs.BTreeMap.{BTreeMap, Updates, get_by}
use Rattle.std.specs.Cmp.{nat_cmp_total}
use Rattle.std.specs.FinMap as finite
use Rattle.std.specs.FinMap.{nat_cmp-IsAntisymmetric}
use Rattle.std.specs.Option.{option_or}
use Rattle.std.specs.Ordering.{nat_cmp}
use Rattle.osm_base.specs.values.Key.{KeyOf}
use Rattle.osm_base.specs.values.KeyOrder.{key_cmp}
use Rattle.osm_base.proofs.Found.{found, inserted}
use Rattle.osm_base.proofs.KeyLaws.{key_cmp_total, key_cmp-IsAntisymmetric, tree_cmp, tree_cmp-key_cmp}
use Rattle.update_step.specs.Gather.{with_answer}

pub got_id : {X : Type 0} (tree : BTreeMap ℕ X) (id : ℕ)
    → get_by (nat_cmp id) tree ≡ finite.get (finite.from_entries {R = nat_cmp} tree.entries) id
got_id tree id = found nat_cmp nat_cmp_total nat_cmp-IsAntisymmetric id tree.entries

pub got_key : {X : Type 0} (tree : BTreeMap KeyOf X) (key : KeyOf)
    → get_by (tree_cmp key) tree ≡ finite.get (finite.from_entries {R = key_cmp} tree.entries) key
got_key tree key = ap (λ cmp. get_by (cmp key) tree) tree_cmp-key_cmp ∙ found key_cmp key_cmp_total key_cmp-IsAntisymmetric key tree.entries

-- a tree with one answer more
pub put_id : {X : Type 0} (old new : BTreeMap ℕ X) (id : ℕ) (value : X) → Updates nat_cmp old new id (Some value) → (other : ℕ)
    → finite.get (finite.from_entries {R = nat_cmp} new.entries) other
    ≡ with_answer nat_cmp (finite.get (finite.from_entries {R = nat_cmp} old.entries)) id value other
put_id old new id value updates other =
    ap (λ values. finite.get values other) (inserted nat_cmp nat_cmp_total nat_cmp-IsAntisymmetric old new id value updates)
    ∙ finite.get-insert nat_cmp_total (finite.from_entries old.entries) id value other

pub put_key : {X : Type 0} (old new : BTreeMap KeyOf X) (key : KeyOf) (value : X) → Updates tree_cmp old new key (Some value)
    → (other : KeyOf) → finite.get (finite.from_entries {R = key_cmp} new.entries) other
    ≡ with_answer key_cmp (finite.get (finite.from_entries {R = key_cmp} old.entries)) key value other
put_key old new key value updates other =
    ap (λ values. finite.get values other) (inserted key_cmp key_cmp_total key_cmp-IsAntisymmetric old new key value
    (subst (λ cmp. Updates cmp old new key (Some value)) tree_cmp-key_cmp updates))
    ∙ finite.get-insert key_cmp_total (finite.from_entries old.entries) key value other

-- a tree that was not looked into, behind what has no answer
pub none-before : {X : Type 0} (before kept : Option X) → before ≡ None → kept ≡ option_or before kept
none-before before kept none = sym (ap (λ found. option_or found kept) none)

pub some-before : {X : Type 0} (before kept : Option X) (found : X) → before ≡ Some found → Some found ≡ option_or before kept
some-before before kept found is = sym (ap (λ own. option_or own kept) is)

-- a tree that is empty
pub nothing-kept : {K X : Type 0} (R : K → K → Ordering) (entries : List (K × X)) → entries ≡ [] → (own : K)
    → finite.get (finite.from_entries {R = R} entries) own ≡ None
nothing-kept R entries none own = ap (λ list. finite.get (finite.from_entries {R = R} list) own) none ∙ finite.get-empty R own

pub nothing-more : {X : Type 0} (before kept : Option X) → kept ≡ None → option_or before kept ≡ before
nothing-more None kept none = none
nothing-more (Some found) kept none = refl
