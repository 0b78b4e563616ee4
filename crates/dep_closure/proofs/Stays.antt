-- What a change leaves of an object that it does not move, and of the nodes that the object lists.
use Rattle.std.proofs.Common.{◌≡◌, ℕ, Bool, true, false, ◌&&◌, ◌||◌, List, [], ◌∷◌, refl, sym, ap, subst, ◌∙◌}
use mathlib.Core.Bool.{false≢true}
use Rattle.std.specs.Ordering.{eq_by_cmp, is_eq}
use Rattle.std.specs.Cmp.{Equal-is, tied_itself}
use Rattle.std.specs.List.{AllByRecursion}
use Rattle.std.specs.FinMap as finite
use Rattle.osm_base.specs.declared.values.key.Kind.TheVariants as kinds
use Rattle.osm_base.specs.declared.values.object.Entry.{Entry}
use Rattle.osm_base.specs.values.Key.{KeyOf, node_key}
use Rattle.osm_base.specs.values.KeyOrder.{key_cmp}
use Rattle.osm_base.proofs.KeyLaws.{key_cmp-IsAntisymmetric, key_cmp_total}
use Rattle.osm_base.specs.map.Objects.{ObjectSet, folded_all, place_in}
use Rattle.osm_base.specs.map.Listers.{is_kind, lists}
use Rattle.object_fold.proofs.Listers.{kind_same}
use Rattle.object_fold.proofs.FoldLaws.{Untouched, get-untouched}
use Rattle.dep_closure.specs.PendingSet.{is_moved, is_named, moves}
use Rattle.dep_closure.proofs.Anys.{each, none_of, none_passes}

-- keys that tie are the same
pub same_key : (key other : KeyOf) → eq_by_cmp key_cmp key other ≡ true → key ≡ other
same_key key other same = key_cmp-IsAntisymmetric key other ((Equal-is (key_cmp key other)).0 same)

-- what no entry names is as it was
pub unnamed-stays : (objects : ObjectSet) (change : List Entry) (key : KeyOf) → is_named change key ≡ false
    → finite.get (folded_all objects change) key ≡ finite.get objects key
unnamed-stays objects change key not_named =
    get-untouched objects change key (none_passes (λ (entry : Entry). eq_by_cmp key_cmp key entry.key) change not_named)

module _ (objects : ObjectSet) (change : List Entry) (key : KeyOf)
    (not_moved : is_moved (folded_all objects change) change key ≡ false) where
  abbrev after : ObjectSet
  after = folded_all objects change

  not_made : AllByRecursion (λ entry. moves after key entry ≡ false) change
  not_made = none_passes (moves after key) change not_moved

  pub object-stays : finite.get after key ≡ finite.get objects key
  object-stays = get-untouched objects change key
      (each (λ (entry : Entry) not. (none_of (eq_by_cmp key_cmp key entry.key)
      (is_kind kinds.Node entry.key.kind && lists kinds.Node entry.key.id (finite.get after key)) not).0) change not_made)

  -- a node that it lists is in no entry
  node-untouched : (id : ℕ) → lists kinds.Node id (finite.get after key) ≡ true → Untouched (node_key id) change
  node-untouched id listed = each not_node change not_made
    where
      not_node : (entry : Entry) → moves after key entry ≡ false → eq_by_cmp key_cmp (node_key id) entry.key ≡ false
      not_node entry not =
          elim (eq_by_cmp key_cmp (node_key id) entry.key) as (λ b. eq_by_cmp key_cmp (node_key id) entry.key ≡ b → b ≡ false) [
            | true ↦ λ same.
                let none : (is_kind kinds.Node entry.key.kind && lists kinds.Node entry.key.id (finite.get after key)) ≡ false =
                (none_of (eq_by_cmp key_cmp key entry.key)
                (is_kind kinds.Node entry.key.kind && lists kinds.Node entry.key.id (finite.get after key)) not).1 in
                let none_at : lists kinds.Node id (finite.get after key) ≡ false =
                subst (λ (own : KeyOf). (is_kind kinds.Node own.kind && lists kinds.Node own.id (finite.get after key)) ≡ false)
                (sym (same_key (node_key id) entry.key same)) none in
                absurd (false≢true (sym none_at ∙ listed))
            | false ↦ λ differs. refl
          ] refl

  pub place-stays : (id : ℕ) → lists kinds.Node id (finite.get after key) ≡ true
      → place_in (finite.get after (node_key id)) ≡ place_in (finite.get objects (node_key id))
  place-stays id listed = ap place_in (get-untouched objects change (node_key id) (node-untouched id listed))

tied-itself : (key : KeyOf) → eq_by_cmp key_cmp key key ≡ true
tied-itself key = ap is_eq (tied_itself key_cmp_total key)

-- what no entry names is not moved where it lists no node that one names
module _ (after : ObjectSet) (key : KeyOf) where
  moves-not : (a b c : Bool) → a ≡ false → (b ≡ true → c ≡ false) → (a || (b && c)) ≡ false
  moves-not a true c not none = ap (λ d. d || c) not ∙ none refl
  moves-not a false c not none = ap (λ d. d || false) not

  pub not-moved : (change : List Entry) → is_named change key ≡ false
      → ((id : ℕ) → lists kinds.Node id (finite.get after key) ≡ true → is_named change (node_key id) ≡ false)
      → is_moved after change key ≡ false
  not-moved [] not_named none = refl
  not-moved (entry ∷ entries) not_named none =
      let here = none_of (eq_by_cmp key_cmp key entry.key) (is_named entries key) not_named in
      ap (λ b. b || is_moved after entries key)
      (moves-not (eq_by_cmp key_cmp key entry.key) (is_kind kinds.Node entry.key.kind)
      (lists kinds.Node entry.key.id (finite.get after key)) here.0
      (λ of_node. unlisted of_node (lists kinds.Node entry.key.id (finite.get after key)) refl))
      ∙ not-moved entries here.1 (λ id listed.
      (none_of (eq_by_cmp key_cmp (node_key id) entry.key) (is_named entries (node_key id)) (none id listed)).1)
    where
      node-key-is : is_kind kinds.Node entry.key.kind ≡ true → node_key entry.key.id ≡ entry.key
      node-key-is of_node = ap (λ kind. record { kind = kind; id = entry.key.id }) (kind_same kinds.Node entry.key.kind of_node)

      unlisted : is_kind kinds.Node entry.key.kind ≡ true → (listed : Bool) → lists kinds.Node entry.key.id (finite.get after key) ≡ listed
          → listed ≡ false
      unlisted of_node false is = refl
      unlisted of_node true is =
          let apart : eq_by_cmp key_cmp (node_key entry.key.id) entry.key ≡ false =
          (none_of (eq_by_cmp key_cmp (node_key entry.key.id) entry.key) (is_named entries (node_key entry.key.id))
          (none entry.key.id is)).0 in
          sym (tied-itself (node_key entry.key.id))
          ∙ ap (λ (own : KeyOf). eq_by_cmp key_cmp (node_key entry.key.id) own) (node-key-is of_node) ∙ apart
