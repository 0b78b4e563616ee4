-- The keys of objects have ids, once entries are folded whose keys have.
use Rattle.std.proofs.Common.{◌≡◌, Bool, true, false, cond, List, [], ◌∷◌, Option, None, refl, sym, ap, subst, ◌∙◌, true≢false}
use Rattle.std.specs.Option.{IsSome}
use Rattle.std.specs.Cmp.{Equal-is}
use Rattle.std.specs.Ordering.{eq_by_cmp}
use Rattle.std.specs.FinMap as finite
use Rattle.osm_base.specs.declared.values.object.Entry.{Entry}
use Rattle.osm_base.specs.declared.values.object.Object.{Object}
use Rattle.osm_base.specs.map.Objects.{ObjectSet, folded, folded_all}
use Rattle.osm_base.specs.values.Key.{IsId, KeyOf}
use Rattle.osm_base.specs.values.KeyOrder.{key_cmp}
use Rattle.osm_base.proofs.KeyLaws.{key_cmp-IsAntisymmetric}
use Rattle.object_fold.specs.Listings.{HasIds}
use Rattle.object_fold.proofs.FoldLaws.{get-with_object}
use Rattle.update_flow.specs.Ids.{AreIdEntries}

no_object : (found : Option Object) → found ≡ None → IsSome found → ⊥
no_object found is some = true≢false (sym (subst (λ (o : Option Object). IsSome o) is some))

id_one : (objects : ObjectSet) (entry : Entry) → HasIds objects → IsId entry.key.id → HasIds (folded objects entry)
id_one objects entry ids own key some =
    elim (eq_by_cmp key_cmp key entry.key) as (λ b. eq_by_cmp key_cmp key entry.key ≡ b → IsId key.id) [
      | true ↦ λ same. subst (λ (k : KeyOf). IsId k.id)
          (sym (key_cmp-IsAntisymmetric key entry.key ((Equal-is (key_cmp key entry.key)).0 same))) own
      | false ↦ λ apart.
          ids key (subst (λ (o : Option Object). IsSome o)
          (get-with_object objects entry.key entry.object key ∙ ap (λ (b : Bool). cond b entry.object (finite.get objects key)) apart) some)
    ] refl

pub ids_folded : (entries : List Entry) (objects : ObjectSet) → HasIds objects → AreIdEntries entries → HasIds (folded_all objects entries)
ids_folded [] objects ids own = ids
ids_folded (entry ∷ entries) objects ids own = ids_folded entries (folded objects entry) (id_one objects entry ids own.0) own.1

pub ids_none : HasIds finite.empty
ids_none key some = absurd (no_object _ (finite.get-empty _ key) some)
