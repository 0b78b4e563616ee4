-- What one entry and several make of the object of a key: laws on the fold, for what is built over it.
use Rattle.std.proofs.Common.{◌≡◌, false, cond, List, [], ◌∷◌, Option, Some, None, refl, ap, ◌∙◌}
use Rattle.std.specs.Ordering.{eq_by_cmp}
use Rattle.std.specs.List.{AllByRecursion}
use Rattle.std.specs.FinMap as finite
use Rattle.osm_base.specs.declared.values.object.Entry.{Entry}
use Rattle.osm_base.specs.declared.values.object.Object.{Object}
use Rattle.osm_base.specs.values.Key.{KeyOf}
use Rattle.osm_base.specs.values.KeyOrder.{key_cmp}
use Rattle.osm_base.proofs.KeyLaws.{key_cmp_total}
use Rattle.osm_base.specs.map.Objects.{ObjectSet, with_object, folded, folded_all}

-- no entry has this key
abbrev pub Untouched : KeyOf → List Entry → Type 0
Untouched key entries = AllByRecursion (λ (entry : Entry). eq_by_cmp key_cmp key entry.key ≡ false) entries

pub get-with_object : (objects : ObjectSet) (key : KeyOf) (object : Option Object) (own : KeyOf)
    → finite.get (with_object objects key object) own ≡ cond (eq_by_cmp key_cmp own key) object (finite.get objects own)
get-with_object objects key None own = finite.get-remove key_cmp_total objects key own
get-with_object objects key (Some object) own = finite.get-insert key_cmp_total objects key object own

pub get-untouched : (objects : ObjectSet) (entries : List Entry) (key : KeyOf) → Untouched key entries
    → finite.get (folded_all objects entries) key ≡ finite.get objects key
get-untouched objects [] key untouched = refl
get-untouched objects (entry ∷ entries) key untouched =
    get-untouched (folded objects entry) entries key untouched.1
    ∙ get-with_object objects entry.key entry.object key ∙ ap (λ same. cond same entry.object (finite.get objects key)) untouched.0
