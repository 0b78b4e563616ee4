-- After a change each entry's object stands under the entry's key, and before an entry is made its key's object is the old one.
use Rattle.std.proofs.Common.{◌≡◌, true, false, cond, List, [], ◌∷◌, Option, None, Some, refl, ap, ◌∙◌}
use Rattle.std.specs.Cmp.{Equal-is}
use Rattle.std.specs.declared.cmp.Ordering.{Ordering}
use Rattle.std.specs.declared.cmp.Ordering.TheVariants.{Less, Equal, Greater}
use Rattle.std.specs.Ordering.{is_eq, is_lt}
use Rattle.std.specs.List.{AllByRecursion}
use Rattle.std.specs.FinMap as finite
use Rattle.std.proofs.lemmas.Cmp.{tied_itself}
use Rattle.osm_base.specs.declared.values.object.Entry.{Entry}
use Rattle.osm_base.specs.values.Key.{KeyOf}
use Rattle.osm_base.specs.values.KeyOrder.{key_cmp, is_below}
use Rattle.osm_base.proofs.KeyLaws.{key_cmp_total}
use Rattle.osm_base.specs.map.Objects.{ObjectSet, folded, folded_all}
use Rattle.object_fold.specs.Change.{IsChange, RiseFrom}
use Rattle.object_fold.proofs.FoldLaws.{Untouched, get-untouched, get-with_object}
use Rattle.update_step.proofs.NamedKeys.{below_all}

apart : (order : Ordering) → is_lt order ≡ true → is_eq order ≡ false
apart Less e = refl
apart Equal e = absurd (cc)
apart Greater e = refl

-- no entry behind a key that rises from there has a key below it
lower-untouched : (key last : KeyOf) (entries : List Entry) → is_below key last ≡ true → RiseFrom (Some last) entries
    → Untouched key entries
lower-untouched key last [] below rise = tt
lower-untouched key last (entry ∷ entries) below rise =
    let here : is_below key entry.key ≡ true = below_all key last entry.key below rise.1 in
    (apart (key_cmp key entry.key) here, lower-untouched key entry.key entries here rise.2)

pub last-untouched : (key : KeyOf) (entries : List Entry) → RiseFrom (Some key) entries → Untouched key entries
last-untouched key [] rise = tt
last-untouched key (entry ∷ entries) rise = (apart (key_cmp key entry.key) rise.1, lower-untouched key entry.key entries rise.1 rise.2)

form-after : (objects : ObjectSet) (entry : Entry) (entries : List Entry) → RiseFrom (Some entry.key) entries
    → finite.get (folded_all (folded objects entry) entries) entry.key ≡ entry.object
form-after objects entry entries rise =
    get-untouched (folded objects entry) entries entry.key (last-untouched entry.key entries rise)
    ∙ get-with_object objects entry.key entry.object entry.key
    ∙ ap (λ b. cond b entry.object (finite.get objects entry.key))
    ((Equal-is (key_cmp entry.key entry.key)).1 (tied_itself key_cmp_total entry.key))

forms-from : (objects : ObjectSet) (last : Option KeyOf) (change : List Entry) → RiseFrom last change
    → AllByRecursion (λ (entry : Entry). finite.get (folded_all objects change) entry.key ≡ entry.object) change
forms-from objects last [] rise = tt
forms-from objects last (entry ∷ entries) rise =
    (form-after objects entry entries rise.2, forms-from (folded objects entry) (Some entry.key) entries rise.2)

pub forms-after : (objects : ObjectSet) (change : List Entry) → IsChange change
    → AllByRecursion (λ (entry : Entry). finite.get (folded_all objects change) entry.key ≡ entry.object) change
forms-after objects change rise = forms-from objects None change rise
