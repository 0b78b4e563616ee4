-- Objects that nobody asks who lists them: the ids of their keys, and all of them put into a map, one after another.
use Rattle.std.proofs.Common.{◌≡◌, Bool, true, false, cond, List, [], ◌∷◌, Option, Some, None, Result, Ok, Err, refl, sym, ap, subst, fold, ◌∙◌}
use mathlib.Core.Bool.{false≢true}
use Rattle.std.specs.List.{AllByRecursion}
use Rattle.std.specs.List.Sorted.{IsStrictlySortedBy}
use Rattle.std.specs.Map.{keys_of}
use Rattle.std.specs.Option.{is_some, option_or}
use Rattle.std.specs.Ordering.{eq_by_cmp, is_eq}
use Rattle.std.specs.declared.cmp.Ordering.{Ordering}
use Rattle.std.specs.declared.cmp.Ordering.TheVariants.{Less, Equal, Greater}
use Rattle.std.specs.FinMap as finite
use Rattle.std.specs.FinMap.Entries.{find}
use Rattle.osm_base.specs.declared.values.object.Object.{Object}
use Rattle.osm_base.specs.values.Key.{KeyOf}
use Rattle.osm_base.specs.values.KeyOrder.{key_cmp}
use Rattle.osm_base.specs.map.Objects.{ObjectSet}
use Rattle.osm_base.proofs.KeyLaws.{key_cmp_total, key_cmp-IsAntisymmetric, tree_cmp, tree_cmp-key_cmp}
use Rattle.object_fold.specs.Listings.{HasIds}
use Rattle.object_fold.specs.Objects.{MakesOrKeeps}

-- no object has a key
pub none-ids : (objects : ObjectSet) → objects ≡ finite.empty → HasIds objects
none-ids objects none = subst HasIds (sym none) (λ key some. absurd (false≢true (ap is_some (sym (finite.get-empty key_cmp key)) ∙ some)))

-- objects that are made or left as they were
pub made-ids : {T E : Type 0} (result : Result T E) (old made new : ObjectSet) → MakesOrKeeps result old made new → HasIds old → HasIds made
    → HasIds new
made-ids (Ok value) old made new is ids ids_made = subst HasIds (sym is.ok) ids_made
made-ids (Err why) old made new is ids ids_made = subst HasIds (sym is.err) ids

-- these objects, and those of these entries beside them
abbrev pub with_entries : ObjectSet → List (KeyOf × Object) → ObjectSet
with_entries objects entries = fold (λ own entry. finite.insert own entry.0 entry.1) objects entries

equal : (order : Ordering) → is_eq order ≡ true → order ≡ Equal
equal Less is = absurd (cc)
equal Equal is = refl
equal Greater is = absurd (cc)

-- a key that comes before all
not_behind : (key : KeyOf) (entries : List (KeyOf × Object)) → AllByRecursion (λ own. key_cmp key own ≡ Less) (keys_of entries)
    → find key_cmp key entries ≡ None
not_behind key [] before = refl
not_behind key (entry ∷ entries) before =
    ap (λ order. cond (is_eq order) (Some entry.1) (find key_cmp key entries)) before.0 ∙ not_behind key entries before.1

one_first : (same : Bool) (object : Object) (found own : Option Object) → (same ≡ true → found ≡ None)
    → option_or found (cond same (Some object) own) ≡ option_or (cond same (Some object) found) own
one_first true object found own none = ap (λ found. option_or found (Some object)) (none refl)
one_first false object found own none = refl

get-with : (entries : List (KeyOf × Object)) → IsStrictlySortedBy key_cmp (keys_of entries) → (objects : ObjectSet) (key : KeyOf)
    → finite.get (with_entries objects entries) key ≡ option_or (find key_cmp key entries) (finite.get objects key)
unfolding IsStrictlySortedBy
get-with [] sorted objects key = refl
get-with (entry ∷ entries) sorted objects key =
    get-with entries sorted.1 (finite.insert objects entry.0 entry.1) key
    ∙ ap (option_or (find key_cmp key entries)) (finite.get-insert key_cmp_total objects entry.0 entry.1 key)
    ∙ one_first (eq_by_cmp key_cmp key entry.0) entry.1 (find key_cmp key entries) (finite.get objects key)
    (λ same. subst (λ (own : KeyOf). find key_cmp own entries ≡ None) (sym (key_cmp-IsAntisymmetric key entry.0 (equal _ same)))
    (not_behind entry.0 entries sorted.0))

or_none : (found : Option Object) → option_or found None ≡ found
or_none None = refl
or_none (Some object) = refl

-- all entries of a tree make the map of it
pub with_all : (entries : List (KeyOf × Object)) → IsStrictlySortedBy tree_cmp (keys_of entries)
    → with_entries finite.empty entries ≡ finite.from_entries entries
with_all entries sorted =
    finite.same_map key_cmp_total key_cmp-IsAntisymmetric (with_entries finite.empty entries) (finite.from_entries entries) (λ key.
    get-with entries (subst (λ cmp. IsStrictlySortedBy cmp (keys_of entries)) tree_cmp-key_cmp sorted) finite.empty key
    ∙ ap (option_or (find key_cmp key entries)) (finite.get-empty key_cmp key)
    ∙ or_none (find key_cmp key entries)
    ∙ sym (finite.get-from_entries key_cmp_total entries key))
