-- Lists that are filled by entries keep what the entries tell.
use Rattle.std.proofs.Common.{◌≡◌, ◌≢◌, ℕ, Bool, true, false, ◌&&◌, ◌||◌, if◌then◌else◌, List, [], ◌∷◌, fold, Option, Some, None, refl, sym}
use Rattle.std.proofs.Common.{ap, subst, ◌∙◌, nat_eq}
use Rattle.std.specs.FinMap as finite
use Rattle.std.specs.Option.{unwrap_or}
use Rattle.std.specs.Ordering.{nat_cmp}
use Rattle.osm_base.specs.declared.values.key.Kind.{Kind}
use Rattle.osm_base.specs.declared.values.key.Kind.TheVariants as kinds
use Rattle.osm_base.specs.declared.values.object.Entry.{Entry}
use Rattle.osm_base.specs.declared.values.object.Object.{Object}
use Rattle.osm_base.specs.map.Listers.{is_kind, listed}
use Rattle.osm_base.specs.values.Ids.{IsRising, has}
use Rattle.object_fold.proofs.SortedIds.{none-rise}
use Rattle.object_fold.specs.Listing.{ListingOf}
use Rattle.store_maps.specs.Filling.{all_listed_on, all_objects_on, entries_tell, listed_on, object_on}
use Rattle.store_maps.specs.Maps.{Maps, set_object, way_or_relation_in}
use Rattle.store_maps.specs.Step.{entry_on, relisted, relisted_all, relisted_to, with_id, without_id}
use Rattle.store_maps.specs.Turns.{IsListing, Told, added, blocks_in, ids_for, listed_by}
use Rattle.store_maps.proofs.Listings.{listed_too, retold}

-- one listing is filled by entries
abbrev pub filled_listing : Kind → (Object → List ℕ) → ListingOf → List Entry → ListingOf
filled_listing by what listing entries =
    fold (λ (listing : ListingOf) (entry : Entry). relisted_all with_id listing entry.key.id (ids_for by what entry.key.kind entry.object))
    listing entries

-- each of the three is filled beside the others
pub lists_apart : (entries : List Entry) (maps : Maps) → all_listed_on maps entries ≡ record maps {
  ways_of_blocks = filled_listing kinds.Way blocks_in maps.ways_of_blocks entries;
  relations_of_nodes = filled_listing kinds.Relation (listed kinds.Node) maps.relations_of_nodes entries;
  relations_of_ways = filled_listing kinds.Relation (listed kinds.Way) maps.relations_of_ways entries;
}
lists_apart [] maps = refl
lists_apart (entry ∷ entries) maps = lists_apart entries (listed_on maps entry)

in_turn : (first rest before : Bool) → (rest || (first || before)) ≡ ((first || rest) || before)
in_turn true true before = refl
in_turn true false before = refl
in_turn false true before = refl
in_turn false false before = refl

filled_told : (by : Kind) (what : Object → List ℕ) (entries : List Entry) (listing : ListingOf) (told : Told) → IsListing listing told
    → IsListing (filled_listing by what listing entries) (λ id own. entries_tell by what entries id own || told id own)
filled_told by what [] listing told is = is
filled_told by what (entry ∷ entries) listing told is =
    let ids : List ℕ = ids_for by what entry.key.kind entry.object in
    retold (filled_listing by what listing (entry ∷ entries))
    (λ id own. entries_tell by what entries id own || added ids entry.key.id told id own)
    (λ id own. entries_tell by what (entry ∷ entries) id own || told id own)
    (λ id own. in_turn (has ids id && nat_eq entry.key.id own) (entries_tell by what entries id own) (told id own))
    (filled_told by what entries (relisted_all with_id listing entry.key.id ids) (added ids entry.key.id told)
    (listed_too ids entry.key.id listing told is))

no_list : (found : Option (List ℕ)) → found ≡ None → found ≢ Some []
no_list None is same = absurd (cc)
no_list (Some ids) is same = absurd (cc)

none_listed : IsListing finite.empty (λ id own. false)
none_listed = record {
  answers = λ id own. ap (λ found. has (unwrap_or found []) own) (finite.get-empty nat_cmp id);
  rising = λ id. subst (λ found. IsRising (unwrap_or found [])) (sym (finite.get-empty nat_cmp id)) none-rise;
  some = λ id. no_list (finite.get finite.empty id) (finite.get-empty nat_cmp id);
}

or_none : (b : Bool) → (b || false) ≡ b
or_none true = refl
or_none false = refl

-- a listing without a list is filled with what the entries tell
pub filled_lists : (by : Kind) (what : Object → List ℕ) (entries : List Entry) (listing : ListingOf) → listing ≡ finite.empty
    → IsListing (filled_listing by what listing entries) (entries_tell by what entries)
filled_lists by what entries listing none =
    subst (λ (own : ListingOf). IsListing (filled_listing by what own entries) (entries_tell by what entries)) (sym none)
    (retold (filled_listing by what finite.empty entries) (λ id own. entries_tell by what entries id own || false)
    (entries_tell by what entries)
    (λ id own. or_none (entries_tell by what entries id own)) (filled_told by what entries finite.empty (λ id own. false) none_listed))

-- Objects and lists stand in maps apart.

set_listed : (maps : Maps) (entry : Entry) (kind : Kind) (id : ℕ) (object : Option Object)
    → set_object (listed_on maps entry) kind id object ≡ listed_on (set_object maps kind id object) entry
set_listed maps entry kinds.Node id object = refl
set_listed maps entry kinds.Way id object = refl
set_listed maps entry kinds.Relation id object = refl

pub objects_listed : (maps : Maps) (entry : Entry) (others : List Entry)
    → all_objects_on (listed_on maps entry) others ≡ listed_on (all_objects_on maps others) entry
objects_listed maps entry [] = refl
objects_listed maps entry (other ∷ others) =
    ap (λ (own : Maps). all_objects_on own others) (set_listed maps entry other.key.kind other.key.id other.object)
    ∙ objects_listed (object_on maps other) entry others

none_for : (by : Kind) (what : Object → List ℕ) (kind : Kind) → ids_for by what kind None ≡ []
none_for by what kind = elim (is_kind by kind) as (λ b. (if b then listed_by what None else []) ≡ []) [ true ↦ refl | false ↦ refl ]

-- where a key has no form, its entry lists its object and puts it
pub fresh-entry : (maps : Maps) (entry : Entry) → way_or_relation_in maps entry.key.kind entry.key.id ≡ None
    → object_on (listed_on maps entry) entry ≡ entry_on maps entry
fresh-entry maps entry none =
    let kind = entry.key.kind in
    let own = entry.key.id in
    sym (ap (λ (form : Option Object). set_object (relisted_to maps entry.key form entry.object) kind own entry.object) none
    ∙ (λ i. set_object (relisted with_id (record maps {
      ways_of_blocks = relisted_all without_id maps.ways_of_blocks own (none_for kinds.Way blocks_in kind i);
      relations_of_nodes = relisted_all without_id maps.relations_of_nodes own (none_for kinds.Relation (listed kinds.Node) kind i);
      relations_of_ways = relisted_all without_id maps.relations_of_ways own (none_for kinds.Relation (listed kinds.Way) kind i);
    }) entry.key entry.object) kind own entry.object))
