-- Ways that are looked at for a node.
use Rattle.std.proofs.Common.{◌≡◌, ◌<◌, ℕ, suc, zero, Bool, true, false, ◌||◌, List, [], ◌∷◌, ◌++◌, take, drop, drop-cons, length, get_or}
use Rattle.std.proofs.Common.{Option, Some, None, refl, sym, ap, subst, ◌∙◌, arith, nat_eq, if◌then◌else◌}
use Rattle.std.specs.List.{AllByRecursion, filter}
use Rattle.std.specs.FinMap as finite
use Rattle.std.proofs.lemmas.Bool.Decides.{nat_tests}
use Rattle.std.proofs.lemmas.List.{append-nil, take-append-drop}
use Rattle.std.proofs.lemmas.List.Elements.{filter-append}
use Rattle.osm_base.specs.declared.values.key.Kind.TheVariants as kinds
use Rattle.osm_base.specs.declared.values.object.Object.{Object}
use Rattle.osm_base.specs.declared.values.object.Object.TheVariants.{Node, Way, Relation}
use Rattle.osm_base.specs.map.Listers.{lists}
use Rattle.osm_base.specs.values.Ids.{has}
use Rattle.bucket_store.specs.Image.{Image}
use Rattle.value_bytes.specs.Objects.{object_bytes, IsStored}
use Rattle.value_bytes.specs.Maps.{Decodes}
use Rattle.value_bytes.specs.Tags.{tags_bytes}
use Rattle.store_maps.specs.Maps.{Maps}
use Rattle.store_maps.specs.Named.{list_it}
use Rattle.store_maps.proofs.IdLists.{same_as}
use Rattle.back_index.specs.Index.{HasNodes, HoldsWays}
use Rattle.back_index.specs.Visits.{StopsAt}
use Rattle.value_bytes.specs.StoreMap.{map_number}
use Rattle.value_bytes.specs.declared.store_map.StoreMap.TheVariants.{Ways}

lists_nodes : (bytes : Option (List ℕ)) (object : Option Object) (nodes : List ℕ) (id : ℕ)
    → Decodes object_bytes (IsStored kinds.Way) bytes object → HasNodes bytes nodes
    → lists kinds.Node id object ≡ has nodes id
unfolding object_bytes IsStored
lists_nodes None object nodes id is front = absurd front
lists_nodes (Some bytes) None nodes id is front = absurd is
lists_nodes (Some bytes) (Some (Node place tags)) nodes id is front = absurd is.0
lists_nodes (Some bytes) (Some (Relation members tags)) nodes id is front = absurd is.0
lists_nodes (Some bytes) (Some (Way own tags)) nodes id is front =
    ap (λ (l : List ℕ). has l id) (front.1.alone own (tags_bytes tags) (record { is = is.0.0.few; bytes_are = is.1 })).0

-- a way lists a node where its front does
pub way_lists : (now : Image) (maps : Maps) (way node : ℕ) (nodes : List ℕ) → HoldsWays now maps
    → HasNodes (finite.get (now.maps (map_number Ways)) way) nodes
    → list_it maps node way ≡ has nodes node
way_lists now maps way node nodes holds front =
    lists_nodes (finite.get (now.maps (map_number Ways)) way) (finite.get maps.ways way) nodes node (holds way) front

-- the ways so far, and one more
filter_one : (test : ℕ → Bool) (way : ℕ) (b : Bool) → test way ≡ b → filter test (way ∷ []) ≡ (if b then way ∷ [] else [])
filter_one test way true is = rw is refl
filter_one test way false is = rw is refl

pub filter_more : (test : ℕ → Bool) (ways : List ℕ) (way : ℕ) (b : Bool) → test way ≡ b
    → filter test (ways ++ way ∷ []) ≡ filter test ways ++ (if b then way ∷ [] else [])
filter_more test ways way b is = filter-append test ways (way ∷ []) ∙ ap (λ (l : List ℕ). filter test ways ++ l) (filter_one test way b is)

pub each_more : (P : ℕ → Type 0) (ids : List ℕ) (id : ℕ) → AllByRecursion P ids → P id → AllByRecursion P (ids ++ id ∷ [])
each_more P [] id all one = (one, tt)
each_more P (first ∷ ids) id all one = (all.0, each_more P ids id all.1 one)

pub each_if : (P : ℕ → Type 0) (ids : List ℕ) (id : ℕ) (b : Bool) → AllByRecursion P ids → P id
    → AllByRecursion P (ids ++ (if b then id ∷ [] else []))
each_if P ids id true all one = each_more P ids id all one
each_if P ids id false all one = subst (AllByRecursion P) (sym (append-nil ids)) all

-- all ids of a list, told by what it has
pub each_of : (P : ℕ → Type 0) (ids : List ℕ) (id : ℕ) → AllByRecursion P ids → has ids id ≡ true → P id
each_of P [] id all there = absurd (cc)
each_of P (first ∷ ids) id all there =
    elim (nat_eq first id) as (λ b. nat_eq first id ≡ b → (b || has ids id) ≡ true → P id) [
      | true ↦ λ same _. subst P (same_as first id same) all.0
      | false ↦ λ _ later. each_of P ids id all.1 later
    ] refl there

itself : (id : ℕ) → nat_eq id id ≡ true
itself id = grind (arith, nat_tests)

or_true : (a b : Bool) → b ≡ true → (a || b) ≡ true
or_true true b is = refl
or_true false b is = is

all_from : (P : ℕ → Type 0) (ids : List ℕ) → ((id : ℕ) → has ids id ≡ true → P id) → AllByRecursion P ids
all_from P [] each = tt
all_from P (first ∷ ids) each = (
  each first (ap (λ b. b || has ids first) (itself first)),
  all_from P ids (λ id there. each id (or_true (nat_eq first id) (has ids id) there)),
)

pub all_same : (P : ℕ → Type 0) (one other : List ℕ) → ((id : ℕ) → has one id ≡ has other id) → AllByRecursion P other
    → AllByRecursion P one
all_same P one other same all = all_from P one (λ id there. each_of P other id all (sym (same id) ∙ there))

pub at_place : (P : ℕ → Type 0) (ids : List ℕ) (place d : ℕ) → place < length ids → AllByRecursion P ids → P (get_or ids place d)
at_place P [] place d within all = absurd (omega (arith, within))
at_place P (first ∷ ids) zero d within all = all.0
at_place P (first ∷ ids) (suc place) d within all = at_place P ids place d (omega (arith, within)) all.1

-- the first way that fails
pub stops_here : (Fine : ℕ → Type 0) (page : ℕ → ℕ) (ids : List ℕ) (place at : ℕ) → place < length ids
    → AllByRecursion Fine (take place ids)
    → ¬ Fine (get_or ids place 0) → at ≡ page (get_or ids place 0) → StopsAt Fine page ids at
stops_here Fine page ids place at within fine bad here = record {
  front = take place ids;
  thing = get_or ids place 0;
  behind = drop (suc place) ids;
  parts = sym (take-append-drop place ids) ∙ ap (λ rest. take place ids ++ rest) (drop-cons ids place 0 within);
  fine = fine;
  bad = bad;
  page_is = here;
}

pub has_part : (front : List ℕ) (x : ℕ) (behind : List ℕ) → has (front ++ x ∷ behind) x ≡ true
has_part [] x behind = ap (λ b. b || has behind x) (itself x)
has_part (first ∷ front) x behind = or_true (nat_eq first x) (has (front ++ x ∷ behind) x) (has_part front x behind)
