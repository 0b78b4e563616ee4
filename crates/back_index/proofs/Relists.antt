-- The index of a store, once it is turned from the one form of an object to the other.
use Rattle.std.proofs.Common.{◌≡◌, ◌≢◌, ℕ, Bool, true, false, ◌||◌, List, [], ◌∷◌, ◌++◌, map, Option, refl, sym, ap, subst, ◌∙◌, arith}
use Rattle.std.proofs.Common.{nat_eq}
use Rattle.std.specs.List.{AllByRecursion}
use Rattle.std.specs.FinMap as finite
use Rattle.std.proofs.lemmas.Bool.Decides.{nat_tests}
use Rattle.osm_base.specs.declared.values.key.Kind.{Kind}
use Rattle.osm_base.specs.declared.values.key.Kind.TheVariants as kinds
use Rattle.osm_base.specs.declared.values.object.Object.{Object}
use Rattle.osm_base.specs.map.Listers.{listed}
use Rattle.osm_base.specs.values.Ids.{has}
use Rattle.osm_base.specs.values.Key.{KeyOf, IsId, relation_key, way_key}
use Rattle.object_fold.specs.Listing.{ListingOf, listers}
use Rattle.bucket_records.specs.Records.{BucketMap}
use Rattle.bucket_store.specs.Image.{Image}
use Rattle.value_bytes.specs.Maps.{HoldsMap}
use Rattle.store_maps.specs.Maps.{Maps}
use Rattle.store_maps.specs.Step.{AllListed, AreTold, relisted_to}
use Rattle.store_maps.specs.Turns.{blocks_in, listed_by}
use Rattle.back_index.specs.Ids.{ids_bytes, AreListed}
use Rattle.back_index.specs.Index.{HoldsIndex, Relists, all_visits, listed_for}
use Rattle.back_index.specs.Relisting.{CanTurn, Turns, in_order}
use Rattle.back_index.specs.Visits.{IsFine, OnlyMap, StopsAt, visit_of, visits}
use Rattle.value_bytes.specs.StoreMap.{map_number}
use Rattle.value_bytes.specs.declared.store_map.StoreMap.{StoreMap}
use Rattle.value_bytes.specs.declared.store_map.StoreMap.TheVariants.{WaysOfBlocks, RelationsOfNodes, RelationsOfWays}
use Rattle.back_index.specs.declared.visit.Visit.{Visit}
use Rattle.back_index.proofs.Held.{decoded_reads, turned_held}
use Rattle.back_index.proofs.ListLaws.{has-in_order}
use Rattle.back_index.proofs.Turning.{stops_behind, stops_front}
use Rattle.back_index.proofs.WayLaws.{each_of}

-- nothing is listed, and nothing turned
turns_nothing : (own : ℕ) (values : BucketMap) → Turns own [] [] values values
turns_nothing own values = record { at = λ id there. absurd (cc); others = λ id none. refl }

turns_to : (own : ℕ) (old new : List ℕ) (before after other : BucketMap) → other ≡ after → Turns own old new before after
    → Turns own old new before other
turns_to own old new before after other same turns = subst (λ (l : BucketMap). Turns own old new before l) (sym same) turns

turns_from : (own : ℕ) (old new : List ℕ) (before after other : BucketMap) → before ≡ other → Turns own old new before after
    → Turns own old new other after
turns_from own old new before after other same turns = subst (λ (l : BucketMap). Turns own old new l after) same turns

pub apart : (m k : ℕ) → nat_eq m k ≡ false → m ≢ k
apart m k differs same = absurd (grind (arith, nat_tests))

module _ (id : ℕ) (old new : Option Object) where
  pub node_relists : (now : Image) → Relists (record { kind = kinds.Node; id = id }) old new now now
  node_relists now = record {
    root = refl;
    texts = λ n. refl;
    maps = λ m a b c. refl;
    ways_of_blocks = turns_nothing id (now.maps (map_number WaysOfBlocks));
    relations_of_nodes = turns_nothing id (now.maps (map_number RelationsOfNodes));
    relations_of_ways = turns_nothing id (now.maps (map_number RelationsOfWays));
  }

  pub way_relists : (now after : Image) → OnlyMap (map_number WaysOfBlocks) now after
      → Turns id (listed_by blocks_in old) (listed_by blocks_in new) (now.maps (map_number WaysOfBlocks))
      (after.maps (map_number WaysOfBlocks))
      → Relists (way_key id) old new now after
  way_relists now after only turns = record {
    root = only.root;
    texts = only.texts;
    maps = λ m a b c. only.maps m a;
    ways_of_blocks = turns;
    relations_of_nodes = turns_to id [] [] (now.maps (map_number RelationsOfNodes)) (now.maps (map_number RelationsOfNodes))
        (after.maps (map_number RelationsOfNodes))
        (only.maps (map_number RelationsOfNodes) (apart (map_number RelationsOfNodes) (map_number WaysOfBlocks) refl))
        (turns_nothing id (now.maps (map_number RelationsOfNodes)));
    relations_of_ways = turns_to id [] [] (now.maps (map_number RelationsOfWays)) (now.maps (map_number RelationsOfWays))
        (after.maps (map_number RelationsOfWays))
        (only.maps (map_number RelationsOfWays) (apart (map_number RelationsOfWays) (map_number WaysOfBlocks) refl))
        (turns_nothing id (now.maps (map_number RelationsOfWays)));
  }

  pub relation_relists : (now mid after : Image) → OnlyMap (map_number RelationsOfNodes) now mid
      → Turns id (listed_by (listed kinds.Node) old) (listed_by (listed kinds.Node) new) (now.maps (map_number RelationsOfNodes))
      (mid.maps (map_number RelationsOfNodes))
      → OnlyMap (map_number RelationsOfWays) mid after
      → Turns id (listed_by (listed kinds.Way) old) (listed_by (listed kinds.Way) new) (mid.maps (map_number RelationsOfWays))
      (after.maps (map_number RelationsOfWays))
      → Relists (relation_key id) old new now after
  relation_relists now mid after first nodes second ways = record {
    root = second.root ∙ first.root;
    texts = λ n. second.texts n ∙ first.texts n;
    maps = λ m a b c. second.maps m c ∙ first.maps m b;
    ways_of_blocks = turns_to id [] [] (now.maps (map_number WaysOfBlocks)) (now.maps (map_number WaysOfBlocks))
        (after.maps (map_number WaysOfBlocks))
        (second.maps (map_number WaysOfBlocks) (apart (map_number WaysOfBlocks) (map_number RelationsOfWays) refl)
        ∙ first.maps (map_number WaysOfBlocks) (apart (map_number WaysOfBlocks) (map_number RelationsOfNodes) refl))
        (turns_nothing id (now.maps (map_number WaysOfBlocks)));
    relations_of_nodes = turns_to id (listed_by (listed kinds.Node) old) (listed_by (listed kinds.Node) new)
        (now.maps (map_number RelationsOfNodes))
        (mid.maps (map_number RelationsOfNodes))
        (after.maps (map_number RelationsOfNodes))
        (second.maps (map_number RelationsOfNodes) (apart (map_number RelationsOfNodes) (map_number RelationsOfWays) refl)) nodes;
    relations_of_ways = turns_from id (listed_by (listed kinds.Way) old) (listed_by (listed kinds.Way) new)
        (mid.maps (map_number RelationsOfWays))
        (after.maps (map_number RelationsOfWays))
        (now.maps (map_number RelationsOfWays)) (first.maps (map_number RelationsOfWays)
        (apart (map_number RelationsOfWays) (map_number RelationsOfNodes) refl)) ways;
  }

-- a law of the visits of a map, told of each id
all_map : {X : Type 0} (P : X → Type 0) (f : ℕ → X) (ids : List ℕ) → ((id : ℕ) → has ids id ≡ true → P (f id))
    → AllByRecursion P (map f ids)
all_map P f [] each = tt
all_map P f (first ∷ ids) each = (
  each first (ap (λ b. b || has ids first) (itself first)),
  all_map P f ids (λ id there. each id (or_true (nat_eq first id) (has ids id) there)),
)
  where
    itself : (id : ℕ) → nat_eq id id ≡ true
    itself id = grind (arith, nat_tests)

    or_true : (a b : Bool) → b ≡ true → (a || b) ≡ true
    or_true true b is = refl
    or_true false b is = is

pub all_visited : (P : Visit → Type 0) (which : StoreMap) (old new : List ℕ)
    → ((id : ℕ) → has (old ++ new) id ≡ true → P (visit_of which old new id))
    → AllByRecursion P (visits which old new)
all_visited P which old new each = all_map P (visit_of which old new) (in_order (old ++ new))
    (λ id there. each id (sym (has-in_order (old ++ new) id) ∙ there))

-- lists that were turned could be
pub turned_fine : (now : Image) (own : ℕ) (which : StoreMap) (old new : List ℕ) (after : BucketMap)
    → Turns own old new (now.maps (map_number which)) after
    → AllByRecursion (IsFine now own) (visits which old new)
turned_fine now own which old new after turns =
    all_visited (IsFine now own) which old new (λ id there. let at = turns.at id there in (at.0, at.1))

-- what stops by one measure stops by another that agrees with it
all_front : {X : Type 0} (P : X → Type 0) (front : List X) (x : X) (behind : List X) → AllByRecursion P (front ++ x ∷ behind)
    → AllByRecursion P front × P x
all_front P [] x behind all = (tt, all.0)
all_front P (first ∷ front) x behind all = let rest = all_front P front x behind all.1 in ((all.0, rest.0), rest.1)

all_as : {X : Type 0} (P Q : X → Type 0) (xs : List X) → AllByRecursion (λ x. (P x → Q x) × (Q x → P x)) xs → AllByRecursion P xs
    → AllByRecursion Q xs
all_as P Q [] same all = tt
all_as P Q (x ∷ xs) same all = (same.0.0 all.0, all_as P Q xs same.1 all.1)

pub stops_as : {X : Type 0} (Fine Other : X → Type 0) (page : X → ℕ) (xs : List X) (at : ℕ)
    → AllByRecursion (λ x. (Fine x → Other x) × (Other x → Fine x)) xs
    → StopsAt Fine page xs at → StopsAt Other page xs at
stops_as Fine Other page xs at same stops =
    let each = all_front (λ x. (Fine x → Other x) × (Other x → Fine x)) stops.front stops.thing stops.behind
    (subst (λ l. AllByRecursion (λ x. (Fine x → Other x) × (Other x → Fine x)) l) stops.parts same) in
    record {
      front = stops.front;
      thing = stops.thing;
      behind = stops.behind;
      parts = stops.parts;
      fine = all_as Fine Other stops.front each.0 stops.fine;
      bad = λ other. stops.bad (each.1.1 other);
      page_is = stops.page_is;
    }

-- of another map the same lists can be turned
pub fine_as : (now mid : Image) (own : ℕ) (which : StoreMap) (other : ℕ) (old new : List ℕ) → OnlyMap other now mid
    → map_number which ≢ other
    → AllByRecursion (λ visit. (IsFine mid own visit → IsFine now own visit) × (IsFine now own visit → IsFine mid own visit))
    (visits which old new)
fine_as now mid own which other old new only differs =
    let same : mid.maps (map_number which) ≡ now.maps (map_number which) = only.maps (map_number which) differs in
    all_visited (λ visit. (IsFine mid own visit → IsFine now own visit) × (IsFine now own visit → IsFine mid own visit)) which old new
    (λ id there. (
      (λ fine. (fine.0, subst (λ (l : BucketMap). CanTurn (has old id) own (finite.get l id) fine.0) same fine.1)),
      (λ fine. (fine.0, subst (λ (l : BucketMap). CanTurn (has old id) own (finite.get l id) fine.0) (sym same) fine.1)),
    ))

-- the store's index is that of maps, once both are told
pub relists_hold : (key : KeyOf) (old new : Option Object) (now after : Image) (maps : Maps) → IsId key.id → HoldsIndex now maps
    → Relists key old new now after
    → HoldsIndex after (relisted_to maps key old new)
relists_hold key old new now after maps is holds relists = record {
  ways_of_blocks = turned_held key.id (listed_for WaysOfBlocks key old) (listed_for WaysOfBlocks key new)
      (now.maps (map_number WaysOfBlocks))
      (after.maps (map_number WaysOfBlocks)) maps.ways_of_blocks is
      holds.ways_of_blocks relists.ways_of_blocks;
  relations_of_nodes = turned_held key.id (listed_for RelationsOfNodes key old) (listed_for RelationsOfNodes key new)
      (now.maps (map_number RelationsOfNodes))
      (after.maps (map_number RelationsOfNodes)) maps.relations_of_nodes is
      holds.relations_of_nodes relists.relations_of_nodes;
  relations_of_ways = turned_held key.id (listed_for RelationsOfWays key old) (listed_for RelationsOfWays key new)
      (now.maps (map_number RelationsOfWays))
      (after.maps (map_number RelationsOfWays)) maps.relations_of_ways is
      holds.relations_of_ways relists.relations_of_ways;
}

-- where an index holds the old form, each list can be turned
told_one : (now : Image) (own : ℕ) (which : StoreMap) (old new : List ℕ) (listing : ListingOf)
    → HoldsMap ids_bytes AreListed (now.maps (map_number which)) listing
    → AllListed listing own old
    → AllByRecursion (IsFine now own) (visits which old new)
told_one now own which old new listing holds told =
    all_visited (IsFine now own) which old new (λ id there. (
      listers listing id,
      record {
        reads = decoded_reads (finite.get (now.maps (map_number which)) id) (finite.get listing id) (holds id);
        there = λ was. each_of (λ id. has (listers listing id) own ≡ true) old id told was;
      },
    ))

all_append : {X : Type 0} (P : X → Type 0) (xs ys : List X) → AllByRecursion P xs → AllByRecursion P ys → AllByRecursion P (xs ++ ys)
all_append P [] ys one other = other
all_append P (x ∷ xs) ys one other = (one.0, all_append P xs ys one.1 other)

pub told_fine : (key : KeyOf) (old new : Option Object) (now : Image) (maps : Maps) → HoldsIndex now maps → AreTold maps key old
    → AllByRecursion (IsFine now key.id) (all_visits key old new)
told_fine key old new now maps holds told =
    all_append (IsFine now key.id) (visits WaysOfBlocks (listed_for WaysOfBlocks key old) (listed_for WaysOfBlocks key new))
    (visits RelationsOfNodes (listed_for RelationsOfNodes key old) (listed_for RelationsOfNodes key new)
    ++ visits RelationsOfWays (listed_for RelationsOfWays key old) (listed_for RelationsOfWays key new))
    (told_one now key.id WaysOfBlocks (listed_for WaysOfBlocks key old)
    (listed_for WaysOfBlocks key new) maps.ways_of_blocks holds.ways_of_blocks told.ways_of_blocks)
    (all_append (IsFine now key.id) (visits RelationsOfNodes (listed_for RelationsOfNodes key old) (listed_for RelationsOfNodes key new))
    (visits RelationsOfWays (listed_for RelationsOfWays key old) (listed_for RelationsOfWays key new))
    (told_one now key.id RelationsOfNodes (listed_for RelationsOfNodes key old)
    (listed_for RelationsOfNodes key new) maps.relations_of_nodes holds.relations_of_nodes told.relations_of_nodes)
    (told_one now key.id RelationsOfWays (listed_for RelationsOfWays key old)
    (listed_for RelationsOfWays key new) maps.relations_of_ways holds.relations_of_ways told.relations_of_ways))

-- the same, of a key of which the kind is known
pub at_kind : (key : KeyOf) (kind : Kind) (old new : Option Object) (now after : Image) → key.kind ≡ kind
    → Relists (record { kind = kind; id = key.id }) old new now after → Relists key old new now after
at_kind key kind old new now after is relists =
    subst (λ (k : Kind). Relists (record { kind = k; id = key.id }) old new now after) (sym is) relists

pub stops_at_kind : (Fine : Visit → Type 0) (page : Visit → ℕ) (key : KeyOf) (kind : Kind) (old new : Option Object) (at : ℕ)
    → key.kind ≡ kind
    → StopsAt Fine page (all_visits (record { kind = kind; id = key.id }) old new) at → StopsAt Fine page (all_visits key old new) at
stops_at_kind Fine page key kind old new at is stops =
    subst (λ (k : Kind). StopsAt Fine page (all_visits (record { kind = k; id = key.id }) old new) at) (sym is) stops

module _ (Fine : Visit → Type 0) (page : Visit → ℕ) (key : KeyOf) (old new : Option Object) (at : ℕ) where
  pub way_stops : key.kind ≡ kinds.Way → StopsAt Fine page (visits WaysOfBlocks (listed_by blocks_in old) (listed_by blocks_in new)) at
      → StopsAt Fine page (all_visits key old new) at
  way_stops is stops =
      stops_at_kind Fine page key kinds.Way old new at is
      (stops_front Fine page (visits WaysOfBlocks (listed_by blocks_in old) (listed_by blocks_in new)) [] at stops)

  pub nodes_stop : key.kind ≡ kinds.Relation
      → StopsAt Fine page (visits RelationsOfNodes (listed_by (listed kinds.Node) old) (listed_by (listed kinds.Node) new)) at
      → StopsAt Fine page (all_visits key old new) at
  nodes_stop is stops =
      stops_at_kind Fine page key kinds.Relation old new at is
      (stops_front Fine page (visits RelationsOfNodes (listed_by (listed kinds.Node) old) (listed_by (listed kinds.Node) new))
      (visits RelationsOfWays (listed_by (listed kinds.Way) old) (listed_by (listed kinds.Way) new)) at stops)

  pub ways_stop : key.kind ≡ kinds.Relation
      → AllByRecursion Fine (visits RelationsOfNodes (listed_by (listed kinds.Node) old) (listed_by (listed kinds.Node) new))
      → StopsAt Fine page (visits RelationsOfWays (listed_by (listed kinds.Way) old) (listed_by (listed kinds.Way) new)) at
      → StopsAt Fine page (all_visits key old new) at
  ways_stop is fine stops =
      stops_at_kind Fine page key kinds.Relation old new at is
      (stops_behind Fine page (visits RelationsOfNodes (listed_by (listed kinds.Node) old) (listed_by (listed kinds.Node) new))
      (visits RelationsOfWays (listed_by (listed kinds.Way) old) (listed_by (listed kinds.Way) new)) at fine stops)
