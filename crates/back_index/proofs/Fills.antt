-- The three maps of the index are filled, one after another.
use Rattle.std.proofs.Common.{◌≡◌, ◌<◌, ◌&&◌, ◌||◌, ℕ, Bool, true, false, List, [], ◌∷◌, get_or, length, nat_eq, refl, sym, subst, ap, ◌∙◌}
use Rattle.std.specs.List.{AllByRecursion}
use Rattle.std.proofs.lemmas.List.Folds.{list_any_at}
use Rattle.osm_base.specs.declared.values.key.Kind.{Kind}
use Rattle.osm_base.specs.declared.values.key.Kind.TheVariants as kinds
use Rattle.osm_base.specs.declared.values.object.Entry.{Entry}
use Rattle.osm_base.specs.declared.values.object.Object.{Object}
use Rattle.osm_base.specs.map.Listers.{listed}
use Rattle.osm_base.specs.values.Ids.{has}
use Rattle.bucket_records.specs.Records.{BucketMap}
use Rattle.bucket_store.specs.Image.{Image}
use Rattle.store_maps.specs.Asked.{May, MayEach, MayList}
use Rattle.store_maps.specs.Filling.{MayListAll, entries_tell, entry_tells}
use Rattle.store_maps.specs.Turns.{Told, blocks_in, ids_for}
use Rattle.store_maps.proofs.IdLists.{tied_self}
use Rattle.back_index.specs.Filling.{AreKept, Fills, HasNoIndex, IsVoid, MayTold, is_told, mentions_tell}
use Rattle.back_index.specs.Visits.{OnlyMap}
use Rattle.back_index.specs.declared.mentions.Mention.{Mention}
use Rattle.value_bytes.specs.StoreMap.{map_number}
use Rattle.value_bytes.specs.declared.store_map.StoreMap.TheVariants.{WaysOfBlocks, RelationsOfNodes, RelationsOfWays}
use Rattle.back_index.proofs.Held.{no_ids}
use Rattle.back_index.proofs.ReadKeys.{all_has}
use Rattle.back_index.proofs.Relists.{apart}

-- each that is told is told
pub told_there : (items : List Mention) (at : ℕ) (own : Mention) → at < length items → own ≡ get_or items at own
    → mentions_tell items own.id own.own ≡ true
told_there items at own within is =
    list_any_at (λ (other : Mention). is_told other own.id own.own) items at own within
    (subst (λ (other : Mention). is_told other own.id own.own ≡ true) is (λ i. tied_self own.id i && tied_self own.own i))

-- where nothing is told no list is kept
pub kept_none : (items : List Mention) (kept : BucketMap) → items ≡ [] → IsVoid kept → AreKept (mentions_tell items) kept
kept_none items kept none void id =
    record { ids = []; rising = no_ids; same = λ by. sym (ap (λ (l : List Mention). mentions_tell l id by) none); list = void id }

abbrev Kept : Told → ℕ → Image → Type 0
Kept told which image = AreKept told (image.maps which)

-- a map beside stays
stays_kept : (told : Told) (which other : ℕ) (now after : Image) → OnlyMap other now after → (which ≡ other → ⊥) → Kept told which now
    → Kept told which after
stays_kept told which other now after only differs kept = subst (λ (own : BucketMap). AreKept told own) (sym (only.maps which differs)) kept

stays_void : (which other : ℕ) (now after : Image) → OnlyMap other now after → (which ≡ other → ⊥) → IsVoid (now.maps which)
    → IsVoid (after.maps which)
stays_void which other now after only differs void = subst IsVoid (sym (only.maps which differs)) void

module _ (entries : List Entry) (now first second third : Image) (none : HasNoIndex now)
    (one : OnlyMap (map_number WaysOfBlocks) now first)
    (blocks : IsVoid (now.maps (map_number WaysOfBlocks)) → Kept (entries_tell kinds.Way blocks_in entries) (map_number WaysOfBlocks) first)
    (two : OnlyMap (map_number RelationsOfNodes) first second)
    (nodes : IsVoid (first.maps (map_number RelationsOfNodes))
    → Kept (entries_tell kinds.Relation (listed kinds.Node) entries) (map_number RelationsOfNodes) second)
    (three : OnlyMap (map_number RelationsOfWays) second third)
    (ways : IsVoid (second.maps (map_number RelationsOfWays))
    → Kept (entries_tell kinds.Relation (listed kinds.Way) entries) (map_number RelationsOfWays) third)
  where
    pub all_filled : Fills entries now third
    all_filled = record {
      root = three.root ∙ two.root ∙ one.root;
      texts = λ n. three.texts n ∙ two.texts n ∙ one.texts n;
      maps = λ m a b c. three.maps m c ∙ two.maps m b ∙ one.maps m a;
      ways_of_blocks =
          stays_kept (entries_tell kinds.Way blocks_in entries) (map_number WaysOfBlocks) (map_number RelationsOfWays) second third three
          (apart (map_number WaysOfBlocks) (map_number RelationsOfWays) refl)
          (stays_kept (entries_tell kinds.Way blocks_in entries) (map_number WaysOfBlocks) (map_number RelationsOfNodes) first second two
          (apart (map_number WaysOfBlocks) (map_number RelationsOfNodes) refl)
          (blocks none.ways_of_blocks));
      relations_of_nodes =
          stays_kept (entries_tell kinds.Relation (listed kinds.Node) entries) (map_number RelationsOfNodes)
          (map_number RelationsOfWays) second third three
          (apart (map_number RelationsOfNodes) (map_number RelationsOfWays) refl)
          (nodes (stays_void (map_number RelationsOfNodes) (map_number WaysOfBlocks) now first one
          (apart (map_number RelationsOfNodes) (map_number WaysOfBlocks) refl) none.relations_of_nodes));
      relations_of_ways =
          ways (stays_void (map_number RelationsOfWays) (map_number RelationsOfNodes) first second two
          (apart (map_number RelationsOfWays) (map_number RelationsOfNodes) refl)
          (stays_void (map_number RelationsOfWays) (map_number WaysOfBlocks) now first one
          (apart (map_number RelationsOfWays) (map_number WaysOfBlocks) refl) none.relations_of_ways));
    }

-- what entries tell is of lists that may be asked
module _ (may : May) (which : ℕ) (by : Kind) (what : Object → List ℕ) where
  one_may : (entry : Entry) (id own : ℕ) → MayEach may which (ids_for by what entry.key.kind entry.object)
      → entry_tells by what entry id own ≡ true → may which id ≡ true
  one_may entry id own each is = all_has (λ key. may which key ≡ true) (ids_for by what entry.key.kind entry.object) id each
      (and_first (has (ids_for by what entry.key.kind entry.object) id) (nat_eq entry.key.id own) is)
    where
      and_first : (a b : Bool) → (a && b) ≡ true → a ≡ true
      and_first true b is = refl
      and_first false b is = is

  pub told_may : (entries : List Entry) → AllByRecursion
      (λ (entry : Entry). MayEach may which (ids_for by what entry.key.kind entry.object)) entries
      → MayTold may which (entries_tell by what entries)
  told_may [] all id own is = absurd (cc)
  told_may (entry ∷ entries) all id own is =
      elim (entry_tells by what entry id own) as
      (λ b. entry_tells by what entry id own ≡ b → (b || entries_tell by what entries id own) ≡ true → may which id ≡ true) [
        | true ↦ λ here _. one_may entry id own all.0 here
        | false ↦ λ _ later. told_may entries all.1 id own later
      ] refl is

all_wider : (P Q : Entry → Type 0) (entries : List Entry) → ((entry : Entry) → P entry → Q entry) → AllByRecursion P entries
    → AllByRecursion Q entries
all_wider P Q [] wider all = tt
all_wider P Q (entry ∷ entries) wider all = (wider entry all.0, all_wider P Q entries wider all.1)

module _ (may : May) (entries : List Entry) (all : MayListAll may entries) where
  pub blocks_may : MayTold may (map_number WaysOfBlocks) (entries_tell kinds.Way blocks_in entries)
  blocks_may = told_may may (map_number WaysOfBlocks) kinds.Way blocks_in entries
      (all_wider (λ (entry : Entry). MayList may entry.key entry.object)
      (λ (entry : Entry). MayEach may (map_number WaysOfBlocks) (ids_for kinds.Way blocks_in entry.key.kind entry.object)) entries
      (λ entry lists. lists.ways_of_blocks) all)

  pub nodes_may : MayTold may (map_number RelationsOfNodes) (entries_tell kinds.Relation (listed kinds.Node) entries)
  nodes_may = told_may may (map_number RelationsOfNodes) kinds.Relation (listed kinds.Node) entries
      (all_wider (λ (entry : Entry). MayList may entry.key entry.object)
      (λ (entry : Entry). MayEach may (map_number RelationsOfNodes) (ids_for kinds.Relation (listed kinds.Node) entry.key.kind entry.object))
      entries
      (λ entry lists. lists.relations_of_nodes) all)

  pub ways_may : MayTold may (map_number RelationsOfWays) (entries_tell kinds.Relation (listed kinds.Way) entries)
  ways_may = told_may may (map_number RelationsOfWays) kinds.Relation (listed kinds.Way) entries
      (all_wider (λ (entry : Entry). MayList may entry.key entry.object)
      (λ (entry : Entry). MayEach may (map_number RelationsOfWays) (ids_for kinds.Relation (listed kinds.Way) entry.key.kind entry.object))
      entries
      (λ entry lists. lists.relations_of_ways) all)
