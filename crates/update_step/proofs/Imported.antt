-- Maps that were filled by entries stand for the objects of these.
use Rattle.std.proofs.Common.{◌≡◌, ◌<◌, ◌+◌, ◌*◌, ℕ, true, false, cond, List, [], ◌∷◌, length, map, take, slice_index_or, None, refl, sym}
use Rattle.std.proofs.Common.{ap, ◌∙◌}
use Rattle.std.specs.Prelude.{if◌then◌else◌}
use Rattle.std.specs.FinMap as finite
use Rattle.std.specs.List.{AllByRecursion, list_any}
use Rattle.std.specs.Ordering.{eq_by_cmp, nat_cmp}
use Rattle.osm_base.specs.declared.values.key.Kind.{Kind}
use Rattle.osm_base.specs.declared.values.key.Kind.TheVariants as kinds
use Rattle.osm_base.specs.declared.values.object.Entry.{Entry}
use Rattle.osm_base.specs.declared.values.object.Object.{Object}
use Rattle.osm_base.specs.declared.values.row.TableRow.{TableRow}
use Rattle.osm_base.specs.map.Known.{Known}
use Rattle.osm_base.specs.map.Listers.{is_kind, known_of, listed}
use Rattle.osm_base.specs.map.Objects.{ObjectSet, folded_all}
use Rattle.osm_base.specs.values.Key.{KeyOf, relation_key, way_key}
use Rattle.osm_base.specs.values.KeyOrder.{key_cmp}
use Rattle.style_read.specs.Style.{StyleOf}
use Rattle.object_fold.specs.Change.{IsChange}
use Rattle.object_fold.specs.Listing.{ListingOf}
use Rattle.object_fold.proofs.FoldLaws.{Untouched, get-untouched}
use Rattle.row_rules.specs.Condition.{reaches_nodes}
use Rattle.row_rules.specs.Rows.{rows_in, rows_known}
use Rattle.row_rules.specs.Wanted.{may_have_rows}
use Rattle.row_rules.proofs.TableRows.{rows_known-none, rows_known-unwanted}
use Rattle.store_maps.specs.Append.{MayKeep, appended, set_all_rows}
use Rattle.store_maps.specs.Maps.{Maps, empty_maps, rows_at, unless_empty, way_or_relation_in}
use Rattle.store_maps.specs.Stands.{Stands, StandsOn}
use Rattle.store_maps.specs.Step.{AllListed, AreTold, change_on}
use Rattle.store_maps.specs.Turns.{blocks_in, ids_for, listed_by}
use Rattle.store_maps.proofs.KeptRows.{may_keep}
use Rattle.store_maps.proofs.ObjectMaps.{empty_stands-on, entries_stand}
use Rattle.store_maps.proofs.RowMaps.{empty_rows, got-all, rows_stay}
use Rattle.store_maps.proofs.Standing.{appended_stands}
use Rattle.update_step.specs.Importing.{LacksRows, keys_named, wanted_among}
use Rattle.update_step.proofs.EntryLists.{change_proper, proper_front}
use Rattle.update_step.proofs.NamedKeys.{front-untouched}
use Rattle.update_step.proofs.WantedEntries.{none-unwanted}

-- A key that is not there has no form.

none_listed : (listing : ListingOf) (by : Kind) (what : Object → List ℕ) (kind : Kind) (own : ℕ)
    → AllListed listing own (ids_for by what kind None)
none_listed listing by what kind own = elim (is_kind by kind) as
    (λ b. AllListed listing own (if b then listed_by what None else [])) [ true ↦ tt | false ↦ tt ]

-- what is not there lists nothing
pub none-told : (maps : Maps) (own : KeyOf) → AreTold maps own None
none-told maps own = record {
  ways_of_blocks = none_listed maps.ways_of_blocks kinds.Way blocks_in own.kind own.id;
  relations_of_nodes = none_listed maps.relations_of_nodes kinds.Relation (listed kinds.Node) own.kind own.id;
  relations_of_ways = none_listed maps.relations_of_ways kinds.Relation (listed kinds.Way) own.kind own.id;
}

form_untouched : (maps : Maps) (entries : List Entry) → StandsOn true maps (folded_all finite.empty entries) → (kind : Kind) (id : ℕ)
    → Untouched (record { kind = kind; id = id }) entries → way_or_relation_in maps kind id ≡ None
form_untouched maps entries stands kinds.Node id untouched = refl
form_untouched maps entries stands kinds.Way id untouched =
    stands.objects.ways id ∙ get-untouched finite.empty entries (way_key id) untouched ∙ finite.get-empty key_cmp (way_key id)
form_untouched maps entries stands kinds.Relation id untouched =
    stands.objects.relations id ∙ get-untouched finite.empty entries (relation_key id) untouched
    ∙ finite.get-empty key_cmp (relation_key id)

-- the entries before an entry have given its key no form
pub no-form : (entries : List Entry) (at : ℕ) (own : Entry) → IsChange entries → at < length entries → own ≡ slice_index_or entries at own
    → way_or_relation_in (change_on empty_maps (take at entries)) own.key.kind own.key.id ≡ None
no-form entries at own rise below is =
    let front : List Entry = take at entries in
    form_untouched (change_on empty_maps front) front
    (entries_stand true front empty_maps finite.empty (empty_stands-on true) (proper_front entries at (change_proper entries rise)))
    own.key.kind own.key.id (front-untouched entries at own rise below is)

-- a key that is to have no rows has none where other keys got theirs
pub lacks-still : (rows : KeyOf → List TableRow) (keys : List KeyOf) (maps : Maps) → LacksRows maps rows
    → LacksRows (set_all_rows maps rows keys) rows
lacks-still rows keys maps lacks own none =
    got-all rows keys maps own.kind own.id
    ∙ elim (list_any (eq_by_cmp key_cmp own) keys) as (λ b. cond b (unless_empty (rows own)) (rows_at maps own.kind own.id) ≡ None) [
      | true ↦ ap unless_empty none
      | false ↦ lacks own none
    ]

no_rows : (kind : Kind) (id : ℕ) → rows_at empty_maps kind id ≡ None
no_rows kinds.Node id = finite.get-empty nat_cmp id
no_rows kinds.Way id = finite.get-empty nat_cmp (2 * id)
no_rows kinds.Relation id = finite.get-empty nat_cmp (2 * id + 1)

-- no key has rows where only objects were set
pub lacks-first : (rows : KeyOf → List TableRow) (entries : List Entry) → LacksRows (change_on empty_maps entries) rows
lacks-first rows entries own none = rows_stay entries empty_maps own.kind own.id ∙ no_rows own.kind own.id

-- The rows of what is there.

-- rows out of what is known of objects are those of the objects
pub known-rows : (style : StyleOf) (objects : ObjectSet) (keys : List KeyOf)
    → map (rows_known style (known_of objects)) keys ≡ map (rows_in style objects) keys
unfolding rows_known rows_in
known-rows style objects keys = refl

-- they may be kept
pub may-keep-all : (style : StyleOf) (known : Known) (keys : List KeyOf)
    → AllByRecursion (MayKeep style.tables) (map (rows_known style known) keys)
may-keep-all style known [] = tt
may-keep-all style known (own ∷ keys) = (may_keep style known own, may-keep-all style known keys)

-- what is not there has none
pub rows-none : (style : StyleOf) (objects : ObjectSet) (own : KeyOf) → finite.get objects own ≡ None → rows_in style objects own ≡ []
unfolding rows_known rows_in
rows-none style objects own none = rows_known-none style (known_of objects) own none

stands_empty : (style : StyleOf) → Stands style empty_maps finite.empty
stands_empty style = record {
  on = empty_stands-on (reaches_nodes style);
  rows = empty_rows (rows_in style finite.empty) (λ own. rows-none style finite.empty own (finite.get-empty key_cmp own));
}

-- nor what no table may want
pub rows-unwanted : (style : StyleOf) (objects : ObjectSet) (own : KeyOf) → may_have_rows style (finite.get objects own) ≡ false
    → rows_in style objects own ≡ []
unfolding rows_known rows_in
rows-unwanted style objects own not = rows_known-unwanted style (known_of objects) own not

-- all objects of entries are set, and the rows of the keys of those that a table may want
pub imported-stands : (style : StyleOf) (entries : List Entry) (keys : List KeyOf) → IsChange entries
    → keys ≡ keys_named (wanted_among style entries)
    → Stands style (appended empty_maps entries (rows_in style (folded_all finite.empty entries)) keys) (folded_all finite.empty entries)
imported-stands style entries keys rise are =
    appended_stands style empty_maps finite.empty entries keys (stands_empty style) (change_proper entries rise)
    (λ own outside. rows-unwanted style (folded_all finite.empty entries) own
    (none-unwanted style entries own rise (ap (list_any (eq_by_cmp key_cmp own)) (sym are) ∙ outside))
    ∙ sym (rows-none style finite.empty own (finite.get-empty key_cmp own)))
