-- A change of a sound store leaves a sound one, also where nobody knows the tags of some of its nodes.
use Rattle.std.proofs.Common.{◌≡◌, ◌<◌, ◌≤◌, ◌+◌, ℕ, List, [], ◌∷◌, Option, Some, None, Ok}
use Rattle.std.proofs.Common.{refl, sym, ap, subst, ◌∙◌, arith}
use mathlib.Core.Bool.{true≢false}
use Rattle.std.specs.Prelude.{IfSome, is_some}
use Rattle.std.specs.FinMap as finite
use Rattle.std.specs.List.{AllByRecursion}
use Rattle.std.specs.Option.{option_map}
use Rattle.outside.specs.declared.disk.Disk.{Ghosts}
use Rattle.osm_base.specs.declared.bounds.limits.LimitNumbers.{LimitNumbers}
use Rattle.osm_base.specs.declared.values.key.Kind.{Kind}
use Rattle.osm_base.specs.declared.values.key.Kind.TheVariants as kinds
use Rattle.osm_base.specs.declared.values.object.Entry.{Entry}
use Rattle.osm_base.specs.declared.values.row.RowChange.{RowChange}
use Rattle.osm_base.specs.declared.values.row.TableRow.{TableRow}
use Rattle.osm_base.specs.map.Objects.{ObjectSet, folded_all}
use Rattle.osm_base.specs.values.Key.{KeyOf, node_key, relation_key, way_key}
use Rattle.osm_base.specs.values.Place.{PlaceOf}
use Rattle.osm_base.specs.values.Tags.{TagMap}
use Rattle.osm_base.proofs.KeyLaws.{key_cmp-IsAntisymmetric, key_cmp_total}
use Rattle.style_read.specs.declared.style.TableDef.{TableDef}
use Rattle.style_read.specs.Style.{StyleOf}
use Rattle.object_fold.specs.Listings.{HasIds}
use Rattle.row_rules.specs.Condition.{reaches_nodes}
use Rattle.row_rules.specs.Rows.{rows_in}
use Rattle.dep_closure.specs.PendingSet.{IsPendingOf}
use Rattle.tile_cover.specs.Runs.{IsTileSet, has}
use Rattle.tile_cover.specs.Table.{BoundsOf}
use Rattle.tile_cover.specs.declared.runs.Run.{Run}
use Rattle.due_tiles.specs.Spelling.{set_bytes}
use Rattle.value_bytes.specs.Maps.{Decodes}
use Rattle.value_bytes.specs.declared.nodes.NodeRecord.{NodeRecord}
use Rattle.chain_store.specs.declared.root.Root.{Root}
use Rattle.bucket_store.specs.Image.{Has, Image, OnlyLooks, with_text}
use Rattle.bucket_store.specs.declared.buckets.Buckets.{Buckets}
use Rattle.bucket_store.proofs.Holding.{looks_then, rests_under}
use Rattle.bucket_store.proofs.Images.{maps_with_root, maps_with_text, root_with_root, texts_beside, texts_here, texts_with_root}
use Rattle.row_store.specs.Rows.{AreRows, IsTableRow, rows_bytes}
use Rattle.store_maps.specs.Maps.{Maps, kept_rows, rows_at, unless_empty}
use Rattle.store_maps.specs.Named.{place_in}
use Rattle.store_maps.specs.Rows.{AreKept, Fits}
use Rattle.store_maps.specs.Stands.{HoldsNode}
use Rattle.store_check.specs.Kept.{HoldsMaps}
use Rattle.store_check.specs.Maps.{HasSoundMapsOf}
use Rattle.store_check.specs.Values.{AreRightRows, ByTags, IfUnknown, IsPlaced, bare, objects_of}
use Rattle.store_check.proofs.ObjectSets.{get_node, get_relation, get_way}
use Rattle.update_step.specs.Unknown.{IsLeft, IsUnknown, KeepsKnown, StandsKnown, record_at}
use Rattle.page_journal.specs.declared.fault.StoreFault.{StoreFault}
use Rattle.update_flow.specs.Ids.{AreIdEntries}
use Rattle.update_flow.specs.Refusals.{Refuses}
use Rattle.update_flow.specs.Settling.{counted_to, committed_due}
use Rattle.update_flow.specs.Sound.{IsSoundImport}
use Rattle.update_flow.specs.SoundTurns.{TurnsSound, changed_with}
use Rattle.update_flow.specs.State.{Append, Holding, imported}
use Rattle.update_flow.specs.Turning.{CommitsWith, limit_in}
use Rattle.update_flow.specs.declared.fault.FlowFault.{FlowFault}
use Rattle.update_flow.specs.declared.fault.TheConstants.{LAST_CHANGE}
use Rattle.update_flow.specs.declared.fields.TheConstants.{DUE_TEXT, STYLE_TEXT}
use Rattle.update_flow.specs.maps.Calls.{IsAllowed}
use Rattle.update_flow.specs.maps.Held.{HasMaps}
use Rattle.update_flow.proofs.Appended.{beside}
use Rattle.update_flow.proofs.Keyed.{ids_folded}
use Rattle.update_flow.proofs.MapsKept.{kept_same}
use Rattle.update_flow.proofs.SoundStanding.{known_kept, none_kept}
use Rattle.update_flow.proofs.SoundSteps.{sound_committed}

-- Rows that are spelled may be kept.

each_fits : (tables : List TableDef) (rows : List TableRow) → AllByRecursion (IsTableRow tables) rows → AllByRecursion (Fits tables) rows
each_fits tables [] all = tt
each_fits tables (row ∷ rows) all = (
  record { there = all.0.there; cells = all.0.spelled.cells.count_is },
  each_fits tables rows all.1,
)

rows_kept : (tables : List TableDef) (bytes : Option (List ℕ)) (found : Option (List TableRow))
    → Decodes rows_bytes (AreRows tables) bytes found → IfSome found (AreKept tables)
rows_kept tables bytes None is = tt
rows_kept tables None (Some rows) is = absurd is
rows_kept tables (Some bytes) (Some rows) is =
    record { some = is.0.some; rising = is.0.rising; each = each_fits tables rows is.0.each }

-- a node without a place has no rows
nowhere : (tables : List TableDef) (place : Option PlaceOf) (found : Option (List TableRow)) → place ≡ None → IfSome found (AreKept tables)
    → AllByRecursion (IsPlaced tables place) (kept_rows found) → found ≡ None
nowhere tables place None none kept placed = refl
nowhere tables place (Some []) none kept placed = let some = kept.some in absurd (omega (arith, some))
nowhere tables None (Some (row ∷ rows)) none kept placed = absurd (true≢false (ap is_some (sym placed.0.here)))
nowhere tables (Some place) (Some (row ∷ rows)) none kept placed = absurd (cc (none))

-- What is known of a node, by whether its tags are.

unknown_part : (found : Option NodeRecord) (Unknown : Option PlaceOf → Type 0) (Known : Type 0) → IsUnknown found
    → IfUnknown found Unknown Known → Unknown (place_in found)
unknown_part None Unknown Known unknown is = absurd unknown
unknown_part (Some own) Unknown Known unknown is = subst (λ tags. ByTags tags (Unknown own.place) Known) unknown is

known_part : (found : Option NodeRecord) (Unknown : Option PlaceOf → Type 0) (Known : Type 0) → ¬ IsUnknown found
    → IfUnknown found Unknown Known → Known
known_part None Unknown Known known is = is
known_part (Some own) Unknown Known known is = by own.tags refl is
  where
    by : (tags : Option TagMap) → own.tags ≡ tags → ByTags tags (Unknown own.place) Known → Known
    by None none is = absurd (known none)
    by (Some tags) some is = is

either_part : (found : Option NodeRecord) (Unknown : Option PlaceOf → Type 0) (Known : Type 0)
    → (IsUnknown found → Unknown (place_in found)) → (¬ IsUnknown found → Known) → IfUnknown found Unknown Known
either_part None Unknown Known unknown known = known (λ never. never)
either_part (Some own) Unknown Known unknown known = by own.tags refl
  where
    by : (tags : Option TagMap) → own.tags ≡ tags → ByTags tags (Unknown own.place) Known
    by None none = unknown none
    by (Some tags) some = known (λ none. true≢false (ap is_some (sym some ∙ none)))

-- Sound maps, and maps that stand for objects but for the rows of nodes whose tags nobody knows.

module _ (style : StyleOf) (objects : ObjectSet) (image : Image) (sound : HasSoundMapsOf style objects image) where
  abbrev maps : Maps
  maps = sound.maps

  kept_at : (id : ℕ) → IfSome (finite.get maps.node_rows id) (AreKept style.tables)
  kept_at id = rows_kept style.tables (finite.get (image.maps 6) id) (finite.get maps.node_rows id) (sound.kept.node_rows id)

  placed_at : (id : ℕ) → IsUnknown (finite.get maps.nodes id)
      → AllByRecursion (IsPlaced style.tables (place_in (finite.get maps.nodes id))) (kept_rows (finite.get maps.node_rows id))
  placed_at id unknown = unknown_part (finite.get maps.nodes id)
      (λ place. AllByRecursion (IsPlaced style.tables place) (kept_rows (finite.get maps.node_rows id)))
      (finite.get maps.node_rows id ≡ unless_empty (rows_in style objects (node_key id))) unknown (sound.rows kinds.Node id)

  rows_of : (own : KeyOf) → ¬ IsUnknown (record_at maps own) → rows_at maps own.kind own.id ≡ unless_empty (rows_in style objects own)
  rows_of own known = by own.kind own.id known
    where
      by : (kind : Kind) (id : ℕ) → ¬ IsUnknown (record_at maps (record { kind = kind; id = id }))
          → rows_at maps kind id ≡ unless_empty (rows_in style objects (record { kind = kind; id = id }))
      by kinds.Node id known = known_part (finite.get maps.nodes id)
          (λ place. AllByRecursion (IsPlaced style.tables place) (kept_rows (finite.get maps.node_rows id)))
          (finite.get maps.node_rows id ≡ unless_empty (rows_in style objects (node_key id))) known (sound.rows kinds.Node id)
      by kinds.Way id known = sound.rows kinds.Way id
      by kinds.Relation id known = sound.rows kinds.Relation id

  pub sound_stands : StandsKnown style maps objects
  sound_stands = record {
    on = sound.on;
    rows = rows_of;
    kept = λ id unknown. kept_at id;
    placed = λ id unknown none. nowhere style.tables (place_in (finite.get maps.nodes id)) (finite.get maps.node_rows id) none
        (kept_at id) (placed_at id unknown);
  }

  -- what a change leaves is sound
  module _ (now : Image) (after : Maps) (later : ObjectSet) (stands : StandsKnown style after later)
      (left : (id : ℕ) → IsUnknown (finite.get after.nodes id) → IsLeft maps after objects later id)
      (kept : HoldsMaps style.tables now.maps after) where
    abbrev own : ObjectSet
    own = objects_of after.nodes after.ways after.relations

    node_here : (id : ℕ) (found : Option NodeRecord) → finite.get after.nodes id ≡ found
        → HoldsNode (reaches_nodes style) found (finite.get later (node_key id))
        → finite.get later (node_key id) ≡ option_map bare found
    node_here id None there holds = none_kept (reaches_nodes style) (finite.get later (node_key id)) holds
    node_here id (Some node) there holds = by node.tags refl
      where
        by : (tags : Option TagMap) → node.tags ≡ tags → finite.get later (node_key id) ≡ Some (bare node)
        by None none =
            let same = left id (subst IsUnknown (sym there) none) in
            same.object ∙ ap (λ (all : ObjectSet). finite.get all (node_key id)) sound.own ∙ get_node maps.nodes maps.ways maps.relations id
            ∙ ap (option_map bare) (sym same.kept ∙ there)
        by (Some tags) known = known_kept (reaches_nodes style) node tags (finite.get later (node_key id)) known holds

    each_own : (kind : Kind) (id : ℕ) → finite.get later (record { kind = kind; id = id }) ≡ finite.get own (record { kind = kind; id = id })
    each_own kinds.Node id = node_here id (finite.get after.nodes id) refl (stands.on.objects.nodes id)
        ∙ sym (get_node after.nodes after.ways after.relations id)
    each_own kinds.Way id = sym (stands.on.objects.ways id) ∙ sym (get_way after.nodes after.ways after.relations id)
    each_own kinds.Relation id = sym (stands.on.objects.relations id) ∙ sym (get_relation after.nodes after.ways after.relations id)

    rows_right : (kind : Kind) (id : ℕ)
        → AreRightRows style after.nodes later (record { kind = kind; id = id }) (rows_at after kind id)
    rows_right kinds.Node id = either_part (finite.get after.nodes id)
        (λ place. AllByRecursion (IsPlaced style.tables place) (kept_rows (finite.get after.node_rows id)))
        (finite.get after.node_rows id ≡ unless_empty (rows_in style later (node_key id)))
        (λ unknown.
        let same = left id unknown in
        subst (λ found. AllByRecursion (IsPlaced style.tables (place_in (finite.get after.nodes id))) (kept_rows found)) (sym same.rows)
        (subst (λ found. AllByRecursion (IsPlaced style.tables (place_in found)) (kept_rows (finite.get maps.node_rows id)))
        (sym same.kept) (placed_at id (subst IsUnknown same.kept unknown))))
        (λ known. stands.rows (node_key id) known)
    rows_right kinds.Way id = stands.rows (way_key id) (λ never. never)
    rows_right kinds.Relation id = stands.rows (relation_key id) (λ never. never)

    pub stays_sound : HasSoundMapsOf style later now
    stays_sound = record {
      maps = after;
      kept = kept;
      own = finite.same_map key_cmp_total key_cmp-IsAntisymmetric later own (λ key. each_own key.kind key.id);
      on = stands.on;
      rows = rows_right;
    }

-- The store once the change is counted, and its tiles are due.

module _ (held : Holding) (rest now : Image) (is : IsSoundImport held rest) (root : now.root ≡ rest.root)
    (texts : (n : ℕ) → n < 8 → now.texts n ≡ rest.texts n) (objects : ObjectSet) (sound : HasSoundMapsOf held.style objects now)
    (ids : HasIds objects) (runs : List Run) (set : IsTileSet runs) (number : ℕ) (counted : number ≤ LAST_CHANGE) where
  abbrev with_tiles : Image
  with_tiles = with_text DUE_TEXT (set_bytes runs) now

  abbrev fields : Root
  fields = counted_to number now.root

  pub settled_sound : IsSoundImport (record held { objects = objects; changes = number; due = has runs }) (committed_due number runs now)
  settled_sound = record {
    root = root_with_root fields with_tiles ∙ ap (λ (r : Root). counted_to number r) (root ∙ is.root);
    counted = counted;
    some = is.some;
    power = is.power;
    few = is.few;
    style_text = texts_with_root fields with_tiles STYLE_TEXT ∙ texts_beside DUE_TEXT (set_bytes runs) now STYLE_TEXT (omega arith)
        ∙ texts STYLE_TEXT (omega arith) ∙ is.style_text;
    style = is.style;
    due = record {
      runs = runs;
      is = set;
      bytes_are = texts_with_root fields with_tiles DUE_TEXT ∙ texts_here DUE_TEXT (set_bytes runs) now DUE_TEXT refl;
      tiles = λ zoom x y. refl;
    };
    others = λ n below not_style not_due. texts_with_root fields with_tiles n ∙ texts_beside DUE_TEXT (set_bytes runs) now n not_due
        ∙ texts n below ∙ is.others n below not_style not_due;
    ids = ids;
    maps = record {
      maps = sound.maps;
      kept = kept_same held.style.tables with_tiles.maps (committed_due number runs now).maps sound.maps
          (λ m. maps_with_root fields with_tiles m)
          (kept_same held.style.tables now.maps with_tiles.maps sound.maps (λ m. maps_with_text DUE_TEXT (set_bytes runs) now m) sound.kept);
      own = sound.own;
      on = sound.on;
      rows = sound.rows;
    };
  }

-- the maps of a sound store stand so for its objects
pub stands_known : (held : Holding) (rest : Image) (is : IsSoundImport held rest) (style : StyleOf) → held.style ≡ style
    → StandsKnown style is.maps.maps held.objects
stands_known held rest is style alike = subst (λ (s : StyleOf). StandsKnown s is.maps.maps held.objects) alike
    (sound_stands held.style held.objects rest is.maps)

module _ {D : Type 0} {g : Ghosts D} (held : Holding) (rest : Image) (is : IsSoundImport held rest) where
  -- a transaction that has only looked has the maps of the store
  pub has_sound : (style : StyleOf) → held.style ≡ style → (style_now : StyleOf) (mid : Buckets D g) → style_now ≡ style → Has rest rest mid
      → HasMaps style_now.tables (beside rest) is.maps.maps mid
  has_sound style alike style_now mid same has =
      subst (λ (s : StyleOf). HasMaps s.tables (beside rest) is.maps.maps mid) (sym (same ∙ sym alike))
      (record { now = rest; has = has; root = refl; texts = λ n below. refl; kept = is.maps.kept })

  module _ (style : StyleOf) (alike : held.style ≡ style) (limits : LimitNumbers) (bounds : BoundsOf) (change : List Entry) (number : ℕ)
      (old mid last new : Buckets D g) (looked : OnlyLooks old mid) (later : OnlyLooks mid last) (due : List Run)
      (fault : Option FlowFault) (commits : CommitsWith (committed_due number due) fault last new) where
    -- all is committed, or nothing
    pub sound_turns : (style_now : StyleOf) (told : List RowChange) → style_now ≡ style → Has rest rest old → limit_in old ≡ limits.pages
        → held.changes + 1 ≡ number → number ≤ LAST_CHANGE → IsTileSet due → AreIdEntries change
        → KeepsKnown {E = StoreFault} (λ (maps : Maps). HasMaps style_now.tables (beside rest) maps last) IsAllowed style limits.pending
        is.maps.maps held.objects change (Ok told)
        → TurnsSound limits (imported held) (Append bounds change) fault old new
    sound_turns style_now told styled had same next counted set ids done =
        let after = done.stands.0 in
        let objects : ObjectSet = folded_all held.objects change in
        let kept : HasMaps held.style.tables (beside rest) after last =
        subst (λ (s : StyleOf). HasMaps s.tables (beside rest) after last) (styled ∙ sym alike) done.stands.1 in
        let stands : StandsKnown held.style after objects =
        subst (λ (s : StyleOf). StandsKnown s after objects) (sym alike) done.stands.2 in
        let sound = stays_sound held.style held.objects rest is.maps kept.now after objects stands done.stands.3 kept.kept in
        let becomes : IsSoundImport (changed_with (has due) change held) (committed_due number due kept.now) =
        subst (λ (n : ℕ). IsSoundImport (record held { objects = objects; changes = n; due = has due }) (committed_due number due kept.now))
        (sym next)
        (settled_sound held rest kept.now is kept.root kept.texts objects sound (ids_folded change held.objects is.ids ids) due set number
        counted) in
        let looks = looks_then old mid last looked later in
        let may : Refuses limits (imported held) (Append bounds change) None = (
          (λ last. absurd (omega (arith, last, next, counted))),
          (λ set pending. done.few set (subst (λ (s : StyleOf). IsPendingOf s held.objects change set) alike pending)),
        ) in
        sound_committed limits (imported held) (Append bounds change) rest is fault (committed_due number due kept.now)
        (imported (changed_with (has due) change held)) old last new (rests_under rest rest old had) looks becomes (has due, refl) may
        (commits.commits limits rest kept.now (looks.looked.limit ∙ same) kept.has)
