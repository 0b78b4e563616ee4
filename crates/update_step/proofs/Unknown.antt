-- What a change leaves of maps in which the tags of some nodes are not known.
use Rattle.std.proofs.Common.{◌≡◌, ℕ, Bool, true, false, not, ◌&&◌, ◌||◌, cond, is_some, List, [], ◌∷◌, length, Option, Some, None}
use Rattle.std.proofs.Common.{refl, sym, ap, subst, ◌∙◌, arith}
use mathlib.Core.Bool.{false≢true, true≢false}
use Rattle.std.specs.Prelude.{IfSome}
use Rattle.std.specs.Cmp.{unsigned_tied}
use Rattle.std.specs.FinMap as finite
use Rattle.std.specs.List.{AllByRecursion, list_any}
use Rattle.std.specs.Option.{option_map}
use Rattle.std.specs.Ordering.{eq_by_cmp}
use Rattle.osm_base.specs.declared.values.key.Kind.{Kind}
use Rattle.osm_base.specs.declared.values.key.Kind.TheVariants as kinds
use Rattle.osm_base.specs.declared.values.object.Entry.{Entry}
use Rattle.osm_base.specs.declared.values.object.Object.{Object}
use Rattle.osm_base.specs.declared.values.object.Object.TheVariants.{Node}
use Rattle.osm_base.specs.declared.values.row.TableRow.{TableRow}
use Rattle.osm_base.specs.map.Listers.{is_kind}
use Rattle.osm_base.specs.map.Objects.{ObjectSet, folded_all}
use Rattle.osm_base.specs.map.Pending.{PendingOf}
use Rattle.osm_base.specs.values.Key.{KeyOf, node_key}
use Rattle.osm_base.specs.values.KeyOrder.{key_cmp}
use Rattle.osm_base.specs.values.Tags.{TagMap}
use Rattle.style_read.specs.declared.style.TableDef.{TableDef}
use Rattle.style_read.specs.Style.{StyleOf}
use Rattle.value_bytes.specs.declared.nodes.NodeRecord.{NodeRecord}
use Rattle.object_fold.proofs.FoldLaws.{Untouched, get-untouched}
use Rattle.row_rules.specs.Condition.{reaches_nodes}
use Rattle.row_rules.specs.Rows.{rows_in}
use Rattle.dep_closure.specs.PendingSet.{IsPendingOf, LeavesRows, is_named}
use Rattle.geom_workers.specs.Keys.{keys_of}
use Rattle.store_maps.specs.Append.{MayKeep, appended, set_all_rows}
use Rattle.store_maps.specs.Maps.{Maps, all_kept, kept_rows, node_in, node_record, object_in, rows_at, set_object, set_rows, unless_empty}
use Rattle.store_maps.specs.Maps.{way_or_relation_in}
use Rattle.store_maps.specs.Named.{place_in}
use Rattle.store_maps.specs.Rows.{AreKept}
use Rattle.store_maps.specs.Stands.{HoldsRows, StandsOn}
use Rattle.store_maps.specs.Step.{AreProperEntries, change_on, entry_on, relisted_to}
use Rattle.store_maps.proofs.KnownMaps.{KnowsTags}
use Rattle.store_maps.proofs.ObjectMaps.{entries_stand, same_key}
use Rattle.store_maps.proofs.RowMaps.{got-all, rows_stay}
use Rattle.store_maps.proofs.Sets.{get-set}
use Rattle.update_step.specs.Lacking.{AreLacking}
use Rattle.update_step.specs.Turned.{HadRows, IsByTable}
use Rattle.update_step.specs.Unknown.{AreUnplaced, IsLeft, IsUnknown, IsUnplaced, StandsKnown, record_at}
use Rattle.update_step.proofs.ByTables.{kept-by-table, rows_in-by-table}
use Rattle.update_step.proofs.PendingKeys.{all-known, outside-kind, outside-rows}
use Rattle.update_step.proofs.RowsStill.{entries-keep, kept_unless}

-- A node without a place, and one whose tags are known.

pub unplaced : (maps : Maps) (own : KeyOf) → place_in (finite.get maps.nodes own.id) ≡ None → IsUnplaced maps own
unplaced maps own none = by own.kind
  where
    by : (kind : Kind) → IsUnplaced maps (record { kind = kind; id = own.id })
    by kinds.Node unknown = none
    by kinds.Way unknown = absurd unknown
    by kinds.Relation unknown = absurd unknown

no-object : (kept : Option NodeRecord) → IsUnknown kept → not (is_some (node_in kept)) ≡ true
no-object None unknown = absurd unknown
no-object (Some kept) unknown = ap (λ (tags : Option TagMap). not (is_some (option_map (λ own. Node kept.place own) tags))) unknown

pub known-unplaced : (maps : Maps) (own : KeyOf) → (is_kind kinds.Node own.kind && not (is_some (object_in maps own.kind own.id))) ≡ false
    → IsUnplaced maps own
known-unplaced maps own known = by own.kind known
  where
    by : (kind : Kind) → (is_kind kinds.Node kind && not (is_some (object_in maps kind own.id))) ≡ false
        → IsUnplaced maps (record { kind = kind; id = own.id })
    by kinds.Node known unknown = absurd (true≢false (sym (no-object (finite.get maps.nodes own.id) unknown) ∙ known))
    by kinds.Way known unknown = absurd unknown
    by kinds.Relation known unknown = absurd unknown

knows-not : (kept : Option NodeRecord) → KnowsTags kept → IsUnknown kept → ⊥
knows-not None knows unknown = unknown
knows-not (Some kept) knows unknown = true≢false (sym knows ∙ ap is_some unknown)

-- Whether the tags of a node are known is decided.

known-or : (P : Type 0) (kept : Option NodeRecord) → (IsUnknown kept → P) → (¬ IsUnknown kept → P) → P
known-or P None is not = not (λ never. never)
known-or P (Some kept) is not = elim kept.tags as (λ tags. kept.tags ≡ tags → P) [
  | None ↦ is
  | Some tags ↦ λ known. not (λ none. true≢false (ap is_some (sym known ∙ none)))
] refl

-- The rows that are kept are as the tables may have them, and those of the keys that are said to lack them are none.

kept-some : (tables : List TableDef) (found : Option (List TableRow)) → IfSome found (AreKept tables) → found ≡ unless_empty (kept_rows found)
kept-some tables None kept = refl
kept-some tables (Some []) kept = let some = kept.some in absurd (omega (arith, some))
kept-some tables (Some (first ∷ rest)) kept = refl

kept-may : (tables : List TableDef) (found : Option (List TableRow)) → IfSome found (AreKept tables) → MayKeep tables (kept_rows found)
kept-may tables None kept = tt
kept-may tables (Some []) kept = tt
kept-may tables (Some (first ∷ rest)) kept = kept

same-kept : (found : Option (List TableRow)) (rows : List TableRow) → found ≡ unless_empty rows → found ≡ unless_empty (kept_rows found)
same-kept found rows is = is ∙ ap unless_empty (sym (ap kept_rows is ∙ kept_unless rows))

module _ (style : StyleOf) (maps : Maps) (objects : ObjectSet) (stands : StandsKnown style maps objects) where
  -- what is known of a node whose tags are not, and else of all rows
  by-tags : (P : KeyOf → Type 0) → ((id : ℕ) → IsUnknown (finite.get maps.nodes id) → P (node_key id))
      → ((own : KeyOf) → ¬ IsUnknown (record_at maps own) → P own) → (own : KeyOf) → P own
  by-tags P unknown known own = by own.kind own.id
    where
      by : (kind : Kind) (id : ℕ) → P (record { kind = kind; id = id })
      by kinds.Node id = known-or (P (node_key id)) (finite.get maps.nodes id) (unknown id) (known (node_key id))
      by kinds.Way id = known (record { kind = kinds.Way; id = id }) (λ never. never)
      by kinds.Relation id = known (record { kind = kinds.Relation; id = id }) (λ never. never)

  held : HoldsRows maps (all_kept maps)
  held = record {
    at = λ kind id. by-tags (λ own. rows_at maps own.kind own.id ≡ unless_empty (all_kept maps own))
        (λ id unknown. kept-some style.tables (finite.get maps.node_rows id) (stands.kept id unknown))
        (λ own known. same-kept (rows_at maps own.kind own.id) (rows_in style objects own) (stands.rows own known))
        (record { kind = kind; id = id });
  }

  kept-are : (own : KeyOf) → ¬ IsUnknown (record_at maps own) → all_kept maps own ≡ rows_in style objects own
  kept-are own known = ap kept_rows (stands.rows own known) ∙ kept_unless (rows_in style objects own)

  by-table : (own : KeyOf) → IsByTable (length style.tables) (all_kept maps own)
  by-table = by-tags (λ own. IsByTable (length style.tables) (all_kept maps own))
      (λ id unknown. kept-by-table style.tables (all_kept maps (node_key id))
      (kept-may style.tables (finite.get maps.node_rows id) (stands.kept id unknown)))
      (λ own known. subst (IsByTable (length style.tables)) (sym (kept-are own known)) (rows_in-by-table style objects own))

  lacks-one : (own : KeyOf) → rows_in style objects own ≡ [] → IsUnplaced maps own → all_kept maps own ≡ []
  lacks-one = by-tags (λ own. rows_in style objects own ≡ [] → IsUnplaced maps own → all_kept maps own ≡ [])
      (λ id unknown _ none. ap kept_rows (stands.placed id unknown (none unknown)))
      (λ own known none _. kept-are own known ∙ none)

  lack-all : (keys : List KeyOf) → AreLacking (rows_in style objects) keys → AreUnplaced maps keys → AreLacking (all_kept maps) keys
  lack-all [] none unplaced = tt
  lack-all (own ∷ keys) none unplaced = (lacks-one own none.0 unplaced.0, lack-all keys none.1 unplaced.1)

  pub had-rows : (change : List Entry) (keys : List KeyOf) → AreLacking (rows_in style objects) keys → AreUnplaced maps keys
      → HadRows (length style.tables) keys (change_on maps change) (all_kept maps)
  had-rows change keys none unplaced = record {
    held = entries-keep maps change (all_kept maps) held;
    none = lack-all keys none unplaced;
    by_table = by-table;
  }

-- Rows are of other maps than the objects and their index.

abbrev bare : Maps → Maps
bare maps = record maps { node_rows = finite.empty; other_rows = finite.empty }

bare-set : (maps : Maps) (kind : Kind) (id : ℕ) (rows : List TableRow) → bare (set_rows maps kind id rows) ≡ bare maps
bare-set maps kinds.Node id rows = refl
bare-set maps kinds.Way id rows = refl
bare-set maps kinds.Relation id rows = refl

bare-all : (rows : KeyOf → List TableRow) (keys : List KeyOf) (maps : Maps) → bare (set_all_rows maps rows keys) ≡ bare maps
bare-all rows [] maps = refl
bare-all rows (own ∷ keys) maps =
    bare-all rows keys (set_rows maps own.kind own.id (rows own)) ∙ bare-set maps own.kind own.id (rows own)

stands-as : (reaches : Bool) (one other : Maps) (objects : ObjectSet) → bare one ≡ bare other → StandsOn reaches one objects
    → StandsOn reaches other objects
stands-as reaches one other objects same stands = from (subst (λ maps. StandsOn reaches maps objects) same to)
  where
    to : StandsOn reaches (bare one) objects
    to = record {
      objects = record { nodes = stands.objects.nodes; ways = stands.objects.ways; relations = stands.objects.relations };
      index = record {
        ways_of_blocks = stands.index.ways_of_blocks;
        relations_of_nodes = stands.index.relations_of_nodes;
        relations_of_ways = stands.index.relations_of_ways;
      };
      proper = stands.proper;
    }

    from : StandsOn reaches (bare other) objects → StandsOn reaches other objects
    from on = record {
      objects = record { nodes = on.objects.nodes; ways = on.objects.ways; relations = on.objects.relations };
      index = record {
        ways_of_blocks = on.index.ways_of_blocks;
        relations_of_nodes = on.index.relations_of_nodes;
        relations_of_ways = on.index.relations_of_ways;
      };
      proper = on.proper;
    }

-- A node that a change does not name stays as it is.

module _ (id : ℕ) where
  set-other : (maps : Maps) (own : KeyOf) (object : Option Object) → eq_by_cmp key_cmp (node_key id) own ≡ false
      → finite.get (set_object maps own.kind own.id object).nodes id ≡ finite.get maps.nodes id
  set-other maps own object apart = by own.kind apart
    where
      by : (kind : Kind) → eq_by_cmp key_cmp (node_key id) (record { kind = kind; id = own.id }) ≡ false
          → finite.get (set_object maps kind own.id object).nodes id ≡ finite.get maps.nodes id
      by kinds.Node apart = get-set maps.nodes own.id (node_record object) id
          ∙ ap (λ b. cond b (node_record object) (finite.get maps.nodes id)) (sym (unsigned_tied id own.id) ∙ apart)
      by kinds.Way apart = refl
      by kinds.Relation apart = refl

  pub stays-kept : (entries : List Entry) (maps : Maps) → Untouched (node_key id) entries
      → finite.get (change_on maps entries).nodes id ≡ finite.get maps.nodes id
  stays-kept [] maps none = refl
  stays-kept (entry ∷ entries) maps none =
      stays-kept entries (entry_on maps entry) none.1
      ∙ set-other (relisted_to maps entry.key (way_or_relation_in maps entry.key.kind entry.key.id) entry.object) entry.key entry.object none.0

  or-false : (a b : Bool) → (a || b) ≡ false → (a ≡ false) × (b ≡ false)
  or-false true b e = absurd (true≢false e)
  or-false false b e = (refl, e)

  untouched : (entries : List Entry) → is_named entries (node_key id) ≡ false → Untouched (node_key id) entries
  untouched [] none = tt
  untouched (entry ∷ entries) none =
      let parts = or-false (eq_by_cmp key_cmp (node_key id) entry.key) (is_named entries (node_key id)) none in
      (parts.0, untouched entries parts.1)

among-holds : (P : KeyOf → Type 0) (keys : List KeyOf) (own : KeyOf) → AllByRecursion P keys → list_any (eq_by_cmp key_cmp own) keys ≡ true
    → P own
among-holds P [] own all among = absurd (false≢true among)
among-holds P (key ∷ keys) own all among =
    elim (eq_by_cmp key_cmp own key) as
    (λ b. eq_by_cmp key_cmp own key ≡ b → (b || list_any (eq_by_cmp key_cmp own) keys) ≡ true → P own) [
      | true ↦ λ same _. subst P (sym (same_key own key same)) all.0
      | false ↦ λ _ later. among-holds P keys own all.1 later
    ] refl among

-- A change, whole.

module _ (style : StyleOf) (maps : Maps) (objects : ObjectSet) (change : List Entry) (set : PendingOf)
    (stands : StandsKnown style maps objects) (proper : AreProperEntries change) (pending : IsPendingOf style objects change set)
    (leaves : LeavesRows style objects change set) where
  abbrev later : ObjectSet
  later = folded_all objects change

  abbrev changed : Maps
  changed = change_on maps change

  abbrev pub after : Maps
  after = appended maps change (rows_in style later) (keys_of set)

  abbrev is_due : KeyOf → Bool
  is_due own = list_any (eq_by_cmp key_cmp own) (keys_of set)

  on : StandsOn (reaches_nodes style) changed later
  on = entries_stand (reaches_nodes style) change maps objects stands.on proper

  same : bare after ≡ bare changed
  same = bare-all (rows_in style later) (keys_of set) changed

  nodes-same : after.nodes ≡ changed.nodes
  nodes-same = ap (λ (own : Maps). own.nodes) same

  record-same : (own : KeyOf) → record_at after own ≡ record_at changed own
  record-same own = ap (λ (own_maps : Maps). record_at own_maps own) same

  rows-are : (own : KeyOf) → rows_at after own.kind own.id
      ≡ cond (is_due own) (unless_empty (rows_in style later own)) (rows_at maps own.kind own.id)
  rows-are own = got-all (rows_in style later) (keys_of set) changed own.kind own.id
      ∙ ap (cond (is_due own) (unless_empty (rows_in style later own))) (rows_stay change maps own.kind own.id)

  -- a node that is not pending is not named
  not-named : (id : ℕ) → is_due (node_key id) ≡ false → is_named change (node_key id) ≡ false
  not-named id outside = (or-false id (is_named change (node_key id)) _
      (sym (pending.nodes id) ∙ outside-kind set kinds.Node id outside)).0

  kept-same : (id : ℕ) → is_due (node_key id) ≡ false → finite.get changed.nodes id ≡ finite.get maps.nodes id
  kept-same id outside = stays-kept id change maps (untouched id change (not-named id outside))

  record-kept : (own : KeyOf) → is_due own ≡ false → record_at changed own ≡ record_at maps own
  record-kept own outside = by own.kind own.id outside
    where
      by : (kind : Kind) (id : ℕ) → is_due (record { kind = kind; id = id }) ≡ false
          → record_at changed (record { kind = kind; id = id }) ≡ record_at maps (record { kind = kind; id = id })
      by kinds.Node id outside = kept-same id outside
      by kinds.Way id outside = refl
      by kinds.Relation id outside = refl

  -- a node whose tags are not known then is not pending
  not-due : (id : ℕ) → IsUnknown (finite.get changed.nodes id) → is_due (node_key id) ≡ false
  not-due id unknown = elim (is_due (node_key id)) as (λ b. is_due (node_key id) ≡ b → b ≡ false) [
    | true ↦ λ among. absurd (knows-not (finite.get changed.nodes id)
        (among-holds (λ own. own.kind ≡ kinds.Node → KnowsTags (finite.get changed.nodes own.id)) (keys_of set) (node_key id)
        (all-known style maps objects change on set pending) among refl) unknown)
    | false ↦ λ _. refl
  ] refl

  pub is-left : (id : ℕ) → IsUnknown (finite.get after.nodes id) → IsLeft maps after objects later id
  is-left id unknown =
      let outside = not-due id (subst (λ nodes. IsUnknown (finite.get nodes id)) nodes-same unknown) in
      record {
        kept = ap (λ nodes. finite.get nodes id) nodes-same ∙ kept-same id outside;
        object = get-untouched objects change (node_key id) (untouched id change (not-named id outside));
        rows = rows-are (node_key id)
            ∙ ap (λ b. cond b (unless_empty (rows_in style later (node_key id))) (finite.get maps.node_rows id)) outside;
      }

  rows-known : (own : KeyOf) → ¬ IsUnknown (record_at after own) → rows_at after own.kind own.id ≡ unless_empty (rows_in style later own)
  rows-known own known = rows-are own
      ∙ elim (is_due own) as (λ b. is_due own ≡ b → cond b (unless_empty (rows_in style later own)) (rows_at maps own.kind own.id)
      ≡ unless_empty (rows_in style later own)) [
        | true ↦ λ _. refl
        | false ↦ λ outside.
            stands.rows own (λ unknown. known (subst IsUnknown (sym (record-same own ∙ record-kept own outside)) unknown))
            ∙ ap unless_empty (sym (outside-rows style objects change set leaves own outside))
      ] refl

  pub stands-known : StandsKnown style after later
  stands-known = record {
    on = stands-as (reaches_nodes style) changed after later (sym same) on;
    rows = rows-known;
    kept = λ id unknown.
        let left = is-left id unknown in
        subst (λ found. IfSome found (AreKept style.tables)) (sym left.rows) (stands.kept id (subst IsUnknown left.kept unknown));
    placed = λ id unknown none.
        let left = is-left id unknown in
        left.rows ∙ stands.placed id (subst IsUnknown left.kept unknown) (ap place_in (sym left.kept) ∙ none);
  }
