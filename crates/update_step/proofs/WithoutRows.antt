-- Keys that have no rows for sure.
use Rattle.std.proofs.Common.{◌≡◌, ℕ, Bool, true, false, not, ◌&&◌, cond, List, [], get_or, length, Option, Some, None, Result, Ok, Err}
use Rattle.std.proofs.Common.{is_ok, is_some, refl, sym, ap, subst, ◌∙◌}
use mathlib.Core.Bool.{false≢true, true≢false}
use Rattle.std.specs.Prelude.{HoldsAt, IfOk, IfSome, IsSome}
use Rattle.std.specs.declared.cmp.Ordering.TheVariants.{Equal}
use Rattle.std.specs.FinMap as finite
use Rattle.std.specs.List.{slice_get}
use Rattle.std.specs.List.Sorted.{IsSearchInRange}
use Rattle.std.specs.Option.{option_and_then, option_map}
use Rattle.osm_base.specs.declared.values.key.Kind.{Kind}
use Rattle.osm_base.specs.declared.values.key.Kind.TheVariants as kinds
use Rattle.osm_base.specs.declared.values.object.Object.{Object}
use Rattle.osm_base.specs.declared.values.object.Object.TheVariants.{Node, Way, Relation}
use Rattle.osm_base.specs.declared.values.row.TableRow.{TableRow}
use Rattle.osm_base.specs.map.Listers.{is_kind}
use Rattle.osm_base.specs.map.Objects.{ObjectSet, place_in as place_of}
use Rattle.osm_base.specs.values.Key.{KeyOf, node_key, relation_key, way_key}
use Rattle.osm_base.specs.values.KeyOrder.{key_cmp}
use Rattle.osm_base.specs.values.Place.{PlaceOf}
use Rattle.osm_base.specs.values.Tags.{TagMap}
use Rattle.osm_base.proofs.KeyLaws.{key_cmp-IsAntisymmetric, tree_cmp, tree_cmp-key_cmp}
use Rattle.style_read.specs.declared.style.Source.{Source}
use Rattle.style_read.specs.declared.style.Source.TheVariants as sources
use Rattle.style_read.specs.declared.style.TableDef.{TableDef}
use Rattle.style_read.specs.Style.{StyleOf}
use Rattle.object_fold.specs.Change.{IsOfKind}
use Rattle.row_rules.specs.Condition.{reaches_nodes}
use Rattle.row_rules.specs.Material.{Material, material_of}
use Rattle.row_rules.specs.Objects.{is_of_kind}
use Rattle.row_rules.specs.Row.{cells_of, row_from, row_of, wants, with_geometry}
use Rattle.row_rules.specs.Rows.{rows_in}
use Rattle.row_rules.specs.Shape.{geometry_of}
use Rattle.row_rules.specs.Wanted.{may_have_rows}
use Rattle.row_rules.proofs.TableRows.{row_from-none}
use Rattle.store_maps.specs.Asked.{May, MayObject}
use Rattle.store_maps.specs.Maps.{Maps, node_in, object_in}
use Rattle.store_maps.specs.Named.{place_in}
use Rattle.store_maps.specs.Stands.{StandsOn}
use Rattle.store_maps.proofs.KnownMaps.{KnowsTags, object_is, place_is}
use Rattle.store_maps.proofs.Standing.{rows_in-same}
use Rattle.update_step.specs.Lacking.{AreLacking}
use Rattle.update_step.proofs.Imported.{rows-none, rows-unwanted}
use Rattle.update_step.proofs.KeyedLists.{all_at}

-- A node without a place has no row.

placeless : (place : ℕ → Option PlaceOf) (object : KeyOf → Option Object) (tags : TagMap) (source : Source)
    → geometry_of place object source (Node None tags) ≡ None
placeless place object tags sources.Node = refl
placeless place object tags sources.Way = refl
placeless place object tags sources.Area = refl
placeless place object tags sources.Relation = refl

never : {A : Type 0} (b : Bool) → cond {A = Option A} b None None ≡ None
never true = refl
never false = refl

no_row : (style : StyleOf) (from : Material) (key : KeyOf) (definition : TableDef) (tags : TagMap)
    → row_of style.selections from definition key (Node None tags) ≡ None
no_row style from key definition tags =
    ap (λ geometry. cond (is_of_kind key.kind (Node None tags) && wants from definition (Node None tags))
    (with_geometry (cells_of style.selections from definition (Node None tags)) geometry) None)
    (placeless from.place from.object tags definition.source)
    ∙ never (is_of_kind key.kind (Node None tags) && wants from definition (Node None tags))

row_from-placeless : (style : StyleOf) (table : ℕ) (from : Material) (key : KeyOf) (tags : TagMap) → from.object key ≡ Some (Node None tags)
    → row_from style table from key ≡ None
row_from-placeless style table from key tags is =
    ap (λ found. option_and_then (λ definition. option_and_then (row_of style.selections from definition key) found)
    (slice_get style.tables table)) is
    ∙ go (slice_get style.tables table)
  where
    go : (found : Option TableDef) → option_and_then
        (λ definition. option_and_then (row_of style.selections from definition key) (Some (Node None tags))) found ≡ None
    go None = refl
    go (Some definition) = no_row style from key definition tags

rows-placeless : (style : StyleOf) (objects : ObjectSet) (own : KeyOf) (tags : TagMap) → finite.get objects own ≡ Some (Node None tags)
    → rows_in style objects own ≡ []
rows-placeless style objects own tags is =
    rows_in-same style objects finite.empty own
    (λ table. row_from-placeless style table (material_of style objects own) own tags is
    ∙ sym (row_from-none style table (material_of style finite.empty own) own (finite.get-empty key_cmp own)))
    ∙ rows-none style finite.empty own (finite.get-empty key_cmp own)

-- What maps say of a key.

known_tags : (maps : Maps) (id : ℕ) → not (is_some (object_in maps kinds.Node id)) ≡ false → KnowsTags (finite.get maps.nodes id)
known_tags maps id known = elim (finite.get maps.nodes id) as (λ kept. not (is_some (node_in kept)) ≡ false → KnowsTags kept) [
  | None ↦ λ known. absurd (true≢false known)
  | Some kept ↦ λ known. elim (kept.tags) as
      (λ (tags : Option TagMap). not (is_some (option_map (λ own. Node kept.place own) tags)) ≡ false → IsSome tags) [
        | None ↦ λ known. absurd (true≢false known)
        | Some tags ↦ λ _. refl
      ] known
] known

nowhere : {X : Type 0} {x : X} → Some x ≡ None → ⊥
nowhere e = cc

module _ (style : StyleOf) (maps : Maps) (objects : ObjectSet) (stands : StandsOn (reaches_nodes style) maps objects) where
  no_place : (id : ℕ) (object : Option Object) → IfSome object (IsOfKind kinds.Node) → place_of object ≡ None
      → finite.get objects (node_key id) ≡ object → rows_in style objects (node_key id) ≡ []
  no_place id None proper none is = rows-none style objects (node_key id) is
  no_place id (Some (Node None tags)) proper none is = rows-placeless style objects (node_key id) tags is
  no_place id (Some (Node (Some place) tags)) proper none is = absurd (nowhere none)
  no_place id (Some (Way nodes tags)) proper none is = absurd proper
  no_place id (Some (Relation members tags)) proper none is = absurd proper

  -- a node that has no place
  pub lacks-place : (own : KeyOf) → is_kind kinds.Node own.kind ≡ true → place_in (finite.get maps.nodes own.id) ≡ None
      → rows_in style objects own ≡ []
  lacks-place own node none = by own.kind own.id node none
    where
      by : (kind : Kind) (id : ℕ) → is_kind kinds.Node kind ≡ true → place_in (finite.get maps.nodes id) ≡ None
          → rows_in style objects (record { kind = kind; id = id }) ≡ []
      by kinds.Node id node none = no_place id (finite.get objects (node_key id)) (stands.proper.kinds (node_key id))
          (sym (place_is (reaches_nodes style) maps objects stands id) ∙ none) refl
      by kinds.Way id node none = absurd (false≢true node)
      by kinds.Relation id node none = absurd (false≢true node)

  -- what no table may want
  pub lacks-unwanted : (own : KeyOf) → (is_kind kinds.Node own.kind && not (is_some (object_in maps own.kind own.id))) ≡ false
      → may_have_rows style (object_in maps own.kind own.id) ≡ false → rows_in style objects own ≡ []
  lacks-unwanted own known unwanted = by own.kind own.id known unwanted
    where
      by : (kind : Kind) (id : ℕ) → (is_kind kinds.Node kind && not (is_some (object_in maps kind id))) ≡ false
          → may_have_rows style (object_in maps kind id) ≡ false → rows_in style objects (record { kind = kind; id = id }) ≡ []
      by kinds.Node id known unwanted =
          rows-unwanted style objects (node_key id)
          (ap (may_have_rows style) (sym (object_is (reaches_nodes style) maps objects stands (node_key id)
          (λ _. known_tags maps id known))) ∙ unwanted)
      by kinds.Way id known unwanted = rows-unwanted style objects (way_key id)
          (ap (may_have_rows style) (sym (stands.objects.ways id)) ∙ unwanted)
      by kinds.Relation id known unwanted = rows-unwanted style objects (relation_key id)
          (ap (may_have_rows style) (sym (stands.objects.relations id)) ∙ unwanted)

-- a node that may be asked for its object may be asked for its place
pub may-place : (may : May) (own : KeyOf) → is_kind kinds.Node own.kind ≡ true → MayObject may own → may 0 own.id ≡ true
may-place may own node all = by own.kind own.id node all
  where
    by : (kind : Kind) (id : ℕ) → is_kind kinds.Node kind ≡ true → MayObject may (record { kind = kind; id = id }) → may 0 id ≡ true
    by kinds.Node id node all = all
    by kinds.Way id node all = absurd (false≢true node)
    by kinds.Relation id node all = absurd (false≢true node)

-- what is there is not unknown, nor is what is no node
pub known-some : {X : Type 0} (node : Bool) (found : Option X) → is_some found ≡ true → (node && not (is_some found)) ≡ false
known-some true found there = ap not there
known-some false found there = refl

pub known-other : (node more : Bool) → node ≡ false → (node && more) ≡ false
known-other node more not-node = ap (λ b. b && more) not-node

pub none-found : {X : Type 0} (found : Option X) → is_some found ≡ false → found ≡ None
none-found None not = refl
none-found (Some x) not = absurd (true≢false not)

pub not-true : (b : Bool) → not b ≡ true → b ≡ false
not-true true e = absurd (false≢true e)
not-true false e = refl

-- a key that is found among those without rows has none
pub found-lacks : (keys : List KeyOf) (key : KeyOf) (found : Result ℕ ℕ) → IsSearchInRange found (length keys)
    → IfOk found (HoldsAt (λ own. tree_cmp own key ≡ Equal) keys) → is_ok found ≡ true
    → (rows : KeyOf → List TableRow) → AreLacking rows keys → rows key ≡ []
found-lacks keys key (Ok at) below same there rows all =
    let met : key_cmp (get_or keys at key) key ≡ Equal = subst (λ cmp. cmp (get_or keys at key) key ≡ Equal) tree_cmp-key_cmp (same key) in
    ap rows (sym (key_cmp-IsAntisymmetric (get_or keys at key) key met))
    ∙ all_at (λ own. rows own ≡ []) keys at (get_or keys at key) key all below refl
found-lacks keys key (Err at) below same there rows all = absurd (false≢true there)
