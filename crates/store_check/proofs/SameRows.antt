-- The rows of a key are the same over other objects, where these have the same places, ways and relations.
use Rattle.std.proofs.Common.{◌≡◌, ℕ, true, false, not, ◌&&◌, cond, List, [], ◌∷◌, ◌++◌, length, fold, nat_eq, Option, Some, None}
use Rattle.std.proofs.Common.{refl, sym, ap, subst, ◌∙◌}
use Rattle.std.specs.Prelude.{IfSome}
use Rattle.std.specs.FinMap as finite
use Rattle.std.specs.List.{AllByRecursion, cons_option, filter_map, list_any, range_with_len, slice_get}
use Rattle.std.specs.Option.{option_and_then, option_map}
use Rattle.osm_base.specs.declared.values.key.Kind.{Kind}
use Rattle.osm_base.specs.declared.values.key.Kind.TheVariants as kinds
use Rattle.osm_base.specs.declared.values.object.Member.{Member}
use Rattle.osm_base.specs.declared.values.object.Object.{Object}
use Rattle.osm_base.specs.declared.values.object.Object.TheVariants.{Node, Way, Relation}
use Rattle.osm_base.specs.declared.values.row.Cell.{Cell}
use Rattle.osm_base.specs.declared.values.row.Geometry.TheVariants.{Point}
use Rattle.osm_base.specs.declared.values.row.TableRow.{TableRow}
use Rattle.osm_base.specs.map.Listers.{ids_of, is_kind, known_of, lists}
use Rattle.osm_base.specs.map.Objects.{ObjectSet, place_in}
use Rattle.osm_base.specs.values.Key.{KeyOf, node_key, way_key, relation_key}
use Rattle.osm_base.specs.values.Place.{PlaceOf}
use Rattle.osm_base.specs.values.Tags.{TagMap}
use Rattle.style_read.specs.Style.{StyleOf}
use Rattle.style_read.specs.declared.style.Source.{Source}
use Rattle.style_read.specs.declared.style.Source.TheVariants as sources
use Rattle.style_read.specs.declared.style.TableDef.{TableDef}
use Rattle.object_fold.proofs.IndexOf.{ids_of-rise}
use Rattle.object_fold.proofs.Listers.{has-ids_of}
use Rattle.object_fold.proofs.SortedIds.{same_rising}
use Rattle.row_rules.specs.Agree.{IsSameWay, SameNodes, SamePlaces, SameWays}
use Rattle.row_rules.specs.Material.{Material, material_of, relations_with, selecting_among, selecting_tags}
use Rattle.row_rules.specs.Row.{cells_of, row, row_of, wants, with_geometry}
use Rattle.row_rules.specs.Rows.{in_table, rows_in}
use Rattle.row_rules.specs.Shape.{geometry_of, with_way}
use Rattle.row_rules.proofs.Locality.{row_from-same}
use Rattle.store_maps.proofs.Standing.{rows_in-same}
use Rattle.store_check.specs.Values.{IsPlaced}

-- the ways among members are ways

pushed : (P : KeyOf → Type 0) (keys : List KeyOf) (key : KeyOf) → AllByRecursion P keys → P key → AllByRecursion P (keys ++ key ∷ [])
pushed P [] key all holds = (holds, tt)
pushed P (first ∷ keys) key all holds = (all.0, pushed P keys key all.1 holds)

of_way : (P : KeyOf → Type 0) (kind : Kind) (id : ℕ) → ((id : ℕ) → P (way_key id)) → is_kind kinds.Way kind ≡ true
    → P (record { kind = kind; id = id })
of_way P kinds.Node id each is = absurd (cc)
of_way P kinds.Way id each is = each id
of_way P kinds.Relation id each is = absurd (cc)

one_way : (P : KeyOf → Type 0) → ((id : ℕ) → P (way_key id)) → (member : Member) (ways : List KeyOf) → AllByRecursion P ways
    → AllByRecursion P (with_way ways member)
one_way P each member ways all =
    elim (is_kind kinds.Way member.key.kind) as (λ b. is_kind kinds.Way member.key.kind ≡ b
    → AllByRecursion P (cond (b && not (list_any (λ (way : KeyOf). nat_eq way.id member.key.id) ways)) (ways ++ member.key ∷ []) ways)) [
      | true ↦ λ is.
          elim (list_any (λ (way : KeyOf). nat_eq way.id member.key.id) ways) as
          (λ b. AllByRecursion P (cond (not b) (ways ++ member.key ∷ []) ways)) [
            | true ↦ all
            | false ↦ pushed P ways member.key all (of_way P member.key.kind member.key.id each is)
          ]
      | false ↦ λ differs. all
    ] refl

pub all_ways : (P : KeyOf → Type 0) → ((id : ℕ) → P (way_key id)) → (members : List Member) (ways : List KeyOf) → AllByRecursion P ways
    → AllByRecursion P (fold with_way ways members)
all_ways P each [] ways all = all
all_ways P each (member ∷ members) ways all = all_ways P each members (with_way ways member) (one_way P each member ways all)

module _ (style : StyleOf) (one other : ObjectSet)
    (places : (id : ℕ) → place_in (finite.get one (node_key id)) ≡ place_in (finite.get other (node_key id)))
    (ways : (id : ℕ) → finite.get one (way_key id) ≡ finite.get other (way_key id))
    (relations : (id : ℕ) → finite.get one (relation_key id) ≡ finite.get other (relation_key id)) where
  module _ (key : KeyOf) where
    abbrev from : Material
    from = material_of style one key

    abbrev to : Material
    to = material_of style other key

    same_places : (nodes : List ℕ) → SamePlaces from to nodes
    same_places [] = tt
    same_places (id ∷ nodes) = (places id, same_places nodes)

    same_nodes : (object : Option Object) → SameNodes from to object
    same_nodes None = tt
    same_nodes (Some (Node place tags)) = tt
    same_nodes (Some (Way nodes tags)) = same_places nodes
    same_nodes (Some (Relation members tags)) = tt

    same_way : (id : ℕ) → IsSameWay from to (way_key id)
    same_way id = record { object = ways id; nodes = same_nodes (finite.get one (way_key id)) }

    same_ways : (object : Option Object) → SameWays from to object
    same_ways None = tt
    same_ways (Some (Node place tags)) = tt
    same_ways (Some (Way nodes tags)) = tt
    same_ways (Some (Relation members tags)) = all_ways (IsSameWay from to) same_way members [] tt

  same_lists : (kind : Kind) (id : ℕ) → ids_of kinds.Relation kind id one ≡ ids_of kinds.Relation kind id other
  same_lists kind id =
      same_rising (ids_of kinds.Relation kind id one) (ids_of kinds.Relation kind id other) (ids_of-rise one kinds.Relation kind id)
      (ids_of-rise other kinds.Relation kind id) (λ own.
      has-ids_of one kinds.Relation kind id own ∙ ap (lists kind id) (relations own) ∙ sym (has-ids_of other kinds.Relation kind id own))

  same_with : (kind : Kind) (id : ℕ)
      → relations_with (known_of one) (record { kind = kind; id = id }) ≡ relations_with (known_of other) (record { kind = kind; id = id })
  same_with kinds.Node id = same_lists kinds.Node id
  same_with kinds.Way id = same_lists kinds.Way id
  same_with kinds.Relation id = refl

  same_selecting : (key : KeyOf) (number : ℕ) → (from key).selecting number ≡ (to key).selecting number
  same_selecting key number =
      (λ i. selecting_among style.selections (finite.get one) (same_with key.kind key.id i) number)
      ∙ (λ i. filter_map (λ id. selecting_tags style.selections number (relations id i)) (relations_with (known_of other) key))

  pub same_rows : (key : KeyOf) → finite.get one key ≡ finite.get other key → rows_in style one key ≡ rows_in style other key
  same_rows key same = rows_in-same style one other key (λ table.
      row_from-same style table key (from key) (to key) (λ definition found. record {
        object = same;
        nodes = same_nodes key (finite.get one key);
        ways = same_ways key (finite.get one key);
        selecting = λ names number. same_selecting key number;
      }))

-- the rows of a node stand in tables of nodes, at its place

all_given : {X Y : Type 0} (P : Y → Type 0) (give : X → Option Y) (xs : List X) → ((x : X) → IfSome (give x) P)
    → AllByRecursion P (filter_map give xs)
all_given P give [] each = tt
all_given {X} {Y} P give (x ∷ xs) each =
    elim (give x) as (λ found. IfSome found P → AllByRecursion P (cons_option found (filter_map give xs))) [
      | None ↦ λ _. all_given P give xs each
      | Some y ↦ λ holds. (holds, all_given P give xs each)
    ] (each x)

module _ (style : StyleOf) (objects : ObjectSet) (id : ℕ) (place : Option PlaceOf) (tags : TagMap)
    (is : finite.get objects (node_key id) ≡ Some (Node place tags)) where
  abbrev made : Material
  made = material_of style objects (node_key id)

  abbrev Placed : Option TableRow → Type 0
  Placed found = IfSome found (IsPlaced style.tables place)

  module _ (table : ℕ) (definition : TableDef) (there : slice_get style.tables table ≡ Some definition) (cells : List Cell) where
    of_place : definition.source ≡ sources.Node → (own : Option PlaceOf) → place ≡ own
        → Placed (in_table table (with_geometry cells (option_map Point own)))
    of_place nodes None same = tt
    of_place nodes (Some own) same = record {
      table = subst (λ (found : Option TableDef). IfSome found (λ own. own.source ≡ sources.Node)) (sym there) nodes;
      here = ap (option_map Point) same;
    }

    of_source : (source : Source) → definition.source ≡ source
        → Placed (in_table table (with_geometry cells (geometry_of made.place made.object source (Node place tags))))
    of_source sources.Node same = of_place same place refl
    of_source sources.Way same = tt
    of_source sources.Area same = tt
    of_source sources.Relation same = tt

  of_table : (table : ℕ) (definition : TableDef) → slice_get style.tables table ≡ Some definition
      → Placed (in_table table (row_of style.selections made definition (node_key id) (Node place tags)))
  of_table table definition there =
      let cells = cells_of style.selections made definition (Node place tags) in
      elim (wants made definition (Node place tags)) as (λ b. Placed (in_table table
      (cond b (with_geometry cells (geometry_of made.place made.object definition.source (Node place tags))) None))) [
        | true ↦ of_source table definition there cells definition.source refl
        | false ↦ tt
      ]

  each_table : (table : ℕ) (found : Option TableDef) → slice_get style.tables table ≡ found
      → Placed (in_table table (option_and_then (λ definition. option_and_then (row_of style.selections made definition (node_key id))
      (finite.get objects (node_key id))) found))
  each_table table None there = tt
  each_table table (Some definition) there =
      subst (λ (object : Option Object). Placed
      (in_table table (option_and_then (row_of style.selections made definition (node_key id)) object)))
      (sym is) (of_table table definition there)

  pub rows_placed : AllByRecursion (IsPlaced style.tables place) (rows_in style objects (node_key id))
  unfolding rows_in
  rows_placed = all_given (IsPlaced style.tables place) (λ table. in_table table (row style objects table (node_key id)))
      (range_with_len 0 (length style.tables)) (λ table. each_table table (slice_get style.tables table) refl)
