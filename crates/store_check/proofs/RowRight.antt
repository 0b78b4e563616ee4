-- What is kept of the rows of a key, and whether it is right.
use Rattle.std.proofs.Common.{◌≡◌, ◌↔◌, ℕ, ◌+◌, ◌*◌, ◌/◌, ◌%◌, Bool, true, false, List, [], ◌∷◌, Option, Some, None, refl, sym, ap, subst}
use Rattle.std.proofs.Common.{◌∙◌, arith}
use Rattle.std.specs.Prelude.{is_some, not}
use Rattle.std.specs.FinMap as finite
use Rattle.std.specs.List.{AllByRecursion, cons_option, filter_map}
use Rattle.osm_base.specs.declared.values.key.Kind.{Kind}
use Rattle.osm_base.specs.declared.values.key.Kind.TheVariants as kinds
use Rattle.osm_base.specs.declared.values.object.Object.{Object}
use Rattle.osm_base.specs.declared.values.row.Row.{Row}
use Rattle.osm_base.specs.declared.values.row.TableRow.{TableRow}
use Rattle.osm_base.specs.map.Known.{Known}
use Rattle.osm_base.specs.map.Listers.{is_kind, known_of}
use Rattle.osm_base.specs.map.Objects.{ObjectSet}
use Rattle.osm_base.specs.values.Key.{KeyOf, node_key, way_key, relation_key}
use Rattle.osm_base.specs.values.Place.{PlaceOf}
use Rattle.osm_base.specs.values.Tags.{TagMap}
use Rattle.style_read.specs.Style.{StyleOf}
use Rattle.style_read.specs.declared.style.TableDef.{TableDef}
use Rattle.row_rules.specs.Material.{material_known}
use Rattle.row_rules.specs.Row.{row_from}
use Rattle.row_rules.specs.Rows.{in_table, rows_in, rows_known}
use Rattle.row_rules.specs.Wanted.{may_have_rows}
use Rattle.row_rules.proofs.Unwanted.{row_from-unwanted}
use Rattle.value_bytes.specs.Forms.{Spells}
use Rattle.value_bytes.specs.Maps.{Decodes, ReadAs}
use Rattle.value_bytes.specs.Nodes.{record_bytes, IsRecord}
use Rattle.value_bytes.specs.StoreMap.{map_number}
use Rattle.value_bytes.specs.declared.nodes.NodeRecord.{NodeRecord}
use Rattle.value_bytes.specs.declared.store_map.StoreMap.{StoreMap}
use Rattle.value_bytes.specs.declared.store_map.StoreMap.TheVariants as stored
use Rattle.bucket_store.specs.Image.{Image}
use Rattle.row_store.specs.Loading.{key_of}
use Rattle.row_store.specs.Rows.{AreRows, rows_bytes}
use Rattle.store_maps.specs.Asked.{object_map, row_key, row_map}
use Rattle.store_maps.specs.Maps.{kept_rows, unless_empty}
use Rattle.store_check.specs.Held.{HeldOf, held_known}
use Rattle.store_check.specs.Judged.{AreAtPlace, IsRightNode, IsSpellingOf, Tells, known_with}
use Rattle.store_check.specs.Values.{IsPlaced}
use Rattle.store_check.specs.Values.{AreRightRows, ByTags, HasRightBytes, IfUnknown, NodeMap, ObjectMap, bare, objects_of, record_at}
use Rattle.store_check.specs.Wrong.{IsRightIn}
use Rattle.store_check.proofs.HeldRows.{node_rows, relation_rows, way_rows}

-- what no table may want has no rows

none_of_all : (give : ℕ → Option Row) (tables : List ℕ) → ((table : ℕ) → give table ≡ None)
    → filter_map (λ table. in_table table (give table)) tables ≡ []
none_of_all give [] none = refl
none_of_all give (table ∷ tables) none =
    ap (λ row. cons_option (in_table table row) (filter_map (λ own. in_table own (give own)) tables)) (none table)
    ∙ none_of_all give tables none

pub known-unwanted : (style : StyleOf) (known : Known) (key : KeyOf) → may_have_rows style (known.object key) ≡ false
    → rows_known style known key ≡ []
unfolding rows_known
known-unwanted style known key not = none_of_all (λ table. row_from style table (material_known style known key) key) _
    (λ table. row_from-unwanted style table (material_known style known key) key not)

pub rows-of-none : (style : StyleOf) (objects : ObjectSet) (key : KeyOf) → finite.get objects key ≡ None → rows_in style objects key ≡ []
unfolding rows_known rows_in may_have_rows
rows-of-none style objects key none = known-unwanted style (known_of objects) key (ap (may_have_rows style) none)

unwanted_kept : (style : StyleOf) (kept : Option (List ℕ)) (right : Bool) → is_some kept ≡ not right
    → (right ≡ true) ↔ IsSpellingOf style.tables [] kept
unwanted_kept style None true is = (λ so. tt, λ so. refl)
unwanted_kept style None false is = absurd (cc)
unwanted_kept style (Some bytes) true is = absurd (cc)
unwanted_kept style (Some bytes) false is = (λ so. absurd (cc), λ so. absurd so)

node_object : (key : KeyOf) (own : HeldOf) (object : Option Object) → key.kind ≡ kinds.Node
    → (known_with own object).object key ≡ object
node_object key own object is = rw (is) refl

pub unwanted_spelled : (style : StyleOf) (own : HeldOf) (object : Option Object) (key : KeyOf) (kept : Option (List ℕ)) (right : Bool)
    → key.kind ≡ kinds.Node → may_have_rows style object ≡ false → is_some kept ≡ not right
    → (right ≡ true) ↔ IsSpellingOf style.tables (rows_known style (known_with own object) key) kept
unwanted_spelled style own object key kept right is unwanted test =
    subst (λ (rows : List TableRow). (right ≡ true) ↔ IsSpellingOf style.tables rows kept)
    (sym (known-unwanted style (known_with own object) key (ap (may_have_rows style) (node_object key own object is) ∙ unwanted)))
    (unwanted_kept style kept right test)

-- rows that were read

alone_placed : (tables : List TableDef) (place : Option PlaceOf) (bytes : List ℕ) (rows : List TableRow)
    → Spells rows_bytes (AreRows tables) bytes rows → (found : Option (List TableRow)) → Decodes rows_bytes (AreRows tables) (Some bytes) found
    → AllByRecursion (IsPlaced tables place) (kept_rows found) → AllByRecursion (IsPlaced tables place) rows
alone_placed tables place bytes rows spells None read placed = absurd read
alone_placed tables place bytes rows spells (Some other) read placed =
    subst (λ (own : List TableRow). AllByRecursion (IsPlaced tables place) own) (spells.alone other read.0 read.1) placed

pub placed_rows : (tables : List TableDef) (place : Option PlaceOf) (kept : Option (List ℕ)) (bytes : List ℕ) (rows : List TableRow)
    → kept ≡ Some bytes → Spells rows_bytes (AreRows tables) bytes rows → (right : Bool)
    → ((right ≡ true) ↔ AllByRecursion (IsPlaced tables place) rows) → (right ≡ true) ↔ AreAtPlace tables place kept
placed_rows tables place kept bytes rows is spells right placed = (
  λ so. (
    Some rows,
    subst (λ (own : Option (List ℕ)). Decodes rows_bytes (AreRows tables) own (Some rows)) (sym is) (spells.is, spells.bytes_are),
    placed.0 so,
  ),
  λ at. placed.1 (alone_placed tables place bytes rows spells at.0
      (subst (λ (own : Option (List ℕ)). Decodes rows_bytes (AreRows tables) own at.0) is at.1) at.2),
)

-- what has no bytes has no value
pub none_at : {V : Type 0} (spell : V → List ℕ) (Is : V → Type 0) (bytes : Option (List ℕ)) (found : Option V) → ReadAs spell Is bytes found
    → bytes ≡ None → found ≡ None
none_at spell Is None None read none = refl
none_at spell Is None (Some value) read none = absurd read
none_at spell Is (Some bytes) found read none = absurd (cc)

-- of a node whose tags nobody knows, and of all else

abbrev KnowsTags : Option NodeRecord → Type 0
KnowsTags found = IfUnknown found (λ place. ⊥) (Unit {0})

give_tags : (tags : Option TagMap) (Unknown Known : Type 0) → ByTags tags ⊥ (Unit {0}) → Known → ByTags tags Unknown Known
give_tags None Unknown Known knows known = absurd knows
give_tags (Some tags) Unknown Known knows known = known

take_tags : (tags : Option TagMap) (Unknown Known : Type 0) → ByTags tags ⊥ (Unit {0}) → ByTags tags Unknown Known → Known
take_tags None Unknown Known knows own = absurd knows
take_tags (Some tags) Unknown Known knows own = own

give_known : (found : Option NodeRecord) (Unknown : Option PlaceOf → Type 0) (Known : Type 0) → KnowsTags found → Known
    → IfUnknown found Unknown Known
give_known None Unknown Known knows known = known
give_known (Some own) Unknown Known knows known = give_tags own.tags (Unknown own.place) Known knows known

take_known : (found : Option NodeRecord) (Unknown : Option PlaceOf → Type 0) (Known : Type 0) → KnowsTags found
    → IfUnknown found Unknown Known → Known
take_known None Unknown Known knows own = own
take_known (Some node) Unknown Known knows own = take_tags node.tags (Unknown node.place) Known knows own

unknown_is : (node : NodeRecord) → node.tags ≡ None → (Unknown : Option PlaceOf → Type 0) (Known : Type 0)
    → IfUnknown (Some node) Unknown Known ≡ Unknown node.place
unknown_is node none Unknown Known = ap (λ (tags : Option TagMap). ByTags tags (Unknown node.place) Known) none

module _ (style : StyleOf) (image : Image) (nodes : NodeMap) (objects : ObjectSet) (map : StoreMap) (number : ℕ) (key : KeyOf)
    (is : key_of (map_number map) number ≡ key) (kept : Option (List ℕ))
    (there : kept ≡ finite.get (image.maps (map_number map)) number) where
  abbrev Right : Type 0
  Right = HasRightBytes style image nodes objects map number

  abbrev Reads : Option (List ℕ) → Option (List TableRow) → Type 0
  Reads bytes rows = Decodes rows_bytes (AreRows style.tables) bytes rows

  abbrev expected : List TableRow
  expected = rows_in style objects key

  to_right : KnowsTags (record_at nodes key) → IsSpellingOf style.tables expected kept → Right
  to_right knows spelled = record {
    rows = unless_empty expected;
    read = subst (λ (bytes : Option (List ℕ)). Reads bytes (unless_empty expected)) there spelled;
    right = subst (λ (own : KeyOf). AreRightRows style nodes objects own (unless_empty expected)) (sym is)
        (give_known (record_at nodes key) _ (unless_empty expected ≡ unless_empty expected) knows refl);
  }

  from_right : KnowsTags (record_at nodes key) → Right → IsSpellingOf style.tables expected kept
  from_right knows right =
      let own : right.rows ≡ unless_empty expected = take_known (record_at nodes key) _ (right.rows ≡ unless_empty expected) knows
      (subst (λ (own : KeyOf). AreRightRows style nodes objects own right.rows) is right.right) in
      subst (Reads kept) own (subst (λ (bytes : Option (List ℕ)). Reads bytes right.rows) (sym there) right.read)

  module _ (node : NodeRecord) (found : record_at nodes key ≡ Some node) where
    knows_some : (tags : TagMap) → node.tags ≡ Some tags → KnowsTags (record_at nodes key)
    knows_some tags some =
        subst KnowsTags (sym found) (subst (λ (tags : Option TagMap). ByTags tags ⊥ (Unit {0})) (sym some) tt)

    to_place : node.tags ≡ None → AreAtPlace style.tables node.place kept → Right
    to_place none at = record {
      rows = at.0;
      read = subst (λ (bytes : Option (List ℕ)). Reads bytes at.0) there at.1;
      right = subst (λ (own : KeyOf). AreRightRows style nodes objects own at.0) (sym is)
          (subst (λ (record_there : Option NodeRecord). IfUnknown record_there
          (λ place. AllByRecursion (IsPlaced style.tables place) (kept_rows at.0)) (at.0 ≡ unless_empty expected)) (sym found)
          (subst (λ (tags : Option TagMap). ByTags tags (AllByRecursion (IsPlaced style.tables node.place) (kept_rows at.0))
          (at.0 ≡ unless_empty expected)) (sym none) at.2));
    }

    from_place : node.tags ≡ None → Right → AreAtPlace style.tables node.place kept
    from_place none right = (
      right.rows,
      subst (λ (bytes : Option (List ℕ)). Reads bytes right.rows) (sym there) right.read,
      subst (λ (tags : Option TagMap). ByTags tags (AllByRecursion (IsPlaced style.tables node.place) (kept_rows right.rows))
          (right.rows ≡ unless_empty expected)) none
          (subst (λ (record_there : Option NodeRecord). IfUnknown record_there
          (λ place. AllByRecursion (IsPlaced style.tables place) (kept_rows right.rows)) (right.rows ≡ unless_empty expected)) found
          (subst (λ (own : KeyOf). AreRightRows style nodes objects own right.rows) is right.right)),
    )

    module _ (own : HeldOf) (rows : rows_known style (known_with own (Some (bare node))) key ≡ expected) where
      node_to : (tags : Option TagMap) → node.tags ≡ tags → ByTags tags (AreAtPlace style.tables node.place kept)
          (IsSpellingOf style.tables (rows_known style (known_with own (Some (bare node))) key) kept) → Right
      node_to None none at = to_place none at
      node_to (Some tags) some spelled =
          to_right (knows_some tags some) (subst (λ (rows : List TableRow). IsSpellingOf style.tables rows kept) rows spelled)

      node_from : (tags : Option TagMap) → node.tags ≡ tags → Right → ByTags tags (AreAtPlace style.tables node.place kept)
          (IsSpellingOf style.tables (rows_known style (known_with own (Some (bare node))) key) kept)
      node_from None none right = from_place none right
      node_from (Some tags) some right =
          subst (λ (rows : List TableRow). IsSpellingOf style.tables rows kept) (sym rows) (from_right (knows_some tags some) right)

  -- where there is no object there are no rows
  module _ (knows : KnowsTags (record_at nodes key)) (none : finite.get objects key ≡ None) where
    no_rows : IsSpellingOf style.tables expected kept ≡ IsSpellingOf style.tables [] kept
    no_rows = ap (λ (rows : List TableRow). IsSpellingOf style.tables rows kept) (rows-of-none style objects key none)

    pub none_right : kept ≡ None → Right
    none_right absent = to_right knows (subst (λ (rows : List TableRow). IsSpellingOf style.tables rows kept)
        (sym (rows-of-none style objects key none)) (subst (λ (bytes : Option (List ℕ)). IsSpellingOf style.tables [] bytes) (sym absent) tt))

    pub some_wrong : (bytes : List ℕ) → kept ≡ Some bytes → ¬ Right
    some_wrong bytes present right = subst (λ (own : Option (List ℕ)). IsSpellingOf style.tables [] own) present
        (subst (λ (rows : List TableRow). IsSpellingOf style.tables rows kept) (rows-of-none style objects key none) (from_right knows right))

pub way_number : (id : ℕ) → key_of 7 (2 * id) ≡ way_key id
way_number id =
    let even : 2 * id % 2 ≡ 0 = omega arith in
    let half : 2 * id / 2 ≡ id = omega arith in
    rw (even, half) refl

pub relation_number : (id : ℕ) → key_of 7 (2 * id + 1) ≡ relation_key id
relation_number id =
    let odd : (2 * id + 1) % 2 ≡ 1 = omega arith in
    let half : (2 * id + 1) / 2 ≡ id = omega arith in
    rw (odd, half) refl

-- what was judged of a record of maps 0 to 2
module _ (style : StyleOf) (image : Image) (nodes : NodeMap) (ways relations : ObjectMap) (own : HeldOf)
    (tells : Tells own image nodes ways relations) (right : Bool) (kept : Option (List ℕ)) where
  abbrev objects : ObjectSet
  objects = objects_of nodes ways relations

  abbrev IsRightAt : StoreMap → ℕ → Type 0
  IsRightAt map key = IsRightIn style image nodes ways relations map key

  pub way_judged : (id : ℕ) → kept ≡ finite.get (image.maps 7) (2 * id)
      → ((right ≡ true) ↔ IsSpellingOf style.tables (rows_known style (held_known own) (way_key id)) kept)
      → ((right ≡ true) ↔ IsRightAt stored.OtherRows (2 * id))
  way_judged id there judged =
      let rows = way_rows nodes ways relations own tells.held style id in (
        λ is. to_right style image nodes objects stored.OtherRows (2 * id) (way_key id) (way_number id) kept there tt
            (subst (λ (rows : List TableRow). IsSpellingOf style.tables rows kept) rows (judged.0 is)),
        λ is. judged.1 (subst (λ (rows : List TableRow). IsSpellingOf style.tables rows kept) (sym rows)
            (from_right style image nodes objects stored.OtherRows (2 * id) (way_key id) (way_number id) kept there tt is)),
      )

  pub relation_judged : (id : ℕ) → kept ≡ finite.get (image.maps 7) (2 * id + 1)
      → ((right ≡ true) ↔ IsSpellingOf style.tables (rows_known style (held_known own) (relation_key id)) kept)
      → ((right ≡ true) ↔ IsRightAt stored.OtherRows (2 * id + 1))
  relation_judged id there judged =
      let rows = relation_rows nodes ways relations own tells.held style id in (
        λ is. to_right style image nodes objects stored.OtherRows (2 * id + 1) (relation_key id) (relation_number id) kept there tt
            (subst (λ (rows : List TableRow). IsSpellingOf style.tables rows kept) rows (judged.0 is)),
        λ is. judged.1 (subst (λ (rows : List TableRow). IsSpellingOf style.tables rows kept) (sym rows)
            (from_right style image nodes objects stored.OtherRows (2 * id + 1) (relation_key id) (relation_number id) kept there tt is)),
      )

  module _ (id : ℕ) (bytes : List ℕ) (there : kept ≡ finite.get (image.maps 6) id)
      (judged : (node : NodeRecord) → Spells record_bytes IsRecord bytes node
      → ((right ≡ true) ↔ IsRightNode style own (node_key id) kept node)) where
    node_found : (found : Option NodeRecord) → finite.get nodes id ≡ found → ReadAs record_bytes IsRecord (Some bytes) found
        → ((right ≡ true) ↔ IsRightAt stored.NodeRows id)
    node_found None is read = absurd read
    node_found (Some node) is read =
        let rows = node_rows nodes ways relations own tells.held style id node is in
        let each = judged node read in (
          λ so. node_to style image nodes objects stored.NodeRows id (node_key id) refl kept there node is own rows node.tags refl
              (each.0 so),
          λ so. each.1 (node_from style image nodes objects stored.NodeRows id (node_key id) refl kept there node is own rows node.tags refl
              so),
        )

    pub node_judged : finite.get (image.maps 0) id ≡ Some bytes → ((right ≡ true) ↔ IsRightAt stored.NodeRows id)
    node_judged is = node_found (finite.get nodes id) refl
        (subst (λ (own : Option (List ℕ)). ReadAs record_bytes IsRecord own (finite.get nodes id)) is (tells.read.nodes_read id))

  -- so it is for each key
  pub other_judged_at : (kind : Kind) (id : ℕ) → is_kind kinds.Node kind ≡ false
      → kept ≡ finite.get (image.maps (map_number (row_map kind))) (row_key kind id)
      → ((right ≡ true) ↔ IsSpellingOf style.tables (rows_known style (held_known own) (record { kind = kind; id = id })) kept)
      → ((right ≡ true) ↔ IsRightAt (row_map kind) (row_key kind id))
  other_judged_at kinds.Node id is there judged = absurd (cc)
  other_judged_at kinds.Way id is there judged = way_judged id there judged
  other_judged_at kinds.Relation id is there judged = relation_judged id there judged

  pub node_judged_at : (kind : Kind) (id : ℕ) (bytes : List ℕ) → kind ≡ kinds.Node
      → kept ≡ finite.get (image.maps (map_number (row_map kind))) (row_key kind id)
      → ((node : NodeRecord) → Spells record_bytes IsRecord bytes node
      → ((right ≡ true) ↔ IsRightNode style own (record { kind = kind; id = id }) kept node))
      → finite.get (image.maps (map_number (object_map kind))) id ≡ Some bytes
      → ((right ≡ true) ↔ IsRightAt (row_map kind) (row_key kind id))
  node_judged_at kinds.Node id bytes is there judged found = node_judged id bytes there judged found
  node_judged_at kinds.Way id bytes is there judged found = absurd (cc)
  node_judged_at kinds.Relation id bytes is there judged found = absurd (cc)
