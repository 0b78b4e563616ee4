-- Rows are equal where all that they are made of is the same.
use Rattle.std.proofs.Common.{◌≡◌, ℕ, Bool, true, false, List, [], ◌∷◌, Option, Some, None, map, refl, ap, ◌∙◌}
use Rattle.std.specs.Prelude.{IfSome, ◌&&◌, ◌||◌, if◌then◌else◌}
use Rattle.std.specs.List.{AllByRecursion, cons_option, filter_map, list_all, list_any, slice_get}
use Rattle.std.specs.Option.{option_and_then, option_map, option_to_list}
use Rattle.osm_base.specs.declared.values.object.Object.{Object}
use Rattle.osm_base.specs.declared.values.object.Object.TheVariants as objects
use Rattle.osm_base.specs.declared.values.row.Geometry.TheVariants as shapes
use Rattle.osm_base.specs.map.Known.{Known}
use Rattle.osm_base.specs.map.Objects.{ObjectSet}
use Rattle.osm_base.specs.values.Key.{KeyOf}
use Rattle.osm_base.specs.values.Tags.{TagMap}
use Rattle.piece_ends.specs.Pieces.{same_place}
use Rattle.style_read.specs.declared.style.Column.{Column}
use Rattle.style_read.specs.declared.style.Condition.{Condition}
use Rattle.style_read.specs.declared.style.Condition.TheVariants as conditions
use Rattle.style_read.specs.declared.style.Origin.TheVariants as origins
use Rattle.style_read.specs.declared.style.Selection.{Selection}
use Rattle.style_read.specs.declared.style.Source.{Source}
use Rattle.style_read.specs.declared.style.Source.TheVariants as sources
use Rattle.style_read.specs.declared.style.TableDef.{TableDef}
use Rattle.style_read.specs.Style.{StyleOf}
use Rattle.piece_ends.specs.Joins.{joined_lines}
use Rattle.piece_ends.specs.Points.{line, line_through}
use Rattle.row_rules.specs.Agree.{Agree, IsSameWay, SamePlaces, SameNodes, SameWays, Suffices}
use Rattle.row_rules.specs.Cell.{cell_from, cell_of}
use Rattle.row_rules.specs.Condition.{asks_selection, holds, is_from_selection, names_selection, one_holds, table_wants}
use Rattle.row_rules.specs.Material.{Material, is_selected, material_known, material_of}
use Rattle.row_rules.specs.Objects.{is_of_kind, tags_of}
use Rattle.row_rules.specs.Row.{cells_of, row, row_from, row_of, wants, with_geometry}
use Rattle.row_rules.specs.Shape.{area, bounds_area, geometry_of, is_area, line_in, lines_along, some_lines, ways_among}

or_left : (a b : Bool) → a ≡ true → (a || b) ≡ true
or_left true b e = refl
or_left false b e = absurd (cc)

or_right : (a b : Bool) → b ≡ true → (a || b) ≡ true
or_right true b e = refl
or_right false b e = e

-- Conditions and cells ask only what they name.
module _ (selections : List Selection) (tags : TagMap) (one other : ℕ → List TagMap) where
  abbrev Same : Type 0
  Same = (number : ℕ) → one number ≡ other number

  holds-same : (condition : Condition) → (asks_selection condition ≡ true → Same)
      → holds (is_selected one) tags condition ≡ holds (is_selected other) tags condition
  holds-same (conditions.Has key) same = refl
  holds-same (conditions.Lacks key) same = refl
  holds-same (conditions.Is key value) same = refl
  holds-same (conditions.Isnt key value) same = refl
  holds-same (conditions.Selected number) same = ap (λ selecting. is_selected (λ _. selecting) number) (same refl number)

  all-same : (wanted : List Condition) → (list_any asks_selection wanted ≡ true → Same)
      → list_all (holds (is_selected one) tags) wanted ≡ list_all (holds (is_selected other) tags) wanted
  all-same [] same = refl
  all-same (condition ∷ wanted) same =
      ap (λ b. b && list_all (holds (is_selected one) tags) wanted)
      (holds-same condition (λ asks. same (or_left (asks_selection condition) (list_any asks_selection wanted) asks)))
      ∙ ap (λ b. holds (is_selected other) tags condition && b)
      (all-same wanted (λ asks. same (or_right (asks_selection condition) (list_any asks_selection wanted) asks)))

  any-same : (wanted : List Condition) → (list_any asks_selection wanted ≡ true → Same)
      → list_any (holds (is_selected one) tags) wanted ≡ list_any (holds (is_selected other) tags) wanted
  any-same [] same = refl
  any-same (condition ∷ wanted) same =
      ap (λ b. b || list_any (holds (is_selected one) tags) wanted)
      (holds-same condition (λ asks. same (or_left (asks_selection condition) (list_any asks_selection wanted) asks)))
      ∙ ap (λ b. holds (is_selected other) tags condition || b)
      (any-same wanted (λ asks. same (or_right (asks_selection condition) (list_any asks_selection wanted) asks)))

  one-same : (wanted : List Condition) → (list_any asks_selection wanted ≡ true → Same)
      → one_holds (is_selected one) tags wanted ≡ one_holds (is_selected other) tags wanted
  one-same [] same = refl
  one-same (condition ∷ wanted) same = any-same (condition ∷ wanted) same

  cell-same : (column : Column) → (is_from_selection column ≡ true → Same)
      → cell_of selections one tags column ≡ cell_of selections other tags column
  cell-same column same =
      elim column.origin as (λ origin. ((elim origin as (λ _. Bool) [ origins.Selected number ↦ true | _ ↦ false ]) ≡ true → Same)
      → cell_from selections one tags column.int origin ≡ cell_from selections other tags column.int origin) [
        | origins.Tag key ↦ λ _. refl
        | origins.AllTags ↦ λ _. refl
        | origins.Selected number ↦ λ own. ap (λ selecting. cell_from selections (λ _. selecting) tags column.int (origins.Selected number))
            (own refl number)
      ] same

  cells-same : (columns : List Column) → (list_any is_from_selection columns ≡ true → Same)
      → map (cell_of selections one tags) columns ≡ map (cell_of selections other tags) columns
  cells-same [] same = refl
  cells-same (column ∷ columns) same =
      ap (λ cell. cell ∷ map (cell_of selections one tags) columns)
      (cell-same column (λ asks. same (or_left (is_from_selection column) (list_any is_from_selection columns) asks)))
      ∙ ap (λ cells. cell_of selections other tags column ∷ cells)
      (cells-same columns (λ asks. same (or_right (is_from_selection column) (list_any is_from_selection columns) asks)))

  table-same : (table : TableDef) → (names_selection table ≡ true → Same)
      → table_wants (is_selected one) tags table ≡ table_wants (is_selected other) tags table
  table-same table same =
      let all = list_any asks_selection table.all_of in
      let any = list_any asks_selection table.one_of in
      let columns = list_any is_from_selection table.columns in
      ap (λ b. b && one_holds (is_selected one) tags table.one_of)
      (all-same table.all_of (λ asks. same (or_left all (any || columns) asks)))
      ∙ ap (λ b. list_all (holds (is_selected other) tags) table.all_of && b)
      (one-same table.one_of (λ asks. same (or_right all (any || columns) (or_left any columns asks))))

  columns-same : (table : TableDef) → (names_selection table ≡ true → Same)
      → map (cell_of selections one tags) table.columns ≡ map (cell_of selections other tags) table.columns
  columns-same table same =
      let all = list_any asks_selection table.all_of in
      let any = list_any asks_selection table.one_of in
      let columns = list_any is_from_selection table.columns in
      cells-same table.columns (λ asks. same (or_right all (any || columns) (or_right any columns asks)))

-- The geometry asks the places of nodes and the ways of a relation.
module _ (one other : Material) where
  places-same : (nodes : List ℕ) → SamePlaces one other nodes → filter_map one.place nodes ≡ filter_map other.place nodes
  places-same [] same = refl
  places-same (id ∷ nodes) same =
      ap (λ found. cons_option found (filter_map one.place nodes)) same.0 ∙ ap (cons_option (other.place id)) (places-same nodes same.1)

  line-same : (nodes : List ℕ) → SamePlaces one other nodes → line one.place nodes ≡ line other.place nodes
  line-same nodes same = ap (λ places. line_through (Rattle.std.specs.List.dedup same_place places)) (places-same nodes same)

  line_in-same : (object : Option Object) → SameNodes one other object → line_in one.place object ≡ line_in other.place object
  line_in-same None same = refl
  line_in-same (Some (objects.Node own tags)) same = refl
  line_in-same (Some (objects.Way nodes tags)) same = line-same nodes same
  line_in-same (Some (objects.Relation members tags)) same = refl

  lines-same : (ways : List KeyOf) → AllByRecursion (IsSameWay one other) ways
      → lines_along one.place one.object ways ≡ lines_along other.place other.object ways
  lines-same [] same = refl
  lines-same (way ∷ ways) same =
      ap (λ found. cons_option found (lines_along one.place one.object ways))
      (line_in-same (one.object way) same.0.nodes ∙ ap (line_in other.place) same.0.object)
      ∙ ap (cons_option (line_in other.place (other.object way))) (lines-same ways same.1)

  geometry-same : (source : Source) (object : Object) → SameNodes one other (Some object) → SameWays one other (Some object)
      → geometry_of one.place one.object source object ≡ geometry_of other.place other.object source object
  geometry-same sources.Node (objects.Node own tags) nodes ways = refl
  geometry-same sources.Node (objects.Way ids tags) nodes ways = refl
  geometry-same sources.Node (objects.Relation members tags) nodes ways = refl
  geometry-same sources.Way (objects.Node own tags) nodes ways = refl
  geometry-same sources.Way (objects.Way ids tags) nodes ways = ap (option_map shapes.Line) (line-same ids nodes)
  geometry-same sources.Way (objects.Relation members tags) nodes ways = refl
  geometry-same sources.Area (objects.Node own tags) nodes ways = refl
  geometry-same sources.Area (objects.Way ids tags) nodes ways =
      ap (λ found. if bounds_area ids then area (option_to_list found) else None) (line-same ids nodes)
  geometry-same sources.Area (objects.Relation members tags) nodes ways =
      ap (λ bounds. if is_area tags then area bounds else None) (lines-same (ways_among members) ways)
  geometry-same sources.Relation (objects.Node own tags) nodes ways = refl
  geometry-same sources.Relation (objects.Way ids tags) nodes ways = refl
  geometry-same sources.Relation (objects.Relation members tags) nodes ways =
      ap (λ found. some_lines (joined_lines found)) (lines-same (ways_among members) ways)

-- the row of an object in a table
row_of-same : (selections : List Selection) (one other : Material) (table : TableDef) (key : KeyOf) (object : Object)
    → SameNodes one other (Some object) → SameWays one other (Some object)
    → (names_selection table ≡ true → (number : ℕ) → one.selecting number ≡ other.selecting number)
    → row_of selections one table key object ≡ row_of selections other table key object
row_of-same selections one other table key object nodes ways selecting =
    let tags = tags_of object in
    ap (λ b. if is_of_kind key.kind object && b
    then with_geometry (cells_of selections one table object) (geometry_of one.place one.object table.source object) else None)
    (table-same selections tags one.selecting other.selecting table selecting)
    ∙ ap (λ cells. if is_of_kind key.kind object && wants other table object
    then with_geometry cells (geometry_of one.place one.object table.source object) else None)
    (columns-same selections tags one.selecting other.selecting table selecting)
    ∙ ap (λ shape. if is_of_kind key.kind object && wants other table object
    then with_geometry (cells_of selections other table object) shape else None)
    (geometry-same one other table.source object nodes ways)

-- the row of a key in a table
row_at-same : (selections : List Selection) (one other : Material) (table : TableDef) (key : KeyOf) (object : Option Object)
    → SameNodes one other object → SameWays one other object
    → (names_selection table ≡ true → (number : ℕ) → one.selecting number ≡ other.selecting number)
    → option_and_then (row_of selections one table key) object ≡ option_and_then (row_of selections other table key) object
row_at-same selections one other table key None nodes ways selecting = refl
row_at-same selections one other table key (Some object) nodes ways selecting =
    row_of-same selections one other table key object nodes ways selecting

pub row_in-same : (selections : List Selection) (table : TableDef) (key : KeyOf) (one other : Material) → Agree table key one other
    → option_and_then (row_of selections one table key) (one.object key)
    ≡ option_and_then (row_of selections other table key) (other.object key)
row_in-same selections table key one other agree =
    row_at-same selections one other table key (one.object key) agree.nodes agree.ways agree.selecting
    ∙ ap (option_and_then (row_of selections other table key)) agree.object

-- the row of a key in the table with a number, where there is one
pub row_from-same : (style : StyleOf) (table : ℕ) (key : KeyOf) (one other : Material)
    → ((definition : TableDef) → slice_get style.tables table ≡ Some definition → Agree definition key one other)
    → row_from style table one key ≡ row_from style table other key
row_from-same style table key one other agree =
    go (slice_get style.tables table) agree
  where
    go : (found : Option TableDef) → ((definition : TableDef) → found ≡ Some definition → Agree definition key one other)
        → option_and_then (λ definition. option_and_then (row_of style.selections one definition key) (one.object key)) found
        ≡ option_and_then (λ definition. option_and_then (row_of style.selections other definition key) (other.object key)) found
    go None each = refl
    go (Some definition) each = row_in-same style.selections definition key one other (each definition refl)

-- what is known of a map suffices for a row that it says all of
pub row_from-suffices : (style : StyleOf) (table : ℕ) (key : KeyOf) (known : Known) (objects : ObjectSet)
    → Suffices style table key known objects
    → row_from style table (material_known style known key) key ≡ row style objects table key
row_from-suffices style table key known objects suffices =
    go (slice_get style.tables table) suffices
  where
    go : (found : Option TableDef) → IfSome found
        (λ definition. Agree definition key (material_known style known key) (material_of style objects key))
        → option_and_then (λ definition. option_and_then (row_of style.selections (material_known style known key) definition key)
        ((material_known style known key).object key)) found
        ≡ option_and_then (λ definition. option_and_then (row_of style.selections (material_of style objects key) definition key)
        ((material_of style objects key).object key)) found
    go None agree = refl
    go (Some definition) agree = row_in-same style.selections definition key (material_known style known key)
        (material_of style objects key) agree
