-- What no table may want has no row.
use Rattle.std.proofs.Common.{◌≡◌, ℕ, zero, suc, Bool, true, false, cond, List, [], ◌∷◌, Option, None, Some, refl, sym, ap, ◌∙◌}
use mathlib.Core.Bool.{false≢true}
use Rattle.std.specs.Prelude.{◌&&◌, ◌||◌}
use Rattle.std.specs.List.{list_all, list_any, slice_get}
use Rattle.std.specs.Option.{option_and_then}
use Rattle.osm_base.specs.declared.values.object.Object.{Object}
use Rattle.osm_base.specs.declared.values.object.Object.TheVariants as objects
use Rattle.osm_base.specs.values.Key.{KeyOf}
use Rattle.osm_base.specs.values.Place.{PlaceOf}
use Rattle.osm_base.specs.values.Tags.{TagMap}
use Rattle.style_read.specs.declared.style.Condition.{Condition}
use Rattle.style_read.specs.declared.style.Condition.TheVariants as conditions
use Rattle.style_read.specs.declared.style.Selection.{Selection}
use Rattle.style_read.specs.declared.style.Source.{Source}
use Rattle.style_read.specs.declared.style.Source.TheVariants as sources
use Rattle.style_read.specs.declared.style.TableDef.{TableDef}
use Rattle.style_read.specs.Style.{StyleOf}
use Rattle.piece_ends.specs.Points.{line}
use Rattle.std.specs.Option.{option_to_list}
use Rattle.row_rules.specs.Condition.{holds, one_holds, table_wants}
use Rattle.row_rules.specs.Material.{Material, is_selected}
use Rattle.row_rules.specs.Objects.{is_of_kind, tags_of}
use Rattle.row_rules.specs.Row.{cells_of, row_from, row_of, wants}
use Rattle.row_rules.specs.Shape.{area, geometry_of, pieces}
use Rattle.row_rules.specs.Wanted.{may_have_geometry, may_have_rows, may_want, one_may_want}
use Rattle.row_rules.proofs.NoRow.{no_row}

and_left : (a b : Bool) → (a && b) ≡ true → a ≡ true
and_left true b e = refl
and_left false b e = e

and_right : (a b : Bool) → (a && b) ≡ true → b ≡ true
and_right true b e = e
and_right false b e = absurd (false≢true e)

and_both : (a b : Bool) → a ≡ true → b ≡ true → (a && b) ≡ true
and_both true b one other = other
and_both false b one other = one

or_each : (a b c d : Bool) → (a ≡ true → c ≡ true) → (b ≡ true → d ≡ true) → (a || b) ≡ true → (c || d) ≡ true
or_each true b true d one other e = refl
or_each true b false d one other e = absurd (false≢true (one refl))
or_each false b true d one other e = refl
or_each false b false d one other e = other e

-- Conditions that hold would hold if each selection selected the object.
module _ (selected : ℕ → Bool) (tags : TagMap) where
  may_hold : (condition : Condition) → holds selected tags condition ≡ true → holds (λ _. true) tags condition ≡ true
  may_hold (conditions.Has key) is = is
  may_hold (conditions.Lacks key) is = is
  may_hold (conditions.Is key value) is = is
  may_hold (conditions.Isnt key value) is = is
  may_hold (conditions.Selected number) is = refl

  all_may : (wanted : List Condition) → list_all (holds selected tags) wanted ≡ true → list_all (holds (λ _. true) tags) wanted ≡ true
  all_may [] is = refl
  all_may (condition ∷ wanted) is =
      let here : Bool = holds selected tags condition in
      let later : Bool = list_all (holds selected tags) wanted in
      and_both (holds (λ _. true) tags condition) (list_all (holds (λ _. true) tags) wanted) (may_hold condition (and_left here later is))
      (all_may wanted (and_right here later is))

  any_may : (wanted : List Condition) → list_any (holds selected tags) wanted ≡ true → list_any (holds (λ _. true) tags) wanted ≡ true
  any_may [] is = is
  any_may (condition ∷ wanted) is =
      or_each (holds selected tags condition) (list_any (holds selected tags) wanted) (holds (λ _. true) tags condition)
      (list_any (holds (λ _. true) tags) wanted) (may_hold condition) (any_may wanted) is

  one_may : (wanted : List Condition) → one_holds selected tags wanted ≡ true → one_holds (λ _. true) tags wanted ≡ true
  one_may [] is = refl
  one_may (condition ∷ wanted) is = any_may (condition ∷ wanted) is

  table_may : (table : TableDef) → table_wants selected tags table ≡ true → table_wants (λ _. true) tags table ≡ true
  table_may table is =
      let all : Bool = list_all (holds selected tags) table.all_of in
      let one : Bool = one_holds selected tags table.one_of in
      and_both (list_all (holds (λ _. true) tags) table.all_of) (one_holds (λ _. true) tags table.one_of)
      (all_may table.all_of (and_left all one is)) (one_may table.one_of (and_right all one is))

-- where an object may have no geometry it has none
pub shapeless : (place : ℕ → Option PlaceOf) (known : KeyOf → Option Object) (source : Source) (object : Object)
    → may_have_geometry source object ≡ false → geometry_of place known source object ≡ None
shapeless place known sources.Node (objects.Node own tags) not = absurd (false≢true (sym not))
shapeless place known sources.Node (objects.Way nodes tags) not = refl
shapeless place known sources.Node (objects.Relation members tags) not = refl
shapeless place known sources.Way (objects.Node own tags) not = refl
shapeless place known sources.Way (objects.Way nodes tags) not = absurd (false≢true (sym not))
shapeless place known sources.Way (objects.Relation members tags) not = refl
shapeless place known sources.Area (objects.Node own tags) not = refl
shapeless place known sources.Area (objects.Way nodes tags) not = ap (λ b. cond b (area (option_to_list (line place nodes))) None) not
shapeless place known sources.Area (objects.Relation members tags) not = ap (λ b. cond b (area (pieces place known members)) None) not
shapeless place known sources.Relation (objects.Node own tags) not = refl
shapeless place known sources.Relation (objects.Way nodes tags) not = refl
shapeless place known sources.Relation (objects.Relation members tags) not = absurd (false≢true (sym not))

never : {X : Type 0} (a b : Bool) (found : Option X) → b ≡ false → cond (a && b) found None ≡ None
never true b found not = ap (λ b. cond b found None) not
never false b found not = refl

-- what a table may not want has no row in it
unwanted : (selections : List Selection) (from : Material) (table : TableDef) (key : KeyOf) (object : Object)
    → may_want table object ≡ false → row_of selections from table key object ≡ None
unwanted selections from table key object not =
    elim (wants from table object) as (λ b. wants from table object ≡ b → row_of selections from table key object ≡ None) [
      | false ↦ λ unmet. never (is_of_kind key.kind object) (wants from table object) _ unmet
      | true ↦ λ met. sym (no_row (is_of_kind key.kind object && wants from table object) (cells_of selections from table object)
          (geometry_of from.place from.object table.source object)
          (shapeless from.place from.object table.source object
          (no_shape (may_have_geometry table.source object) (table_wants (λ _. true) (tags_of object) table)
          (table_may (is_selected from.selecting) (tags_of object) table met) not)))
    ] refl
  where
    no_shape : (a b : Bool) → b ≡ true → (a && b) ≡ false → a ≡ false
    no_shape true b is not = absurd (false≢true (sym not ∙ is))
    no_shape false b is not = refl

-- none of these tables may want it
none_wants : (tables : List TableDef) (object : Object) (at : ℕ) (table : TableDef) → one_may_want tables object ≡ false
    → slice_get tables at ≡ Some table → may_want table object ≡ false
none_wants [] object at table not is = absurd (cc)
none_wants (first ∷ tables) object zero table not is =
    ap (λ own. may_want own object) (sym (some_same is)) ∙ or_none (may_want first object) (one_may_want tables object) not
  where
    some_same : {A : Type 0} {x y : A} → Some x ≡ Some y → x ≡ y
    some_same e = cc

    or_none : (a b : Bool) → (a || b) ≡ false → a ≡ false
    or_none true b not = not
    or_none false b not = refl
none_wants (first ∷ tables) object (suc at) table not is =
    none_wants tables object at table (or_none (may_want first object) (one_may_want tables object) not) is
  where
    or_none : (a b : Bool) → (a || b) ≡ false → b ≡ false
    or_none true b not = absurd (false≢true (sym not))
    or_none false b not = not

-- what may have no row has none, whatever else is known of the map
pub row_from-unwanted : (style : StyleOf) (table : ℕ) (from : Material) (key : KeyOf) → may_have_rows style (from.object key) ≡ false
    → row_from style table from key ≡ None
unfolding may_have_rows
row_from-unwanted style table from key not = go (from.object key) not (slice_get style.tables table) refl
  where
    go : (object : Option Object) → may_have_rows style object ≡ false → (found : Option TableDef) → slice_get style.tables table ≡ found
        → option_and_then (λ definition. option_and_then (row_of style.selections from definition key) object) found ≡ None
    go object not None is = refl
    go None not (Some definition) is = refl
    go (Some object) not (Some definition) is =
        unwanted style.selections from definition key object (none_wants style.tables object table definition not is)
