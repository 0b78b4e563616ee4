-- Conditions on an object.
-- osm2pgsql manual, "The Flex Output": a style says by the tags of an object whether it goes into a table, and in stage two by the
-- relations that it is a member of.
use Rattle.std.specs.Prelude.{ℕ, Bool, true, false, not, ◌&&◌, ◌||◌, List, [], ◌∷◌}
use Rattle.std.specs.Cmp.Lexicographic.{slice_cmp}
use Rattle.std.specs.FinMap as map
use Rattle.std.specs.List.{list_all, list_any, slice_get}
use Rattle.std.specs.Option.{option_map_or}
use Rattle.std.specs.Ordering.{eq_by_cmp, nat_cmp}
use Rattle.osm_base.specs.values.Tags.{TagMap}
use Rattle.style_read.specs.declared.style.Column.{Column}
use Rattle.style_read.specs.declared.style.Condition.{Condition}
use Rattle.style_read.specs.declared.style.Condition.TheVariants.{Has, Lacks, Is, Isnt, Selected}
use Rattle.style_read.specs.declared.style.Origin.TheVariants as origins
use Rattle.style_read.specs.declared.style.Selection.{Selection}
use Rattle.style_read.specs.declared.style.Source.{Source}
use Rattle.style_read.specs.declared.style.Source.TheVariants as sources
use Rattle.style_read.specs.declared.style.TableDef.{TableDef}
use Rattle.style_read.specs.Style.{StyleOf}

-- whether the tag with a key has this value
abbrev pub has_value : TagMap → List ℕ → List ℕ → Bool
has_value tags key value = option_map_or (λ own. eq_by_cmp (slice_cmp nat_cmp) value own) (map.get tags key) false

-- whether a condition holds of an object with these tags, where it is known of each selection, by its number, whether the object is
-- selected by it
abbrev pub holds : (ℕ → Bool) → TagMap → Condition → Bool
holds is_selected tags (Has key) = map.contains_key tags key
holds is_selected tags (Lacks key) = not (map.contains_key tags key)
holds is_selected tags (Is key value) = has_value tags key value
holds is_selected tags (Isnt key value) = not (has_value tags key value)
holds is_selected tags (Selected number) = is_selected number

-- whether one of these holds, if there are any
abbrev pub one_holds : (ℕ → Bool) → TagMap → List Condition → Bool
one_holds is_selected tags [] = true
one_holds is_selected tags (condition ∷ conditions) = list_any (holds is_selected tags) (condition ∷ conditions)

-- whether the conditions of a table hold: all of the one list, and one of the other, if it is not empty
abbrev pub table_wants : (ℕ → Bool) → TagMap → TableDef → Bool
table_wants is_selected tags table = list_all (holds is_selected tags) table.all_of && one_holds is_selected tags table.one_of

-- whether a relation with these tags meets a selection: all of its conditions hold, and none of these asks for a selection
abbrev pub meets : Selection → TagMap → Bool
meets selection tags = list_all (holds (λ _. false) tags) selection.conditions

-- whether a relation with these tags meets the selection with a number; none meets one that is not there
abbrev pub meets_number : List Selection → ℕ → TagMap → Bool
meets_number selections number tags = option_map_or (λ selection. meets selection tags) (slice_get selections number) false

-- whether a condition asks for a selection
abbrev pub asks_selection : Condition → Bool
asks_selection (Selected number) = true
asks_selection _ = false

-- whether a column is from a selection
abbrev pub is_from_selection : Column → Bool
is_from_selection column = elim column.origin as (λ _. Bool) [ origins.Selected number ↦ true | _ ↦ false ]

-- whether a table asks for a selection, in a condition or in a column
abbrev pub names_selection : TableDef → Bool
names_selection table =
    list_any asks_selection table.all_of || (list_any asks_selection table.one_of || list_any is_from_selection table.columns)

-- whether a table is of nodes
abbrev pub is_of_nodes : Source → Bool
is_of_nodes sources.Node = true
is_of_nodes _ = false

-- whether selections reach nodes: a table of nodes asks for one
abbrev pub reaches_nodes : StyleOf → Bool
reaches_nodes style = list_any (λ table. is_of_nodes table.source && names_selection table) style.tables
