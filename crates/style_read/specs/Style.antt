-- A style as contracts see it, and the facts that hold of each.
-- osm2pgsql manual, "The Flex Output": a style defines tables, and says which objects go into them; objects of a
-- second stage are selected by relations that they are members of.
use Rattle.std.specs.Prelude.{◌≤◌, ◌<◌, ℕ, List, Bool, Option, length}
use Rattle.std.specs.List.{position, AllByRecursion}
use Rattle.std.specs.Str.{chars}
use Rattle.std.specs.Cmp.Lexicographic.{slice_cmp}
use Rattle.std.specs.Ordering.{eq_by_cmp, nat_cmp}
use Rattle.style_read.specs.declared.style.TheConstants.{MAX_SELECTIONS, MAX_TABLES}
use Rattle.style_read.specs.declared.style.Condition.{Condition}
use Rattle.style_read.specs.declared.style.Condition.TheVariants.{Selected}
use Rattle.style_read.specs.declared.style.Origin.TheVariants as origin
use Rattle.style_read.specs.declared.style.Column.{Column}
use Rattle.style_read.specs.declared.style.Selection.{Selection}
use Rattle.style_read.specs.declared.style.TableDef.{TableDef}

-- selections and tables, by their numbers
pub record StyleOf : Type 0 where
  pub selections : List Selection
  pub tables : List TableDef

-- a condition names one of so many selections, if it names one
abbrev pub NamesOneOf : ℕ → Condition → Type 0
NamesOneOf count (Selected number) = number < count
NamesOneOf count _ = Unit {0}

-- so does a column
abbrev pub IsFromOneOf : ℕ → Column → Type 0
IsFromOneOf count column = elim column.origin as (λ _. Type 0) [ origin.Selected number ↦ number < count | _ ↦ Unit {0} ]

-- the conditions of a selection are on tags
abbrev pub IsOnTags : Selection → Type 0
IsOnTags selection = AllByRecursion (NamesOneOf 0) selection.conditions

-- what a table names of so many selections is there
pub record IsTable (count : ℕ) (table : TableDef) : Type 0 where
  pub all_of : AllByRecursion (NamesOneOf count) table.all_of
  pub one_of : AllByRecursion (NamesOneOf count) table.one_of
  pub columns : AllByRecursion (IsFromOneOf count) table.columns

-- there are not too many selections and tables, and what they name is there
pub record IsStyle (selections : List Selection) (tables : List TableDef) : Type 0 where
  pub few_selections : length selections ≤ MAX_SELECTIONS
  pub few_tables : length tables ≤ MAX_TABLES
  pub on_tags : AllByRecursion IsOnTags selections
  pub there : AllByRecursion (IsTable (length selections)) tables

-- a table has this name
abbrev pub is_called : List ℕ → TableDef → Bool
is_called name table = eq_by_cmp (slice_cmp nat_cmp) table.name (chars name)

-- the number of the table with this name, counted from 0, if there is one
abbrev pub table_of : List TableDef → List ℕ → Option ℕ
table_of tables name = position (λ table. is_called name table) tables
