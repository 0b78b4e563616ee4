-- Which objects the tables of a style may want, whichever relations select them.
-- osm2pgsql manual, "The Flex Output": a style says by the kind and by the tags of an object whether it goes into a table; what no table
-- can
-- want has no row, whatever else the map has.
use Rattle.std.specs.Prelude.{Bool, true, false, ◌&&◌, List, Option, None, Some}
use Rattle.std.specs.List.{list_any}
use Rattle.osm_base.specs.declared.values.object.Object.{Object}
use Rattle.osm_base.specs.declared.values.object.Object.TheVariants.{Node, Way, Relation}
use Rattle.style_read.specs.declared.style.Source.{Source}
use Rattle.style_read.specs.declared.style.Source.TheVariants as sources
use Rattle.style_read.specs.declared.style.TableDef.{TableDef}
use Rattle.style_read.specs.Style.{StyleOf}
use Rattle.row_rules.specs.Condition.{table_wants}
use Rattle.row_rules.specs.Objects.{tags_of}
use Rattle.row_rules.specs.Shape.{bounds_area, is_area}

-- whether an object may have a geometry in a table of this source, wherever its nodes and ways are
abbrev pub may_have_geometry : Source → Object → Bool
may_have_geometry sources.Node (Node own tags) = true
may_have_geometry sources.Way (Way nodes tags) = true
may_have_geometry sources.Area (Way nodes tags) = bounds_area nodes
may_have_geometry sources.Area (Relation members tags) = is_area tags
may_have_geometry sources.Relation (Relation members tags) = true
may_have_geometry _ _ = false

-- whether a table may want an object: its conditions would hold if each selection selected it
abbrev pub may_want : TableDef → Object → Bool
may_want table object = may_have_geometry table.source object && table_wants (λ _. true) (tags_of object) table

-- whether one of these tables may
abbrev pub one_may_want : List TableDef → Object → Bool
one_may_want tables object = list_any (λ table. may_want table object) tables

-- whether an object may have a row in a table of a style; a key without an object has none
unfoldable pub may_have_rows : StyleOf → Option Object → Bool
may_have_rows style None = false
may_have_rows style (Some object) = one_may_want style.tables object
