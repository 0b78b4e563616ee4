use Rattle.std.proofs.Common.{sym, ap, ◌∙◌, ◌++◌, subst}
use Rattle.std.proofs.lemmas.Result.{on_ok_weaker}
use Rattle.osm_base.specs.declared.values.row.Geometry.TheVariants.{Point, Line, Lines, Area}
use Rattle.value_bytes.specs.Lists.{list_bytes, IsList}
use Rattle.value_bytes.specs.Places.{place_bytes, IsPlace}
use Rattle.value_bytes.specs.Rows.{line_bytes, IsLine, lines_bytes, AreLines, geometry_bytes, IsGeometry}
use Rattle.value_bytes.proofs.RowLaws.{point, line, lines, area}
use Rattle.value_bytes.proofs.Variants.{variant_put}
use Rattle.value_bytes.proofs.rows.GeometrySpelled.push_to.Goals as goal

pub returns-in-Point-clause-ok : goal.returns-in-Point-clause-ok
returns-in-Point-clause-ok c =
    on_ok_weaker c.push_form.result
    (λ put. put ∙ variant_put 1 place_bytes IsPlace geometry_bytes IsGeometry Point point c.in-Point.place c.args.out.now.items
    ∙ ap (λ g. c.args.out.now.items ++ geometry_bytes g) (sym c.in-Point.is))
    c.push_form.ensures.ok

pub returns-in-Point-clause-is : goal.returns-in-Point-clause-is
returns-in-Point-clause-is c =
    on_ok_weaker c.push_form.result (λ is. subst IsGeometry (sym c.in-Point.is) (point.is c.in-Point.place is)) c.push_form.ensures.is

pub returns-in-Line-clause-ok : goal.returns-in-Line-clause-ok
returns-in-Line-clause-ok c =
    on_ok_weaker c.push_form-in-Line.result
    (λ put. put ∙ variant_put 2 line_bytes IsLine geometry_bytes IsGeometry Line line c.in-Line.places c.args.out.now.items
    ∙ ap (λ g. c.args.out.now.items ++ geometry_bytes g) (sym c.in-Line.is))
    c.push_form-in-Line.ensures.ok

pub returns-in-Line-clause-is : goal.returns-in-Line-clause-is
returns-in-Line-clause-is c =
    on_ok_weaker c.push_form-in-Line.result (λ is. subst IsGeometry (sym c.in-Line.is) (line.is c.in-Line.places is))
    c.push_form-in-Line.ensures.is

pub returns-in-Lines-clause-ok : goal.returns-in-Lines-clause-ok
returns-in-Lines-clause-ok c =
    on_ok_weaker c.push_form-in-Lines.result
    (λ put. put ∙ variant_put 3 lines_bytes AreLines geometry_bytes IsGeometry Lines lines c.in-Lines.lines c.args.out.now.items
    ∙ ap (λ g. c.args.out.now.items ++ geometry_bytes g) (sym c.in-Lines.is))
    c.push_form-in-Lines.ensures.ok

pub returns-in-Lines-clause-is : goal.returns-in-Lines-clause-is
returns-in-Lines-clause-is c =
    on_ok_weaker c.push_form-in-Lines.result
    (λ is. subst IsGeometry (sym c.in-Lines.is) (lines.is c.in-Lines.lines is)) c.push_form-in-Lines.ensures.is

pub returns-in-Area-clause-ok : goal.returns-in-Area-clause-ok
returns-in-Area-clause-ok c =
    on_ok_weaker c.push_form-in-Area.result
    (λ put. put ∙ variant_put 4 (list_bytes lines_bytes)
    (IsList AreLines) geometry_bytes IsGeometry Area area c.in-Area.polygons c.args.out.now.items
    ∙ ap (λ g. c.args.out.now.items ++ geometry_bytes g) (sym c.in-Area.is))
    c.push_form-in-Area.ensures.ok

pub returns-in-Area-clause-is : goal.returns-in-Area-clause-is
returns-in-Area-clause-is c =
    on_ok_weaker c.push_form-in-Area.result (λ is. subst IsGeometry (sym c.in-Area.is) (area.is c.in-Area.polygons is))
    c.push_form-in-Area.ensures.is
