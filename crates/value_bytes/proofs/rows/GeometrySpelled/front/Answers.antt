use Rattle.std.proofs.Common.{refl, ap, ◌∙◌, ◌∷◌, arith}
use Rattle.osm_base.specs.declared.values.row.Geometry.TheVariants.{Point, Line, Lines, Area}
use Rattle.value_bytes.specs.Lists.{list_bytes, IsList}
use Rattle.value_bytes.specs.Places.{place_bytes, IsPlace}
use Rattle.value_bytes.specs.Rows.{line_bytes, IsLine, lines_bytes, AreLines, geometry_bytes, IsGeometry}
use Rattle.value_bytes.proofs.Fronts.{needs_more}
use Rattle.value_bytes.proofs.RowLaws.{point, line, lines, area, other_geometry, no_geometry}
use Rattle.value_bytes.proofs.Variants.{variant_front, variant_frontless}
use Rattle.value_bytes.proofs.rows.GeometrySpelled.front.Goals as goal

pub returns-in_default-clause-refused : goal.returns-in_default-clause-refused
returns-in_default-clause-refused c = no_geometry c.args.bytes.now (c.in_default.ensures.none refl)

pub returns-in_default-byte-clause-refused : goal.returns-in_default-byte-clause-refused
returns-in_default-byte-clause-refused c =
    other_geometry c.args.bytes.now c.in-Some.byte c.in-Some.behind.now c.in-Some.ensures.byte (λ e. omega arith) (λ e. omega arith)
    (λ e. omega arith)
    (λ e. omega arith)

pub returns-in-Ok-clause-value : goal.returns-in-Ok-clause-value
returns-in-Ok-clause-value c =
    variant_front 1 place_bytes IsPlace geometry_bytes IsGeometry Point point c.args.bytes.now c.in-Some.behind.now c.in-Ok.found.0
    c.in-Ok.found.1.now
    (c.in-Some.ensures.byte ∙ ap (λ b. b ∷ c.in-Some.behind.now) c.in-1.is) c.in-Ok.ensures.value

pub returns-in-Err-clause-refused : goal.returns-in-Err-clause-refused
returns-in-Err-clause-refused c =
    needs_more c.in-Err.fault
    (variant_frontless 1 place_bytes IsPlace geometry_bytes IsGeometry Point point c.args.bytes.now c.in-Some.behind.now
    (c.in-Some.ensures.byte ∙ ap (λ b. b ∷ c.in-Some.behind.now) c.in-1.is))
    c.in-Err.ensures.refused

pub returns-in-Ok-front-clause-value : goal.returns-in-Ok-front-clause-value
returns-in-Ok-front-clause-value c =
    variant_front 2 line_bytes IsLine geometry_bytes IsGeometry Line line c.args.bytes.now c.in-Some.behind.now c.in-Ok-front.places
    c.in-Ok-front.rest.now
    (c.in-Some.ensures.byte ∙ ap (λ b. b ∷ c.in-Some.behind.now) c.in-2.is) c.in-Ok-front.ensures.value

pub returns-in-Err-front-clause-refused : goal.returns-in-Err-front-clause-refused
returns-in-Err-front-clause-refused c =
    needs_more c.in-Err-front.fault
    (variant_frontless 2 line_bytes IsLine geometry_bytes IsGeometry Line line c.args.bytes.now c.in-Some.behind.now
    (c.in-Some.ensures.byte ∙ ap (λ b. b ∷ c.in-Some.behind.now) c.in-2.is))
    c.in-Err-front.ensures.refused

pub returns-in-Ok-front-2-clause-value : goal.returns-in-Ok-front-2-clause-value
returns-in-Ok-front-2-clause-value c =
    variant_front 3 lines_bytes AreLines geometry_bytes IsGeometry Lines lines c.args.bytes.now c.in-Some.behind.now c.in-Ok-front-2.lines
    c.in-Ok-front-2.rest.now
    (c.in-Some.ensures.byte ∙ ap (λ b. b ∷ c.in-Some.behind.now) c.in-3.is) c.in-Ok-front-2.ensures.value

pub returns-in-Err-front-2-clause-refused : goal.returns-in-Err-front-2-clause-refused
returns-in-Err-front-2-clause-refused c =
    needs_more c.in-Err-front-2.fault
    (variant_frontless 3 lines_bytes AreLines geometry_bytes IsGeometry Lines lines c.args.bytes.now c.in-Some.behind.now
    (c.in-Some.ensures.byte ∙ ap (λ b. b ∷ c.in-Some.behind.now) c.in-3.is))
    c.in-Err-front-2.ensures.refused

pub returns-in-Ok-front-3-clause-value : goal.returns-in-Ok-front-3-clause-value
returns-in-Ok-front-3-clause-value c =
    variant_front 4 (list_bytes lines_bytes)
    (IsList AreLines) geometry_bytes IsGeometry Area area c.args.bytes.now c.in-Some.behind.now c.in-Ok-front-3.polygons
    c.in-Ok-front-3.rest.now
    (c.in-Some.ensures.byte ∙ ap (λ b. b ∷ c.in-Some.behind.now) c.in-4.is) c.in-Ok-front-3.ensures.value

pub returns-in-Err-front-3-clause-refused : goal.returns-in-Err-front-3-clause-refused
returns-in-Err-front-3-clause-refused c =
    needs_more c.in-Err-front-3.fault
    (variant_frontless 4 (list_bytes lines_bytes)
    (IsList AreLines) geometry_bytes IsGeometry Area area c.args.bytes.now c.in-Some.behind.now
    (c.in-Some.ensures.byte ∙ ap (λ b. b ∷ c.in-Some.behind.now) c.in-4.is))
    c.in-Err-front-3.ensures.refused
