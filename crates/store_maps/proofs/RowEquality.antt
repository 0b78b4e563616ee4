-- The test of two rows tells whether they are equal.
use Rattle.std.proofs.Common.{◌≡◌, ℕ, Bool, true, false, ◌&&◌, Option, Some, None, refl, ap, subst, nat_eq, arith}
use Rattle.std.specs.Cmp.Lexicographic.{pointwise, pointwise_decides}
use Rattle.std.specs.Ordering.{int_eq}
use Rattle.std.proofs.lemmas.Bool.Decides.{Decides-int_eq, nat_tests}
use Rattle.osm_base.specs.declared.values.row.Cell.{Cell}
use Rattle.osm_base.specs.declared.values.row.Cell.TheVariants as cells
use Rattle.osm_base.specs.declared.values.row.Geometry.{Geometry}
use Rattle.osm_base.specs.declared.values.row.Geometry.TheVariants as shapes
use Rattle.osm_base.specs.declared.values.row.Row.{Row}
use Rattle.osm_base.specs.values.Line.{same_place}
use Rattle.osm_base.specs.values.Place.{PlaceOf}
use Rattle.store_maps.specs.SameRows.{same_cell, same_found, same_row, same_shape}

-- a test decides whether two are equal
abbrev IsTest : {X : Type 0} → (X → X → Bool) → Type 0
IsTest {X} test = (one other : X) → (test one other ≡ true → one ≡ other) × (one ≡ other → test one other ≡ true)

both : (a b : Bool) → (a && b) ≡ true → (a ≡ true) × (b ≡ true)
both true b e = (refl, e)
both false b e = absurd (cc)

made : {X : Type 0} (test : X → X → Bool) → ((one other : X) → test one other ≡ true → one ≡ other) → ((one : X) → test one one ≡ true)
    → IsTest test
made test is itself one other = (is one other, λ e. subst (λ own. test one own ≡ true) e (itself one))

numbers : IsTest nat_eq
numbers one other = (λ e. grind (arith, nat_tests), λ e. grind (arith, nat_tests))

places : IsTest same_place
places = made same_place
    (λ one other e. let p = both (int_eq one.lon other.lon) (int_eq one.lat other.lat) e in
    let lon = (Decides-int_eq one.lon other.lon).0 p.0 in
    let lat = (Decides-int_eq one.lat other.lat).0 p.1 in
    λ i. record { lon = lon i; lat = lat i })
    (λ one i. (Decides-int_eq one.lon one.lon).1 refl i && (Decides-int_eq one.lat one.lat).1 refl i)

cell_is : (one other : Cell) → same_cell one other ≡ true → one ≡ other
cell_is cells.Null cells.Null e = refl
cell_is cells.Null (cells.Text other) e = absurd (cc)
cell_is cells.Null (cells.Int other) e = absurd (cc)
cell_is (cells.Text one) cells.Null e = absurd (cc)
cell_is (cells.Text one) (cells.Text other) e = ap cells.Text ((pointwise_decides numbers one other).0 e)
cell_is (cells.Text one) (cells.Int other) e = absurd (cc)
cell_is (cells.Int one) cells.Null e = absurd (cc)
cell_is (cells.Int one) (cells.Text other) e = absurd (cc)
cell_is (cells.Int one) (cells.Int other) e = ap cells.Int ((Decides-int_eq one other).0 e)

cell_itself : (one : Cell) → same_cell one one ≡ true
cell_itself cells.Null = refl
cell_itself (cells.Text one) = (pointwise_decides numbers one one).1 refl
cell_itself (cells.Int one) = (Decides-int_eq one one).1 refl

shape_is : (one other : Geometry) → same_shape one other ≡ true → one ≡ other
shape_is (shapes.Point one) (shapes.Point other) e = ap shapes.Point ((places one other).0 e)
shape_is (shapes.Point one) (shapes.Line other) e = absurd (cc)
shape_is (shapes.Point one) (shapes.Lines other) e = absurd (cc)
shape_is (shapes.Point one) (shapes.Area other) e = absurd (cc)
shape_is (shapes.Line one) (shapes.Point other) e = absurd (cc)
shape_is (shapes.Line one) (shapes.Line other) e = ap shapes.Line ((pointwise_decides places one other).0 e)
shape_is (shapes.Line one) (shapes.Lines other) e = absurd (cc)
shape_is (shapes.Line one) (shapes.Area other) e = absurd (cc)
shape_is (shapes.Lines one) (shapes.Point other) e = absurd (cc)
shape_is (shapes.Lines one) (shapes.Line other) e = absurd (cc)
shape_is (shapes.Lines one) (shapes.Lines other) e = ap shapes.Lines ((pointwise_decides (pointwise_decides places) one other).0 e)
shape_is (shapes.Lines one) (shapes.Area other) e = absurd (cc)
shape_is (shapes.Area one) (shapes.Point other) e = absurd (cc)
shape_is (shapes.Area one) (shapes.Line other) e = absurd (cc)
shape_is (shapes.Area one) (shapes.Lines other) e = absurd (cc)
shape_is (shapes.Area one) (shapes.Area other) e =
    ap shapes.Area ((pointwise_decides (pointwise_decides (pointwise_decides places)) one other).0 e)

shape_itself : (one : Geometry) → same_shape one one ≡ true
shape_itself (shapes.Point one) = (places one one).1 refl
shape_itself (shapes.Line one) = (pointwise_decides places one one).1 refl
shape_itself (shapes.Lines one) = (pointwise_decides (pointwise_decides places) one one).1 refl
shape_itself (shapes.Area one) = (pointwise_decides (pointwise_decides (pointwise_decides places)) one one).1 refl

same_cells : IsTest same_cell
same_cells = made same_cell cell_is cell_itself

row_is : (one other : Row) → same_row one other ≡ true → one ≡ other
row_is one other e =
    let p = both (pointwise same_cell one.cells other.cells) (same_shape one.geometry other.geometry) e in
    let cells_are = (pointwise_decides same_cells one.cells other.cells).0 p.0 in
    let shape = shape_is one.geometry other.geometry p.1 in
    λ i. record { cells = cells_are i; geometry = shape i }

row_itself : (one : Row) → same_row one one ≡ true
row_itself one i = (pointwise_decides same_cells one.cells one.cells).1 refl i && shape_itself one.geometry i

pub same_row-is : (one other : Row) → (same_row one other ≡ true → one ≡ other) × (one ≡ other → same_row one other ≡ true)
same_row-is = made same_row row_is row_itself

pub same_found-is : (one other : Option Row) → same_found one other ≡ true → one ≡ other
same_found-is None None e = refl
same_found-is None (Some other) e = absurd (cc)
same_found-is (Some one) None e = absurd (cc)
same_found-is (Some one) (Some other) e = ap Some (row_is one other e)

pub same_found-itself : (one : Option Row) → same_found one one ≡ true
same_found-itself None = refl
same_found-itself (Some one) = row_itself one
