-- A geometry that lies within one tile meets that tile.
use Rattle.std.proofs.Common.{◌≡◌, ℕ, ◌<◌, ◌≤◌, ◌^◌, ◌==◌, refl, sym, ◌∙◌, arith, nat_le, Bool, true, false, cond, ◌&&◌, ◌||◌, List, []}
use Rattle.std.proofs.Common.{◌∷◌, ◌++◌, length, map, count_by}
use Rattle.std.specs.List.{AllByRecursion, list_any, flat_map}
use Rattle.std.proofs.lemmas.List.Elements.{recursion_from_All}
use Rattle.osm_base.specs.values.Place.{PlaceOf}
use Rattle.osm_base.specs.declared.values.place.GeoBox.{GeoBox}
use Rattle.osm_base.specs.declared.values.row.Geometry.{Geometry}
use Rattle.osm_base.specs.declared.values.row.Geometry.TheVariants.{Point, Line, Lines, Area}
use Rattle.lanes_geo.specs.Crossing.{Segment, segments_from, crosses}
use Rattle.tile_cover.specs.Events.{Gains}
use Rattle.tile_cover.specs.Inside.{IsBetween, IsInside, IsLineInside, AreLinesInside, AreInside, HasSegment}
use Rattle.tile_cover.specs.Table.{BoundsOf, IsTable}
use Rattle.tile_cover.specs.Tile.{touches, north_west, tile_box, widened, line_segments, lines_segments, segments_of}
use Rattle.tile_cover.proofs.Within.{MeetsOne, meets_one}

-- facts of each element
each_so : {A : Type 0} (P Q : A → Type 0) (xs : List A) → ((x : A) → P x → Q x) → AllByRecursion P xs → AllByRecursion Q xs
each_so P Q [] so e = tt
each_so P Q (x ∷ xs) so e = (so x e.0, each_so P Q xs so e.1)

each_append : {A : Type 0} (P : A → Type 0) (xs ys : List A) → AllByRecursion P xs → AllByRecursion P ys → AllByRecursion P (xs ++ ys)
each_append P [] ys e f = f
each_append P (x ∷ xs) ys e f = (e.0, each_append P xs ys e.1 f)

each_flat : {A B : Type 0} (P : A → Type 0) (Q : B → Type 0) (f : A → List B) (xs : List A) → ((x : A) → P x → AllByRecursion Q (f x))
    → AllByRecursion P xs → AllByRecursion Q (flat_map f xs)
each_flat P Q f [] so e = tt
each_flat P Q f (x ∷ xs) so e = each_append Q (f x) (flat_map f xs) (so x e.0) (each_flat P Q f xs so e.1)

-- the segments of a geometry whose places lie within a tile
abbrev pub Ends : GeoBox → Segment → Type 0
Ends box s = IsBetween box s.start × IsBetween box s.end

ends_from : (box : GeoBox) (columns : ℕ) (start : PlaceOf) (places : List PlaceOf) → IsInside columns box start
    → AllByRecursion (IsInside columns box) places
    → AllByRecursion (Ends box) (segments_from (widened columns start) (map (widened columns) places))
ends_from box columns start [] e f = tt
ends_from box columns start (end ∷ places) e f = ((e, f.0), ends_from box columns end places f.0 f.1)

ends_line : (box : GeoBox) (columns : ℕ) (places : List PlaceOf) → AllByRecursion (IsInside columns box) places
    → AllByRecursion (Ends box) (line_segments columns places)
ends_line box columns [] e = tt
ends_line box columns (start ∷ places) e = ends_from box columns start places e.0 e.1

ends_inside : (box : GeoBox) (columns : ℕ) (places : List PlaceOf) → IsLineInside columns box places
    → AllByRecursion (Ends box) (line_segments columns places)
ends_inside box columns places e = ends_line box columns places (recursion_from_All (IsInside columns box) places e)

ends_lines : (box : GeoBox) (columns : ℕ) (lines : List (List PlaceOf)) → AreLinesInside columns box lines
    → AllByRecursion (Ends box) (lines_segments columns lines)
ends_lines box columns lines e =
    each_flat (IsLineInside columns box) (Ends box) (line_segments columns) lines (ends_inside box columns)
    (recursion_from_All (IsLineInside columns box) lines e)

ends_all : (box : GeoBox) (columns : ℕ) (geometry : Geometry) → AreInside columns box geometry
    → AllByRecursion (Ends box) (segments_of columns geometry)
ends_all box columns (Point place) e = ((e, e), tt)
ends_all box columns (Line places) e = ends_inside box columns places e
ends_all box columns (Lines lines) e = ends_lines box columns lines e
ends_all box columns (Area polygons) e =
    each_flat (AreLinesInside columns box) (Ends box) (lines_segments columns) polygons (ends_lines box columns)
    (recursion_from_All (AreLinesInside columns box) polygons e)

-- tests that all answer alike
or_none : (a : Bool) → (a || false) ≡ a
or_none true = refl
or_none false = refl

or_same : (a : Bool) → (a || a) ≡ a
or_same true = refl
or_same false = refl

any_same : (p : Segment → Bool) (answer : Bool) (all : List Segment) → 0 < length all → AllByRecursion (λ s. p s ≡ answer) all
    → list_any p all ≡ answer
any_same p answer [] some e = absurd (omega arith)
any_same p answer (s ∷ []) some e = rw e.0 (or_none answer)
any_same p answer (s ∷ other ∷ all) some e = rw (e.0, any_same p answer (other ∷ all) (omega arith) e.1) (or_same answer)

none_counted : (p : Segment → Bool) (all : List Segment) → AllByRecursion (λ s. p s ≡ false) all → count_by p all ≡ 0
none_counted p [] e = refl
none_counted p (s ∷ all) e = rw (e.0, none_counted p all e.1) refl

not_beyond : (p : Bool) → cond {A = ℕ} (p && false) 1 0 ≡ 0
not_beyond true = refl
not_beyond false = refl

pub lone_gains : (table : BoundsOf) (column row : ℕ) (geometry : Geometry) → IsTable table → row < 2 ^ table.zoom → HasSegment geometry
    → AreInside (2 ^ table.zoom) (tile_box table column row) geometry
    → Gains table (segments_of (2 ^ table.zoom) geometry) []
    (record { row = row; span = record { first = column; last = column; straddles = false } } ∷ [])
lone_gains table column row geometry t within some inside =
    let all = segments_of (2 ^ table.zoom) geometry in
    let ends = ends_all (tile_box table column row) (2 ^ table.zoom) geometry inside in
    let each = each_so (Ends (tile_box table column row)) (MeetsOne table column row) all
    (λ s e. meets_one table column row s t within e.0 e.1) ends in
    record {
      any = λ x y h other. or_none _ ∙ sym (any_same (touches (tile_box table x y)) ((row == y) && (nat_le column x && nat_le x column)) all
          (some (2 ^ table.zoom))
          (each_so (MeetsOne table column row) (λ s. touches (tile_box table x y) s ≡ ((row == y) && (nat_le column x && nat_le x column)))
          all (λ s e. e.touch x y other) each));
      count = λ x y h other none. rw (
        not_beyond (row == y),
        none_counted (crosses (north_west (tile_box table x y))) all
            (each_so (MeetsOne table column row) (λ s. crosses (north_west (tile_box table x y)) s ≡ false) all
            (λ s e. e.cross x y other) each),
      ) refl;
    }

-- a line of two places has a segment
pub some_segment : (columns : ℕ) (places : List PlaceOf) → 2 ≤ length places → 0 < length (line_segments columns places)
some_segment columns [] e = absurd (omega arith)
some_segment columns (place ∷ []) e = absurd (omega arith)
some_segment columns (place ∷ other ∷ places) e = omega arith
