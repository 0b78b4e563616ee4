-- Geometries as text.
-- OGC Simple Feature Access, "Well-known Text Representation for Geometry": a point is its two coordinates, the longitude first; a
-- line string is its points in brackets, separated by commas, and so are the lines of a multi line string, the rings of a polygon,
-- and the polygons of a multi polygon.
use Rattle.std.specs.Prelude.{ℕ, List, [], ◌∷◌, ◌++◌, codes, flat_map}
use Rattle.osm_base.specs.values.Degrees.{degrees}
use Rattle.osm_base.specs.values.Place.{PlaceOf}
use Rattle.osm_base.specs.declared.values.row.Geometry.{Geometry}
use Rattle.osm_base.specs.declared.values.row.Geometry.TheVariants.{Point, Line, Lines, Area}

-- a place: its longitude and its latitude
abbrev pub place_text : PlaceOf → List ℕ
place_text place = degrees place.lon ++ codes " " ++ degrees place.lat

-- the texts of parts, separated by commas
abbrev pub listed : {A : Type 0} → (A → List ℕ) → List A → List ℕ
listed text [] = []
listed text (part ∷ parts) = text part ++ flat_map (λ next. codes "," ++ text next) parts

-- the same in brackets
abbrev pub bracketed : {A : Type 0} → (A → List ℕ) → List A → List ℕ
bracketed text parts = codes "(" ++ listed text parts ++ codes ")"

-- a line in brackets, several of them, and several of these
abbrev pub line_text : List PlaceOf → List ℕ
line_text = bracketed place_text

abbrev pub multiline_text : List (List PlaceOf) → List ℕ
multiline_text = bracketed line_text

abbrev pub polygons_text : List (List (List PlaceOf)) → List ℕ
polygons_text = bracketed multiline_text

-- a geometry behind its name
abbrev pub geometry_text : Geometry → List ℕ
geometry_text (Point place) = codes "POINT(" ++ place_text place ++ codes ")"
geometry_text (Line places) = codes "LINESTRING" ++ line_text places
geometry_text (Lines lines) = codes "MULTILINESTRING" ++ multiline_text lines
geometry_text (Area polygons) = codes "MULTIPOLYGON" ++ polygons_text polygons
