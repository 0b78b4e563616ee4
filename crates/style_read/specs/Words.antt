-- The words of a style, and the keys that may stand in each of its tables.
use Rattle.std.specs.Prelude.{ℕ, List, Bool, false, ◌||◌, not, if◌then◌else◌, Option, None, Some, codes}
use Rattle.std.specs.Option.{option_map_or}
use Rattle.std.specs.Str.{bytes_eq}
use Rattle.style_read.specs.declared.style.Source.{Source}
use Rattle.style_read.specs.declared.style.Source.TheVariants.{Node, Way, Area, Relation}
use Rattle.style_read.specs.declared.style.Mode.{Mode}
use Rattle.style_read.specs.declared.style.Mode.TheVariants.{Boundary, Full}
use Rattle.style_read.specs.declared.words.Level.{Level}
use Rattle.style_read.specs.declared.words.Level.TheVariants as levels

-- a key that has a meaning in a table of this level
unfoldable pub is_key_of : Level → List ℕ → Bool
is_key_of levels.Top key = bytes_eq key (codes "select") || bytes_eq key (codes "table")
is_key_of levels.Selection key = bytes_eq key (codes "name") || (bytes_eq key (codes "where") || bytes_eq key (codes "take"))
is_key_of levels.Table key =
    bytes_eq key (codes "name") || (bytes_eq key (codes "source") || (bytes_eq key (codes "geometry") || (bytes_eq key (codes "where")
    || (bytes_eq key (codes "any") || (bytes_eq key (codes "expire") || bytes_eq key (codes "column"))))))
is_key_of levels.Column key = bytes_eq key (codes "name") || (bytes_eq key (codes "from") || bytes_eq key (codes "type"))

-- the source that a word names
unfoldable pub source_of : List ℕ → Option Source
source_of word =
    if bytes_eq word (codes "node") then Some Node else
    if bytes_eq word (codes "way") then Some Way else
    if bytes_eq word (codes "area") then Some Area else
    if bytes_eq word (codes "relation") then Some Relation else None

-- the word of the geometry that a source gives
unfoldable pub geometry_of : Source → List ℕ
geometry_of Node = codes "point"
geometry_of Way = codes "line"
geometry_of Area = codes "polygon"
geometry_of Relation = codes "lines"

-- a word that names a geometry
unfoldable pub is_geometry : List ℕ → Bool
is_geometry word = bytes_eq word (codes "point") ||
    (bytes_eq word (codes "line") || (bytes_eq word (codes "polygon") || bytes_eq word (codes "lines")))

-- the source that the first word names gives the geometry that the second one names
unfoldable pub gives_geometry : (source geometry : List ℕ) → Bool
gives_geometry source geometry = option_map_or (λ found. bytes_eq geometry (geometry_of found)) (source_of source) false

-- objects of a source may be selected by relations
unfoldable pub may_select : (source : List ℕ) → Bool
may_select source = not (bytes_eq source (codes "relation"))

-- the mode that a word names
unfoldable pub mode_of : List ℕ → Option Mode
mode_of word = if bytes_eq word (codes "full-area") then Some Full else if bytes_eq word (codes "boundary-only") then Some Boundary
    else None

-- the type of a column
unfoldable pub is_type : List ℕ → Bool
is_type word = bytes_eq word (codes "text") || bytes_eq word (codes "int")
