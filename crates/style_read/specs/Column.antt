-- Columns, and from what their cells are made: `tag:KEY`, `tags`, or `selected:NAME`. A key has at least one byte; only
-- `tag:KEY` may be kept as a whole number, and `selected:NAME` stands only where relations select.
use Rattle.std.specs.Prelude.{ℕ, List, Bool, ◌||◌, not, Option, Some, length, ◌==◌, codes}
use Rattle.std.specs.Option.{option_map, option_map_or}
use Rattle.std.specs.Str.{chars, bytes_eq}
use Rattle.toml.specs.Data.{Data}
use Rattle.style_read.specs.Condition.{selection_of}
use Rattle.style_read.specs.Document.{text_at}
use Rattle.style_read.specs.Text.{behind}
use Rattle.style_read.specs.declared.style.Origin.{Origin}
use Rattle.style_read.specs.declared.style.Origin.TheVariants as origins
use Rattle.style_read.specs.declared.style.Column.{Column}

-- a column is kept as a whole number
unfoldable pub is_int : Data → Bool
is_int column = bytes_eq (text_at (codes "type") column) (codes "int")

-- a text that does not begin with `selected:` is no origin, for a whole number or not
unfoldable pub is_bad_origin : (int : Bool) → List ℕ → Bool
is_bad_origin int text = option_map_or (λ key. length key == 0) (behind (codes "tag:") text) (not (bytes_eq text (codes "tags")) || int)

-- a column is from nothing that may stand there
unfoldable pub is_bad_column : (may_select : Bool) → Data → Bool
is_bad_column may_select column =
    option_map_or (λ _. not may_select || is_int column) (behind (codes "selected:") (text_at (codes "from") column))
    (is_bad_origin (is_int column) (text_at (codes "from") column))

-- what a text that does not begin with `selected:` names
unfoldable pub tag_origin : List ℕ → Origin
tag_origin text = option_map_or (λ key. origins.Tag (chars key)) (behind (codes "tag:") text) origins.AllTags

-- what a text names, where the selection that it asks for is there
unfoldable pub origin_of : (selections : List Data) → List ℕ → Option Origin
origin_of selections text =
    option_map_or (λ name. option_map origins.Selected (selection_of selections name)) (behind (codes "selected:") text)
    (Some (tag_origin text))

-- a column of this origin
abbrev pub column_from : Data → Origin → Column
column_from column origin = record { name = chars (text_at (codes "name") column); origin = origin; int = is_int column }

-- the column that a table writes
unfoldable pub column_of : (selections : List Data) → Data → Option Column
column_of selections column = option_map (column_from column) (origin_of selections (text_at (codes "from") column))
