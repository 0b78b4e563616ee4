-- The words of a line of queries, and what they are.
-- The lines of a file of queries are of this repository's own form, as docs/STANDARDS.md, "Queries", states it: words separated by exactly
-- one space. Ids and coordinates are those of the OPL manual's fields.
use Rattle.std.specs.Prelude.{ℕ, ℤ, ◌==◌, if◌then◌else◌, List, [], ◌∷◌, length, codes, Option, None, Some, Result, Ok, Err}
use Rattle.std.specs.List.{slice_split}
use Rattle.std.specs.Str.{bytes_eq, is_utf8}
use Rattle.osm_base.specs.declared.values.key.Kind.{Kind}
use Rattle.osm_base.specs.declared.values.key.Kind.TheVariants as kinds
use Rattle.opl_object.specs.declared.ascii.TheConstants.{SPACE}
use Rattle.opl_object.specs.Coordinate.{coordinate}
use Rattle.opl_object.specs.Fields.{is, is_empty}
use Rattle.opl_object.specs.Number.{id_of}
use Rattle.style_read.specs.Style.{StyleOf, table_of}
use Rattle.map_query.specs.declared.fault.QueryWhy.{QueryWhy}
use Rattle.map_query.specs.declared.fault.QueryWhy.TheVariants.{Form, UnknownTable, Number}
use Rattle.map_query.specs.declared.words.Verb.{Verb}
use Rattle.map_query.specs.declared.words.Verb.TheVariants as verbs

-- the text that the bytes of a line are
abbrev pub query_text : List ℕ → Result (List ℕ) QueryWhy
query_text line = if is_utf8 line then Ok line else Err Form

-- the words of a text: what stands between single spaces
unfoldable pub words_of : List ℕ → List (List ℕ)
words_of text = slice_split (is SPACE) text

-- the first of words, which is not empty, and those behind it, of which there is one at least
unfoldable pub next_word : List (List ℕ) → Result (List ℕ × List (List ℕ)) QueryWhy
next_word [] = Err Form
next_word (word ∷ words) = if length words == 0 then Err Form else if is_empty word then Err Form else Ok (word, words)

-- the one word that is left, which is not empty
unfoldable pub last_word : List (List ℕ) → Result (List ℕ) QueryWhy
last_word [] = Err Form
last_word (word ∷ words) = if length words == 0 then (if is_empty word then Err Form else Ok word) else Err Form

-- what the first word asks for
unfoldable pub verb_of : List ℕ → Result Verb QueryWhy
verb_of word =
    if bytes_eq word (codes "count") then Ok verbs.Count else
    if bytes_eq word (codes "row") then Ok verbs.Row else
    if bytes_eq word (codes "box") then Ok verbs.Box else Err Form

-- the kind of an object
unfoldable pub kind_of : List ℕ → Result Kind QueryWhy
kind_of word =
    if bytes_eq word (codes "n") then Ok kinds.Node else
    if bytes_eq word (codes "w") then Ok kinds.Way else
    if bytes_eq word (codes "r") then Ok kinds.Relation else Err Form

-- a table of a style
abbrev pub known : Option ℕ → Result ℕ QueryWhy
known None = Err UnknownTable
known (Some table) = Ok table

unfoldable pub table_in : StyleOf → List ℕ → Result ℕ QueryWhy
table_in style name = known (table_of style.tables name)

-- a number that a line of objects could have
abbrev pub as_number : {A Why : Type 0} → Result A Why → Result A QueryWhy
as_number (Ok number) = Ok number
as_number (Err why) = Err Number

unfoldable pub id_in : List ℕ → Result ℕ QueryWhy
id_in word = as_number (id_of word)

unfoldable pub lon_in : List ℕ → Result ℤ QueryWhy
lon_in word = as_number (coordinate 1800000000 word)

unfoldable pub lat_in : List ℕ → Result ℤ QueryWhy
lat_in word = as_number (coordinate 900000000 word)
