-- The query that a line is: `count TABLE`, `row TABLE KIND ID` or `box TABLE W S E N`.
-- The causes come in the order of their numbers: the form of the whole line first, then the table, then the numbers from
-- left to right, then the order of the sides.
use Rattle.std.specs.Prelude.{ℕ, ℤ, ◌<◌, ◌||◌, int_lt, if◌then◌else◌, List, length, Result, Ok, Err}
use Rattle.osm_base.specs.declared.values.place.GeoBox.{GeoBox}
use Rattle.style_read.specs.Style.{StyleOf}
use Rattle.map_query.specs.declared.fault.QueryWhy.{QueryWhy}
use Rattle.map_query.specs.declared.fault.QueryWhy.TheVariants.{EmptyBox}
use Rattle.map_query.specs.declared.query.Query.{Query}
use Rattle.map_query.specs.declared.query.Query.TheVariants.{Count, One, Box}
use Rattle.map_query.specs.declared.words.Verb.{Verb}
use Rattle.map_query.specs.declared.words.Verb.TheVariants as verbs
use Rattle.map_query.specs.Box.{IsBox}
use Rattle.map_query.specs.Fault.{◌>>=◌}
use Rattle.map_query.specs.Words.{words_of, query_text, next_word, last_word, verb_of, kind_of, table_in, id_in, lon_in, lat_in}

-- the box between these sides
unfoldable pub box_between : (west south east north : ℤ) → Result GeoBox QueryWhy
box_between west south east north =
    if int_lt east west || int_lt north south then Err EmptyBox else Ok (record { west = west; south = south; east = east; north = north })

-- a count of rows
unfoldable pub count_query : StyleOf → List (List ℕ) → Result Query QueryWhy
count_query style words = last_word words >>= λ name. table_in style name >>= λ table. Ok (Count table)

-- the row of an object
unfoldable pub row_query : StyleOf → List (List ℕ) → Result Query QueryWhy
row_query style words =
    next_word words >>= λ (name, behind).
    next_word behind >>= λ (letter, digits).
    last_word digits >>= λ digits.
    kind_of letter >>= λ kind.
    table_in style name >>= λ table.
    id_in digits >>= λ id.
    Ok (One table (record { kind = kind; id = id }))

-- the rows in a box
unfoldable pub box_query : StyleOf → List (List ℕ) → Result Query QueryWhy
box_query style words =
    next_word words >>= λ (name, behind).
    next_word behind >>= λ (west, behind).
    next_word behind >>= λ (south, behind).
    next_word behind >>= λ (east, behind).
    last_word behind >>= λ north.
    table_in style name >>= λ table.
    lon_in west >>= λ west.
    lat_in south >>= λ south.
    lon_in east >>= λ east.
    lat_in north >>= λ north.
    box_between west south east north >>= λ asked.
    Ok (Box table asked)

-- the query that the words behind the first one make
unfoldable pub query_behind : StyleOf → Verb → List (List ℕ) → Result Query QueryWhy
query_behind style verbs.Count words = count_query style words
query_behind style verbs.Row words = row_query style words
query_behind style verbs.Box words = box_query style words

-- the query that a line is, or its first cause
unfoldable pub query_of : StyleOf → List ℕ → Result Query QueryWhy
query_of style line =
    query_text line >>= λ text.
    next_word (words_of text) >>= λ (word, words).
    verb_of word >>= λ verb.
    query_behind style verb words

-- a query of a table that the style has, and of a box of the earth
abbrev pub IsAsked : StyleOf → Query → Type 0
IsAsked style (Count table) = table < length style.tables
IsAsked style (One table key) = table < length style.tables
IsAsked style (Box table asked) = (table < length style.tables) × IsBox asked
