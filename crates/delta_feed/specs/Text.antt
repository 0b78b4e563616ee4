-- Blocks as they are written: their lines, and the bytes of these.
use Rattle.std.specs.Prelude.{ℕ, zero, suc, List, [], ◌∷◌, ◌++◌, length, take, drop, map, flat_map, fold, codes, Option, None, Some}
use Rattle.std.specs.FinMap as finite
use Rattle.std.specs.Fmt.{decimal}
use Rattle.std.specs.List.{join_with_byte}
use Rattle.hex.specs.Hex.{encode_lower}
use Rattle.osm_base.specs.declared.values.key.Kind.{Kind}
use Rattle.osm_base.specs.declared.values.key.Kind.TheVariants as kinds
use Rattle.osm_base.specs.declared.values.row.Delta.{Delta}
use Rattle.osm_base.specs.declared.values.row.Row.{Row}
use Rattle.osm_base.specs.declared.values.row.RowChange.{RowChange}
use Rattle.osm_base.specs.map.Spots.{SpotOf, TableMap, spot_cmp, spot_of}
use Rattle.value_bytes.specs.Row.{row_bytes}
use Rattle.delta_feed.specs.declared.hexes.TheConstants.{LINE_BYTES}
use Rattle.delta_feed.specs.declared.words.TheConstants.{SPACE}

-- ---- one line, without its newline

-- words, separated by one space
abbrev pub joined_words : List (List ℕ) → List ℕ
joined_words words = join_with_byte SPACE words

-- the letter of a kind
abbrev pub kind_letter : Kind → List ℕ
kind_letter kinds.Node = codes "n"
kind_letter kinds.Way = codes "w"
kind_letter kinds.Relation = codes "r"

-- the words of a spot
abbrev pub spot_words : SpotOf → List (List ℕ)
spot_words spot = decimal spot.table ∷ kind_letter spot.key.kind ∷ decimal spot.key.id ∷ []

-- a line that takes the row of a spot away
unfoldable pub del_line : SpotOf → List ℕ
del_line spot = joined_words (codes "del" ∷ spot_words spot)

-- a line that gives a spot a row of these bytes
unfoldable pub set_line : SpotOf → List ℕ → List ℕ
set_line spot bytes = joined_words (codes "set" ∷ decimal spot.table ∷ kind_letter spot.key.kind ∷ decimal spot.key.id ∷ encode_lower bytes ∷ [])

-- the lines of the bytes of a style, and of bytes that go on
unfoldable pub style_line : List ℕ → List ℕ
style_line bytes = joined_words (codes "style" ∷ encode_lower bytes ∷ [])

unfoldable pub more_line : List ℕ → List ℕ
more_line bytes = joined_words (codes "more" ∷ encode_lower bytes ∷ [])

-- the lines that begin a block
unfoldable pub full_line : (version : ℕ) → List ℕ
full_line version = joined_words (codes "full" ∷ decimal version ∷ [])

unfoldable pub delta_line : (version : ℕ) → List ℕ
delta_line version = joined_words (codes "delta" ∷ decimal version ∷ [])

-- ---- bytes in lines, each but the last with the most digits

-- behind the first line, in at most so many
abbrev pub more_lines : (most : ℕ) → List ℕ → List (List ℕ)
more_lines zero bytes = []
more_lines (suc most) [] = []
more_lines (suc most) (byte ∷ bytes) =
    more_line (take LINE_BYTES (byte ∷ bytes)) ∷ more_lines most (drop LINE_BYTES (byte ∷ bytes))

-- behind the front that the first line has
abbrev pub lines_behind : List ℕ → List (List ℕ)
lines_behind bytes = more_lines (length (drop LINE_BYTES bytes)) (drop LINE_BYTES bytes)

abbrev pub style_lines : List ℕ → List (List ℕ)
style_lines bytes = style_line (take LINE_BYTES bytes) ∷ lines_behind bytes

abbrev pub set_lines : SpotOf → List ℕ → List (List ℕ)
set_lines spot bytes = set_line spot (take LINE_BYTES bytes) ∷ lines_behind bytes

-- ---- blocks

-- what stands at a spot
abbrev pub row_lines : SpotOf → Option Row → List (List ℕ)
row_lines spot None = del_line spot ∷ []
row_lines spot (Some row) = set_lines spot (row_bytes row)

-- the changes by their spots; where a spot stands twice, the later one counts
abbrev pub changes_by_spot : List RowChange → finite.FinMap spot_cmp RowChange
changes_by_spot changes = fold (λ told change. finite.insert told (spot_of change) change) finite.empty changes

-- what stands at spots, in this order
abbrev pub entry_lines : List (SpotOf × Option Row) → List (List ℕ)
entry_lines entries = flat_map (λ entry. row_lines entry.0 entry.1) entries

-- the rows of tables, and what changes say, by rising spots
abbrev pub table_entries : List (SpotOf × Row) → List (SpotOf × Option Row)
table_entries entries = map (λ entry. (entry.0, Some entry.1)) entries

abbrev pub told_entries : List (SpotOf × RowChange) → List (SpotOf × Option Row)
told_entries entries = map (λ entry. (entry.0, entry.1.row)) entries

abbrev pub rows_at : TableMap → List (SpotOf × Option Row)
rows_at tables = table_entries (finite.entries tables)

abbrev pub changes_at : List RowChange → List (SpotOf × Option Row)
changes_at changes = told_entries (finite.entries (changes_by_spot changes))

-- the lines of a block of whole tables
abbrev pub full_lines : (version : ℕ) → List ℕ → TableMap → List (List ℕ)
full_lines version style_bytes tables = full_line version ∷ style_lines style_bytes ++ (entry_lines (rows_at tables) ++ codes "end" ∷ [])

-- and of a difference
abbrev pub delta_lines : Delta → List (List ℕ)
delta_lines delta = delta_line delta.version ∷ (entry_lines (changes_at delta.changes) ++ codes "end" ∷ [])

-- a line with its newline, and lines
abbrev pub ended_line : List ℕ → List ℕ
ended_line line = line ++ codes "\n"

abbrev pub ended_lines : List (List ℕ) → List ℕ
ended_lines lines = flat_map ended_line lines

abbrev pub full_text : (version : ℕ) → List ℕ → TableMap → List ℕ
full_text version style_bytes tables = ended_lines (full_lines version style_bytes tables)

abbrev pub delta_text : Delta → List ℕ
delta_text delta = ended_lines (delta_lines delta)
