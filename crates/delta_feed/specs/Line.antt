-- A line of a file of blocks, in its place: `full K`, `delta K`, `style HEX`, `set T KIND ID HEX`, `del T KIND ID`, `more HEX`, `end`.
-- The causes come in the order of their numbers: the form of the whole line first, then the numbers from left to right, then the digits.
use Rattle.std.specs.Prelude.{ℕ, if◌then◌else◌, List, [], ◌∷◌, codes, Result, Ok, Err}
use Rattle.std.specs.Str.{bytes_eq}
use Rattle.osm_base.specs.declared.values.key.Kind.{Kind}
use Rattle.osm_base.specs.map.Spots.{SpotOf}
use Rattle.delta_feed.specs.Hexes.{hex_in}
use Rattle.delta_feed.specs.Place.{may_stand}
use Rattle.delta_feed.specs.Why.{◌>>=◌}
use Rattle.delta_feed.specs.Words.{words_of, next_word, last_word, version_in, table_in, id_in, kind_in}
use Rattle.delta_feed.specs.declared.fault.FeedWhy.{FeedWhy}
use Rattle.delta_feed.specs.declared.fault.FeedWhy.TheVariants.{Form}
use Rattle.delta_feed.specs.declared.line.FeedLine.{FeedLine}
use Rattle.delta_feed.specs.declared.line.FeedLine.TheVariants as lines
use Rattle.delta_feed.specs.declared.place.Place.{Place}
use Rattle.delta_feed.specs.declared.place.Verb.{Verb}
use Rattle.delta_feed.specs.declared.place.Verb.TheVariants as verbs

-- what the first word says
unfoldable pub verb_in : List ℕ → Result Verb FeedWhy
verb_in word =
    if bytes_eq word (codes "set") then Ok verbs.Set else
    if bytes_eq word (codes "del") then Ok verbs.Del else
    if bytes_eq word (codes "more") then Ok verbs.More else
    if bytes_eq word (codes "end") then Ok verbs.End else
    if bytes_eq word (codes "delta") then Ok verbs.Delta else
    if bytes_eq word (codes "full") then Ok verbs.Full else
    if bytes_eq word (codes "style") then Ok verbs.Style else Err Form

-- it may stand in this place
abbrev pub standing : Place → Verb → Result Verb FeedWhy
standing place verb = if may_stand place verb then Ok verb else Err Form

-- the spot of a row by its three words
abbrev pub spot_in : (table : List ℕ) → Kind → (id : List ℕ) → Result SpotOf FeedWhy
spot_in table kind id =
    table_in table >>= λ table.
    id_in id >>= λ id.
    Ok (record { table = table; key = record { kind = kind; id = id } })

abbrev pub spot_by : (table letter id : List ℕ) → Result SpotOf FeedWhy
spot_by table letter id = kind_in letter >>= λ kind. spot_in table kind id

-- the number, and the bytes, that the one word left is
abbrev pub version_by : List (List ℕ) → Result ℕ FeedWhy
version_by words = last_word words >>= λ digits. version_in digits

abbrev pub bytes_by : List (List ℕ) → Result (List ℕ) FeedWhy
bytes_by words = last_word words >>= λ digits. hex_in digits

-- the lines by what stands behind their first words
unfoldable pub opened_by : (ℕ → FeedLine) → List (List ℕ) → Result FeedLine FeedWhy
opened_by line words = version_by words >>= λ version. Ok (line version)

unfoldable pub spelled_by : (List ℕ → FeedLine) → List (List ℕ) → Result FeedLine FeedWhy
spelled_by line words = bytes_by words >>= λ bytes. Ok (line bytes)

unfoldable pub set_by : List (List ℕ) → Result FeedLine FeedWhy
set_by words =
    next_word words >>= λ (table, behind).
    next_word behind >>= λ (letter, behind).
    next_word behind >>= λ (id, behind).
    last_word behind >>= λ digits.
    spot_by table letter id >>= λ spot.
    hex_in digits >>= λ bytes.
    Ok (lines.Set spot bytes)

unfoldable pub del_by : List (List ℕ) → Result FeedLine FeedWhy
del_by words =
    next_word words >>= λ (table, behind).
    next_word behind >>= λ (letter, behind).
    last_word behind >>= λ id.
    spot_by table letter id >>= λ spot.
    Ok (lines.Del spot)

unfoldable pub behind : Verb → List (List ℕ) → Result FeedLine FeedWhy
behind verbs.Full words = opened_by lines.Full words
behind verbs.Delta words = opened_by lines.Delta words
behind verbs.Style words = spelled_by lines.Style words
behind verbs.More words = spelled_by lines.More words
behind verbs.Set words = set_by words
behind verbs.Del words = del_by words
behind verbs.End [] = Ok lines.End
behind verbs.End (word ∷ words) = Err Form

-- the line that words are, in this place
unfoldable pub line_of : Place → List (List ℕ) → Result FeedLine FeedWhy
line_of place [] = Err Form
line_of place (word ∷ words) = verb_in word >>= λ verb. standing place verb >>= λ verb. behind verb words

-- the line that bytes are, in this place, or its first cause
unfoldable pub line_in : Place → List ℕ → Result FeedLine FeedWhy
line_in place line = line_of place (words_of line)

-- what the first word of a line said
abbrev pub verb_of : FeedLine → Verb
verb_of (lines.Full version) = verbs.Full
verb_of (lines.Delta version) = verbs.Delta
verb_of (lines.Style bytes) = verbs.Style
verb_of (lines.Set spot bytes) = verbs.Set
verb_of (lines.Del spot) = verbs.Del
verb_of (lines.More bytes) = verbs.More
verb_of lines.End = verbs.End
