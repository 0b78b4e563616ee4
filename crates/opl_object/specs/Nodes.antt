-- The node references of a way.
-- osmium "OPL File Format": N has node references that are separated by commas, each n and an id, and maybe x, y and a place.
use Rattle.std.specs.Prelude.{ℕ, ◌&&◌, ◌||◌, not, if◌then◌else◌, List, [], ◌∷◌, ◌++◌, take, drop, Option, None, Some, Result, Ok, Err}
use Rattle.std.specs.Prelude.{nat_abs}
use Rattle.std.specs.List.{slice_split, position_or_len}
use Rattle.std.specs.Char.{is_ascii_digit}
use Rattle.osm_base.specs.declared.values.place.TheConstants.{MAX_LON, MAX_LAT}
use Rattle.opl_object.specs.declared.ascii.TheConstants.{COMMA, SMALL_N, SMALL_X, SMALL_Y}
use Rattle.opl_object.specs.declared.why.Why.{Why}
use Rattle.opl_object.specs.declared.why.Why.TheVariants.{Member, HalfPlace}
use Rattle.opl_object.specs.Coordinate.{coordinate}
use Rattle.opl_object.specs.Fields.{is, is_empty, cut_at, behind}
use Rattle.opl_object.specs.Number.{id_of}
use Rattle.opl_object.specs.Why.{◌>>=◌, each_piece, given}

-- how many digits stand in front
abbrev pub digits_len : List ℕ → ℕ
digits_len text = position_or_len (λ byte. not (is_ascii_digit byte)) text

-- the digits in front as an id, and what stands after them
unfoldable pub numbered : List ℕ → Result (ℕ × List ℕ) Why
numbered text = id_of (take (digits_len text) text) >>= λ id. Ok (id, drop (digits_len text) text)

-- nothing on both sides, or a longitude and a latitude
unfoldable pub place_pair : List ℕ → List ℕ → Result (Unit {0}) Why
place_pair lon lat =
    if is_empty lon && is_empty lat then Ok tt
    else (if is_empty lon || is_empty lat then Err HalfPlace
    else (coordinate (nat_abs MAX_LON) lon >>= λ _. coordinate (nat_abs MAX_LAT) lat >>= λ _. Ok tt))

-- the parts before the first y and after it
abbrev pub place_parts : List ℕ × Option (List ℕ) → Result (Unit {0}) Why
place_parts (lon, None) = Err HalfPlace
place_parts (lon, Some lat) = place_pair lon lat

-- nothing after the id, or a place, which is not used
unfoldable pub placed : List ℕ → Result (Unit {0}) Why
placed text = if is_empty text then Ok tt
    else (given Member (behind SMALL_X text) >>= λ place. place_parts (cut_at (is SMALL_Y) place))

-- the id of a node reference
unfoldable pub node_of : List ℕ → Result ℕ Why
node_of piece = given Member (behind SMALL_N piece) >>= λ rest. numbered rest >>= λ found. placed found.1 >>= λ _. Ok found.0

-- one node reference more
abbrev pub with_node : List ℕ → List ℕ → Result (List ℕ) Why
with_node nodes piece = node_of piece >>= λ id. Ok (nodes ++ id ∷ [])

-- nothing, or node references separated by commas
unfoldable pub nodes_of : List ℕ → Result (List ℕ) Why
nodes_of text = if is_empty text then Ok [] else each_piece with_node [] (slice_split (is COMMA) text)
