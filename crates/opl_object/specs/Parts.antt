-- What the fields of a line say, and their order.
-- osmium "OPL File Format": each field is a letter and its value.
use Rattle.std.specs.Prelude.{ℕ, ◌≡◌, ◌==◌, Bool, true, false, if◌then◌else◌, List, [], ◌∷◌, None, Some, Result, Ok, Err, nat_abs}
use Rattle.std.specs.FinMap as map
use Rattle.osm_base.specs.declared.values.key.Kind.{Kind}
use Rattle.osm_base.specs.declared.values.place.TheConstants.{MAX_LON, MAX_LAT}
use Rattle.opl_object.specs.declared.ascii.TheConstants.{CAPITAL_D, CAPITAL_V}
use Rattle.opl_object.specs.declared.letter.Letter.{Letter}
use Rattle.opl_object.specs.declared.letter.Letter.TheVariants.{Version, Visible, Changeset, Time, UserId, User, Tags, Lon, Lat, Nodes}
use Rattle.opl_object.specs.declared.letter.Letter.TheVariants.{Members}
use Rattle.opl_object.specs.declared.parts.Parts.{Parts}
use Rattle.opl_object.specs.declared.why.Why.{Why}
use Rattle.opl_object.specs.declared.why.Why.TheVariants as causes
use Rattle.opl_object.specs.Coordinate.{coordinate}
use Rattle.opl_object.specs.Fields.{is_empty, fields_of}
use Rattle.opl_object.specs.Letter.{letter_at, also, none_stood}
use Rattle.opl_object.specs.Members.{members_of}
use Rattle.opl_object.specs.Nodes.{nodes_of}
use Rattle.opl_object.specs.Number.{is_whole, is_time}
use Rattle.opl_object.specs.Tags.{tags_of}
use Rattle.opl_object.specs.Text.{text_of}
use Rattle.opl_object.specs.Why.{◌>>=◌, each_piece, given}

-- nothing has been said
abbrev pub nothing : Parts
nothing = record { deleted = false; lon = None; lat = None; tags = map.empty; nodes = []; members = [] }

-- a value that is checked and not used
abbrev pub checked : Why → Bool → Parts → Result Parts Why
checked why fits parts = if fits then Ok parts else Err why

-- V for an object that is there, D for one that is deleted
abbrev pub with_visible : List ℕ → Parts → Result Parts Why
with_visible (byte ∷ []) parts =
    if byte == CAPITAL_V then Ok parts
    else (if byte == CAPITAL_D then Ok (record parts { deleted = true }) else Err causes.Field)
with_visible _ parts = Err causes.Field

-- nothing, or a longitude
abbrev pub with_lon : List ℕ → Parts → Result Parts Why
with_lon value parts = if is_empty value then Ok parts
    else (coordinate (nat_abs MAX_LON) value >>= λ lon. Ok (record parts { lon = Some lon }))

-- nothing, or a latitude
abbrev pub with_lat : List ℕ → Parts → Result Parts Why
with_lat value parts = if is_empty value then Ok parts
    else (coordinate (nat_abs MAX_LAT) value >>= λ lat. Ok (record parts { lat = Some lat }))

-- what the parts are with the value of a letter
unfoldable pub with_value : Letter → List ℕ → Parts → Result Parts Why
with_value Version value parts = checked causes.Number (is_whole value) parts
with_value Visible value parts = with_visible value parts
with_value Changeset value parts = checked causes.Number (is_whole value) parts
with_value Time value parts = checked causes.Number (is_time value) parts
with_value UserId value parts = checked causes.Number (is_whole value) parts
with_value User value parts = text_of value >>= λ _. Ok parts
with_value Tags value parts = tags_of value >>= λ tags. Ok (record parts { tags = tags })
with_value Lon value parts = with_lon value parts
with_value Lat value parts = with_lat value parts
with_value Nodes value parts = nodes_of value >>= λ nodes. Ok (record parts { nodes = nodes })
with_value Members value parts = members_of value >>= λ members. Ok (record parts { members = members })

-- the letter and the value of a field, where none of the fields before has that letter
abbrev pub new_field : (Letter → Bool) → Letter × List ℕ → Result (Letter × List ℕ) Why
new_field stood field = if stood field.0 then Err causes.Repeated else Ok field

-- one field more: its letter stands from now on
abbrev pub with_field : Kind → (Letter → Bool) × Parts → List ℕ → Result ((Letter → Bool) × Parts) Why
with_field kind so_far field = given causes.Field (letter_at kind field) >>= λ front. new_field so_far.0 front >>= λ found.
    with_value found.0 found.1 so_far.1 >>= λ parts. Ok (also so_far.0 found.0, parts)

-- what the fields of a text say behind others, from left to right
abbrev pub said_behind : Kind → (Letter → Bool) × Parts → List ℕ → Result ((Letter → Bool) × Parts) Why
said_behind kind so_far text = each_piece (with_field kind) so_far (fields_of text)

-- a text begins with a field of this letter that no parts keep, and the rest stands behind it
abbrev pub PassesLetter : Letter → List ℕ → List ℕ → Type 0
PassesLetter letter text rest = (kind : Kind) (stood : Letter → Bool) (parts : Parts) → stood letter ≡ false
    → said_behind kind (also stood letter, parts) rest ≡ said_behind kind (stood, parts) text

-- what the fields say, from left to right
unfoldable pub parts_of : Kind → List (List ℕ) → Result Parts Why
parts_of kind fields = each_piece (with_field kind) (none_stood, nothing) fields >>= λ last. Ok last.1
