-- The letters of the fields.
-- osmium "OPL File Format": the first character of a field says what its value is; v d c t i u T stand in all
-- lines, x and y in those of nodes, N in those of ways, M in those of relations.
use Rattle.std.specs.Prelude.{ℕ, ◌==◌, if◌then◌else◌, Bool, true, false, List, drop, slice_index, Option, None, Some}
use Rattle.std.specs.Option.{option_map}
use Rattle.osm_base.specs.declared.values.key.Kind.{Kind}
use Rattle.osm_base.specs.declared.values.key.Kind.TheVariants as kinds
use Rattle.opl_object.specs.declared.ascii.TheConstants.{CAPITAL_M, CAPITAL_N, CAPITAL_T, SMALL_C, SMALL_D, SMALL_I, SMALL_T, SMALL_U}
use Rattle.opl_object.specs.declared.ascii.TheConstants.{SMALL_V, SMALL_X, SMALL_Y}
use Rattle.opl_object.specs.declared.letter.Letter.{Letter}
use Rattle.opl_object.specs.declared.letter.Letter.TheVariants.{Version, Visible, Changeset, Time, UserId, User, Tags, Lon, Lat, Nodes}
use Rattle.opl_object.specs.declared.letter.Letter.TheVariants.{Members}

-- the letters of one kind
abbrev pub own_letter : Kind → ℕ → Option Letter
own_letter kinds.Node byte = if byte == SMALL_X then Some Lon else (if byte == SMALL_Y then Some Lat else None)
own_letter kinds.Way byte = if byte == CAPITAL_N then Some Nodes else None
own_letter kinds.Relation byte = if byte == CAPITAL_M then Some Members else None

-- the letters of all kinds, and those of this one
unfoldable pub letter_of : Kind → ℕ → Option Letter
letter_of kind byte =
    if byte == SMALL_V then Some Version else
    if byte == SMALL_D then Some Visible else
    if byte == SMALL_C then Some Changeset else
    if byte == SMALL_T then Some Time else
    if byte == SMALL_I then Some UserId else
    if byte == SMALL_U then Some User else
    if byte == CAPITAL_T then Some Tags else own_letter kind byte

-- the letter in front of a field, and the value behind it
abbrev pub letter_at : Kind → List ℕ → Option (Letter × List ℕ)
letter_at kind field = option_map (λ letter. (letter, drop 1 field)) (letter_of kind (slice_index field 0))

-- the byte of a letter
abbrev pub byte_of : Letter → ℕ
byte_of Version = SMALL_V
byte_of Visible = SMALL_D
byte_of Changeset = SMALL_C
byte_of Time = SMALL_T
byte_of UserId = SMALL_I
byte_of User = SMALL_U
byte_of Tags = CAPITAL_T
byte_of Lon = SMALL_X
byte_of Lat = SMALL_Y
byte_of Nodes = CAPITAL_N
byte_of Members = CAPITAL_M

-- the letters that stood already, and this one
abbrev pub also : (Letter → Bool) → Letter → Letter → Bool
also stood letter other = if byte_of other == byte_of letter then true else stood other

-- no letter has stood yet
abbrev pub none_stood : Letter → Bool
none_stood letter = false

-- the letters that most lines begin with
abbrev pub head_stood : Letter → Bool
head_stood = also (also (also (also (also none_stood Version) Visible) Changeset) Time) UserId
