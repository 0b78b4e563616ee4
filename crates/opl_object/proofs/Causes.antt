-- The causes that one line may have: all but the order of lines.
use Rattle.std.proofs.Common.{◌≡◌, ℕ, Bool, true, false, cond, eqb, take, List, [], ◌∷◌, ◌++◌, Option, None, Some, Result, Ok, Err, subst}
use Rattle.std.specs.Prelude.{ℤ, nat_abs}
use Rattle.std.specs.List.{slice_split}
use Rattle.std.specs.Str.{is_utf8}
use Rattle.std.specs.Char.{encode_utf8}
use Rattle.std.specs.FinMap as map
use Rattle.osm_base.specs.declared.values.key.Kind.{Kind}
use Rattle.osm_base.specs.declared.values.key.Kind.TheVariants as kinds
use Rattle.osm_base.specs.declared.values.place.TheConstants.{MAX_LON, MAX_LAT}
use Rattle.osm_base.specs.values.Key.{KeyOf}
use Rattle.osm_base.specs.values.Tags.{TagMap}
use Rattle.opl_object.specs.declared.letter.Letter.{Letter}
use Rattle.opl_object.specs.declared.letter.Letter.TheVariants.{Version, Visible, Changeset, Time, UserId, User, Tags, Lon, Lat, Nodes}
use Rattle.opl_object.specs.declared.letter.Letter.TheVariants.{Members}
use Rattle.opl_object.specs.declared.parts.Parts.{Parts}
use Rattle.opl_object.specs.declared.why.Why.{Why}
use Rattle.opl_object.specs.declared.why.Why.TheVariants as causes
use Rattle.opl_object.specs.Coordinate.{coordinate}
use Rattle.opl_object.specs.Fields.{is, cut_at, behind, fields_of}
use Rattle.opl_object.specs.Line.{key_of, place_of, object_of, entry_of, entry_from, reading}
use Rattle.opl_object.specs.Letter.{letter_at, none_stood}
use Rattle.opl_object.specs.Members.{kind_at, with_role, member_of, with_member, members_of}
use Rattle.opl_object.specs.Nodes.{digits_len, numbered, place_pair, place_parts, placed, node_of, with_node, nodes_of}
use Rattle.opl_object.specs.Number.{id_of}
use Rattle.opl_object.specs.Parts.{nothing, with_visible, with_value, with_field, parts_of}
use Rattle.opl_object.specs.Tags.{with_pair, with_piece, tags_of}
use Rattle.opl_object.specs.Text.{escaped, resolved, bytes_of, text_of}
use Rattle.opl_object.specs.Why.{◌>>=◌, each_piece, given}

-- any cause but the order of lines
abbrev pub IsOwn : Why → Type 0
IsOwn (causes.Order earlier later) = ⊥
IsOwn _ = Unit {0}

abbrev pub HasOwn : {A : Type 0} → Result A Why → Type 0
HasOwn (Ok x) = Unit {0}
HasOwn (Err why) = IsOwn why

-- a value, or a cause that one line may have
pub record HasOwnCause {A : Type 0} (read : Result A Why) : Type 0 where
  pub own : HasOwn read

good : {A : Type 0} {x : A} → HasOwnCause (Ok x)
good = record { own = tt }

bad : {A : Type 0} (why : Why) → IsOwn why → HasOwnCause {A = A} (Err why)
bad why own = record { own = own }

own_then : {A B : Type 0} {read : Result A Why} {next : A → Result B Why} → HasOwnCause read → ((x : A) → HasOwnCause (next x))
    → HasOwnCause (read >>= next)
own_then {A} {B} {read} {next} own later = go read own where
  go : (r : Result A Why) → HasOwnCause r → HasOwnCause (r >>= next)
  go (Ok x) o = later x
  go (Err why) o = record { own = o.own }

own_choice : {A : Type 0} (test : Bool) {a b : Result A Why} → HasOwnCause a → HasOwnCause b → HasOwnCause (cond test a b)
own_choice true own other = own
own_choice false own other = other

own_given : {A : Type 0} (why : Why) (found : Option A) → IsOwn why → HasOwnCause (given why found)
own_given why None own = bad why own
own_given why (Some x) own = good

own_pieces : {A : Type 0} (step : A → List ℕ → Result A Why) → ((front : A) (piece : List ℕ) → HasOwnCause (step front piece))
    → (front : A) (pieces : List (List ℕ)) → HasOwnCause (each_piece step front pieces)
unfolding each_piece
own_pieces step own front [] = good
own_pieces step own front (piece ∷ pieces) = own_then (own front piece) (λ next. own_pieces step own next pieces)

own_id : (text : List ℕ) → HasOwnCause (id_of text)
unfolding id_of
own_id text = own_choice _ good (bad causes.Id tt)

own_coordinate : (greatest : ℕ) (text : List ℕ) → HasOwnCause (coordinate greatest text)
unfolding coordinate
own_coordinate greatest text = own_choice _ (own_choice _ good (bad causes.Range tt)) (bad causes.Number tt)

own_escaped : (digits : List ℕ) → HasOwnCause (escaped digits)
unfolding escaped
own_escaped digits = own_choice _ good (bad causes.Escape tt)

own_resolved : (text : List ℕ) (pieces : List (List ℕ)) → HasOwnCause (resolved text pieces)
unfolding resolved
own_resolved text [] = bad causes.Escape tt
own_resolved text (plain ∷ []) = own_choice _ good (bad causes.Escape tt)
own_resolved text (plain ∷ digits ∷ pieces) =
    own_choice _ (own_then (own_escaped digits) (λ code. own_resolved ((text ++ plain) ++ encode_utf8 code) pieces)) (bad causes.Escape tt)

own_text : (spelled : List ℕ) → HasOwnCause (text_of spelled)
unfolding text_of bytes_of
own_text spelled = own_then (own_resolved [] (slice_split (is 37) spelled)) (λ bytes. good)

own_pair : (tags : TagMap) (parts : List ℕ × Option (List ℕ)) → HasOwnCause (with_pair tags parts)
own_pair tags (key, None) = bad causes.Tag tt
own_pair tags (key, Some value) = own_then (own_text key)
    (λ key. own_then (own_text value) (λ value. own_choice _ (bad causes.RepeatedKey tt) good))

own_tags : (text : List ℕ) → HasOwnCause (tags_of text)
unfolding tags_of with_piece
own_tags text = own_choice _ good (own_pieces with_piece (λ tags piece. own_pair tags (cut_at (is 61) piece)) map.empty
    (slice_split (is 44) text))

own_numbered : (text : List ℕ) → HasOwnCause (numbered text)
unfolding numbered
own_numbered text = own_then (own_id (take (digits_len text) text)) (λ id. good)

own_place_pair : (lon lat : List ℕ) → HasOwnCause (place_pair lon lat)
unfolding place_pair
own_place_pair lon lat = own_choice _ good (own_choice _ (bad causes.HalfPlace tt)
    (own_then (own_coordinate (nat_abs MAX_LON) lon) (λ east. own_then (own_coordinate (nat_abs MAX_LAT) lat) (λ north. good))))

own_place_parts : (parts : List ℕ × Option (List ℕ)) → HasOwnCause (place_parts parts)
own_place_parts (lon, None) = bad causes.HalfPlace tt
own_place_parts (lon, Some lat) = own_place_pair lon lat

own_placed : (text : List ℕ) → HasOwnCause (placed text)
unfolding placed
own_placed text = own_choice _ good (own_then (own_given causes.Member (behind 120 text) tt)
    (λ place. own_place_parts (cut_at (is 121) place)))

own_node : (piece : List ℕ) → HasOwnCause (node_of piece)
unfolding node_of
own_node piece = own_then (own_given causes.Member (behind 110 piece) tt)
    (λ rest. own_then (own_numbered rest) (λ found. own_then (own_placed found.1) (λ last. good)))

own_nodes : (text : List ℕ) → HasOwnCause (nodes_of text)
unfolding nodes_of
own_nodes text = own_choice _ good (own_pieces with_node (λ nodes piece. own_then (own_node piece) (λ id. good)) []
    (slice_split (is 44) text))

own_role : (key : KeyOf) (text : List ℕ) → HasOwnCause (with_role key text)
own_role key text = own_then (own_given causes.Member (behind 64 text) tt) (λ spelled. own_then (own_text spelled) (λ role. good))

own_member : (piece : List ℕ) → HasOwnCause (member_of piece)
unfolding member_of
own_member piece = own_then (own_given causes.Member (kind_at piece) tt)
    (λ front. own_then (own_numbered front.1) (λ found. own_role (record { kind = front.0; id = found.0 }) found.1))

own_members : (text : List ℕ) → HasOwnCause (members_of text)
unfolding members_of
own_members text = own_choice _ good (own_pieces with_member (λ members piece. own_then (own_member piece) (λ member. good)) []
    (slice_split (is 44) text))

own_visible : (value : List ℕ) (parts : Parts) → HasOwnCause (with_visible value parts)
own_visible [] parts = bad causes.Field tt
own_visible (byte ∷ []) parts =
    own_choice (eqb byte 86) {a = Ok parts} {b = cond (eqb byte 68) (Ok (record parts { deleted = true })) (Err causes.Field)} good
    (own_choice (eqb byte 68) {a = Ok (record parts { deleted = true })} {b = Err causes.Field} good (bad causes.Field tt))
own_visible (byte ∷ next ∷ rest) parts = bad causes.Field tt

own_value : (letter : Letter) (value : List ℕ) (parts : Parts) → HasOwnCause (with_value letter value parts)
unfolding with_value
own_value Version value parts = own_choice _ good (bad causes.Number tt)
own_value Visible value parts = own_visible value parts
own_value Changeset value parts = own_choice _ good (bad causes.Number tt)
own_value Time value parts = own_choice _ good (bad causes.Number tt)
own_value UserId value parts = own_choice _ good (bad causes.Number tt)
own_value User value parts = own_then (own_text value) (λ name. good)
own_value Tags value parts = own_then (own_tags value) (λ tags. good)
own_value Lon value parts = own_choice _ good (own_then (own_coordinate (nat_abs MAX_LON) value) (λ lon. good))
own_value Lat value parts = own_choice _ good (own_then (own_coordinate (nat_abs MAX_LAT) value) (λ lat. good))
own_value Nodes value parts = own_then (own_nodes value) (λ nodes. good)
own_value Members value parts = own_then (own_members value) (λ members. good)

own_field : (kind : Kind) (so_far : (Letter → Bool) × Parts) (field : List ℕ) → HasOwnCause (with_field kind so_far field)
own_field kind so_far field = own_then (own_given causes.Field (letter_at kind field) tt) (λ front.
    own_then (own_choice (so_far.0 front.0) (bad causes.Repeated tt) good)
    (λ found. own_then (own_value found.0 found.1 so_far.1) (λ parts. good)))

own_parts : (kind : Kind) (fields : List (List ℕ)) → HasOwnCause (parts_of kind fields)
unfolding parts_of
own_parts kind fields = own_then (own_pieces (with_field kind) (own_field kind) (none_stood, nothing) fields) (λ last. good)

own_place : (lon lat : Option ℤ) → HasOwnCause (place_of lon lat)
own_place None None = good
own_place (Some lon) (Some lat) = good
own_place None (Some lat) = bad causes.HalfPlace tt
own_place (Some lon) None = bad causes.HalfPlace tt

own_object : (kind : Kind) (parts : Parts) → HasOwnCause (object_of kind parts)
own_object kinds.Node parts = own_then (own_place parts.lon parts.lat) (λ place. good)
own_object kinds.Way parts = good
own_object kinds.Relation parts = good

own_key : (field : List ℕ) → HasOwnCause (key_of field)
unfolding key_of
own_key field = own_then (own_given causes.Kind (kind_at field) tt) (λ front. own_then (own_id front.1) (λ id. good))

own_entry_of : (key : KeyOf) (parts : Parts) → HasOwnCause (entry_of key parts)
unfolding entry_of
own_entry_of key parts = own_then (own_object key.kind parts) (λ object. good)

own_entry : (fields : List (List ℕ)) → HasOwnCause (entry_from fields)
unfolding entry_from
own_entry [] = bad causes.Kind tt
own_entry (first ∷ fields) = own_then (own_key first) (λ key. own_then (own_parts key.kind fields) (λ parts. own_entry_of key parts))

own_reading : (line : List ℕ) → HasOwnCause (reading line)
unfolding reading
own_reading line = own_choice _ good (own_then (own_choice (is_utf8 line) good (bad causes.Utf8 tt))
    (λ text. own_then (own_entry (fields_of text)) (λ entry. good)))

-- so one line never has the order of lines as its cause
pub no_order : (line : List ℕ) (earlier later : KeyOf) → reading line ≡ Err (causes.Order earlier later) → ⊥
no_order line earlier later e = let own = subst HasOwnCause e (own_reading line) in own.own
