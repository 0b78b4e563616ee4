-- The members of a relation, and the kinds of objects.
-- osmium "OPL File Format": a line begins with n, w or r and an id; M has members that are separated by commas,
-- each such a letter, an id, an at sign and a role.
use Rattle.std.specs.Prelude.{ℕ, ◌==◌, if◌then◌else◌, List, [], ◌∷◌, ◌++◌, drop, slice_index, Option, None, Some, Result, Ok}
use Rattle.std.specs.List.{slice_split}
use Rattle.std.specs.Option.{option_map}
use Rattle.osm_base.specs.declared.values.key.Kind.{Kind}
use Rattle.osm_base.specs.declared.values.key.Kind.TheVariants.{Node, Way, Relation}
use Rattle.osm_base.specs.declared.values.object.Member.{Member}
use Rattle.osm_base.specs.values.Key.{KeyOf}
use Rattle.opl_object.specs.declared.ascii.TheConstants.{COMMA, AT, SMALL_N, SMALL_R, SMALL_W}
use Rattle.opl_object.specs.declared.why.Why.{Why}
use Rattle.opl_object.specs.declared.why.Why.TheVariants as causes
use Rattle.opl_object.specs.Fields.{is, is_empty, behind}
use Rattle.opl_object.specs.Nodes.{numbered}
use Rattle.opl_object.specs.Text.{text_of}
use Rattle.opl_object.specs.Why.{◌>>=◌, each_piece, given}

-- the kind that a letter stands for
unfoldable pub kind_of : ℕ → Option Kind
kind_of byte = if byte == SMALL_N then Some Node
    else (if byte == SMALL_W then Some Way else (if byte == SMALL_R then Some Relation else None))

-- the kind in front of a text, and what stands behind it
abbrev pub kind_at : List ℕ → Option (Kind × List ℕ)
kind_at text = option_map (λ kind. (kind, drop 1 text)) (kind_of (slice_index text 0))

-- the role after the at sign
abbrev pub with_role : KeyOf → List ℕ → Result Member Why
with_role key text = given causes.Member (behind AT text) >>= λ spelled. text_of spelled >>= λ role. Ok (record { key = key; role = role })

-- a member with its role
unfoldable pub member_of : List ℕ → Result Member Why
member_of piece = given causes.Member (kind_at piece) >>= λ front.
    numbered front.1 >>= λ found. with_role (record { kind = front.0; id = found.0 }) found.1

-- one member more
abbrev pub with_member : List Member → List ℕ → Result (List Member) Why
with_member members piece = member_of piece >>= λ member. Ok (members ++ member ∷ [])

-- nothing, or members separated by commas
unfoldable pub members_of : List ℕ → Result (List Member) Why
members_of text = if is_empty text then Ok [] else each_piece with_member [] (slice_split (is COMMA) text)
