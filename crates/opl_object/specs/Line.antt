-- One line: skipped, an entry, or the first cause against it.
-- osmium "OPL File Format": each line contains one object; its first field has the kind and the id.
use Rattle.std.specs.Prelude.{ℕ, ℤ, ◌==◌, ◌||◌, Bool, true, if◌then◌else◌, IsTrue, List, [], ◌∷◌, Option, None, Some, Result, Ok, Err}
use Rattle.std.specs.Str.{is_utf8}
use Rattle.osm_base.specs.declared.values.key.Kind.{Kind}
use Rattle.osm_base.specs.declared.values.key.Kind.TheVariants as kinds
use Rattle.osm_base.specs.declared.values.object.Entry.{Entry}
use Rattle.osm_base.specs.declared.values.object.Object.{Object}
use Rattle.osm_base.specs.declared.values.object.Object.TheVariants.{Node, Way, Relation}
use Rattle.osm_base.specs.values.Key.{KeyOf}
use Rattle.osm_base.specs.values.Place.{PlaceOf}
use Rattle.opl_object.specs.declared.ascii.TheConstants.{HASH, SMALL_C}
use Rattle.opl_object.specs.declared.parts.Parts.{Parts}
use Rattle.opl_object.specs.declared.why.Why.{Why}
use Rattle.opl_object.specs.declared.why.Why.TheVariants as causes
use Rattle.opl_object.specs.Fields.{fields_of}
use Rattle.opl_object.specs.Members.{kind_at}
use Rattle.opl_object.specs.Number.{id_of}
use Rattle.opl_object.specs.Parts.{parts_of}
use Rattle.opl_object.specs.Why.{◌>>=◌, given}

-- whether a line is skipped: it is empty, or begins with # or c
abbrev pub is_skipped : List ℕ → Bool
is_skipped [] = true
is_skipped (byte ∷ rest) = (byte == HASH) || (byte == SMALL_C)

-- a line that is skipped
abbrev pub IsSkipped : List ℕ → Type 0
IsSkipped line = IsTrue (is_skipped line)

-- a line that is UTF-8
abbrev pub utf8_of : List ℕ → Result (List ℕ) Why
utf8_of line = if is_utf8 line then Ok line else Err causes.Utf8

-- the first field: a kind and an id
unfoldable pub key_of : List ℕ → Result KeyOf Why
key_of field = given causes.Kind (kind_at field) >>= λ front. id_of front.1 >>= λ id. Ok (record { kind = front.0; id = id })

-- the place of a node: both coordinates or none
abbrev pub place_of : Option ℤ → Option ℤ → Result (Option PlaceOf) Why
place_of None None = Ok None
place_of (Some lon) (Some lat) = Ok (Some (record { lon = lon; lat = lat }))
place_of None (Some lat) = Err causes.HalfPlace
place_of (Some lon) None = Err causes.HalfPlace

-- the object of the fields
abbrev pub object_of : Kind → Parts → Result Object Why
object_of kinds.Node parts = place_of parts.lon parts.lat >>= λ place. Ok (Node place parts.tags)
object_of kinds.Way parts = Ok (Way parts.nodes parts.tags)
object_of kinds.Relation parts = Ok (Relation parts.members parts.tags)

-- the entry of the fields: no object where it is deleted
unfoldable pub entry_of : KeyOf → Parts → Result Entry Why
entry_of key parts = object_of key.kind parts >>= λ object. Ok (record { key = key; object = if parts.deleted then None else Some object })

-- the entry of a key and of the fields behind it
abbrev pub entry_behind : KeyOf → List (List ℕ) → Result Entry Why
entry_behind key fields = parts_of key.kind fields >>= λ parts. entry_of key parts

-- the entry of the fields of a line
unfoldable pub entry_from : List (List ℕ) → Result Entry Why
entry_from [] = Err causes.Kind
entry_from (first ∷ fields) = key_of first >>= λ key. entry_behind key fields

-- the entry of a line, where it is not skipped, or the first cause
unfoldable pub reading : List ℕ → Result (Option Entry) Why
reading line =
    if is_skipped line then Ok None
    else (utf8_of line >>= λ text. entry_from (fields_of text) >>= λ entry. Ok (Some entry))
