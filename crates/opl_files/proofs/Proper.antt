-- The entry that a line is read as has an object of its key's kind.
use Rattle.std.proofs.Common.{◌≡◌, ℕ, Bool, true, false, cond, ◌&&◌, nat_le, nat_eq, Some, None, List, [], ◌∷◌, ◌++◌, take, drop, refl, ap}
use Rattle.std.proofs.Common.{subst}
use Rattle.std.proofs.lemmas.Bool.{leb-true}
use Rattle.std.specs.Prelude.{Result, Ok, Err}
use Rattle.std.specs.List.{AllByRecursion, slice_split}
use Rattle.std.specs.Str.Parse.{digits_value}
use Rattle.osm_base.specs.declared.values.key.TheConstants.{MAX_ID}
use Rattle.osm_base.specs.declared.values.key.Kind.{Kind}
use Rattle.osm_base.specs.declared.values.key.Kind.TheVariants as kinds
use Rattle.osm_base.specs.declared.values.object.Entry.{Entry}
use Rattle.osm_base.specs.declared.values.object.Object.{Object}
use Rattle.osm_base.specs.declared.values.object.Object.TheVariants as objects
use Rattle.osm_base.specs.values.Key.{KeyOf, IsId}
use Rattle.opl_object.specs.declared.letter.Letter.{Letter}
use Rattle.opl_object.specs.declared.letter.Letter.TheVariants.{Version, Visible, Changeset, Time, UserId, User, Tags, Lon, Lat, Nodes}
use Rattle.opl_object.specs.declared.letter.Letter.TheVariants.{Members}
use Rattle.opl_object.specs.declared.parts.Parts.{Parts}
use Rattle.opl_object.specs.declared.why.Why.{Why}
use Rattle.opl_object.specs.declared.why.Why.TheVariants as causes
use Rattle.opl_object.specs.Coordinate.{coordinate}
use Rattle.opl_object.specs.Fields.{fields_of, is_empty, is, behind}
use Rattle.opl_object.specs.Letter.{none_stood, also, letter_at}
use Rattle.opl_object.specs.Line.{is_skipped, utf8_of, key_of, place_of, object_of, entry_of, entry_from, reading}
use Rattle.opl_object.specs.Members.{members_of}
use Rattle.opl_object.specs.Nodes.{digits_len, numbered, placed, node_of, with_node, nodes_of}
use Rattle.opl_object.specs.Number.{are_digits, id_of}
use Rattle.opl_object.specs.Parts.{nothing, with_visible, with_lon, with_lat, with_value, new_field, with_field, parts_of}
use Rattle.opl_object.specs.Tags.{tags_of}
use Rattle.opl_object.specs.Text.{text_of}
use Rattle.opl_object.specs.Why.{◌>>=◌, each_piece, given}
use Rattle.object_fold.specs.Change.{IsOfKind, IsProper}

-- steps of a reading

two_steps : {A B : Type 0} (first : Result A Why) (next : A → Result B Why) (end : B) → (first >>= next) ≡ Ok end
    → (middle : A) × (first ≡ Ok middle) × (next middle ≡ Ok end)
two_steps (Ok middle) next end e = (middle, refl, e)
two_steps (Err why) next end e = absurd (cc)

same_ok : {A : Type 0} (x y : A) → ◌≡◌ {A = Result A Why} (Ok x) (Ok y) → x ≡ y
same_ok x y e = cc

chosen : {A : Type 0} (b : Bool) (x y : A) (why : Why) → ◌≡◌ {A = Result A Why} (cond b (Ok x) (Err why)) (Ok y) → (b ≡ true) × (x ≡ y)
chosen true x y why e = (refl, cc)
chosen false x y why e = absurd (cc)

left : (a b : Bool) → (a && b) ≡ true → a ≡ true
left true b e = refl
left false b e = absurd (cc)

right : (a b : Bool) → (a && b) ≡ true → b ≡ true
right true b e = e
right false b e = absurd (cc)

-- ids

id_of-IsId : (text : List ℕ) (id : ℕ) → id_of text ≡ Ok id → IsId id
unfolding id_of
id_of-IsId text id e =
    let value = digits_value 10 text in
    let p = chosen (are_digits 19 text && (nat_le 1 value && nat_le value MAX_ID)) value id causes.Id e in
    let within = right (are_digits 19 text) (nat_le 1 value && nat_le value MAX_ID) p.0 in
    subst IsId p.1 (record {
      least = leb-true 1 value (left (nat_le 1 value) (nat_le value MAX_ID) within);
      greatest = leb-true value MAX_ID (right (nat_le 1 value) (nat_le value MAX_ID) within);
    })

numbered-IsId : (text : List ℕ) (found : ℕ × List ℕ) → numbered text ≡ Ok found → IsId found.0
unfolding numbered
numbered-IsId text found e =
    let front = take (digits_len text) text in
    let behind = drop (digits_len text) text in
    let a = two_steps (id_of front) (λ id. Ok (id, behind)) found e in
    subst IsId (ap (λ (own : ℕ × List ℕ). own.0) (same_ok (a.0, behind) found a.2)) (id_of-IsId front a.0 a.1)

node_of-IsId : (piece : List ℕ) (id : ℕ) → node_of piece ≡ Ok id → IsId id
unfolding node_of
node_of-IsId piece id e =
    let a = two_steps (given causes.Member (behind 110 piece))
    (λ rest. numbered rest >>= λ found. placed found.1 >>= λ _. Ok found.0) id e in
    let b = two_steps (numbered a.0) (λ found. placed found.1 >>= λ _. Ok found.0) id a.2 in
    let d = two_steps (placed b.0.1) (λ _. Ok b.0.0) id b.2 in
    subst IsId (same_ok b.0.0 id d.2) (numbered-IsId a.0 b.0 b.1)

all_pushed : (ids : List ℕ) (id : ℕ) → AllByRecursion IsId ids → IsId id → AllByRecursion IsId (ids ++ id ∷ [])
all_pushed [] id h p = (p, tt)
all_pushed (first ∷ ids) id h p = (h.0, all_pushed ids id h.1 p)

nodes_from : (front : List ℕ) (pieces : List (List ℕ)) (nodes : List ℕ) → AllByRecursion IsId front
    → each_piece with_node front pieces ≡ Ok nodes → AllByRecursion IsId nodes
unfolding each_piece
nodes_from front [] nodes h e = subst (AllByRecursion IsId) (same_ok front nodes e) h
nodes_from front (piece ∷ pieces) nodes h e =
    let a = two_steps (with_node front piece) _ nodes e in
    let b = two_steps (node_of piece) _ a.0 a.1 in
    nodes_from a.0 pieces nodes (subst (AllByRecursion IsId) (same_ok _ a.0 b.2) (all_pushed front b.0 h (node_of-IsId piece b.0 b.1))) a.2

nodes_of-IsId : (text nodes : List ℕ) → nodes_of text ≡ Ok nodes → AllByRecursion IsId nodes
unfolding nodes_of
nodes_of-IsId text nodes e =
    elim (is_empty text) as (λ b. cond b (Ok []) (each_piece with_node [] (slice_split (is 44) text)) ≡ Ok nodes
    → AllByRecursion IsId nodes) [
      | true ↦ λ same. subst (AllByRecursion IsId) (same_ok [] nodes same) tt
      | false ↦ nodes_from [] (slice_split (is 44) text) nodes tt
    ] e

-- the parts of an object

abbrev Nodes_are_ids : Parts → Type 0
Nodes_are_ids parts = AllByRecursion IsId parts.nodes

like : (old new : Parts) → ◌≡◌ {A = Result Parts Why} (Ok old) (Ok new) → Nodes_are_ids old → Nodes_are_ids new
like old new e h = subst Nodes_are_ids (same_ok old new e) h

like_if : (b : Bool) (old new : Parts) (why : Why) → cond b (Ok old) (Err why) ≡ Ok new → Nodes_are_ids old → Nodes_are_ids new
like_if b old new why e h = subst Nodes_are_ids (chosen b old new why e).1 h

visible : (value : List ℕ) (old new : Parts) → with_visible value old ≡ Ok new → Nodes_are_ids old → Nodes_are_ids new
visible [] old new e h = absurd (cc)
visible (byte ∷ []) old new e h =
    elim (nat_eq byte 86) as (λ b. cond b (Ok old) (cond (nat_eq byte 68) (Ok (record old { deleted = true })) (Err causes.Field)) ≡ Ok new
    → Nodes_are_ids new) [
      | true ↦ λ same. like old new same h
      | false ↦ λ same. like_if (nat_eq byte 68) (record old { deleted = true }) new causes.Field same h
    ] e
visible (byte ∷ other ∷ rest) old new e h = absurd (cc)

lon : (value : List ℕ) (old new : Parts) → with_lon value old ≡ Ok new → Nodes_are_ids old → Nodes_are_ids new
lon value old new e h =
    elim (is_empty value) as (λ b. cond b (Ok old) (coordinate 1800000000 value >>= λ lon. Ok (record old { lon = Some lon })) ≡ Ok new
    → Nodes_are_ids new) [
      | true ↦ λ same. like old new same h
      | false ↦ λ same. let p = two_steps (coordinate 1800000000 value) _ new same in like (record old { lon = Some p.0 }) new p.2 h
    ] e

lat : (value : List ℕ) (old new : Parts) → with_lat value old ≡ Ok new → Nodes_are_ids old → Nodes_are_ids new
lat value old new e h =
    elim (is_empty value) as (λ b. cond b (Ok old) (coordinate 900000000 value >>= λ lat. Ok (record old { lat = Some lat })) ≡ Ok new
    → Nodes_are_ids new) [
      | true ↦ λ same. like old new same h
      | false ↦ λ same. let p = two_steps (coordinate 900000000 value) _ new same in like (record old { lat = Some p.0 }) new p.2 h
    ] e

value_of : (letter : Letter) (value : List ℕ) (old new : Parts) → with_value letter value old ≡ Ok new → Nodes_are_ids old
    → Nodes_are_ids new
unfolding with_value
value_of Version value old new e h = like_if _ old new _ e h
value_of Visible value old new e h = visible value old new e h
value_of Changeset value old new e h = like_if _ old new _ e h
value_of Time value old new e h = like_if _ old new _ e h
value_of UserId value old new e h = like_if _ old new _ e h
value_of User value old new e h = let p = two_steps (text_of value) (λ _. Ok old) new e in like old new p.2 h
value_of Tags value old new e h = let p = two_steps (tags_of value) (λ tags. Ok (record old { tags = tags })) new e in
    like (record old { tags = p.0 }) new p.2 h
value_of Lon value old new e h = lon value old new e h
value_of Lat value old new e h = lat value old new e h
value_of Nodes value old new e h = let p = two_steps (nodes_of value) (λ nodes. Ok (record old { nodes = nodes })) new e in
    like (record old { nodes = p.0 }) new p.2 (nodes_of-IsId value p.0 p.1)
value_of Members value old new e h = let p = two_steps (members_of value) (λ members. Ok (record old { members = members })) new e in
    like (record old { members = p.0 }) new p.2 h

abbrev Stood : Type 0
Stood = (Letter → Bool) × Parts

field_of : (kind : Kind) (old new : Stood) (field : List ℕ) → with_field kind old field ≡ Ok new → Nodes_are_ids old.1 → Nodes_are_ids new.1
field_of kind old new field e h =
    let a = two_steps (given causes.Field (letter_at kind field))
    (λ front. new_field old.0 front >>= λ found. with_value found.0 found.1 old.1 >>= λ parts. Ok (also old.0 found.0, parts)) new e in
    let b = two_steps (new_field old.0 a.0) (λ found. with_value found.0 found.1 old.1 >>= λ parts. Ok (also old.0 found.0, parts)) new
    a.2 in
    let c = two_steps (with_value b.0.0 b.0.1 old.1) (λ parts. Ok (also old.0 b.0.0, parts)) new b.2 in
    subst Nodes_are_ids (ap (λ (stood : Stood). stood.1) (same_ok (also old.0 b.0.0, c.0) new c.2)) (value_of b.0.0 b.0.1 old.1 c.0 c.1 h)

fields_from : (kind : Kind) (old new : Stood) (fields : List (List ℕ)) → each_piece (with_field kind) old fields ≡ Ok new
    → Nodes_are_ids old.1 → Nodes_are_ids new.1
unfolding each_piece
fields_from kind old new [] e h = subst (λ (stood : Stood). Nodes_are_ids stood.1) (same_ok old new e) h
fields_from kind old new (field ∷ fields) e h =
    let a = two_steps (with_field kind old field) _ new e in
    fields_from kind a.0 new fields a.2 (field_of kind old a.0 field a.1 h)

parts_of-nodes : (kind : Kind) (fields : List (List ℕ)) (parts : Parts) → parts_of kind fields ≡ Ok parts → Nodes_are_ids parts
unfolding parts_of
parts_of-nodes kind fields parts e =
    let a = two_steps (each_piece (with_field kind) (none_stood, nothing) fields) (λ last. Ok last.1) parts e in
    like a.0.1 parts a.2 (fields_from kind (none_stood, nothing) a.0 fields a.1 tt)

-- the object and the entry

object_of-IsOfKind : (kind : Kind) (parts : Parts) (object : Object) → object_of kind parts ≡ Ok object → Nodes_are_ids parts
    → IsOfKind kind object
object_of-IsOfKind kinds.Node parts object e h =
    let a = two_steps (place_of parts.lon parts.lat) (λ place. Ok (objects.Node place parts.tags)) object e in
    subst (IsOfKind kinds.Node) (same_ok (objects.Node a.0 parts.tags) object a.2) tt
object_of-IsOfKind kinds.Way parts object e h = subst (IsOfKind kinds.Way) (same_ok (objects.Way parts.nodes parts.tags) object e) h
object_of-IsOfKind kinds.Relation parts object e h =
    subst (IsOfKind kinds.Relation) (same_ok (objects.Relation parts.members parts.tags) object e) tt

proper_if : (key : KeyOf) (b : Bool) (object : Object) → IsOfKind key.kind object
    → IsProper (record { key = key; object = cond b None (Some object) })
proper_if key true object h = tt
proper_if key false object h = h

entry_of-IsProper : (key : KeyOf) (parts : Parts) (entry : Entry) → entry_of key parts ≡ Ok entry → Nodes_are_ids parts → IsProper entry
unfolding entry_of
entry_of-IsProper key parts entry e h =
    let a = two_steps (object_of key.kind parts) _ entry e in
    subst IsProper (same_ok _ entry a.2) (proper_if key parts.deleted a.0 (object_of-IsOfKind key.kind parts a.0 a.1 h))

entry_from-IsProper : (fields : List (List ℕ)) (entry : Entry) → entry_from fields ≡ Ok entry → IsProper entry
unfolding entry_from
entry_from-IsProper [] entry e = absurd (cc)
entry_from-IsProper (first ∷ fields) entry e =
    let a = two_steps (key_of first) _ entry e in
    let b = two_steps (parts_of a.0.kind fields) _ entry a.2 in
    entry_of-IsProper a.0 b.0 entry b.2 (parts_of-nodes a.0.kind fields b.0 b.1)

pub reading-IsProper : (line : List ℕ) (entry : Entry) → reading line ≡ Ok (Some entry) → IsProper entry
unfolding reading
reading-IsProper line entry e =
    elim (is_skipped line) as (λ b. cond b (Ok None) (utf8_of line >>= λ text. entry_from (fields_of text) >>= λ entry. Ok (Some entry))
    ≡ Ok (Some entry) → IsProper entry) [
      | true ↦ λ same. absurd (cc)
      | false ↦ λ same.
          let a = two_steps (utf8_of line) _ (Some entry) same in
          let b = two_steps (entry_from (fields_of a.0)) _ (Some entry) a.2 in
          let own : b.0 ≡ entry = cc in
          subst IsProper own (entry_from-IsProper (fields_of a.0) b.0 b.1)
    ] e
