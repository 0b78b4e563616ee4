-- The line that is written spells its entry.
use Rattle.std.proofs.Common.{◌≡◌, ◌≢◌, ℕ, zero, suc, ◌^◌, ◌<◌, ◌≤◌, Bool, true, false, not, ◌&&◌, T, List, [], ◌∷◌, ◌++◌, Option, Some}
use Rattle.std.proofs.Common.{None, refl, sym, ◌∙◌, ap, subst, arith, inl, inr}
use Rattle.std.proofs.Common.{map as each}
use Rattle.std.specs.Prelude.{codes, decimal, flat_map, ℤ, nat_abs, IfSome}
use Rattle.std.specs.FinMap as map
use Rattle.std.specs.FinMap.{is_sorted}
use Rattle.std.specs.FinMap.Entries.{below_all}
use Rattle.std.specs.Ordering.{nat_cmp, is_lt}
use Rattle.std.specs.declared.cmp.Ordering.TheVariants.{Equal}
use Rattle.std.proofs.lemmas.Cmp.{tied_itself}
use Rattle.std.specs.Cmp.Lexicographic.{slice_cmp, nat_list_cmp_total}
use Rattle.std.specs.List.{AllByRecursion, join_by, join_with_byte, filter, slice_split}
use Rattle.std.specs.Str.{IsUtf8, IsAscii}
use Rattle.std.proofs.lemmas.Bool.Decides.{nat_tests}
use Rattle.std.proofs.lemmas.List.{append-nil}
use Rattle.std.proofs.lemmas.List.Splits.{slice_split-cons_yes}
use Rattle.std.proofs.lemmas.Str.{IsUtf8-from_ascii}
use Rattle.osm_base.specs.declared.values.key.Kind.{Kind}
use Rattle.osm_base.specs.declared.values.key.Kind.TheVariants as kinds
use Rattle.osm_base.specs.declared.values.object.Entry.{Entry}
use Rattle.osm_base.specs.declared.values.object.Object.{Object}
use Rattle.osm_base.specs.declared.values.object.Object.TheVariants as objects
use Rattle.osm_base.specs.declared.values.object.Member.{Member}
use Rattle.osm_base.specs.declared.values.place.TheConstants.{MAX_LON, MAX_LAT}
use Rattle.osm_base.specs.values.Degrees.{degrees}
use Rattle.osm_base.specs.values.Key.{KeyOf, IsId}
use Rattle.osm_base.specs.values.Place.{PlaceOf}
use Rattle.osm_base.specs.values.Tags.{TagMap}
use Rattle.osm_base.proofs.TagPlaces.{entries-from_entries}
use Rattle.opl_object.specs.declared.letter.Letter.{Letter}
use Rattle.opl_object.specs.declared.letter.Letter.TheVariants.{Version, Visible, Changeset, Time, UserId, User, Tags, Lon, Lat, Nodes}
use Rattle.opl_object.specs.declared.letter.Letter.TheVariants.{Members}
use Rattle.opl_object.specs.declared.parts.Parts.{Parts}
use Rattle.opl_object.specs.Escapes.{written_text, IsText, IsWithoutZero}
use Rattle.opl_object.specs.Fields.{is_blank, is_empty, fields_of}
use Rattle.opl_object.specs.Line.{IsSkipped}
use Rattle.opl_object.specs.Lists.{key_text, tag_text, tags_text, node_text, nodes_text, member_text, members_text, OfTag, OfTags, IsMember}
use Rattle.opl_object.specs.Spelling.{AreDistinct, SpellEach, SpellsList, SpellsTag, SpellsTags, SpellsNode, SpellsMember, kind_byte}
use Rattle.opl_object.specs.Spells.{Spells, Lacks, IsObject, IsPlace, SpellsDegrees}
use Rattle.opl_object.specs.Written.{line_text, IsOfKind, HasIds, HasNoZero, IsWritable, IsSound}
use Rattle.opl_object.proofs.Cuts.{is_empty-cons}
use Rattle.opl_object.proofs.SpelledTexts.{IsFree, onto_front, split_over, split_free}
use Rattle.opl_object.proofs.WrittenNumbers.{id_spelled, decimal_visible, coordinate_spelled, coordinate_visible, lon_near, lat_near}
use Rattle.opl_object.proofs.WrittenTexts.{IsVisible, AreVisible, visible, visible-append, written_visible, written_spells}

-- ---- fields between spaces

not_blank : (byte : ℕ) → 33 ≤ byte → is_blank byte ≡ false
not_blank byte least = grind (arith, nat_tests)

free : (text : List ℕ) → AreVisible text → IsFree is_blank text
free [] all = tt
free (byte ∷ text) all = (not_blank byte all.0.least, free text all.1)

-- a field, and then a space and others
pub field-then : (byte : ℕ) (text rest : List ℕ) → AreVisible (byte ∷ text)
    → fields_of ((byte ∷ text) ++ 32 ∷ rest) ≡ (byte ∷ text) ∷ fields_of rest
unfolding fields_of
field-then byte text rest all =
    let cut : slice_split is_blank ((byte ∷ text) ++ 32 ∷ rest) ≡ (byte ∷ text) ∷ slice_split is_blank rest =
    split_over is_blank (byte ∷ text) (32 ∷ rest) (free (byte ∷ text) all)
    ∙ ap (onto_front (byte ∷ text)) (slice_split-cons_yes is_blank 32 rest refl)
    ∙ ap (λ front. front ∷ slice_split is_blank rest) (append-nil (byte ∷ text)) in
    ap (filter (λ piece. not (is_empty piece))) cut ∙ rw (is_empty-cons byte text) refl

-- the last field
pub field-last : (byte : ℕ) (text : List ℕ) → AreVisible (byte ∷ text) → fields_of (byte ∷ text) ≡ (byte ∷ text) ∷ []
unfolding fields_of
field-last byte text all = ap (filter (λ piece. not (is_empty piece))) (split_free is_blank (byte ∷ text) (free (byte ∷ text) all))
    ∙ rw (is_empty-cons byte text) refl

-- ---- lists

module _ {X : Type 0} (f : X → List ℕ) where
  commas : (item : X) (items : List X) → join_by f (44 ∷ []) (item ∷ items) ≡ join_with_byte 44 (f item ∷ each f items)
  commas item [] = append-nil (f item)
  commas item (next ∷ items) = ap (λ rest. f item ++ 44 ∷ rest) (commas next items)

  each_spelled : (Spell : List ℕ → X → Type 0) (items : List X) → AllByRecursion (λ item. Spell (f item) item) items
      → SpellEach Spell (each f items) items
  each_spelled Spell [] all = tt
  each_spelled Spell (item ∷ items) all = (all.0, each_spelled Spell items all.1)

  pub list_spelled : (Spell : List ℕ → X → Type 0) (items : List X) → AllByRecursion (λ item. Spell (f item) item) items
      → SpellsList Spell (join_by f (44 ∷ []) items) items
  list_spelled Spell [] all = inl (refl, refl)
  list_spelled Spell (item ∷ items) all = inr (f item, each f items, commas item items, each_spelled Spell (item ∷ items) all)

  later_visible : (items : List X) → AllByRecursion (λ item. AreVisible (f item)) items → AreVisible (flat_map (λ x. 44 ∷ [] ++ f x) items)
  later_visible [] all = tt
  later_visible (item ∷ items) all = (
    visible 44 (omega arith) (omega arith),
    visible-append (f item) (flat_map (λ x. 44 ∷ [] ++ f x) items) all.0 (later_visible items all.1),
  )

  pub list_visible : (items : List X) → AllByRecursion (λ item. AreVisible (f item)) items → AreVisible (join_by f (44 ∷ []) items)
  list_visible [] all = tt
  list_visible (item ∷ items) all = visible-append (f item) (flat_map (λ x. 44 ∷ [] ++ f x) items) all.0 (later_visible items all.1)

-- ---- tags

tag_spelled : (tag : List ℕ × List ℕ) → OfTag IsText tag → OfTag IsWithoutZero tag → SpellsTag (tag_text tag) tag
tag_spelled tag all some = record {
  key = written_text tag.0;
  value = written_text tag.1;
  form = join (written_text tag.0) (written_text tag.1);
  key_text = written_spells tag.0 all.0 some.0;
  value_text = written_spells tag.1 all.1 some.1;
} where
  join : (key value : List ℕ) → (key ++ 61 ∷ []) ++ value ≡ key ++ 61 ∷ value
  join [] value = refl
  join (byte ∷ key) value = ap (λ rest. byte ∷ rest) (join key value)

tags_spelled_each : (pairs : List (List ℕ × List ℕ)) → AllByRecursion (OfTag IsText) pairs → AllByRecursion (OfTag IsWithoutZero) pairs
    → AllByRecursion (λ tag. SpellsTag (tag_text tag) tag) pairs
tags_spelled_each [] all some = tt
tags_spelled_each (tag ∷ pairs) all some = (tag_spelled tag all.0 some.0, tags_spelled_each pairs all.1 some.1)

tag_visible : (pairs : List (List ℕ × List ℕ)) → AllByRecursion (λ tag. AreVisible (tag_text tag)) pairs
tag_visible [] = tt
tag_visible (tag ∷ pairs) = (
  visible-append (written_text tag.0 ++ 61 ∷ []) (written_text tag.1)
      (visible-append (written_text tag.0) (61 ∷ []) (written_visible tag.0) (visible 61 (omega arith) (omega arith), tt))
      (written_visible tag.1),
  tag_visible pairs,
)

pub tags_visible : (tags : TagMap) → AreVisible (tags_text tags)
unfolding tags_text
tags_visible tags = list_visible tag_text (map.entries tags) (tag_visible (map.entries tags))

both_left : (a b : Bool) → T (a && b) → T a
both_left true b t = tt
both_left false b t = t

both_right : (a b : Bool) → T (a && b) → T b
both_right true b t = t
both_right false b t = absurd t

not_itself : (key other : List ℕ) → T (is_lt (slice_cmp nat_cmp key other)) → key ≢ other
not_itself key other less same =
    let tied : slice_cmp nat_cmp key other ≡ Equal = ap (slice_cmp nat_cmp key) (sym same) ∙ tied_itself nat_list_cmp_total key in
    subst (λ order. T (is_lt order)) tied less

apart : (key : List ℕ) (pairs : List (List ℕ × List ℕ)) → T (below_all (slice_cmp nat_cmp) key pairs)
    → AllByRecursion (λ other. key ≢ other) (each (λ pair. pair.0) pairs)
apart key [] t = tt
apart key (pair ∷ pairs) t =
    let later = below_all (slice_cmp nat_cmp) key pairs in (
      not_itself key pair.0 (both_left (is_lt (slice_cmp nat_cmp key pair.0)) later t),
      apart key pairs (both_right (is_lt (slice_cmp nat_cmp key pair.0)) later t),
    )

keys_distinct : (pairs : List (List ℕ × List ℕ)) → T (is_sorted (slice_cmp nat_cmp) pairs) → AreDistinct (each (λ pair. pair.0) pairs)
keys_distinct [] t = tt
keys_distinct (pair ∷ pairs) t =
    let first = below_all (slice_cmp nat_cmp) pair.0 pairs in
    let later = is_sorted (slice_cmp nat_cmp) pairs in
    (apart pair.0 pairs (both_left first later t), keys_distinct pairs (both_right first later t))

pub tags_spelled : (tags : TagMap) → OfTags IsText tags → OfTags IsWithoutZero tags → SpellsTags (tags_text tags) tags
unfolding tags_text
tags_spelled tags all some = record {
  pairs = map.entries tags;
  list = list_spelled tag_text SpellsTag (map.entries tags) (tags_spelled_each (map.entries tags) all some);
  distinct = keys_distinct (map.entries tags) (map.entries_sorted tags);
  is = map.same_entries_map tags (map.from_entries (map.entries tags))
      (sym (entries-from_entries (map.entries tags) (map.entries_sorted tags)));
}

-- ---- nodes and members

small_id : (id : ℕ) → IsId id → id < 2 ^ 64
small_id id is_id = omega (arith, is_id.greatest)

node_spelled : (id : ℕ) → IsId id → SpellsNode (node_text id) id
node_spelled id is_id = record {
  digits = decimal id;
  place = [];
  form = ap (λ digits. 110 ∷ digits) (sym (append-nil (decimal id)));
  number = id_spelled id is_id;
  places = inl refl;
}

pub nodes_spelled : (nodes : List ℕ) → AllByRecursion IsId nodes → SpellsList SpellsNode (nodes_text nodes) nodes
unfolding nodes_text
nodes_spelled nodes all = list_spelled node_text SpellsNode nodes (spelled nodes all) where
  spelled : (nodes : List ℕ) → AllByRecursion IsId nodes → AllByRecursion (λ id. SpellsNode (node_text id) id) nodes
  spelled [] all = tt
  spelled (id ∷ nodes) all = (node_spelled id all.0, spelled nodes all.1)

pub nodes_visible : (nodes : List ℕ) → AllByRecursion IsId nodes → AreVisible (nodes_text nodes)
unfolding nodes_text
nodes_visible nodes all = list_visible node_text nodes (seen nodes all) where
  seen : (nodes : List ℕ) → AllByRecursion IsId nodes → AllByRecursion (λ id. AreVisible (node_text id)) nodes
  seen [] all = tt
  seen (id ∷ nodes) all = ((visible 110 (omega arith) (omega arith), decimal_visible id (small_id id all.0)), seen nodes all.1)

kind_visible : (kind : Kind) → IsVisible (kind_byte kind)
kind_visible kinds.Node = visible 110 (omega arith) (omega arith)
kind_visible kinds.Way = visible 119 (omega arith) (omega arith)
kind_visible kinds.Relation = visible 114 (omega arith) (omega arith)

pub key_visible : (key : KeyOf) → IsId key.id → AreVisible (key_text key)
key_visible key is_id = (kind_visible key.kind, decimal_visible key.id (small_id key.id is_id))

behind_key : (front role : List ℕ) → (front ++ 64 ∷ []) ++ role ≡ front ++ 64 ∷ role
behind_key [] role = refl
behind_key (byte ∷ front) role = ap (λ rest. byte ∷ rest) (behind_key front role)

member_spelled : (member : Member) → IsMember member → IsWithoutZero member.role → SpellsMember (member_text member) member
member_spelled member is_member some = record {
  digits = decimal member.key.id;
  role = written_text member.role;
  form = behind_key (key_text member.key) (written_text member.role);
  number = id_spelled member.key.id is_member.0;
  role_text = written_spells member.role is_member.1 some;
}

pub members_spelled : (members : List Member) → AllByRecursion IsMember members
    → AllByRecursion (λ member. IsWithoutZero member.role) members → SpellsList SpellsMember (members_text members) members
unfolding members_text
members_spelled members all some = list_spelled member_text SpellsMember members (spelled members all some) where
  spelled : (members : List Member) → AllByRecursion IsMember members → AllByRecursion (λ member. IsWithoutZero member.role) members
      → AllByRecursion (λ member. SpellsMember (member_text member) member) members
  spelled [] all some = tt
  spelled (member ∷ members) all some = (member_spelled member all.0 some.0, spelled members all.1 some.1)

pub members_visible : (members : List Member) → AllByRecursion IsMember members → AreVisible (members_text members)
unfolding members_text
members_visible members all = list_visible member_text members (seen members all) where
  seen : (members : List Member) → AllByRecursion IsMember members → AllByRecursion (λ member. AreVisible (member_text member)) members
  seen [] all = tt
  seen (member ∷ members) all = (
    visible-append (key_text member.key ++ 64 ∷ []) (written_text member.role)
        (visible-append (key_text member.key) (64 ∷ []) (key_visible member.key all.0.0) (visible 64 (omega arith) (omega arith), tt))
        (written_visible member.role),
    seen members all.1,
  )

-- ---- the whole line

abbrev AreAscii : List ℕ → Type 0
AreAscii text = AllByRecursion (λ byte. byte < 128) text

ascii_of : (text : List ℕ) → AreVisible text → AreAscii text
ascii_of [] all = tt
ascii_of (byte ∷ text) all = (omega (arith, all.0.most), ascii_of text all.1)

ascii-append : (front rest : List ℕ) → AreAscii front → AreAscii rest → AreAscii (front ++ rest)
ascii-append [] rest p q = q
ascii-append (byte ∷ front) rest p q = (p.0, ascii-append front rest p.1 q)

ascii_utf8 : (text : List ℕ) → AreAscii text → IsUtf8 text
ascii_utf8 text all = IsUtf8-from_ascii text (by_index text all) where
  by_index : (text : List ℕ) → AreAscii text → IsAscii text
  by_index [] all i = omega arith
  by_index (byte ∷ text) all zero = all.0
  by_index (byte ∷ text) all (suc i) = by_index text all.1 i

counted : (kind : Kind) (rest : List ℕ) → IsSkipped (kind_byte kind ∷ rest) → ⊥
counted kinds.Node rest skipped = absurd (cc)
counted kinds.Way rest skipped = absurd (cc)
counted kinds.Relation rest skipped = absurd (cc)

-- an object that is deleted
gone : Parts
gone = record { deleted = true; lon = None; lat = None; tags = map.empty; nodes = []; members = [] }

lacks_gone : (letter : Letter) → AllByRecursion {X = Letter × List ℕ} (λ field. letter ≢ field.0) ((Visible, 68 ∷ []) ∷ [])
    → Lacks letter gone
unfolding gone
lacks_gone Version h = tt
lacks_gone Visible h = absurd (h.0 refl)
lacks_gone Changeset h = tt
lacks_gone Time h = tt
lacks_gone UserId h = tt
lacks_gone User h = tt
lacks_gone Tags h = refl
lacks_gone Lon h = refl
lacks_gone Lat h = refl
lacks_gone Nodes h = refl
lacks_gone Members h = refl

module _ (key : KeyOf) (is_id : IsId key.id) where
  fields_gone : fields_of (key_text key ++ codes " dD") ≡ key_text key ∷ (100 ∷ 68 ∷ []) ∷ []
  fields_gone =
      field-then (kind_byte key.kind) (decimal key.id) (100 ∷ 68 ∷ []) (key_visible key is_id)
      ∙ ap (λ fields. key_text key ∷ fields) (field-last 100 (68 ∷ [])
      (visible 100 (omega arith) (omega arith), (visible 68 (omega arith) (omega arith), tt)))

  made_gone : (kind : Kind) → (object : Object) × IsObject kind gone object
  unfolding gone
  made_gone kinds.Node = (objects.Node None map.empty, (None, refl, refl))
  made_gone kinds.Way = (objects.Way [] map.empty, refl)
  made_gone kinds.Relation = (objects.Relation [] map.empty, refl)

  gone_spelled : Spells (key_text key ++ codes " dD") (record { key = key; object = None })
  unfolding gone
  gone_spelled = record {
    digits = decimal key.id;
    fields = (Visible, 68 ∷ []) ∷ [];
    parts = gone;
    object = (made_gone key.kind).0;
    counts = counted key.kind (decimal key.id ++ codes " dD");
    utf8 = ascii_utf8 (key_text key ++ codes " dD")
        (ascii-append (key_text key) (codes " dD") (ascii_of (key_text key) (key_visible key is_id))
        (omega arith, (omega arith, (omega arith, tt))));
    form = fields_gone;
    number = id_spelled key.id is_id;
    say = record { belong = (tt, tt); distinct = (tt, tt); says = (refl, tt); lacks = lacks_gone };
    made = (made_gone key.kind).1;
    is = refl;
  }

  -- a node
  module _ (tags : TagMap) (place : Option PlaceOf) (lon lat : Option ℤ) (east north : List ℕ) where
    node_parts : Parts
    node_parts = record { deleted = false; lon = lon; lat = lat; tags = tags; nodes = []; members = [] }

    node_fields : List (Letter × List ℕ)
    node_fields = (Tags, tags_text tags) ∷ (Lon, east) ∷ (Lat, north) ∷ []

    node_line : List ℕ
    node_line = key_text key ++ (codes " T" ++ tags_text tags ++ (codes " x" ++ east ++ (codes " y" ++ north)))

    lacks_node : (letter : Letter) → AllByRecursion (λ field. letter ≢ field.0) node_fields → Lacks letter node_parts
    unfolding node_parts node_fields
    lacks_node Version h = tt
    lacks_node Visible h = refl
    lacks_node Changeset h = tt
    lacks_node Time h = tt
    lacks_node UserId h = tt
    lacks_node User h = tt
    lacks_node Tags h = absurd (h.0 refl)
    lacks_node Lon h = absurd (h.1.0 refl)
    lacks_node Lat h = absurd (h.1.1.0 refl)
    lacks_node Nodes h = refl
    lacks_node Members h = refl

    node_spelled_so : key.kind ≡ kinds.Node → SpellsTags (tags_text tags) tags → AreVisible east → AreVisible north
        → SpellsDegrees (nat_abs MAX_LON) east lon → SpellsDegrees (nat_abs MAX_LAT) north lat
        → IsPlace lon lat place → Spells node_line (record { key = key; object = Some (objects.Node place tags) })
    unfolding node_parts node_fields node_line
    node_spelled_so kind tagged seen_east seen_north is_lon is_lat is_place =
        let tags_seen = tags_visible tags in
        let t : AreVisible (84 ∷ tags_text tags) = (visible 84 (omega arith) (omega arith), tags_seen) in
        let x : AreVisible (120 ∷ east) = (visible 120 (omega arith) (omega arith), seen_east) in
        let y : AreVisible (121 ∷ north) = (visible 121 (omega arith) (omega arith), seen_north) in
        let rest : List ℕ = codes " T" ++ tags_text tags ++ (codes " x" ++ east ++ (codes " y" ++ north)) in
        let ascii : AreAscii rest = (
          omega arith,
          ascii-append (84 ∷ tags_text tags) (codes " x" ++ east ++ (codes " y" ++ north)) (ascii_of (84 ∷ tags_text tags) t) (
            omega arith,
            ascii-append (120 ∷ east) (codes " y" ++ north) (ascii_of (120 ∷ east) x)
                (omega arith, ascii_of (121 ∷ north) y),
          ),
        ) in
        record {
          digits = decimal key.id;
          fields = node_fields;
          parts = node_parts;
          object = objects.Node place tags;
          counts = counted key.kind (decimal key.id ++ rest);
          utf8 = ascii_utf8 (key_text key ++ rest)
              (ascii-append (key_text key) rest (ascii_of (key_text key) (key_visible key is_id)) ascii);
          form = field-then (kind_byte key.kind) (decimal key.id) ((84 ∷ tags_text tags) ++ 32 ∷ ((120 ∷ east) ++ 32 ∷ (121 ∷ north)))
              (key_visible key is_id)
              ∙ ap (λ fields. key_text key ∷ fields) (field-then 84 (tags_text tags) ((120 ∷ east) ++ 32 ∷ (121 ∷ north)) t
              ∙ ap (λ fields. (84 ∷ tags_text tags) ∷ fields) (field-then 120 east (121 ∷ north) x
              ∙ ap (λ fields. (120 ∷ east) ∷ fields) (field-last 121 north y)));
          number = id_spelled key.id is_id;
          say = record {
            belong = (tt, (kind, (kind, tt)));
            distinct = ((λ e. absurd (cc), (λ e. absurd (cc), tt)), ((λ e. absurd (cc), tt), (tt, tt)));
            says = (tagged, (is_lon, (is_lat, tt)));
            lacks = lacks_node;
          };
          made = subst (λ kind. IsObject kind node_parts (objects.Node place tags)) (sym kind) (place, is_place, refl);
          is = refl;
        }

  -- a way
  module _ (tags : TagMap) (nodes : List ℕ) where
    way_parts : Parts
    way_parts = record { deleted = false; lon = None; lat = None; tags = tags; nodes = nodes; members = [] }

    way_fields : List (Letter × List ℕ)
    way_fields = (Tags, tags_text tags) ∷ (Nodes, nodes_text nodes) ∷ []

    lacks_way : (letter : Letter) → AllByRecursion (λ field. letter ≢ field.0) way_fields → Lacks letter way_parts
    unfolding way_parts way_fields
    lacks_way Version h = tt
    lacks_way Visible h = refl
    lacks_way Changeset h = tt
    lacks_way Time h = tt
    lacks_way UserId h = tt
    lacks_way User h = tt
    lacks_way Tags h = absurd (h.0 refl)
    lacks_way Lon h = refl
    lacks_way Lat h = refl
    lacks_way Nodes h = absurd (h.1.0 refl)
    lacks_way Members h = refl

    way_spelled_so : key.kind ≡ kinds.Way → SpellsTags (tags_text tags) tags → SpellsList SpellsNode (nodes_text nodes) nodes
        → AreVisible (nodes_text nodes)
        → Spells (key_text key ++ (codes " T" ++ tags_text tags ++ (codes " N" ++ nodes_text nodes)))
        (record { key = key; object = Some (objects.Way nodes tags) })
    unfolding way_parts way_fields
    way_spelled_so kind tagged listed seen =
        let tags_seen = tags_visible tags in
        let t : AreVisible (84 ∷ tags_text tags) = (visible 84 (omega arith) (omega arith), tags_seen) in
        let n : AreVisible (78 ∷ nodes_text nodes) = (visible 78 (omega arith) (omega arith), seen) in
        let rest : List ℕ = codes " T" ++ tags_text tags ++ (codes " N" ++ nodes_text nodes) in
        let ascii : AreAscii rest = (
          omega arith,
          ascii-append (84 ∷ tags_text tags) (codes " N" ++ nodes_text nodes) (ascii_of (84 ∷ tags_text tags) t)
              (omega arith, ascii_of (78 ∷ nodes_text nodes) n),
        ) in
        record {
          digits = decimal key.id;
          fields = way_fields;
          parts = way_parts;
          object = objects.Way nodes tags;
          counts = counted key.kind (decimal key.id ++ rest);
          utf8 = ascii_utf8 (key_text key ++ rest)
              (ascii-append (key_text key) rest (ascii_of (key_text key) (key_visible key is_id)) ascii);
          form = field-then (kind_byte key.kind) (decimal key.id) ((84 ∷ tags_text tags) ++ 32 ∷ (78 ∷ nodes_text nodes))
              (key_visible key is_id)
              ∙ ap (λ fields. key_text key ∷ fields) (field-then 84 (tags_text tags) (78 ∷ nodes_text nodes) t
              ∙ ap (λ fields. (84 ∷ tags_text tags) ∷ fields) (field-last 78 (nodes_text nodes) n));
          number = id_spelled key.id is_id;
          say = record {
            belong = (tt, (kind, tt));
            distinct = ((λ e. absurd (cc), tt), (tt, tt));
            says = (tagged, (listed, tt));
            lacks = lacks_way;
          };
          made = subst (λ kind. IsObject kind way_parts (objects.Way nodes tags)) (sym kind) refl;
          is = refl;
        }

  -- a relation
  module _ (tags : TagMap) (members : List Member) where
    relation_parts : Parts
    relation_parts = record { deleted = false; lon = None; lat = None; tags = tags; nodes = []; members = members }

    relation_fields : List (Letter × List ℕ)
    relation_fields = (Tags, tags_text tags) ∷ (Members, members_text members) ∷ []

    lacks_relation : (letter : Letter) → AllByRecursion (λ field. letter ≢ field.0) relation_fields → Lacks letter relation_parts
    unfolding relation_parts relation_fields
    lacks_relation Version h = tt
    lacks_relation Visible h = refl
    lacks_relation Changeset h = tt
    lacks_relation Time h = tt
    lacks_relation UserId h = tt
    lacks_relation User h = tt
    lacks_relation Tags h = absurd (h.0 refl)
    lacks_relation Lon h = refl
    lacks_relation Lat h = refl
    lacks_relation Nodes h = refl
    lacks_relation Members h = absurd (h.1.0 refl)

    relation_spelled_so : key.kind ≡ kinds.Relation → SpellsTags (tags_text tags) tags
        → SpellsList SpellsMember (members_text members) members → AreVisible (members_text members)
        → Spells (key_text key ++ (codes " T" ++ tags_text tags ++ (codes " M" ++ members_text members)))
        (record { key = key; object = Some (objects.Relation members tags) })
    unfolding relation_parts relation_fields
    relation_spelled_so kind tagged listed seen =
        let tags_seen = tags_visible tags in
        let t : AreVisible (84 ∷ tags_text tags) = (visible 84 (omega arith) (omega arith), tags_seen) in
        let n : AreVisible (77 ∷ members_text members) = (visible 77 (omega arith) (omega arith), seen) in
        let rest : List ℕ = codes " T" ++ tags_text tags ++ (codes " M" ++ members_text members) in
        let ascii : AreAscii rest = (
          omega arith,
          ascii-append (84 ∷ tags_text tags) (codes " M" ++ members_text members) (ascii_of (84 ∷ tags_text tags) t)
              (omega arith, ascii_of (77 ∷ members_text members) n),
        ) in
        record {
          digits = decimal key.id;
          fields = relation_fields;
          parts = relation_parts;
          object = objects.Relation members tags;
          counts = counted key.kind (decimal key.id ++ rest);
          utf8 = ascii_utf8 (key_text key ++ rest)
              (ascii-append (key_text key) rest (ascii_of (key_text key) (key_visible key is_id)) ascii);
          form = field-then (kind_byte key.kind) (decimal key.id) ((84 ∷ tags_text tags) ++ 32 ∷ (77 ∷ members_text members))
              (key_visible key is_id)
              ∙ ap (λ fields. key_text key ∷ fields) (field-then 84 (tags_text tags) (77 ∷ members_text members) t
              ∙ ap (λ fields. (84 ∷ tags_text tags) ∷ fields) (field-last 77 (members_text members) n));
          number = id_spelled key.id is_id;
          say = record {
            belong = (tt, (kind, tt));
            distinct = ((λ e. absurd (cc), tt), (tt, tt));
            says = (tagged, (listed, tt));
            lacks = lacks_relation;
          };
          made = subst (λ kind. IsObject kind relation_parts (objects.Relation members tags)) (sym kind) refl;
          is = refl;
        }

  -- the line of an entry
  fields_spelled : (object : Option Object) → IfSome object (IsOfKind key.kind) → IfSome object HasIds → IfSome object HasNoZero
      → IfSome object IsSound
      → Spells (line_text (record { key = key; object = object })) (record { key = key; object = object })
  unfolding line_text node_line
  fields_spelled None kind ids some sound = gone_spelled
  fields_spelled (Some (objects.Node None tags)) kind ids some sound =
      node_spelled_so tags None None None [] [] kind (tags_spelled tags sound.1 some) tt tt refl refl refl
  fields_spelled (Some (objects.Node (Some place) tags)) kind ids some sound =
      let lon = coordinate_spelled (nat_abs MAX_LON) place.lon (lon_near place.lon sound.0.east sound.0.west) (omega arith) in
      let lat = coordinate_spelled (nat_abs MAX_LAT) place.lat (lat_near place.lat sound.0.north sound.0.south) (omega arith) in
      node_spelled_so tags (Some place) (Some place.lon) (Some place.lat) (degrees place.lon) (degrees place.lat) kind
      (tags_spelled tags sound.1 some)
      (coordinate_visible (nat_abs MAX_LON) (degrees place.lon) place.lon lon)
      (coordinate_visible (nat_abs MAX_LAT) (degrees place.lat) place.lat lat) lon lat refl
  fields_spelled (Some (objects.Way nodes tags)) kind ids some sound =
      way_spelled_so tags nodes kind (tags_spelled tags sound some) (nodes_spelled nodes ids) (nodes_visible nodes ids)
  fields_spelled (Some (objects.Relation members tags)) kind ids some sound =
      relation_spelled_so tags members kind (tags_spelled tags sound.0 some.0) (members_spelled members sound.1 some.1)
      (members_visible members sound.1)

pub line_spelled : (entry : Entry) → IsWritable entry → IsId entry.key.id → IfSome entry.object IsSound → Spells (line_text entry) entry
line_spelled entry writable is_id sound = fields_spelled entry.key is_id entry.object writable.kind writable.ids writable.no_zero sound
