-- What the manual says of a line, on lines that are written out.
-- osmium manual, "OPL File Format": each line contains one object, and its first field has the kind and the id; all
-- other fields are a letter and a value. What osmium writes of the same lines is the same.
use Rattle.std.proofs.Common.{◌≡◌, [], ◌∷◌, None, Some, Ok, Err, cond, refl, ap, pos, neg_ℤ}
use lib.Utf8.{encode}
use Rattle.std.specs.Prelude.{codes}
use Rattle.std.specs.Cmp.Lexicographic.{slice_cmp}
use Rattle.std.specs.FinMap as map
use Rattle.std.specs.Fmt.{digits}
use Rattle.std.specs.Option.{is_some}
use Rattle.std.specs.Ordering.{nat_cmp}
use Rattle.std.specs.Str.{chars, is_utf8}
use Rattle.osm_base.specs.declared.values.key.Kind.TheVariants as kinds
use Rattle.osm_base.specs.declared.values.object.Entry.{Entry}
use Rattle.osm_base.specs.declared.values.object.Member.{Member}
use Rattle.osm_base.specs.declared.values.object.Object.TheVariants as objects
use Rattle.osm_base.specs.values.Tags.{TagMap}
use Rattle.opl_object.specs.declared.why.Why.TheVariants as causes
use Rattle.opl_object.specs.Coordinate.{coordinate}
use Rattle.opl_object.specs.Escapes.{escape_text, written_text}
use Rattle.opl_object.specs.Fields.{fields_of}
use Rattle.opl_object.specs.Letter.{letter_of}
use Rattle.opl_object.specs.Line.{key_of, entry_of, entry_from, reading}
use Rattle.opl_object.specs.Lists.{nodes_text, members_text}
use Rattle.opl_object.specs.Members.{kind_of, member_of, members_of}
use Rattle.opl_object.specs.Nodes.{numbered, place_pair, placed, node_of, nodes_of}
use Rattle.opl_object.specs.Number.{id_of}
use Rattle.opl_object.specs.Parts.{with_value, parts_of}
use Rattle.opl_object.specs.Tags.{with_piece, tags_of}
use Rattle.opl_object.specs.Text.{escaped, resolved, bytes_of, text_of}
use Rattle.opl_object.specs.Why.{◌>>=◌, each_piece}

-- ---- fields: separated by spaces or tabs

fields : fields_of (codes "n1 v1\tdV  T") ≡ codes "n1" ∷ codes "v1" ∷ codes "dV" ∷ codes "T" ∷ []
unfolding fields_of
fields = refl

-- ---- texts: what has a meaning in a line is a percent sign, the code point in hexadecimal digits, a percent sign

space : text_of (codes "Caf%e9%%20%Eins") ≡ Ok (codes "Café Eins")
unfolding text_of bytes_of resolved escaped chars encode
space = refl

specials : text_of (codes "%9%%a%%20%%25%%2c%%2C%%3d%%3D%%40%") ≡ Ok (codes "\t\n %,,==@")
unfolding text_of bytes_of resolved escaped chars encode
specials = refl

beyond : text_of (codes "%1F600%%10ffff%") ≡ Ok (128512 ∷ 1114111 ∷ [])
unfolding text_of bytes_of resolved escaped chars encode
beyond = refl

no_zero : text_of (codes "%0%") ≡ Err causes.Escape
unfolding text_of bytes_of resolved escaped
no_zero = refl

no_surrogate : text_of (codes "%d800%") ≡ Err causes.Escape
unfolding text_of bytes_of resolved escaped
no_surrogate = refl

written : written_text (codes "Café a,b=c@d%") ≡ codes "Caf%e9%%20%a%2c%b%3d%c%40%d%25%"
unfolding written_text escape_text
written = refl

-- ---- lists: items separated by commas

a_tag : tags_of (codes "highway=residential") ≡ Ok (map.insert map.empty (codes "highway") (codes "residential"))
unfolding tags_of with_piece each_piece text_of bytes_of resolved chars
a_tag = ap (λ found. cond (is_some found) (Err causes.RepeatedKey)
    (Ok (map.insert map.empty (codes "highway") (codes "residential"))) >>= λ tags. Ok tags)
    (map.get-empty (slice_cmp nat_cmp) (codes "highway"))

no_tag : tags_of (codes "highway") ≡ Err causes.Tag
unfolding tags_of with_piece each_piece
no_tag = refl

nodes : nodes_of (codes "n3,n1x13.3y52.5,n2xy") ≡ Ok (3 ∷ 1 ∷ 2 ∷ [])
unfolding nodes_of node_of numbered placed place_pair coordinate id_of each_piece
nodes = refl

nodes_written : nodes_text (3 ∷ 1 ∷ 2 ∷ []) ≡ codes "n3,n1,n2"
unfolding nodes_text digits
nodes_written = refl

abbrev outer : Member
outer = record { key = record { kind = kinds.Way; id = 10 }; role = codes "outer" }

abbrev stop : Member
stop = record { key = record { kind = kinds.Node; id = 7 }; role = [] }

members : members_of (codes "w10@outer,n7@") ≡ Ok (outer ∷ stop ∷ [])
unfolding members_of member_of kind_of numbered id_of text_of bytes_of resolved each_piece chars
members = refl

members_written : members_text (outer ∷ stop ∷ []) ≡ codes "w10@outer,n7@"
unfolding members_text written_text digits
members_written = refl

-- ---- coordinates: degrees, in units of the seventh decimal

degrees : coordinate 1800000000 (codes "13.3777") ≡ Ok (pos 133777000)
unfolding coordinate
degrees = refl

rounded : coordinate 1800000000 (codes "-0.00000005") ≡ Ok (neg_ℤ (pos 1))
unfolding coordinate
rounded = refl

not_rounded : coordinate 1800000000 (codes "0.00000004") ≡ Ok (pos 0)
unfolding coordinate
not_rounded = refl

too_far : coordinate 1800000000 (codes "180.00000005") ≡ Err causes.Range
unfolding coordinate
too_far = refl

-- ---- whole lines

abbrev bare : TagMap
bare = map.empty

abbrev node : Entry
node = record {
  key = record { kind = kinds.Node; id = 2 };
  object =
      Some (objects.Node (Some (record { lon = pos 133780000; lat = pos 525163000 })) bare);
}

a_node : reading (codes "n2 v1 dV c100 t2024-05-01T09:00:00Z i7 uanna T x13.378 y52.5163") ≡ Ok (Some node)
unfolding reading fields_of entry_from key_of kind_of id_of parts_of each_piece letter_of with_value text_of bytes_of resolved tags_of
    coordinate entry_of chars is_utf8 encode
a_node = refl

abbrev way : Entry
way = record { key = record { kind = kinds.Way; id = 11 }; object = Some (objects.Way (1 ∷ 2 ∷ 3 ∷ 1 ∷ []) bare) }

a_way : reading (codes "w11 v1 dV c102 t2024-05-01T11:00:00Z i8 u T Nn1,n2,n3,n1") ≡ Ok (Some way)
unfolding reading fields_of entry_from key_of kind_of id_of parts_of each_piece letter_of with_value text_of bytes_of resolved tags_of
    nodes_of node_of numbered placed entry_of chars is_utf8 encode
a_way = refl

abbrev relation : Entry
relation = record { key = record { kind = kinds.Relation; id = 20 }; object = Some (objects.Relation (outer ∷ stop ∷ []) bare) }

a_relation : reading (codes "r20 v1 dV c103 t2024-05-01T12:00:00Z i8 u T Mw10@outer,n7@") ≡ Ok (Some relation)
unfolding reading fields_of entry_from key_of kind_of id_of parts_of each_piece letter_of with_value text_of bytes_of resolved tags_of
    members_of member_of numbered entry_of chars is_utf8 encode
a_relation = refl

abbrev gone : Entry
gone = record { key = record { kind = kinds.Way; id = 11 }; object = None }

a_deletion : reading (codes "w11 v2 dD c110 t2024-05-02T10:00:00Z i7 uanna T N") ≡ Ok (Some gone)
unfolding reading fields_of entry_from key_of kind_of id_of parts_of each_piece letter_of with_value text_of bytes_of resolved tags_of
    nodes_of entry_of chars is_utf8 encode
a_deletion = refl

a_comment : reading (codes "# n1") ≡ Ok None
unfolding reading
a_comment = refl

a_changeset : reading (codes "c101 n1") ≡ Ok None
unfolding reading
a_changeset = refl

-- ---- the first fault of a line

not_utf8 : reading (110 ∷ 49 ∷ 32 ∷ 117 ∷ 255 ∷ []) ≡ Err causes.Utf8
unfolding reading chars is_utf8 encode
not_utf8 = refl

no_kind : reading (codes "q1") ≡ Err causes.Kind
unfolding reading fields_of entry_from key_of kind_of chars is_utf8 encode
no_kind = refl

id_zero : reading (codes "n0") ≡ Err causes.Id
unfolding reading fields_of entry_from key_of kind_of id_of chars is_utf8 encode
id_zero = refl

id_past_the_last : reading (codes "n9223372036854775808") ≡ Err causes.Id
unfolding reading fields_of entry_from key_of kind_of id_of chars is_utf8 encode
id_past_the_last = refl

letter_of_ways : reading (codes "n1 N") ≡ Err causes.Field
unfolding reading fields_of entry_from key_of kind_of id_of parts_of each_piece letter_of chars is_utf8 encode
letter_of_ways = refl

neither_there_nor_gone : reading (codes "n1 dX") ≡ Err causes.Field
unfolding reading fields_of entry_from key_of kind_of id_of parts_of each_piece letter_of with_value chars is_utf8 encode
neither_there_nor_gone = refl

repeated : reading (codes "n1 v1 v1") ≡ Err causes.Repeated
unfolding reading fields_of entry_from key_of kind_of id_of parts_of each_piece letter_of with_value chars is_utf8 encode
repeated = refl

exponent : reading (codes "n1 x1e3 y0") ≡ Err causes.Number
unfolding reading fields_of entry_from key_of kind_of id_of parts_of each_piece letter_of with_value coordinate chars is_utf8 encode
exponent = refl

off_the_earth : reading (codes "n1 x181 y0") ≡ Err causes.Range
unfolding reading fields_of entry_from key_of kind_of id_of parts_of each_piece letter_of with_value coordinate chars is_utf8 encode
off_the_earth = refl

empty_escape : reading (codes "n1 Ta=%%") ≡ Err causes.Escape
unfolding reading fields_of entry_from key_of kind_of id_of parts_of each_piece letter_of with_value tags_of with_piece text_of bytes_of
    resolved escaped chars is_utf8 encode
empty_escape = refl

key_alone : reading (codes "n1 Ta") ≡ Err causes.Tag
unfolding reading fields_of entry_from key_of kind_of id_of parts_of each_piece letter_of with_value tags_of with_piece chars is_utf8 encode
key_alone = refl

reference_to_a_way : reading (codes "w1 Nw2") ≡ Err causes.Member
unfolding reading fields_of entry_from key_of kind_of id_of parts_of each_piece letter_of with_value nodes_of node_of chars is_utf8 encode
reference_to_a_way = refl

no_role : reading (codes "r1 Mn1") ≡ Err causes.Member
unfolding reading fields_of entry_from key_of kind_of id_of parts_of each_piece letter_of with_value members_of member_of numbered chars
    is_utf8 encode
no_role = refl

half_a_place : reading (codes "n1 x1") ≡ Err causes.HalfPlace
unfolding reading fields_of entry_from key_of kind_of id_of parts_of each_piece letter_of with_value coordinate entry_of chars is_utf8
    encode
half_a_place = refl
