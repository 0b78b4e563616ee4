-- Each entry of the map and of its changes fits a line.
use Rattle.std.proofs.Common.{◌≡◌, ◌<◌, ◌≤◌, ℕ, zero, suc, ◌+◌, ◌*◌, ◌/◌, ◌-◌, Bool, true, codes, T, List, [], ◌∷◌, ◌++◌, length, map, refl, sym, ap, subst, arith, inl, inr}
use Rattle.std.specs.Prelude.{decimal, flat_map, min, nat_abs}
use Rattle.std.specs.FinMap as finite
use Rattle.std.specs.FinMap.{is_sorted}
use Rattle.std.specs.List.{AllByRecursion, filter, range_with_len}
use Rattle.std.specs.Str.{chars}
use Rattle.std.proofs.lemmas.Bool.{cases_Bool}
use Rattle.std.proofs.lemmas.Bool.Decides.{nat_tests}
use Rattle.std.proofs.lemmas.Fmt.{IsAscii-decimal}
use Rattle.std.proofs.lemmas.Int.{ints}
use Rattle.std.proofs.lemmas.List.{length-append}
use Rattle.std.proofs.lemmas.List.FromFn.{length-map-range_with_len}
use Rattle.std.proofs.lemmas.Str.{chars-IsAscii}
use Rattle.std.proofs.lemmas.Str.Ascii.{IsAscii-cons}
use lib.Utf8.{scalar}
use Rattle.osm_base.specs.declared.values.object.Entry.{Entry}
use Rattle.osm_base.specs.declared.values.object.Member.{Member}
use Rattle.osm_base.specs.declared.values.place.TheConstants.{MAX_LAT, MAX_LON}
use Rattle.osm_base.specs.values.Degrees.{degrees}
use Rattle.osm_base.specs.values.Key.{IsId, node_key, relation_key, way_key}
use Rattle.osm_base.specs.values.Place.{IsOnEarth, PlaceOf}
use Rattle.osm_base.specs.values.Tags.{TagMap, TagPairs}
use Rattle.osm_base.proofs.TagPlaces.{entries-from_entries, order}
use Rattle.opl_object.specs.Escapes.{IsText, IsWithoutZero, written_text}
use Rattle.opl_object.specs.Lists.{IsMember, OfTag, OfTags, key_text, member_text, members_text, node_text, nodes_text, tag_text, tags_text}
use Rattle.opl_object.specs.Written.{line_text}
use Rattle.opl_object.proofs.WrittenNumbers.{coordinate_spelled, decimal_visible, lat_near, lon_near}
use Rattle.opl_object.proofs.WrittenTexts.{AreVisible, visible, written_visible}
use Rattle.demo_map.specs.declared.parts.Part.TheVariants.{Ways}
use Rattle.demo_map.specs.Demo.{demo_first, demo_input, demo_second, gone_of, member_of, members_of, moved_of, node_at, nodes_of, one_tag, place_in, route_of, route_tags, squares, tenths, is_tenth, way_of}
use Rattle.demo_map.specs.Parts.{entry_of}
use Rattle.demo_map.specs.Written.{FitsLine}
use Rattle.demo_map.proofs.KeyOrders.{an_id, proper}
use Rattle.demo_map.proofs.RouteTags.{rising_pairs}
use Rattle.demo_map.proofs.ShortLines.{IsShort, degrees_short, id_short, key_short, line_short, list_short, text_short}

-- lists of which each item has a property

each_so : {A : Type 0} {P Q : A → Type 0} → ((item : A) → P item → Q item) → (items : List A) → AllByRecursion P items
    → AllByRecursion Q items
each_so so [] all = tt
each_so so (item ∷ items) all = (so item all.0, each_so so items all.1)

all_of_both : {A : Type 0} (P : A → Type 0) (front rest : List A) → AllByRecursion P front → AllByRecursion P rest
    → AllByRecursion P (front ++ rest)
all_of_both P [] rest one other = other
all_of_both P (item ∷ front) rest one other = (one.0, all_of_both P front rest one.1 other)

all_made : {A B : Type 0} (P : B → Type 0) (make : A → B) (items : List A) → AllByRecursion (λ item. P (make item)) items
    → AllByRecursion P (map make items)
all_made P make [] all = tt
all_made P make (item ∷ items) all = (all.0, all_made P make items all.1)

all_listed : {A B : Type 0} (P : B → Type 0) (make : A → List B) (items : List A)
    → AllByRecursion (λ item. AllByRecursion P (make item)) items → AllByRecursion P (flat_map make items)
all_listed P make [] all = tt
all_listed P make (item ∷ items) all = all_of_both P (make item) (flat_map make items) all.0 (all_listed P make items all.1)

all_kept : {A : Type 0} (P : A → Type 0) (test : A → Bool) (items : List A) → AllByRecursion P items → AllByRecursion P (filter test items)
all_kept P test [] all = tt
all_kept P test (item ∷ items) all = elim (cases_Bool (test item)) [
  | inl passed ↦ rw passed (all.0, all_kept P test items all.1)
  | inr failed ↦ rw failed (all_kept P test items all.1)
]

all_in_range : (P : ℕ → Type 0) (first count : ℕ) → ((number : ℕ) → first ≤ number → number < first + count → P number)
    → AllByRecursion P (range_with_len first count)
all_in_range P first zero each = tt
all_in_range P first (suc count) each = (
  each first (omega arith) (omega arith),
  all_in_range P (first + 1) count (λ number least less. each number (omega (arith, least)) (omega (arith, less))),
)

-- texts that tags have here: few bytes, all of them visible

record IsTagText (text : List ℕ) : Type 0 where
  seen : AreVisible text
  few : length text ≤ 30

scalar_is : (byte : ℕ) → byte < 127 → scalar byte ≡ true
scalar_is byte most = grind (arith, nat_tests)

is_text : (text : List ℕ) → AreVisible text → IsText text
is_text [] all = refl
is_text (byte ∷ text) all = rw (scalar_is byte all.0.most) (is_text text all.1)

is_without_zero : (text : List ℕ) → AreVisible text → IsWithoutZero text
is_without_zero [] all = tt
is_without_zero (byte ∷ text) all = (omega (arith, all.0.least), is_without_zero text all.1)

tag_short : (tag : List ℕ × List ℕ) → OfTag IsTagText tag → IsShort tag_text tag
tag_short tag all =
    let key = text_short tag.0 in
    let value = text_short tag.1 in
    rw (length-append (written_text tag.0 ++ codes "=") (written_text tag.1), length-append (written_text tag.0) (codes "="))
    (omega (arith, key, value, all.0.few, all.1.few))

record IsSmall (tags : TagMap) : Type 0 where
  texts : OfTags IsText tags
  no_zero : OfTags IsWithoutZero tags
  few : length (tags_text tags) ≤ 3000

small : (pairs : TagPairs) → T (is_sorted order pairs) → AllByRecursion (OfTag IsTagText) pairs → length pairs ≤ 3
    → IsSmall (finite.from_entries pairs)
unfolding tags_text
small pairs rising all few =
    let its = finite.entries (finite.from_entries {R = order} pairs) in
    let same : its ≡ pairs = entries-from_entries pairs rising in
    let own : AllByRecursion (OfTag IsTagText) its = subst (AllByRecursion (OfTag IsTagText)) (sym same) all in
    let many : length its ≡ length pairs = ap (λ list. length list) same in
    let short = list_short tag_text its (each_so tag_short its own) in
    record {
      texts = each_so (λ tag both. (is_text tag.0 both.0.seen, is_text tag.1 both.1.seen)) its own;
      no_zero = each_so (λ tag both. (is_without_zero tag.0 both.0.seen, is_without_zero tag.1 both.1.seen)) its own;
      few = omega (arith, short, many, few);
    }

-- the texts themselves

word : (text : List ℕ) → written_text text ≡ text → length text ≤ 30 → IsTagText text
word text bare few = record { seen = subst AreVisible bare (written_visible text); few = few }

no_tags : IsSmall finite.empty
no_tags = small [] tt tt (omega arith)

tags_of_cafe : one_tag (codes "amenity") (codes "cafe") ≡ finite.from_entries ((codes "amenity", codes "cafe") ∷ [])
unfolding chars
tags_of_cafe = refl

tags_of_building : one_tag (codes "building") (codes "yes") ≡ finite.from_entries ((codes "building", codes "yes") ∷ [])
unfolding chars
tags_of_building = refl

cafe_small : IsSmall (one_tag (codes "amenity") (codes "cafe"))
unfolding written_text
cafe_small = subst IsSmall (sym tags_of_cafe) (small ((codes "amenity", codes "cafe") ∷ []) tt
    ((word (codes "amenity") refl (omega arith), word (codes "cafe") refl (omega arith)), tt) (omega arith))

building_small : IsSmall (one_tag (codes "building") (codes "yes"))
unfolding written_text
building_small = subst IsSmall (sym tags_of_building) (small ((codes "building", codes "yes") ∷ []) tt
    ((word (codes "building") refl (omega arith), word (codes "yes") refl (omega arith)), tt) (omega arith))

fixed_words : (chars (codes "ref") ≡ codes "ref") × ((chars (codes "type") ≡ codes "type") × (chars (codes "route") ≡ codes "route"))
unfolding chars
fixed_words = (refl, (refl, refl))

reference_is : (id : ℕ) → IsId id → chars (codes "R" ++ decimal id) ≡ codes "R" ++ decimal id
reference_is id own =
    chars-IsAscii (codes "R" ++ decimal id) (IsAscii-cons 82 (decimal id) (omega arith) (IsAscii-decimal id (omega (arith, own.greatest))))

reference_text : (id : ℕ) → IsId id → IsTagText (codes "R" ++ decimal id)
reference_text id own = record {
  seen = (visible 82 (omega arith) (omega arith), decimal_visible id (omega (arith, own.greatest)));
  few = omega (arith, id_short id own);
}

route_small : (id : ℕ) → IsId id → IsSmall (route_tags id)
unfolding written_text
route_small id own = small ((chars (codes "ref"), chars (codes "R" ++ decimal id)) ∷ (chars (codes "type"), chars (codes "route")) ∷ [])
    (rising_pairs (chars (codes "R" ++ decimal id))) (
      (
        subst IsTagText (sym fixed_words.0) (word (codes "ref") refl (omega arith)),
        subst IsTagText (sym (reference_is id own)) (reference_text id own),
      ),
      (
        (
          subst IsTagText (sym fixed_words.1.0) (word (codes "type") refl (omega arith)),
          subst IsTagText (sym fixed_words.1.1) (word (codes "route") refl (omega arith)),
        ),
        tt,
      ),
    ) (omega arith)

-- nodes

on_earth : (square east north : ℕ) → square < 100000 → east ≤ 11000 → north ≤ 11000
    → IsOnEarth (place_in square east north).lon (place_in square east north).lat
on_earth square east north few one other = record {
  east = omega (arith, ints, one);
  west = omega (arith, ints, one);
  north = omega (arith, ints, few, other);
  south = omega (arith, ints, few, other);
}

place_short : (place : PlaceOf) → IsOnEarth place.lon place.lat
    → length (codes " x" ++ degrees place.lon ++ (codes " y" ++ degrees place.lat)) ≤ 20000
place_short place earth =
    let lon = degrees_short (nat_abs MAX_LON) (degrees place.lon) place.lon
    (coordinate_spelled (nat_abs MAX_LON) place.lon (lon_near place.lon earth.east earth.west) (omega arith)) in
    let lat = degrees_short (nat_abs MAX_LAT) (degrees place.lat) place.lat
    (coordinate_spelled (nat_abs MAX_LAT) place.lat (lat_near place.lat earth.north earth.south) (omega arith)) in
    rw (length-append (degrees place.lon) (codes " y" ++ degrees place.lat)) (omega (arith, lon, lat))

node_fits : (id : ℕ) (place : PlaceOf) (tags : TagMap) → IsId id → IsOnEarth place.lon place.lat → IsSmall tags
    → FitsLine (node_at id place tags)
unfolding line_text
node_fits id place tags own earth its = record {
  writable = record { kind = refl; ids = tt; no_zero = its.no_zero };
  id = own;
  sound = (earth, its.texts);
  short = line_short (key_text (node_key id)) (tags_text tags) (codes " x" ++ degrees place.lon ++ (codes " y" ++ degrees place.lat))
      (key_short (node_key id) own) its.few (place_short place earth);
}

corner_id : (square corner : ℕ) → square < 100000 → 1 ≤ corner → corner ≤ 4 → IsId (4 * square + corner)
corner_id square corner few least most = an_id (4 * square + corner) (omega (arith, least)) (omega (arith, most, few))

abbrev AllFit : List Entry → Type 0
AllFit entries = AllByRecursion FitsLine entries

nodes_fit : (square : ℕ) → square < 100000 → AllFit (nodes_of square)
nodes_fit square few = (
  node_fits (4 * square + 1) (place_in square 0 0) (one_tag (codes "amenity") (codes "cafe"))
      (corner_id square 1 few (omega arith) (omega arith)) (on_earth square 0 0 few (omega arith) (omega arith)) cafe_small,
  (
    node_fits (4 * square + 2) (place_in square 10000 0) finite.empty
        (corner_id square 2 few (omega arith) (omega arith)) (on_earth square 10000 0 few (omega arith) (omega arith)) no_tags,
    (
      node_fits (4 * square + 3) (place_in square 10000 10000) finite.empty
          (corner_id square 3 few (omega arith) (omega arith)) (on_earth square 10000 10000 few (omega arith) (omega arith)) no_tags,
      (
        node_fits (4 * square + 4) (place_in square 0 10000) finite.empty
            (corner_id square 4 few (omega arith) (omega arith)) (on_earth square 0 10000 few (omega arith) (omega arith)) no_tags,
        tt,
      ),
    ),
  ),
)

moved_fits : (square : ℕ) → square < 100000 → FitsLine (moved_of square)
moved_fits square few = node_fits (4 * square + 3) (place_in square 11000 11000) finite.empty
    (corner_id square 3 few (omega arith) (omega arith)) (on_earth square 11000 11000 few (omega arith) (omega arith)) no_tags

gone_fits : (square : ℕ) → square < 100000 → FitsLine (gone_of square)
unfolding line_text
gone_fits square few =
    let own = corner_id square 1 few (omega arith) (omega arith) in
    let key = key_short (node_key (4 * square + 1)) own in
    record {
      writable = record { kind = tt; ids = tt; no_zero = tt };
      id = own;
      sound = tt;
      short = rw (length-append (key_text (node_key (4 * square + 1))) (codes " dD")) (omega (arith, key));
    }

-- ways

node_ids_short : (nodes : List ℕ) → AllByRecursion IsId nodes → length (nodes_text nodes) ≤ 1000 * length nodes
unfolding nodes_text
node_ids_short nodes all = list_short node_text nodes (each_so (λ id own. let short = id_short id own in omega (arith, short)) nodes all)

abbrev corners_of : ℕ → List ℕ
corners_of square = (4 * square + 1) ∷ (4 * square + 2) ∷ (4 * square + 3) ∷ (4 * square + 4) ∷ (4 * square + 1) ∷ []

corners_proper : (square : ℕ) → square < 100000 → AllByRecursion IsId (corners_of square)
unfolding entry_of
corners_proper square few = proper Ways 0 square few

way_fits : (square : ℕ) → square < 100000 → FitsLine (way_of square)
unfolding line_text
way_fits square few =
    let own : IsId (square + 1) = an_id (square + 1) (omega arith) (omega (arith, few)) in
    let nodes = node_ids_short (corners_of square) (corners_proper square few) in
    record {
      writable = record { kind = refl; ids = corners_proper square few; no_zero = building_small.no_zero };
      id = own;
      sound = building_small.texts;
      short = line_short (key_text (way_key (square + 1))) (tags_text (one_tag (codes "building") (codes "yes")))
          (codes " N" ++ nodes_text (corners_of square)) (key_short (way_key (square + 1)) own) building_small.few (omega (arith, nodes));
    }

-- routes

member_short : (id : ℕ) → IsId id → IsShort member_text (member_of id)
member_short id own =
    let key = key_short (way_key id) own in
    let role = text_short [] in
    rw (length-append (key_text (way_key id) ++ codes "@") (written_text []), length-append (key_text (way_key id)) (codes "@"))
    (omega (arith, key, role))

all_members : (P : Member → Type 0) (first count : ℕ) → 1 ≤ first → first + count ≤ 100001 → ((id : ℕ) → IsId id → P (member_of id))
    → AllByRecursion P (members_of first count)
all_members P first count least few each = all_made P member_of (range_with_len first count)
    (all_in_range (λ id. P (member_of id)) first count
    (λ id from below. each id (an_id id (omega (arith, least, from)) (omega (arith, few, below)))))

route_fits : (count square : ℕ) → count ≤ 100000 → square < count → FitsLine (route_of count square)
unfolding line_text members_text
route_fits count square few inside =
    let id = square / 10 + 1 in
    let many = min (square + 10) count - square in
    let members = members_of (square + 1) many in
    let own : IsId id = an_id id (omega arith) (omega (arith, few, inside)) in
    let least : 1 ≤ square + 1 = omega arith in
    let ten : many ≤ 10 = omega arith in
    let most : square + 1 + many ≤ 100001 = omega (arith, few, inside) in
    let short = list_short member_text members (all_members (IsShort member_text) (square + 1) many least most member_short) in
    let length : length members ≡ many = length-map-range_with_len member_of (square + 1) many in
    let tags = route_small id own in
    record {
      writable = record {
        kind = refl;
        ids = tt;
        no_zero = (tags.no_zero, all_members (λ (member : Member). IsWithoutZero member.role) (square + 1) many least most (λ id own. tt));
      };
      id = own;
      sound = (tags.texts, all_members IsMember (square + 1) many least most (λ id own. (own, refl)));
      short = line_short (key_text (relation_key id)) (tags_text (route_tags id)) (codes " M" ++ members_text members)
          (key_short (relation_key id) own) tags.few (omega (arith, short, length, ten));
    }

-- all of them

within : (P : ℕ → Type 0) (count : ℕ) → ((square : ℕ) → square < count → P square) → AllByRecursion P (squares count)
within P count each = all_in_range P 0 count (λ square least below. each square (omega (arith, below)))

of_tenths : (make : ℕ → Entry) (count : ℕ) → ((square : ℕ) → square < count → FitsLine (make square)) → AllFit (map make (tenths count))
of_tenths make count each = all_made FitsLine make (tenths count)
    (all_kept (λ square. FitsLine (make square)) is_tenth (squares count) (within (λ square. FitsLine (make square)) count each))

pub input_fits : (count : ℕ) → count ≤ 100000 → AllFit (demo_input count)
input_fits count few =
    all_of_both FitsLine (flat_map nodes_of (squares count) ++ map way_of (squares count)) (map (route_of count) (tenths count))
    (all_of_both FitsLine (flat_map nodes_of (squares count)) (map way_of (squares count))
    (all_listed FitsLine nodes_of (squares count)
    (within (λ square. AllFit (nodes_of square)) count (λ square below. nodes_fit square (omega (arith, below, few)))))
    (all_made FitsLine way_of (squares count)
    (within (λ square. FitsLine (way_of square)) count (λ square below. way_fits square (omega (arith, below, few))))))
    (of_tenths (route_of count) count (λ square below. route_fits count square few below))

pub first_fits : (count : ℕ) → count ≤ 100000 → AllFit (demo_first count)
first_fits count few = of_tenths moved_of count (λ square below. moved_fits square (omega (arith, below, few)))

pub second_fits : (count : ℕ) → count ≤ 100000 → AllFit (demo_second count)
second_fits count few = of_tenths gone_of count (λ square below. gone_fits square (omega (arith, below, few)))
