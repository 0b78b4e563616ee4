-- Lists, node references and members: what is read is spelled so, and what is spelled so is read.
use Rattle.std.proofs.Common.{◌≡◌, ℕ, ◌+◌, ◌<◌, true, false, cond, ◌&&◌, ◌||◌, ◌⊎◌, inl, inr, eqb, eq-eqb, List, [], ◌∷◌, ◌++◌, length}
use Rattle.std.proofs.Common.{get_or, drop, Option, None, Some, Result, Ok, Err, refl, sym, ◌∙◌, ap, subst, arith, append_assoc}
use Rattle.std.specs.Prelude.{ℤ, nat_abs}
use Rattle.std.specs.List.{slice_split, join_with_byte, AllByRecursion}
use Rattle.std.specs.Option.{option_map}
use Rattle.std.specs.Char.{is_ascii_digit}
use Rattle.std.specs.Str.{IsUtf8}
use Rattle.std.proofs.lemmas.Bool.{cases_Bool, eqb-true, ne_eqb}
use Rattle.std.proofs.lemmas.List.{append-nil, length-append, nil_from_length, take_at, drop_at}
use Rattle.std.proofs.lemmas.List.Splits.{join_with_byte-slice_split}
use Rattle.std.proofs.lemmas.Str.{IsUtf8-take, IsUtf8-drop, IsCharBoundary-before_ascii, IsCharBoundary-after_ascii}
use Rattle.osm_base.specs.declared.values.key.Kind.{Kind}
use Rattle.osm_base.specs.declared.values.key.Kind.TheVariants as kinds
use Rattle.osm_base.specs.declared.values.object.Member.{Member}
use Rattle.osm_base.specs.declared.values.place.TheConstants.{MAX_LON, MAX_LAT}
use Rattle.osm_base.specs.values.Key.{KeyOf}
use Rattle.opl_object.specs.declared.why.Why.{Why}
use Rattle.opl_object.specs.declared.why.Why.TheVariants as causes
use Rattle.opl_object.specs.Coordinate.{coordinate}
use Rattle.opl_object.specs.Fields.{is, is_empty, cut_at, behind}
use Rattle.opl_object.specs.Members.{kind_of, kind_at, with_role, member_of, members_of}
use Rattle.opl_object.specs.Nodes.{numbered, place_pair, place_parts, placed, node_of, nodes_of}
use Rattle.opl_object.specs.Spelling.{SpellEach, SpellsList, SpellsId, SpellsCoordinate, SpellsPlace, SpellsNode, SpellsMember, kind_byte}
use Rattle.opl_object.specs.Text.{text_of}
use Rattle.opl_object.specs.Why.{◌>>=◌, each_piece, given}
use Rattle.opl_object.proofs.Cuts.{IsAsciiTest}
use Rattle.opl_object.proofs.Digits.{both}
use Rattle.opl_object.proofs.SpelledNumbers.{NoDigit, numbered_spells, numbered_again, cut_some, cut_cases, coordinate_spells}
use Rattle.opl_object.proofs.SpelledNumbers.{coordinate_again, coordinate_free, coordinate_nonempty}
use Rattle.opl_object.proofs.SpelledTexts.{IsFree, free_append, free_digits, split_at, split_free, split_pieces, split_utf8, text_spells}
use Rattle.opl_object.proofs.SpelledTexts.{text_again, text_free}
use Rattle.opl_object.proofs.Steps.{bind_ok, given_ok, ok_is, some_is}

-- ---- texts

pub nil_is : (text : List ℕ) → is_empty text ≡ true → text ≡ []
nil_is text e = nil_from_length text (eqb-true _ _ e)

pub some_is_not : (text : List ℕ) → 0 < length text → is_empty text ≡ false
some_is_not text some = ne_eqb _ _ (λ e. omega arith)

-- the two sides of an ASCII byte are texts
pub utf8_sides : (front rest : List ℕ) (byte : ℕ) → byte < 128 → IsUtf8 (front ++ byte ∷ rest) → IsUtf8 front × IsUtf8 rest
utf8_sides front rest byte small utf8 =
    let text = front ++ byte ∷ rest in
    let within : length front < length (front ++ byte ∷ rest) = omega (arith, length-append front (byte ∷ rest)) in
    let here : get_or (front ++ byte ∷ rest) (length front) 0 ≡ byte = get_or-seam front rest byte in
    let ascii : get_or (front ++ byte ∷ rest) (length front) 0 < 128 = omega arith in
    let before = IsUtf8-take (front ++ byte ∷ rest) (length front) utf8
    (IsCharBoundary-before_ascii (front ++ byte ∷ rest) (length front) within ascii) in
    let after = IsUtf8-drop (front ++ byte ∷ rest) (length front + 1) utf8
    (IsCharBoundary-after_ascii (front ++ byte ∷ rest) (length front) utf8 within ascii) in
    let back : drop (length front + 1) (front ++ byte ∷ rest) ≡ rest
    = ap (drop (length front + 1)) (sym (append_assoc front (byte ∷ []) rest))
    ∙ drop_at (front ++ byte ∷ []) rest (length front + 1) (omega (arith, length-append front (byte ∷ []))) in
    (subst IsUtf8 (take_at front (byte ∷ rest) (length front) refl) before, subst IsUtf8 back after) where
      get_or-seam : (front rest : List ℕ) (byte : ℕ) → get_or (front ++ byte ∷ rest) (length front) 0 ≡ byte
      get_or-seam [] rest byte = refl
      get_or-seam (first ∷ front) rest byte = get_or-seam front rest byte

pub behind_is : (first : ℕ) (text rest : List ℕ) → 0 < first → behind first text ≡ Some rest → text ≡ first ∷ rest
behind_is first [] rest some e = elim (cases_Bool (eqb 0 first)) [
  | inl same ↦ absurd (let z : 0 ≡ first = eqb-true 0 first same in omega arith)
  | inr other ↦ absurd (let wrong : there None ≡ there (Some rest) = ap there (rw other at e) in cc)
] where
  there : Option (List ℕ) → Option (Option (List ℕ))
  there o = Some o
behind_is first (byte ∷ text) rest some e = elim (cases_Bool (eqb byte first)) [
  | inl same ↦ (let it : text ≡ rest = some_is text rest (rw same at e) in
      ap (λ b. b ∷ text) (eqb-true byte first same) ∙ ap (λ t. first ∷ t) it)
  | inr other ↦ absurd (let wrong : none_of ≡ Some rest = rw other at e in cc)
] where
  none_of : Option (List ℕ)
  none_of = None

pub behind_again : (first : ℕ) (rest : List ℕ) → behind first (first ∷ rest) ≡ Some rest
behind_again first rest = rw (eq-eqb first first refl) refl

-- ---- lists

-- pieces without commas, joined by commas, are cut into the pieces again
pub split_join : (first : List ℕ) (others : List (List ℕ)) → AllByRecursion (IsFree (is 44)) (first ∷ others)
    → slice_split (is 44) (join_with_byte 44 (first ∷ others)) ≡ first ∷ others
split_join first [] free = split_free (is 44) first free.0
split_join first (piece ∷ others) free =
    split_at 44 first (join_with_byte 44 (piece ∷ others)) free.0 ∙ ap (λ pieces. first ∷ pieces) (split_join piece others free.1)

join_some : (first : List ℕ) (others : List (List ℕ)) → 0 < length first → 0 < length (join_with_byte 44 (first ∷ others))
join_some first [] some = some
join_some first (piece ∷ others) some = omega (arith, length-append first (44 ∷ join_with_byte 44 (piece ∷ others)))

pub comma-ascii : IsAsciiTest (is 44)
comma-ascii byte passes = omega (arith, eqb-true byte 44 passes)

module _ {A : Type 0} (Spell : List ℕ → A → Type 0) (read : List ℕ → Result A Why) where
  abbrev pub step : List A → List ℕ → Result (List A) Why
  step items piece = read piece >>= λ item. Ok (items ++ item ∷ [])

  -- what was read of the pieces
  abbrev pub Each : List A → List (List ℕ) → List A → Type 0
  Each front pieces last = (items : List A) × (last ≡ front ++ items) × SpellEach Spell pieces items

  pub each_spells : ((piece : List ℕ) (item : A) → IsUtf8 piece → read piece ≡ Ok item → Spell piece item)
      → (front : List A) (pieces : List (List ℕ)) (last : List A)
      → AllByRecursion IsUtf8 pieces → each_piece step front pieces ≡ Ok last → Each front pieces last
  unfolding each_piece
  each_spells law front [] last utf8 e = ([], sym (ok_is front last e) ∙ sym (append-nil front), tt)
  each_spells law front (piece ∷ pieces) last utf8 e =
      let next = bind_ok (step front piece) (λ items. each_piece step items pieces) last e in
      let item = bind_ok (read piece) (λ item. Ok (front ++ item ∷ [])) next.0 next.1 in
      let rest = each_spells law (front ++ item.0 ∷ []) pieces last utf8.1
      (ap (λ items. each_piece step items pieces) (ok_is _ _ item.2) ∙ next.2) in
      (item.0 ∷ rest.0, rest.1 ∙ append_assoc front (item.0 ∷ []) rest.0, (law piece item.0 utf8.0 item.1, rest.2))

  pub each_again : ((piece : List ℕ) (item : A) → Spell piece item → read piece ≡ Ok item)
      → (front : List A) (pieces : List (List ℕ)) (items : List A)
      → SpellEach Spell pieces items → each_piece step front pieces ≡ Ok (front ++ items)
  unfolding each_piece
  each_again law front [] [] s = ap (λ items. Ok items) (sym (append-nil front))
  each_again law front [] (item ∷ items) s = absurd s
  each_again law front (piece ∷ pieces) [] s = absurd s
  each_again law front (piece ∷ pieces) (item ∷ items) s =
      ap (λ r. (r >>= λ item. Ok (front ++ item ∷ [])) >>= λ items. each_piece step items pieces) (law piece item s.0)
      ∙ each_again law (front ++ item ∷ []) pieces items s.1
      ∙ ap (λ items. Ok items) (append_assoc front (item ∷ []) items)

  pub list_spells : ((piece : List ℕ) (item : A) → IsUtf8 piece → read piece ≡ Ok item → Spell piece item)
      → (text : List ℕ) (items : List A) → IsUtf8 text
      → cond (is_empty text) (Ok []) (each_piece step [] (slice_split (is 44) text)) ≡ Ok items → SpellsList Spell text items
  list_spells law text items utf8 e = elim (cases_Bool (is_empty text)) [
    | inl none ↦ inl (nil_is text none, sym (ok_is [] items (rw none at e)))
    | inr some ↦ (
        let read_pieces : each_piece step [] (slice_split (is 44) text) ≡ Ok items = rw some at e in
        let found = each_spells law [] (slice_split (is 44) text) items (split_utf8 (is 44) text comma-ascii utf8) read_pieces in
        let p = split_pieces (is 44) text in
        inr (
          p.0,
          p.1,
          sym (join_with_byte-slice_split 44 text)
              ∙ ap (join_with_byte 44) p.2,
          subst (λ i. SpellEach Spell (p.0 ∷ p.1) i) (sym found.1)
              (subst (λ pieces. SpellEach Spell pieces found.0) p.2 found.2),
        ))
  ]

  -- an item has no comma, and is not empty
  abbrev pub Stands : Type 0
  Stands = (piece : List ℕ) (item : A) → Spell piece item → IsFree (is 44) piece × (0 < length piece)

  each_free : Stands → (pieces : List (List ℕ)) (items : List A) → SpellEach Spell pieces items → AllByRecursion (IsFree (is 44)) pieces
  each_free stands [] items s = tt
  each_free stands (piece ∷ pieces) [] s = absurd s
  each_free stands (piece ∷ pieces) (item ∷ items) s = ((stands piece item s.0).0, each_free stands pieces items s.1)

  first_some : Stands → (first : List ℕ) (others : List (List ℕ)) (items : List A) → SpellEach Spell (first ∷ others) items
      → 0 < length first
  first_some stands first others [] s = absurd s
  first_some stands first others (item ∷ items) s = (stands first item s.0).1

  pub list_pieces : Stands → (first : List ℕ) (others : List (List ℕ)) (items : List A) (text : List ℕ)
      → text ≡ join_with_byte 44 (first ∷ others) → SpellEach Spell (first ∷ others) items
      → (is_empty text ≡ false) × (slice_split (is 44) text ≡ first ∷ others)
  list_pieces stands first others items text form s = (
    some_is_not text (subst (λ t. 0 < length t) (sym form) (join_some first others (first_some stands first others items s))),
    ap (slice_split (is 44)) form ∙ split_join first others (each_free stands (first ∷ others) items s),
  )

  pub list_again : ((piece : List ℕ) (item : A) → Spell piece item → read piece ≡ Ok item) → Stands → (text : List ℕ) (items : List A)
      → SpellsList Spell text items → cond (is_empty text) (Ok []) (each_piece step [] (slice_split (is 44) text)) ≡ Ok items
  list_again law stands text items (inl none) =
      ap (λ t. cond (is_empty t) (Ok []) (each_piece step [] (slice_split (is 44) t))) none.0 ∙ ap (λ i. Ok i) (sym none.1)
  list_again law stands text items (inr some) =
      let parts = list_pieces stands some.0 some.1 items text some.2 some.3 in
      rw (parts.0, parts.1) (each_again law [] (some.0 ∷ some.1) items some.3)

-- ---- node references

place_free : (place : List ℕ) → SpellsPlace place → IsFree (is 44) place
place_free place s = subst (IsFree (is 44)) (sym s.form)
    (refl, free_append (is 44) s.lon (121 ∷ s.lat) (lon_free s.places) (refl, lat_free s.places)) where
      Both : List ℕ → List ℕ → Type 0
      Both lon lat = ((lon ≡ []) × (lat ≡ []))
          ⊎ ((east : ℤ) × (north : ℤ) × SpellsCoordinate (nat_abs MAX_LON) lon east × SpellsCoordinate (nat_abs MAX_LAT) lat north)

      lon_free : Both s.lon s.lat → IsFree (is 44) s.lon
      lon_free (inl none) = subst (IsFree (is 44)) (sym none.0) tt
      lon_free (inr some) = coordinate_free 44 (nat_abs MAX_LON) s.lon some.0 refl refl refl some.2

      lat_free : Both s.lon s.lat → IsFree (is 44) s.lat
      lat_free (inl none) = subst (IsFree (is 44)) (sym none.1) tt
      lat_free (inr some) = coordinate_free 44 (nat_abs MAX_LAT) s.lat some.1 refl refl refl some.3

place_pair_spells : (lon lat : List ℕ) (u : Unit {0}) → place_pair lon lat ≡ Ok u
    → ((lon ≡ []) × (lat ≡ [])) ⊎ ((east : ℤ) × (north : ℤ) × SpellsCoordinate (nat_abs MAX_LON) lon east
    × SpellsCoordinate (nat_abs MAX_LAT) lat north)
unfolding place_pair
place_pair_spells lon lat u e = elim (cases_Bool (is_empty lon && is_empty lat)) [
  | inl none ↦ (let parts = both _ _ none in inl (nil_is lon parts.0, nil_is lat parts.1))
  | inr some ↦ elim (cases_Bool (is_empty lon || is_empty lat)) [
    | inl half ↦ absurd (let wrong : refused ≡ Ok u = rw (some, half) at e in cc)
    | inr full ↦ (
        let read : (coordinate (nat_abs MAX_LON) lon >>= λ _. coordinate (nat_abs MAX_LAT) lat >>= λ _. Ok tt) ≡ Ok u =
        rw (some, full) at e in
        let east = bind_ok (coordinate (nat_abs MAX_LON) lon) (λ _. coordinate (nat_abs MAX_LAT) lat >>= λ _. Ok tt) u read in
        let north = bind_ok (coordinate (nat_abs MAX_LAT) lat) (λ _. Ok tt) u east.2 in
        inr (
          east.0,
          north.0,
          coordinate_spells (nat_abs MAX_LON) lon east.0 east.1,
          coordinate_spells (nat_abs MAX_LAT) lat north.0 north.1,
        ))
  ]
] where
  refused : Result (Unit {0}) Why
  refused = Err causes.HalfPlace

placed_spells : (text : List ℕ) (u : Unit {0}) → placed text ≡ Ok u → (text ≡ []) ⊎ SpellsPlace text
unfolding placed
placed_spells text u e = elim (cases_Bool (is_empty text)) [
  | inl none ↦ inl (nil_is text none)
  | inr some ↦ (
      let read : (given causes.Member (behind 120 text) >>= λ place. place_parts (cut_at (is 121) place)) ≡ Ok u = rw some at e in
      let place = bind_ok (given causes.Member (behind 120 text)) (λ place. place_parts (cut_at (is 121) place)) u read in
      let front = behind_is 120 text place.0 (omega arith) (given_ok causes.Member (behind 120 text) place.0 place.1) in
      elim (cut_cases 121 place.0) [
        | inl whole ↦ absurd (let wrong : place_parts (place.0, None) ≡ Ok u = ap place_parts (sym whole) ∙ place.2 in cc)
        | inr cut ↦ (
            let pair : place_pair cut.0 cut.1 ≡ Ok u = ap place_parts (sym cut.2.is) ∙ place.2 in
            inr (record {
              lon = cut.0;
              lat = cut.1;
              form = front ∙ ap (λ t. 120 ∷ t) cut.2.form;
              places =
                  place_pair_spells cut.0 cut.1 u pair;
            }))
      ])
]

pub node_spells : (piece : List ℕ) (id : ℕ) → node_of piece ≡ Ok id → SpellsNode piece id
unfolding node_of
node_spells piece id e =
    let rest = bind_ok (given causes.Member (behind 110 piece))
    (λ rest. numbered rest >>= λ found. placed found.1 >>= λ _. Ok found.0) id e in
    let front = behind_is 110 piece rest.0 (omega arith) (given_ok causes.Member (behind 110 piece) rest.0 rest.1) in
    let found = bind_ok (numbered rest.0) (λ found. placed found.1 >>= λ _. Ok found.0) id rest.2 in
    let last = bind_ok (placed found.0.1) (λ _. Ok found.0.0) id found.2 in
    let n = numbered_spells rest.0 found.0 found.1 in
    record {
      digits = n.digits;
      place = found.0.1;
      form = front ∙ ap (λ t. 110 ∷ t) n.form;
      number = subst (SpellsId n.digits) (ok_is _ _ last.2) n.number;
      places = placed_spells found.0.1 last.0 last.1;
    }

place_pair_again : (lon lat : List ℕ) → ((lon ≡ []) × (lat ≡ []))
    ⊎ ((east : ℤ) × (north : ℤ) × SpellsCoordinate (nat_abs MAX_LON) lon east × SpellsCoordinate (nat_abs MAX_LAT) lat north)
    → place_pair lon lat ≡ Ok tt
unfolding place_pair
place_pair_again lon lat (inl none) = rw (none.0, none.1) refl
place_pair_again lon lat (inr some) =
    let l = some_is_not lon (coordinate_nonempty (nat_abs MAX_LON) lon some.0 some.2) in
    let r = some_is_not lat (coordinate_nonempty (nat_abs MAX_LAT) lat some.1 some.3) in
    rw (l, r, coordinate_again (nat_abs MAX_LON) lon some.0 some.2, coordinate_again (nat_abs MAX_LAT) lat some.1 some.3) refl

lon_cut : (lon lat : List ℕ) → ((lon ≡ []) × (lat ≡ []))
    ⊎ ((east : ℤ) × (north : ℤ) × SpellsCoordinate (nat_abs MAX_LON) lon east × SpellsCoordinate (nat_abs MAX_LAT) lat north)
    → IsFree (is 121) lon
lon_cut lon lat (inl none) = subst (IsFree (is 121)) (sym none.0) tt
lon_cut lon lat (inr some) = coordinate_free 121 (nat_abs MAX_LON) lon some.0 refl refl refl some.2

placed_again : (text : List ℕ) → (text ≡ []) ⊎ SpellsPlace text → placed text ≡ Ok tt
unfolding placed
placed_again text (inl none) = rw none refl
placed_again text (inr s) =
    let place = s.lon ++ 121 ∷ s.lat in
    let some : is_empty (120 ∷ place) ≡ false = some_is_not (120 ∷ place) (omega arith) in
    ap (λ t. cond (is_empty t) (Ok tt) (given causes.Member (behind 120 t) >>= λ place. place_parts (cut_at (is 121) place))) s.form
    ∙ ap (λ b. cond b (Ok tt) (given causes.Member (behind 120 (120 ∷ place)) >>= λ place. place_parts (cut_at (is 121) place))) some
    ∙ ap place_parts (cut_some 121 s.lon s.lat (lon_cut s.lon s.lat s.places))
    ∙ place_pair_again s.lon s.lat s.places

no_digit_place : (place : List ℕ) → (place ≡ []) ⊎ SpellsPlace place → NoDigit place
no_digit_place place (inl none) = subst NoDigit (sym none) tt
no_digit_place place (inr s) = subst NoDigit (sym s.form) refl

pub node_again : (piece : List ℕ) (id : ℕ) → SpellsNode piece id → node_of piece ≡ Ok id
unfolding node_of
node_again piece id s =
    let rest = s.digits ++ s.place in
    ap (λ t. given causes.Member (behind 110 t) >>= λ rest. numbered rest >>= λ found. placed found.1 >>= λ _. Ok found.0) s.form
    ∙ ap (λ r. r >>= λ found. placed found.1 >>= λ _. Ok found.0)
    (numbered_again s.digits s.place id s.number (no_digit_place s.place s.places))
    ∙ ap (λ r. r >>= λ _. Ok id) (placed_again s.place s.places)

node_stands : (piece : List ℕ) (id : ℕ) → SpellsNode piece id → IsFree (is 44) piece × (0 < length piece)
node_stands piece id s = (
  subst (IsFree (is 44)) (sym s.form) (
    refl,
    free_append (is 44) s.digits s.place (free_digits is_ascii_digit 44 s.digits refl s.number.digits.digits) (places_free s.places),
  ),
  subst (λ t. 0 < length t) (sym s.form) (omega arith),
) where
  places_free : (s.place ≡ []) ⊎ SpellsPlace s.place → IsFree (is 44) s.place
  places_free (inl none) = subst (IsFree (is 44)) (sym none) tt
  places_free (inr some) = place_free s.place some

pub nodes_spell : (text : List ℕ) (nodes : List ℕ) → IsUtf8 text → nodes_of text ≡ Ok nodes → SpellsList SpellsNode text nodes
unfolding nodes_of
nodes_spell text nodes utf8 e = list_spells SpellsNode node_of (λ piece id u read. node_spells piece id read) text nodes utf8 e

pub nodes_again : (text : List ℕ) (nodes : List ℕ) → SpellsList SpellsNode text nodes → nodes_of text ≡ Ok nodes
unfolding nodes_of
nodes_again text nodes s = list_again SpellsNode node_of node_again node_stands text nodes s

-- ---- kinds and members

kind_of-byte : (byte : ℕ) (kind : Kind) → kind_of byte ≡ Some kind → byte ≡ kind_byte kind
unfolding kind_of
kind_of-byte byte kind e = elim (cases_Bool (eqb byte 110)) [
  | inl n ↦ eqb-true byte 110 n ∙ ap kind_byte (some_is kinds.Node kind (rw n at e))
  | inr not_n ↦ elim (cases_Bool (eqb byte 119)) [
    | inl w ↦ eqb-true byte 119 w ∙ ap kind_byte (some_is kinds.Way kind (rw (not_n, w) at e))
    | inr not_w ↦ elim (cases_Bool (eqb byte 114)) [
      | inl r ↦ eqb-true byte 114 r ∙ ap kind_byte (some_is kinds.Relation kind (rw (not_n, not_w, r) at e))
      | inr not_r ↦ absurd (let wrong : none_of ≡ Some kind = rw (not_n, not_w, not_r) at e in cc)
    ]
  ]
] where
  none_of : Option Kind
  none_of = None

pub kind_of-kind_byte : (kind : Kind) → kind_of (kind_byte kind) ≡ Some kind
unfolding kind_of
kind_of-kind_byte kinds.Node = refl
kind_of-kind_byte kinds.Way = refl
kind_of-kind_byte kinds.Relation = refl

mapped_some : (kinds_ : Option Kind) (rest : List ℕ) (front : Kind × List ℕ) → option_map (λ kind. (kind, rest)) kinds_ ≡ Some front
    → (kinds_ ≡ Some front.0) × (rest ≡ front.1)
mapped_some None rest front e = absurd cc
mapped_some (Some kind) rest front e = let p : pair kind rest ≡ front = some_is (pair kind rest) front e in
    (ap (λ (q : Kind × List ℕ). Some q.0) p, ap (λ (q : Kind × List ℕ). q.1) p) where
      pair : Kind → List ℕ → Kind × List ℕ
      pair k r = (k, r)

pub kind_at_is : (text : List ℕ) (front : Kind × List ℕ) → kind_at text ≡ Some front → text ≡ kind_byte front.0 ∷ front.1
kind_at_is [] front e =
    let parts = mapped_some (kind_of 0) [] front e in
    absurd (let zero_is : 0 ≡ kind_byte front.0 = kind_of-byte 0 front.0 parts.0 in no_zero front.0 zero_is) where
      no_zero : (kind : Kind) → 0 ≡ kind_byte kind → ⊥
      no_zero kinds.Node e = omega arith
      no_zero kinds.Way e = omega arith
      no_zero kinds.Relation e = omega arith
kind_at_is (byte ∷ rest) front e =
    let parts = mapped_some (kind_of byte) rest front e in
    ap (λ b. b ∷ rest) (kind_of-byte byte front.0 parts.0) ∙ ap (λ t. kind_byte front.0 ∷ t) parts.1

pub kind_at_again : (kind : Kind) (rest : List ℕ) → kind_at (kind_byte kind ∷ rest) ≡ Some (kind, rest)
kind_at_again kind rest = ap (option_map (λ kind. (kind, rest))) (kind_of-kind_byte kind)

pub kind_small : (kind : Kind) → kind_byte kind < 128
kind_small kinds.Node = omega arith
kind_small kinds.Way = omega arith
kind_small kinds.Relation = omega arith

kind_free : (kind : Kind) → is 44 (kind_byte kind) ≡ false
kind_free kinds.Node = refl
kind_free kinds.Way = refl
kind_free kinds.Relation = refl

pub member_spells : (piece : List ℕ) (member : Member) → IsUtf8 piece → member_of piece ≡ Ok member → SpellsMember piece member
unfolding member_of
member_spells piece member utf8 e =
    let front = bind_ok (given causes.Member (kind_at piece))
    (λ front. numbered front.1 >>= λ found. with_role (record { kind = front.0; id = found.0 }) found.1) member e in
    let head = kind_at_is piece front.0 (given_ok causes.Member (kind_at piece) front.0 front.1) in
    let found = bind_ok (numbered front.0.1) (λ found. with_role (record { kind = front.0.0; id = found.0 }) found.1) member front.2 in
    let key : KeyOf = record { kind = front.0.0; id = found.0.0 } in
    let spelled = bind_ok (given causes.Member (behind 64 found.0.1))
    (λ spelled. text_of spelled >>= λ role. Ok (record { key = key; role = role })) member found.2 in
    let sign = behind_is 64 found.0.1 spelled.0 (omega arith) (given_ok causes.Member (behind 64 found.0.1) spelled.0 spelled.1) in
    let role = bind_ok (text_of spelled.0) (λ role. Ok (record { key = key; role = role })) member spelled.2 in
    let n = numbered_spells front.0.1 found.0 found.1 in
    let rest_utf8 : IsUtf8 front.0.1 = (utf8_sides [] front.0.1 (kind_byte front.0.0) (kind_small front.0.0) (subst IsUtf8 head utf8)).1 in
    let role_utf8 : IsUtf8 spelled.0 = (utf8_sides [] spelled.0 64 (omega arith) (subst IsUtf8 sign (n.utf8 rest_utf8))).1 in
    let made : Member = record { key = key; role = role.0 } in
    subst (SpellsMember piece) (ok_is made member role.2) (record {
      digits = n.digits;
      role = spelled.0;
      form = head ∙ ap (λ t. kind_byte front.0.0 ∷ t) (n.form ∙ ap (λ t. n.digits ++ t) sign);
      number = n.number;
      role_text = text_spells spelled.0 role.0 role_utf8 role.1;
    })

pub member_again : (piece : List ℕ) (member : Member) → SpellsMember piece member → member_of piece ≡ Ok member
unfolding member_of
member_again piece member s =
    ap (λ t. given causes.Member (kind_at t) >>= λ front. numbered front.1 >>= λ found.
    with_role (record { kind = front.0; id = found.0 }) found.1) s.form
    ∙ ap (λ o. given causes.Member o >>= λ front. numbered front.1 >>= λ found. with_role (record { kind = front.0; id = found.0 }) found.1)
    (kind_at_again member.key.kind (s.digits ++ 64 ∷ s.role))
    ∙ ap (λ r. r >>= λ found. with_role (record { kind = member.key.kind; id = found.0 }) found.1)
    (numbered_again s.digits (64 ∷ s.role) member.key.id s.number refl)
    ∙ ap (λ r. r >>= λ role. Ok (record { key = record { kind = member.key.kind; id = member.key.id }; role = role }))
    (text_again s.role member.role s.role_text)

member_stands : (piece : List ℕ) (member : Member) → SpellsMember piece member → IsFree (is 44) piece × (0 < length piece)
member_stands piece member s = (
  subst (IsFree (is 44)) (sym s.form) (
    kind_free member.key.kind,
    free_append (is 44) s.digits (64 ∷ s.role) (free_digits is_ascii_digit 44 s.digits refl s.number.digits.digits)
        (refl, text_free 44 s.role member.role refl refl refl s.role_text),
  ),
  subst (λ t. 0 < length t) (sym s.form) (omega arith),
)

pub members_spell : (text : List ℕ) (members : List Member) → IsUtf8 text → members_of text ≡ Ok members
    → SpellsList SpellsMember text members
unfolding members_of
members_spell text members utf8 e = list_spells SpellsMember member_of member_spells text members utf8 e

pub members_again : (text : List ℕ) (members : List Member) → SpellsList SpellsMember text members → members_of text ≡ Ok members
unfolding members_of
members_again text members s = list_again SpellsMember member_of member_again member_stands text members s
