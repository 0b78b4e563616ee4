-- What is written is read as the same.
use Rattle.std.proofs.Common.{◌≡◌, ℕ, zero, suc, ◌*◌, ◌/◌, ◌%◌, ◌^◌, ◌<◌, ◌≤◌, ◌==◌, ◌&&◌, ◌||◌, Bool, true, false, List, [], ◌∷◌, length, Ok, refl, ap, ◌∙◌, arith, inl, inr}
use Rattle.std.specs.Prelude.{codes, decimal, nat_le, slice_index}
use Rattle.std.specs.List.{list_all}
use Rattle.std.specs.Char.{is_ascii_digit}
use Rattle.std.specs.Str.Parse.{digits_value}
use Rattle.std.proofs.lemmas.Bool.{cases_lt, eqb-true, ne_eqb, le-leb}
use Rattle.std.proofs.lemmas.Bool.Decides.{nat_tests}
use Rattle.std.proofs.lemmas.Fmt.{decimal_digit, decimal_is_IsNumeral, first_decimal, length-decimal-le}
use Rattle.std.proofs.lemmas.List.Splits.{slice_split_at, slice_split_none}
use Rattle.hex.specs.Hex.{IsBytes, encode_lower, encode_with, lower_digits}
use Rattle.hex.proofs.HexLemmas.{decode_of-encode_lower, length-encode_with}
use Rattle.osm_base.specs.declared.values.key.Kind.{Kind}
use Rattle.osm_base.specs.declared.values.key.Kind.TheVariants as kinds
use Rattle.osm_base.specs.declared.values.key.TheConstants.{MAX_ID}
use Rattle.osm_base.specs.map.Spots.{SpotOf}
use Rattle.opl_object.proofs.Digits.{both}
use Rattle.opl_object.proofs.WrittenNumbers.{decimal_digits}
use Rattle.delta_feed.proofs.Cutting.{one_at_least}
use Rattle.delta_feed.proofs.HexWords.{HasNoSpace, clean, hex_no_space}
use Rattle.delta_feed.specs.declared.hexes.TheConstants.{LINE_BYTES, MAX_HEX}
use Rattle.delta_feed.specs.declared.line.FeedLine.TheVariants as lines
use Rattle.delta_feed.specs.declared.place.Place.{Place}
use Rattle.delta_feed.specs.declared.place.Place.TheVariants as places
use Rattle.delta_feed.specs.declared.place.Verb.TheVariants as verbs
use Rattle.delta_feed.specs.declared.words.TheConstants.{LAST_VERSION, SPACE, TABLES}
use Rattle.delta_feed.specs.Hexes.{hex_in, is_digit, is_hex}
use Rattle.delta_feed.specs.Blocks.{more_comes}
use Rattle.delta_feed.specs.Line.{behind, del_by, line_in, line_of, opened_by, set_by, spelled_by, verb_in}
use Rattle.delta_feed.specs.Place.{may_stand}
use Rattle.delta_feed.specs.Text.{del_line, delta_line, full_line, joined_words, kind_letter, more_line, set_line, style_line}
use Rattle.delta_feed.specs.Written.{IsTold}
use Rattle.delta_feed.specs.Words.{is_empty, is_numeral, is_space, kind_in, last_word, next_word, bounded_number, words_of}

-- ---- words

abbrev HaveNoSpace : List (List ℕ) → Type 0
HaveNoSpace [] = Unit {0}
HaveNoSpace (word ∷ words) = HasNoSpace word × HaveNoSpace words

-- words that have no space are the words of their line
pub words_are : (word : List ℕ) (words : List (List ℕ)) → HasNoSpace word → HaveNoSpace words → words_of (joined_words (word ∷ words)) ≡ word ∷ words
unfolding words_of
words_are word [] clean others = slice_split_none is_space word clean
words_are word (next ∷ words) clean others =
    slice_split_at is_space word SPACE (joined_words (next ∷ words)) clean refl ∙ ap (λ behind. word ∷ behind) (words_are next words others.0 others.1)

digit_no_space : (byte : ℕ) → is_ascii_digit byte ≡ true → is_space byte ≡ false
digit_no_space byte passes = grind (arith, nat_tests)

letter_no_space : (kind : Kind) → HasNoSpace (kind_letter kind)
letter_no_space kinds.Node = clean (λ byte. byte == 110) (codes "n") (λ byte e. ne_eqb _ _ (λ is. omega (arith, eqb-true _ _ e))) refl
letter_no_space kinds.Way = clean (λ byte. byte == 119) (codes "w") (λ byte e. ne_eqb _ _ (λ is. omega (arith, eqb-true _ _ e))) refl
letter_no_space kinds.Relation = clean (λ byte. byte == 114) (codes "r") (λ byte e. ne_eqb _ _ (λ is. omega (arith, eqb-true _ _ e))) refl

-- ---- numbers

or_true : (b : Bool) → (b || true) ≡ true
or_true true = refl
or_true false = refl

-- the digits of a number are a numeral, and write it
numeral : (n : ℕ) → n < 10 ^ 19 → is_numeral (decimal n) ≡ true
numeral n small =
    let fits : n < 2 ^ 64 = omega arith in
    let read = decimal_is_IsNumeral n fits in
    let few = length-decimal-le 19 n (omega arith) small fits in
    elim (cases_lt 0 n) [
      | inl some ↦ (let first : (slice_index (decimal n) 0 == 48) ≡ false = ne_eqb (slice_index (decimal n) 0) 48 (λ e. omega (arith, first_decimal n some fits)) in
          rw (le-leb 1 (length (decimal n)) (omega (arith, read.0.0)), le-leb (length (decimal n)) 19 few, decimal_digits n fits, first) (or_true (length (decimal n) == 1)))
      | inr none ↦ (let e : n ≡ 0 = omega arith in rw (e, decimal_digit 0 (omega arith)) refl)
    ]

pub number_back : (least most n : ℕ) → least ≤ n → n ≤ most → n < 10 ^ 19 → bounded_number least most (decimal n) ≡ Ok n
unfolding bounded_number
number_back least most n low high small =
    let value : digits_value 10 (decimal n) ≡ n = (decimal_is_IsNumeral n (omega arith)).1 in
    rw (numeral n small, value, le-leb least n low, le-leb n most high) refl

some_decimal : (n : ℕ) → n < 10 ^ 19 → is_empty (decimal n) ≡ false
some_decimal n small = ne_eqb (length (decimal n)) 0 (λ e. omega (arith, (decimal_is_IsNumeral n (omega arith)).0.0))

-- ---- digits of bytes

below : ℕ → Bool
below zero = true
below (suc n) = is_digit (slice_index lower_digits n) && below n

below_at : (n k : ℕ) → below n ≡ true → k < n → is_digit (slice_index lower_digits k) ≡ true
unfolding below
below_at zero k all lt = absurd (omega arith)
below_at (suc n) k all lt =
    let parts = both (is_digit (slice_index lower_digits n)) (below n) all in
    elim (cases_lt k n) [
      | inl less ↦ below_at n k parts.1 less
      | inr top ↦ (let e : k ≡ n = omega arith in rw e parts.0)
    ]

lower : (k : ℕ) → k < 16 → is_digit (slice_index lower_digits k) ≡ true
unfolding below
lower k lt = below_at 16 k refl lt

all_lower : (bytes : List ℕ) → IsBytes bytes → list_all is_digit (encode_lower bytes) ≡ true
unfolding encode_with
all_lower [] are = refl
all_lower (byte ∷ bytes) are =
    let fits : byte < 256 = are 0 in
    rw (lower (byte / 16) (omega arith), lower (byte % 16) (omega arith)) (all_lower bytes (λ k. are (suc k)))

-- so many bytes are so many digits
hex_is : (bytes : List ℕ) → IsBytes bytes → 1 ≤ length bytes → length bytes ≤ LINE_BYTES → is_hex (encode_lower bytes) ≡ true
hex_is bytes are some short =
    let long : length (encode_lower bytes) ≡ 2 * length bytes = length-encode_with lower_digits bytes in
    let rest : length (encode_lower bytes) % 2 ≡ 0 = omega (arith, long) in
    let even : (length (encode_lower bytes) % 2 == 0) ≡ true = rw rest refl in
    rw (le-leb 2 (length (encode_lower bytes)) (omega (arith, long)), le-leb (length (encode_lower bytes)) MAX_HEX (omega (arith, long)), even, all_lower bytes are) refl

pub hex_back : (bytes : List ℕ) → IsBytes bytes → 1 ≤ length bytes → length bytes ≤ LINE_BYTES → hex_in (encode_lower bytes) ≡ Ok bytes
unfolding hex_in
hex_back bytes are some short = rw (hex_is bytes are some short, decode_of-encode_lower bytes are) refl

some_hex : (bytes : List ℕ) → 1 ≤ length bytes → is_empty (encode_lower bytes) ≡ false
some_hex bytes some = ne_eqb (length (encode_lower bytes)) 0 (λ e. omega (arith, length-encode_with lower_digits bytes))

-- ---- lines

letter_back : (kind : Kind) → kind_in (kind_letter kind) ≡ Ok kind
unfolding kind_in
letter_back kinds.Node = refl
letter_back kinds.Way = refl
letter_back kinds.Relation = refl

some_letter : (kind : Kind) → is_empty (kind_letter kind) ≡ false
some_letter kinds.Node = refl
some_letter kinds.Way = refl
some_letter kinds.Relation = refl

next_is : (word next : List ℕ) (words : List (List ℕ)) → is_empty word ≡ false → next_word (word ∷ next ∷ words) ≡ Ok (word, next ∷ words)
unfolding next_word
next_is word next words some = rw (one_at_least next words, some) refl

last_is : (word : List ℕ) → is_empty word ≡ false → last_word (word ∷ []) ≡ Ok word
unfolding last_word
last_is word some = rw some refl

set_words : (spot : SpotOf) (bytes : List ℕ) → IsTold spot → IsBytes bytes → 1 ≤ length bytes → length bytes ≤ LINE_BYTES
    → set_by (decimal spot.table ∷ kind_letter spot.key.kind ∷ decimal spot.key.id ∷ encode_lower bytes ∷ []) ≡ Ok (lines.Set spot bytes)
unfolding set_by
set_words spot bytes told are some short =
    let table : spot.table < 10 ^ 19 = omega (arith, told.table) in
    let id : spot.key.id < 10 ^ 19 = omega (arith, told.id.greatest) in
    rw (
      next_is (decimal spot.table) (kind_letter spot.key.kind) (decimal spot.key.id ∷ encode_lower bytes ∷ []) (some_decimal _ table),
      next_is (kind_letter spot.key.kind) (decimal spot.key.id) (encode_lower bytes ∷ []) (some_letter spot.key.kind),
      next_is (decimal spot.key.id) (encode_lower bytes) [] (some_decimal _ id),
      last_is (encode_lower bytes) (some_hex bytes some),
      letter_back spot.key.kind,
      number_back 0 TABLES spot.table (omega arith) told.table table,
      number_back 1 MAX_ID spot.key.id (omega (arith, told.id.least)) (omega (arith, told.id.greatest)) id,
      hex_back bytes are some short,
    ) refl

-- a word of small letters
abbrev is_letter : ℕ → Bool
is_letter byte = nat_le 97 byte

letter_no_gap : (byte : ℕ) → is_letter byte ≡ true → is_space byte ≡ false
letter_no_gap byte e = grind (arith, nat_tests)

letters : (word : List ℕ) → list_all is_letter word ≡ true → HasNoSpace word
letters word all = clean is_letter word letter_no_gap all

number_clean : (n : ℕ) → n < 2 ^ 64 → HasNoSpace (decimal n)
number_clean n small = clean is_ascii_digit _ digit_no_space (decimal_digits n small)

bytes_clean : (bytes : List ℕ) → IsBytes bytes → HasNoSpace (encode_lower bytes)
bytes_clean bytes are = clean is_digit _ hex_no_space (all_lower bytes are)

-- the words of each line
pub words_of_set : (spot : SpotOf) (bytes : List ℕ) → IsTold spot → IsBytes bytes
    → words_of (set_line spot bytes) ≡ codes "set" ∷ decimal spot.table ∷ kind_letter spot.key.kind ∷ decimal spot.key.id ∷ encode_lower bytes ∷ []
unfolding set_line
words_of_set spot bytes told are = words_are (codes "set") (decimal spot.table ∷ kind_letter spot.key.kind ∷ decimal spot.key.id ∷ encode_lower bytes ∷ [])
    (letters (codes "set") refl)
    (number_clean spot.table (omega (arith, told.table)), (letter_no_space spot.key.kind, (number_clean spot.key.id (omega (arith, told.id.greatest)), (bytes_clean bytes are, tt))))

pub words_of_del : (spot : SpotOf) → IsTold spot
    → words_of (del_line spot) ≡ codes "del" ∷ decimal spot.table ∷ kind_letter spot.key.kind ∷ decimal spot.key.id ∷ []
unfolding del_line
words_of_del spot told = words_are (codes "del") (decimal spot.table ∷ kind_letter spot.key.kind ∷ decimal spot.key.id ∷ [])
    (letters (codes "del") refl)
    (number_clean spot.table (omega (arith, told.table)), (letter_no_space spot.key.kind, (number_clean spot.key.id (omega (arith, told.id.greatest)), tt)))

pub words_of_more : (bytes : List ℕ) → IsBytes bytes → words_of (more_line bytes) ≡ codes "more" ∷ encode_lower bytes ∷ []
unfolding more_line
words_of_more bytes are = words_are (codes "more") (encode_lower bytes ∷ []) (letters (codes "more") refl) (bytes_clean bytes are, tt)

words_of_style : (bytes : List ℕ) → IsBytes bytes → words_of (style_line bytes) ≡ codes "style" ∷ encode_lower bytes ∷ []
unfolding style_line
words_of_style bytes are = words_are (codes "style") (encode_lower bytes ∷ []) (letters (codes "style") refl) (bytes_clean bytes are, tt)

words_of_full : (version : ℕ) → version ≤ LAST_VERSION → words_of (full_line version) ≡ codes "full" ∷ decimal version ∷ []
unfolding full_line
words_of_full version fits = words_are (codes "full") (decimal version ∷ []) (letters (codes "full") refl) (number_clean version (omega (arith, fits)), tt)

words_of_delta : (version : ℕ) → version ≤ LAST_VERSION → words_of (delta_line version) ≡ codes "delta" ∷ decimal version ∷ []
unfolding delta_line
words_of_delta version fits = words_are (codes "delta") (decimal version ∷ []) (letters (codes "delta") refl) (number_clean version (omega (arith, fits)), tt)

-- the line of a row is read as that row, wherever it may stand
pub set_back : (place : Place) (spot : SpotOf) (bytes : List ℕ) → may_stand place verbs.Set ≡ true
    → IsTold spot → IsBytes bytes → 1 ≤ length bytes → length bytes ≤ LINE_BYTES
    → line_in place (set_line spot bytes) ≡ Ok (lines.Set spot bytes)
unfolding line_in line_of verb_in behind
set_back place spot bytes stands told are some short = rw (words_of_set spot bytes told are, stands) (set_words spot bytes told are some short)

del_words : (spot : SpotOf) → IsTold spot → del_by (decimal spot.table ∷ kind_letter spot.key.kind ∷ decimal spot.key.id ∷ []) ≡ Ok (lines.Del spot)
unfolding del_by
del_words spot told =
    let table : spot.table < 10 ^ 19 = omega (arith, told.table) in
    let id : spot.key.id < 10 ^ 19 = omega (arith, told.id.greatest) in
    rw (
      next_is (decimal spot.table) (kind_letter spot.key.kind) (decimal spot.key.id ∷ []) (some_decimal _ table),
      next_is (kind_letter spot.key.kind) (decimal spot.key.id) [] (some_letter spot.key.kind),
      last_is (decimal spot.key.id) (some_decimal _ id),
      letter_back spot.key.kind,
      number_back 0 TABLES spot.table (omega arith) told.table table,
      number_back 1 MAX_ID spot.key.id (omega (arith, told.id.least)) (omega (arith, told.id.greatest)) id,
    ) refl

-- and one that takes a row away
pub del_back : (place : Place) (spot : SpotOf) → may_stand place verbs.Del ≡ true → IsTold spot
    → line_in place (del_line spot) ≡ Ok (lines.Del spot)
unfolding line_in line_of verb_in behind
del_back place spot stands told = rw (words_of_del spot told, stands) (del_words spot told)

-- the lines of bytes alone
pub more_back : (bytes : List ℕ) → IsBytes bytes → 1 ≤ length bytes → length bytes ≤ LINE_BYTES → line_in places.Begun (more_line bytes) ≡ Ok (lines.More bytes)
unfolding line_in line_of verb_in behind spelled_by
more_back bytes are some short =
    rw (words_of_more bytes are, last_is (encode_lower bytes) (some_hex bytes some), hex_back bytes are some short) refl

pub style_back : (bytes : List ℕ) → IsBytes bytes → 1 ≤ length bytes → length bytes ≤ LINE_BYTES → line_in places.Opened (style_line bytes) ≡ Ok (lines.Style bytes)
unfolding line_in line_of verb_in behind spelled_by
style_back bytes are some short =
    rw (words_of_style bytes are, last_is (encode_lower bytes) (some_hex bytes some), hex_back bytes are some short) refl

-- the lines that begin a block, and the one that ends it
pub full_back : (version : ℕ) → version ≤ LAST_VERSION → line_in places.Between (full_line version) ≡ Ok (lines.Full version)
unfolding line_in line_of verb_in behind opened_by
full_back version fits =
    let small : version < 10 ^ 19 = omega (arith, fits) in
    rw (words_of_full version fits, last_is (decimal version) (some_decimal version small), number_back 0 LAST_VERSION version (omega arith) fits small) refl

pub delta_back : (version : ℕ) → version ≤ LAST_VERSION → line_in places.Between (delta_line version) ≡ Ok (lines.Delta version)
unfolding line_in line_of verb_in behind opened_by
delta_back version fits =
    let small : version < 10 ^ 19 = omega (arith, fits) in
    rw (words_of_delta version fits, last_is (decimal version) (some_decimal version small), number_back 0 LAST_VERSION version (omega arith) fits small) refl

pub end_back : (place : Place) → may_stand place verbs.End ≡ true → line_in place (codes "end") ≡ Ok lines.End
unfolding line_in line_of words_of verb_in behind
end_back place stands = rw stands refl

-- only such a line says `more`
pub more_says : (bytes : List ℕ) (rest : List (List ℕ)) → IsBytes bytes → more_comes (more_line bytes ∷ rest) ≡ true
unfolding more_comes
more_says bytes rest are = rw (words_of_more bytes are) refl

pub set_says : (spot : SpotOf) (bytes : List ℕ) (rest : List (List ℕ)) → IsTold spot → IsBytes bytes → more_comes (set_line spot bytes ∷ rest) ≡ false
unfolding more_comes
set_says spot bytes rest told are = rw (words_of_set spot bytes told are) refl

pub del_says : (spot : SpotOf) (rest : List (List ℕ)) → IsTold spot → more_comes (del_line spot ∷ rest) ≡ false
unfolding more_comes
del_says spot rest told = rw (words_of_del spot told) refl

pub end_says : (rest : List (List ℕ)) → more_comes (codes "end" ∷ rest) ≡ false
unfolding more_comes words_of
end_says rest = refl
