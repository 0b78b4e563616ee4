-- Ids and coordinates: what is read is spelled so, and what is spelled so is read.
use Rattle.std.proofs.Common.{◌≡◌, ℕ, ◌+◌, ◌<◌, ◌≤◌, Bool, true, false, cond, ◌&&◌, ◌⊎◌, inl, inr, eqb, eq-eqb, List, [], ◌∷◌, ◌++◌, length}
use Rattle.std.proofs.Common.{get_or, take, drop, Option, None, Some, Result, Ok, Err, refl, sym, ◌∙◌, ap, subst, arith, append_assoc, leb}
use Rattle.std.proofs.Common.{ltb}
use Rattle.std.specs.Prelude.{ℤ, pos, neg_ℤ}
use Rattle.std.specs.List.{list_all, position_or_len}
use Rattle.std.specs.Char.{is_ascii_digit}
use Rattle.std.specs.Str.{IsUtf8}
use Rattle.std.specs.Str.Parse.{digits_value}
use Rattle.std.proofs.lemmas.Bool.{cases_Bool, cases_lt, eqb-true, false_from_ne_true, leb-true, le-leb, lt-ltb, le-ltb}
use Rattle.std.proofs.lemmas.List.{append-nil, take-append-drop, take_all, take_at, drop_at, drop_more, length-append}
use Rattle.std.proofs.lemmas.List.Sums.{passes_at_first}
use Rattle.std.proofs.lemmas.Str.{IsUtf8-drop}
use Rattle.osm_base.specs.declared.values.key.TheConstants.{MAX_ID}
use Rattle.osm_base.specs.values.Key.{IsId}
use Rattle.opl_object.specs.declared.why.Why.{Why}
use Rattle.opl_object.specs.declared.why.Why.TheVariants as causes
use Rattle.opl_object.specs.Coordinate.{is_decimal, units, decimals_of, coordinate}
use Rattle.opl_object.specs.Fields.{is, cut_at}
use Rattle.opl_object.specs.Nodes.{digits_len, numbered}
use Rattle.opl_object.specs.Number.{is_negative, unsigned, are_digits, id_of}
use Rattle.opl_object.specs.Spelling.{AreDigits, SpellsId, SpellsCoordinate, sign_text, decimals_text}
use Rattle.opl_object.specs.Why.{◌>>=◌}
use Rattle.opl_object.proofs.Cuts.{boundary_behind, digit-ascii}
use Rattle.opl_object.proofs.Digits.{both, digit_range}
use Rattle.opl_object.proofs.SpelledTexts.{IsFree, free_append, free_digits}
use Rattle.opl_object.proofs.Steps.{bind_ok, chosen, taken, ok_is}
use Rattle.opl_object.proofs.Units.{coordinate_some}

-- ---- cuts

place-free : (end : ℕ) (front rest : List ℕ) → IsFree (is end) front → position_or_len (is end) (front ++ end ∷ rest) ≡ length front
place-free end [] rest free = rw (eq-eqb end end refl) refl
place-free end (byte ∷ front) rest free = rw free.0 (omega (arith, place-free end front rest free.1))

place-none : (end : ℕ) (text : List ℕ) → IsFree (is end) text → position_or_len (is end) text ≡ length text
place-none end [] free = refl
place-none end (byte ∷ text) free = rw free.0 (omega (arith, place-none end text free.1))

pub cut_some : (end : ℕ) (front rest : List ℕ) → IsFree (is end) front → cut_at (is end) (front ++ end ∷ rest) ≡ (front, Some rest)
cut_some end front rest free =
    let place = place-free end front rest free in
    let within : ltb (length front) (length (front ++ end ∷ rest)) ≡ true = lt-ltb _ _ (omega (arith, length-append front (end ∷ rest))) in
    let back : drop (length front + 1) (front ++ end ∷ rest) ≡ rest
    = ap (drop (length front + 1)) (sym (append_assoc front (end ∷ []) rest))
    ∙ drop_at (front ++ end ∷ []) rest (length front + 1) (omega (arith, length-append front (end ∷ []))) in
    ap (λ n. (take n (front ++ end ∷ rest), cond (ltb n (length (front ++ end ∷ rest))) (Some (drop (n + 1) (front ++ end ∷ rest))) None))
    place
    ∙ ap (λ b. (take (length front) (front ++ end ∷ rest), cond b (Some (drop (length front + 1) (front ++ end ∷ rest))) None)) within
    ∙ ap (λ t. (t, Some (drop (length front + 1) (front ++ end ∷ rest)))) (take_at front (end ∷ rest) (length front) refl)
    ∙ ap (λ t. (front, Some t)) back

pub cut_none : (end : ℕ) (text : List ℕ) → IsFree (is end) text → cut_at (is end) text ≡ (text, None)
cut_none end text free =
    let place = place-none end text free in
    let past : ltb (length text) (length text) ≡ false = le-ltb _ _ (omega arith) in
    ap (λ n. (take n text, cond (ltb n (length text)) (Some (drop (n + 1) text)) None)) place
    ∙ ap (λ b. (take (length text) text, cond b (Some (drop (length text + 1) text)) None)) past
    ∙ ap (λ t. (t, None)) (take_all (length text) text (omega arith))

-- a text has the byte or not
pub record Cut (end : ℕ) (text front rest : List ℕ) : Type 0 where
  pub is : cut_at (is end) text ≡ (front, Some rest)
  pub form : text ≡ front ++ end ∷ rest

pub cut_cases : (end : ℕ) (text : List ℕ)
    → (cut_at (is end) text ≡ (text, None)) ⊎ ((front : List ℕ) × (rest : List ℕ) × Cut end text front rest)
cut_cases end text = elim (cases_lt (position_or_len (is end) text) (length text)) [
  | inl lt ↦ (
      let place = position_or_len (is end) text in
      let byte : get_or text place 0 ≡ end = eqb-true (get_or text place 0) end (passes_at_first (is end) text 0 lt) in
      let parts : text ≡ take place text ++ end ∷ drop (place + 1) text
      = sym (take-append-drop place text) ∙ ap (λ t. take place text ++ t)
      (drop_more text place 0 lt ∙ ap (λ b. b ∷ drop (place + 1) text) byte) in
      inr (take place text, drop (place + 1) text, record { is = rw (lt-ltb _ _ lt) refl; form = parts }))
  | inr le ↦ inl (rw (le-ltb _ _ le) (ap (λ t. (t, None)) (take_all _ text le)))
]

-- ---- digits and ids

pub digits_are : (most : ℕ) (text : List ℕ) → are_digits most text ≡ true → AreDigits most text
digits_are most text e =
    let parts = both _ _ e in
    let size = both _ _ parts.0 in
    record { some = leb-true _ _ size.0; few = leb-true _ _ size.1; digits = parts.1 }

pub are_digits_again : (most : ℕ) (text : List ℕ) → AreDigits most text → are_digits most text ≡ true
are_digits_again most text a = rw (le-leb _ _ a.some, le-leb _ _ a.few, a.digits) refl

pub id_spells : (text : List ℕ) (id : ℕ) → id_of text ≡ Ok id → SpellsId text id
unfolding id_of
id_spells text id e =
    let found = chosen _ causes.Id (digits_value 10 text) id e in
    let parts = both _ _ found.0 in
    let range = both _ _ parts.1 in
    record {
      digits = digits_are 19 text parts.0;
      value = found.1;
      range = subst IsId found.1 (record { least = leb-true _ _ range.0; greatest = leb-true _ _ range.1 });
    }

pub id_again : (text : List ℕ) (id : ℕ) → SpellsId text id → id_of text ≡ Ok id
unfolding id_of
id_again text id s =
    let least : leb 1 (digits_value 10 text) ≡ true = le-leb _ _ (subst (λ n. 1 ≤ n) (sym s.value) s.range.least) in
    let greatest : leb (digits_value 10 text) MAX_ID ≡ true = le-leb _ _ (subst (λ n. n ≤ MAX_ID) (sym s.value) s.range.greatest) in
    rw (are_digits_again 19 text s.digits, least, greatest) (ap (λ n. Ok n) s.value)

-- what does not begin with a digit
abbrev pub NoDigit : List ℕ → Type 0
NoDigit [] = Unit {0}
NoDigit (byte ∷ rest) = is_ascii_digit byte ≡ false

digits_len-front : (digits rest : List ℕ) → list_all is_ascii_digit digits ≡ true → NoDigit rest
    → digits_len (digits ++ rest) ≡ length digits
digits_len-front [] [] all none = refl
digits_len-front [] (byte ∷ rest) all none = rw none refl
digits_len-front (digit ∷ digits) rest all none =
    let parts = both (is_ascii_digit digit) (list_all is_ascii_digit digits) all in
    rw parts.0 (omega (arith, digits_len-front digits rest parts.1 none))

pub numbered_again : (digits rest : List ℕ) (id : ℕ) → SpellsId digits id → NoDigit rest → numbered (digits ++ rest) ≡ Ok (id, rest)
unfolding numbered
numbered_again digits rest id s none =
    let len = digits_len-front digits rest s.digits.digits none in
    ap (λ n. id_of (take n (digits ++ rest)) >>= λ id. Ok (id, drop n (digits ++ rest))) len
    ∙ ap (λ t. id_of t >>= λ id. Ok (id, drop (length digits) (digits ++ rest))) (take_at digits rest (length digits) refl)
    ∙ ap (λ r. r >>= λ id. Ok (id, drop (length digits) (digits ++ rest))) (id_again digits id s)
    ∙ ap (λ t. Ok (id, t)) (drop_at digits rest (length digits) refl)

pub record Numbered (text : List ℕ) (id : ℕ) (rest : List ℕ) : Type 0 where
  pub digits : List ℕ
  pub form : text ≡ digits ++ rest
  pub number : SpellsId digits id
  pub utf8 : IsUtf8 text → IsUtf8 rest

pub numbered_spells : (text : List ℕ) (found : ℕ × List ℕ) → numbered text ≡ Ok found → Numbered text found.0 found.1
unfolding numbered
numbered_spells text found e =
    let id = bind_ok (id_of (take (digits_len text) text)) (λ id. Ok (id, drop (digits_len text) text)) found e in
    let made : ℕ × List ℕ = (id.0, drop (digits_len text) text) in
    subst (λ (f : ℕ × List ℕ). Numbered text f.0 f.1) (ok_is made found id.2) (record {
      digits = take (digits_len text) text;
      form = sym (take-append-drop (digits_len text) text);
      number = id_spells _ id.0 id.1;
      utf8 = λ u. IsUtf8-drop text (digits_len text) u (boundary_behind is_ascii_digit text digit-ascii u);
    })

-- ---- coordinates

sign_parts : (text : List ℕ) → text ≡ sign_text (is_negative text) ++ unsigned text
sign_parts [] = refl
sign_parts (byte ∷ text) = elim (cases_Bool (eqb byte 45)) [
  | inl minus ↦ (let e : byte ≡ 45 = eqb-true byte 45 minus in rw minus (ap (λ b. b ∷ text) e))
  | inr plus ↦ rw plus refl
]

-- a coordinate whose digits stand so
module _ (greatest : ℕ) (text whole decimals : List ℕ) (value : ℤ) where
  coordinate_made : text ≡ sign_text (is_negative text) ++ (whole ++ decimals_text decimals) → 1 ≤ length whole
      → length whole + length decimals ≤ 20
      → list_all is_ascii_digit whole ≡ true → list_all is_ascii_digit decimals ≡ true
      → cond (leb (units whole decimals) greatest)
      (Ok (cond (is_negative text) (neg_ℤ (pos (units whole decimals))) (pos (units whole decimals)))) (Err causes.Range) ≡ Ok value
      → SpellsCoordinate greatest text value
  coordinate_made form some few whole_digits decimal_digits e =
      let found = chosen (leb (units whole decimals) greatest) causes.Range
      (cond (is_negative text) (neg_ℤ (pos (units whole decimals))) (pos (units whole decimals))) value e in
      record {
        minus = is_negative text;
        whole = whole;
        decimals = decimals;
        form = form;
        some = some;
        few = few;
        whole_digits = whole_digits;
        decimal_digits = decimal_digits;
        near = leb-true _ _ found.0;
        is = found.1;
      }

decimals_some : (decimals : List ℕ) → 1 ≤ length decimals → decimals_text decimals ≡ 46 ∷ decimals
decimals_some [] some = absurd (omega arith)
decimals_some (digit ∷ decimals) some = refl

abbrev parts_read : ℕ → List ℕ → List ℕ × Option (List ℕ) → Result ℤ Why
parts_read greatest text parts = cond (is_decimal parts)
    (cond (leb (units parts.0 (decimals_of parts.1)) greatest)
    (Ok (cond (is_negative text) (neg_ℤ (pos (units parts.0 (decimals_of parts.1)))) (pos (units parts.0 (decimals_of parts.1)))))
    (Err causes.Range))
    (Err causes.Number)

coordinate-parts : (greatest : ℕ) (text : List ℕ) → coordinate greatest text ≡ parts_read greatest text (cut_at (is 46) (unsigned text))
unfolding coordinate
coordinate-parts greatest text = refl

pub coordinate_spells : (greatest : ℕ) (text : List ℕ) (value : ℤ) → coordinate greatest text ≡ Ok value
    → SpellsCoordinate greatest text value
coordinate_spells greatest text value e =
    let read : parts_read greatest text (cut_at (is 46) (unsigned text)) ≡ Ok value = sym (coordinate-parts greatest text) ∙ e in
    elim (cut_cases 46 (unsigned text)) [
      | inl none ↦ (
          let whole : parts_read greatest text (unsigned text, None) ≡ Ok value = ap (parts_read greatest text) (sym none) ∙ read in
          let found = taken (are_digits 20 (unsigned text)) causes.Number
          (cond (leb (units (unsigned text) []) greatest)
          (Ok (cond (is_negative text) (neg_ℤ (pos (units (unsigned text) []))) (pos (units (unsigned text) []))))
          (Err causes.Range)) value whole in
          let d = digits_are 20 (unsigned text) found.0 in
          let few : length (unsigned text) + 0 ≤ 20 = omega (arith, d.few) in
          coordinate_made greatest text (unsigned text) [] value
          (sign_parts text ∙ ap (λ t. sign_text (is_negative text) ++ t) (sym (append-nil (unsigned text)))) d.some few d.digits refl
          found.1)
      | inr cut ↦ (
          let whole = cut.0 in
          let decimals = cut.1 in
          let both_read : parts_read greatest text (cut.0, Some cut.1) ≡ Ok value = ap (parts_read greatest text) (sym cut.2.is) ∙ read in
          let found = taken ((are_digits 20 cut.0 && are_digits 20 cut.1) && leb (length cut.0 + length cut.1) 20) causes.Number
          (cond (leb (units cut.0 cut.1) greatest)
          (Ok (cond (is_negative text) (neg_ℤ (pos (units cut.0 cut.1))) (pos (units cut.0 cut.1)))) (Err causes.Range)) value
          both_read in
          let parts = both _ _ found.0 in
          let digits = both _ _ parts.0 in
          let w = digits_are 20 cut.0 digits.0 in
          let d = digits_are 20 cut.1 digits.1 in
          let form : text ≡ sign_text (is_negative text) ++ (cut.0 ++ decimals_text cut.1)
          = sign_parts text ∙ ap (λ t. sign_text (is_negative text) ++ t)
          (cut.2.form ∙ ap (λ t. cut.0 ++ t) (sym (decimals_some cut.1 d.some))) in
          coordinate_made greatest text cut.0 cut.1 value form w.some (leb-true _ _ parts.1) w.digits d.digits found.1)
    ]

-- digits in front make no sign
digit_front : (whole rest : List ℕ) → 1 ≤ length whole → list_all is_ascii_digit whole ≡ true → is_negative (whole ++ rest) ≡ false
digit_front [] rest some all = absurd (omega arith)
digit_front (digit ∷ whole) rest some all =
    let parts = both (is_ascii_digit digit) (list_all is_ascii_digit whole) all in
    false_from_ne_true _ (λ same. let e : digit ≡ 45 = eqb-true digit 45 same in let r = digit_range digit parts.0 in omega (arith, r.0))

pub sign_again : (minus : Bool) (whole rest : List ℕ) → 1 ≤ length whole → list_all is_ascii_digit whole ≡ true
    → (is_negative (sign_text minus ++ (whole ++ rest)) ≡ minus) × (unsigned (sign_text minus ++ (whole ++ rest)) ≡ whole ++ rest)
sign_again true whole rest some all = (refl, refl)
sign_again false whole rest some all = let e = digit_front whole rest some all in (e, rw e refl)

decimal_parts : (whole decimals : List ℕ) → 1 ≤ length whole → length whole + length decimals ≤ 20 → list_all is_ascii_digit whole ≡ true
    → list_all is_ascii_digit decimals ≡ true
    → (rest : Option (List ℕ)) × (cut_at (is 46) (whole ++ decimals_text decimals) ≡ (whole, rest)) × (is_decimal (whole, rest) ≡ true)
    × (decimals_of rest ≡ decimals)
decimal_parts whole [] some few all none =
    let free = free_digits is_ascii_digit 46 whole refl all in
    let digits = are_digits_again 20 whole (record { some = some; few = omega arith; digits = all }) in
    (None, ap (cut_at (is 46)) (append-nil whole) ∙ cut_none 46 whole free, digits, refl)
decimal_parts whole (digit ∷ decimals) some few all rest =
    let free = free_digits is_ascii_digit 46 whole refl all in
    let w = are_digits_again 20 whole (record { some = some; few = omega arith; digits = all }) in
    let d = are_digits_again 20 (digit ∷ decimals) (record { some = omega arith; few = omega arith; digits = rest }) in
    let sum : leb (length whole + length (digit ∷ decimals)) 20 ≡ true = le-leb _ _ few in
    (Some (digit ∷ decimals), cut_some 46 whole (digit ∷ decimals) free, decimal_is w d sum, refl) where
      decimal_is : are_digits 20 whole ≡ true → are_digits 20 (digit ∷ decimals) ≡ true
          → leb (length whole + length (digit ∷ decimals)) 20 ≡ true → is_decimal (whole, Some (digit ∷ decimals)) ≡ true
      decimal_is w d sum = ap (λ b. (b && are_digits 20 (digit ∷ decimals)) && leb (length whole + length (digit ∷ decimals)) 20) w
          ∙ ap (λ b. b && leb (length whole + length (digit ∷ decimals)) 20) d ∙ sum

pub coordinate_again : (greatest : ℕ) (text : List ℕ) (value : ℤ) → SpellsCoordinate greatest text value
    → coordinate greatest text ≡ Ok value
coordinate_again greatest text value s =
    let body = s.whole ++ decimals_text s.decimals in
    let sign = sign_again s.minus s.whole (decimals_text s.decimals) s.some s.whole_digits in
    let parts = decimal_parts s.whole s.decimals s.some s.few s.whole_digits s.decimal_digits in
    let cut : (s.whole, parts.0) ≡ cut_at (is 46) (unsigned text) =
    sym (ap (λ t. cut_at (is 46) (unsigned t)) s.form ∙ ap (cut_at (is 46)) sign.1 ∙ parts.1) in
    let read = coordinate_some greatest text s.whole parts.0 (units s.whole s.decimals) cut parts.2 (ap (units s.whole) parts.3) s.near in
    let minus : is_negative text ≡ s.minus = ap is_negative s.form ∙ sign.0 in
    read ∙ ap (λ b. Ok (cond b (neg_ℤ (pos (units s.whole s.decimals))) (pos (units s.whole s.decimals)))) minus ∙ ap (λ v. Ok v) s.is

-- a coordinate is free of a byte that is no digit, no minus and no point
pub coordinate_free : (end greatest : ℕ) (text : List ℕ) (value : ℤ) → is_ascii_digit end ≡ false → eqb 45 end ≡ false → eqb 46 end ≡ false
    → SpellsCoordinate greatest text value → IsFree (is end) text
coordinate_free end greatest text value none no_minus no_point s =
    subst (IsFree (is end)) (sym s.form) (free_append (is end) (sign_text s.minus) (s.whole ++ decimals_text s.decimals) (sign_free s.minus)
    (free_append (is end) s.whole (decimals_text s.decimals) (free_digits is_ascii_digit end s.whole none s.whole_digits)
    (decimals_free s.decimals s.decimal_digits))) where
      sign_free : (minus : Bool) → IsFree (is end) (sign_text minus)
      sign_free true = (no_minus, tt)
      sign_free false = tt

      decimals_free : (decimals : List ℕ) → list_all is_ascii_digit decimals ≡ true → IsFree (is end) (decimals_text decimals)
      decimals_free [] all = tt
      decimals_free (digit ∷ decimals) all = (no_point, free_digits is_ascii_digit end (digit ∷ decimals) none all)

-- and not empty
pub coordinate_nonempty : (greatest : ℕ) (text : List ℕ) (value : ℤ) → SpellsCoordinate greatest text value → 0 < length text
coordinate_nonempty greatest text value s =
    rw s.form (omega (
      arith,
      length-append (sign_text s.minus) (s.whole ++ decimals_text s.decimals),
      length-append s.whole (decimals_text s.decimals),
      s.some,
    ))
