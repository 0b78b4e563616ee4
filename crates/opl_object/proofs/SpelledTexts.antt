-- Texts: what is read is spelled so, and what is spelled so is read.
use Rattle.std.proofs.Common.{◌≡◌, ℕ, suc, ◌<◌, Bool, true, false, cond, not, ◌&&◌, ◌||◌, ◌⊎◌, inl, inr, eqb, eq-eqb, List, [], ◌∷◌, ◌++◌}
use Rattle.std.proofs.Common.{length, get_or, Ok, Err, refl, sym, ◌∙◌, ap, subst, arith, append_assoc, ltb}
use lib.Utf8.{scalar, scalars}
use Rattle.std.specs.Prelude.{encode_utf8_all}
use Rattle.std.specs.List.{list_all, slice_split, onto_first, join_with_byte, AllByRecursion}
use Rattle.std.specs.Char.{encode_utf8, is_ascii_hexdigit}
use Rattle.std.specs.Str.{IsUtf8, chars}
use Rattle.std.specs.Str.Parse.{digits_value}
use Rattle.std.proofs.lemmas.Bool.{cases_Bool, eqb-true, false_from_ne_true, leb-true, le-leb, ltb-true, lt-ltb}
use Rattle.std.proofs.lemmas.List.{append-nil}
use Rattle.std.proofs.lemmas.List.Folds.{list_all-append}
use Rattle.std.proofs.lemmas.List.Splits.{slice_split-cons_yes, slice_split-cons_no, join_with_byte-slice_split}
use Rattle.std.proofs.lemmas.Str.{inside_one, encode_ascii, encodes-append, chars-encodes, IsUtf8-append, IsUtf8-encode, IsUtf8-nil}
use Rattle.opl_object.specs.declared.why.Why.TheVariants.{Escape}
use Rattle.opl_object.specs.Fields.{is}
use Rattle.opl_object.specs.Spelling.{SpellsText, SpellsPlain, SpellsEscape}
use Rattle.opl_object.specs.Text.{is_reserved, is_plain, escaped, resolved, bytes_of, text_of}
use Rattle.opl_object.specs.Why.{◌>>=◌}
use Rattle.opl_object.proofs.Cuts.{IsAsciiTest}
use Rattle.opl_object.proofs.Digits.{both, either}
use Rattle.opl_object.proofs.Steps.{bind_ok, chosen, taken, ok_is}

-- ---- bytes that end no piece

abbrev pub IsFree : (ℕ → Bool) → List ℕ → Type 0
IsFree ends text = AllByRecursion (λ byte. ends byte ≡ false) text

pub free_append : (ends : ℕ → Bool) (front rest : List ℕ) → IsFree ends front → IsFree ends rest → IsFree ends (front ++ rest)
free_append ends [] rest p q = q
free_append ends (byte ∷ front) rest p q = (p.0, free_append ends front rest p.1 q)

free_from_index : (ends : ℕ → Bool) (text : List ℕ) → ((k : ℕ) → k < length text → ends (get_or text k 0) ≡ false) → IsFree ends text
free_from_index ends [] h = tt
free_from_index ends (byte ∷ text) h = (h 0 (omega arith), free_from_index ends text (λ k lt. h (suc k) (omega arith)))

-- the bytes of a code point that ends no piece
pub free_encode : (ends : ℕ → Bool) (code : ℕ) → IsAsciiTest ends → ends code ≡ false → IsFree ends (encode_utf8 code)
free_encode ends code ascii clear = free_from_index ends (encode_utf8 code) (λ k lt. false_from_ne_true _ (λ yes_.
    let same : code ≡ get_or (encode_utf8 code) k 0 =
    inside_one code [] (encode_utf8 code) k (sym (append-nil (encode_utf8 code))) lt (ascii _ yes_) in
    let again : ends code ≡ true = ap ends same ∙ yes_ in cc))

-- ---- pieces

-- a list in front of the first of some pieces
abbrev pub onto_front : List ℕ → List (List ℕ) → List (List ℕ)
onto_front front [] = front ∷ []
onto_front front (piece ∷ pieces) = (front ++ piece) ∷ pieces

onto_first-front : (byte : ℕ) (front : List ℕ) (pieces : List (List ℕ))
    → onto_first byte (onto_front front pieces) ≡ onto_front (byte ∷ front) pieces
onto_first-front byte front [] = refl
onto_first-front byte front (piece ∷ pieces) = refl

pub split_pieces : (ends : ℕ → Bool) (text : List ℕ)
    → (first : List ℕ) × (others : List (List ℕ)) × (slice_split ends text ≡ first ∷ others)
split_pieces ends [] = ([], [], refl)
split_pieces ends (byte ∷ text) = elim (cases_Bool (ends byte)) [
  | inl ended ↦ ([], slice_split ends text, slice_split-cons_yes ends byte text ended)
  | inr open_ ↦ (let rest = split_pieces ends text in
      (byte ∷ rest.0, rest.1, slice_split-cons_no ends byte text open_ ∙ ap (onto_first byte) rest.2))
]

onto_front-nil : (ends : ℕ → Bool) (text : List ℕ) → onto_front [] (slice_split ends text) ≡ slice_split ends text
onto_front-nil ends text = let p = split_pieces ends text in ap (onto_front []) p.2 ∙ sym p.2

pub split_over : (ends : ℕ → Bool) (front rest : List ℕ) → IsFree ends front
    → slice_split ends (front ++ rest) ≡ onto_front front (slice_split ends rest)
split_over ends [] rest free = sym (onto_front-nil ends rest)
split_over ends (byte ∷ front) rest free =
    slice_split-cons_no ends byte (front ++ rest) free.0 ∙ ap (onto_first byte) (split_over ends front rest free.1)
    ∙ onto_first-front byte front (slice_split ends rest)

pub split_at : (end : ℕ) (front rest : List ℕ) → IsFree (is end) front
    → slice_split (is end) (front ++ end ∷ rest) ≡ front ∷ slice_split (is end) rest
split_at end front rest free =
    let here : is end end ≡ true = eq-eqb end end refl in
    split_over (is end) front (end ∷ rest) free ∙ ap (onto_front front) (slice_split-cons_yes (is end) end rest here)
    ∙ ap (λ t. t ∷ slice_split (is end) rest) (append-nil front)

pub split_free : (ends : ℕ → Bool) (text : List ℕ) → IsFree ends text → slice_split ends text ≡ text ∷ []
split_free ends text free = ap (slice_split ends) (sym (append-nil text)) ∙ split_over ends text [] free
    ∙ ap (λ t. t ∷ []) (append-nil text)

-- the pieces of a text are texts
pieces_utf8 : (ends : ℕ → Bool) (codes : List ℕ) → IsAsciiTest ends → scalars codes ≡ true
    → AllByRecursion IsUtf8 (slice_split ends (encode_utf8_all codes))
pieces_utf8 ends [] ascii all = (IsUtf8-nil, tt)
pieces_utf8 ends (code ∷ codes) ascii all =
    let parts = both _ _ all in
    let rest = pieces_utf8 ends codes ascii parts.1 in
    elim (cases_Bool (ends code)) [
      | inl ended ↦ (
          let one : encode_utf8 code ++ encode_utf8_all codes ≡ code ∷ encode_utf8_all codes =
          ap (λ bytes. bytes ++ encode_utf8_all codes) (encode_ascii code (ascii code ended)) in
          subst (AllByRecursion IsUtf8) (sym (ap (slice_split ends) one ∙ slice_split-cons_yes ends code (encode_utf8_all codes) ended))
          (IsUtf8-nil, rest))
      | inr open_ ↦ (
          let cut = split_over ends (encode_utf8 code) (encode_utf8_all codes) (free_encode ends code ascii open_) in
          let p = split_pieces ends (encode_utf8_all codes) in
          let later : AllByRecursion IsUtf8 (p.0 ∷ p.1) = subst (AllByRecursion IsUtf8) p.2 rest in
          subst (AllByRecursion IsUtf8) (sym (cut ∙ ap (onto_front (encode_utf8 code)) p.2))
          (IsUtf8-append _ _ (IsUtf8-encode code parts.0) later.0, later.1))
    ]

pub split_utf8 : (ends : ℕ → Bool) (text : List ℕ) → IsAsciiTest ends → IsUtf8 text → AllByRecursion IsUtf8 (slice_split ends text)
split_utf8 ends text ascii utf8 = subst (λ bytes. AllByRecursion IsUtf8 (slice_split ends bytes)) utf8.1.1
    (pieces_utf8 ends utf8.0 ascii utf8.1.0)

-- ---- what is read is spelled

pub text_append : (a b x y : List ℕ) → SpellsText a x → SpellsText b y → SpellsText (a ++ b) (x ++ y)
text_append a b [] y p q = subst (λ (t : List ℕ). SpellsText (t ++ b) y) (sym p) q
text_append a b (code ∷ x) y p q = (p.0, p.1 ++ b, ap (λ t. t ++ b) p.2 ∙ append_assoc p.0 p.1 b, p.3, text_append p.1 b x y p.4 q)

-- what is reserved is ASCII
pub reserved_small : (code : ℕ) → is_reserved code ≡ true → code < 128
reserved_small code e = elim (either ((eqb code 0 || eqb code 9) || (eqb code 10 || eqb code 32))
    ((eqb code 37 || eqb code 44) || (eqb code 61 || eqb code 64)) e) [
      | inl low ↦ elim (either (eqb code 0 || eqb code 9) (eqb code 10 || eqb code 32) low) [
        | inl l ↦ elim (either (eqb code 0) (eqb code 9) l)
            [ inl t ↦ omega (arith, eqb-true code 0 t) | inr t ↦ omega (arith, eqb-true code 9 t) ]
        | inr r ↦ elim (either (eqb code 10) (eqb code 32) r)
            [ inl t ↦ omega (arith, eqb-true code 10 t) | inr t ↦ omega (arith, eqb-true code 32 t) ]
      ]
      | inr high ↦ elim (either (eqb code 37 || eqb code 44) (eqb code 61 || eqb code 64) high) [
        | inl l ↦ elim (either (eqb code 37) (eqb code 44) l)
            [ inl t ↦ omega (arith, eqb-true code 37 t) | inr t ↦ omega (arith, eqb-true code 44 t) ]
        | inr r ↦ elim (either (eqb code 61) (eqb code 64) r)
            [ inl t ↦ omega (arith, eqb-true code 61 t) | inr t ↦ omega (arith, eqb-true code 64 t) ]
      ]
    ]

-- a plain text spells its own code points
plain_spells : (codes : List ℕ) → scalars codes ≡ true → is_plain (encode_utf8_all codes) ≡ true → SpellsText (encode_utf8_all codes) codes
plain_spells [] all plain = refl
plain_spells (code ∷ codes) all plain =
    let scalar_parts = both _ _ all in
    let plain_parts = both _ _ (sym (list_all-append (λ byte. not (is_reserved byte)) (encode_utf8 code) (encode_utf8_all codes))
    ∙ plain) in
    let free : is_reserved code ≡ false = false_from_ne_true _ (λ held.
    let one : is_plain (encode_utf8 code) ≡ false = ap is_plain (encode_ascii code (reserved_small code held)) ∙ rw held refl in
    let wrong : true ≡ false = sym plain_parts.0 ∙ one in cc) in (
      encode_utf8 code,
      encode_utf8_all codes,
      refl,
      inl (record { form = refl; scalar = scalar_parts.0; free = free }),
      plain_spells codes scalar_parts.1 plain_parts.1,
    )

-- the digits that were read are an escape
escape_spells : (digits : List ℕ) (code : ℕ) → escaped digits ≡ Ok code → SpellsEscape (37 ∷ (digits ++ 37 ∷ [])) code
unfolding escaped
escape_spells digits code e =
    let found = chosen _ Escape (digits_value 16 digits) code e in
    let parts = both _ _ found.0 in
    let form = both _ _ parts.0 in
    let size = both _ _ form.0 in
    let value = both _ _ parts.1 in
    record {
      digits = digits;
      form = refl;
      some = leb-true _ _ size.0;
      few = leb-true _ _ size.1;
      hexadecimal = form.1;
      value = found.1;
      scalar = ap scalar (sym found.1) ∙ value.0;
      not_zero = subst (λ n. 0 < n) found.1 (ltb-true _ _ value.1);
    }

-- what some pieces stand for, behind a text
pub record Resolves (text spelled bytes : List ℕ) : Type 0 where
  pub codes : List ℕ
  pub scalar : scalars codes ≡ true
  pub is : bytes ≡ text ++ encode_utf8_all codes
  pub spells : SpellsText spelled codes

scalars-append : (a b : List ℕ) → scalars a ≡ true → scalars b ≡ true → scalars (a ++ b) ≡ true
scalars-append [] b p q = q
scalars-append (code ∷ a) b p q = let parts = both (scalar code) (scalars a) p in rw parts.0 (scalars-append a b parts.1 q)

pub resolved_spells : (text : List ℕ) (pieces : List (List ℕ)) (bytes : List ℕ) → AllByRecursion IsUtf8 pieces
    → resolved text pieces ≡ Ok bytes → Resolves text (join_with_byte 37 pieces) bytes
unfolding resolved
resolved_spells text [] bytes utf8 e = absurd cc
resolved_spells text (plain ∷ []) bytes utf8 e =
    let found = chosen (is_plain plain) Escape (text ++ plain) bytes e in
    let codes = utf8.0.0 in
    let same : encode_utf8_all codes ≡ plain = utf8.0.1.1 in
    record {
      codes = codes;
      scalar = utf8.0.1.0;
      is = sym found.1 ∙ ap (λ t. text ++ t) (sym same);
      spells = subst (λ t. SpellsText t codes) same (plain_spells codes utf8.0.1.0 (ap is_plain same ∙ found.0));
    }
resolved_spells text (plain ∷ digits ∷ []) bytes utf8 e =
    let found = taken (is_plain plain) Escape (escaped digits >>= λ code. resolved ((text ++ plain) ++ encode_utf8 code) []) bytes e in
    let code = bind_ok (escaped digits) (λ code. resolved ((text ++ plain) ++ encode_utf8 code) []) bytes found.1 in
    absurd (let wrong : resolved ((text ++ plain) ++ encode_utf8 code.0) [] ≡ Ok bytes = code.2 in cc)
resolved_spells text (plain ∷ digits ∷ piece ∷ pieces) bytes utf8 e =
    let found = taken (is_plain plain) Escape
    (escaped digits >>= λ code. resolved ((text ++ plain) ++ encode_utf8 code) (piece ∷ pieces)) bytes e in
    let code = bind_ok (escaped digits) (λ code. resolved ((text ++ plain) ++ encode_utf8 code) (piece ∷ pieces)) bytes found.1 in
    let codes = utf8.0.0 in
    let same : encode_utf8_all codes ≡ plain = utf8.0.1.1 in
    let escape = escape_spells digits code.0 code.1 in
    let rest = resolved_spells ((text ++ plain) ++ encode_utf8 code.0) (piece ∷ pieces) bytes utf8.1.1 code.2 in
    let later = join_with_byte 37 (piece ∷ pieces) in
    let behind_ : SpellsText (37 ∷ (digits ++ 37 ∷ later)) (code.0 ∷ rest.codes)
    = (37 ∷ (digits ++ 37 ∷ []), later, ap (λ t. 37 ∷ t) (sym (append_assoc digits (37 ∷ []) later)), inr escape, rest.spells) in
    let bytes_are : bytes ≡ text ++ encode_utf8_all (codes ++ code.0 ∷ rest.codes)
    = rest.is ∙ append_assoc (text ++ plain) (encode_utf8 code.0) (encode_utf8_all rest.codes)
    ∙ append_assoc text plain (encode_utf8 code.0 ++ encode_utf8_all rest.codes)
    ∙ ap (λ t. text ++ (t ++ encode_utf8_all (code.0 ∷ rest.codes))) (sym same)
    ∙ ap (λ t. text ++ t) (sym (encodes-append codes (code.0 ∷ rest.codes))) in
    record {
      codes = codes ++ code.0 ∷ rest.codes;
      scalar = scalars-append codes (code.0 ∷ rest.codes) utf8.0.1.0 (rw escape.scalar rest.scalar);
      is = bytes_are;
      spells = text_append plain (37 ∷ (digits ++ 37 ∷ later)) codes (code.0 ∷ rest.codes)
          (subst (λ t. SpellsText t codes) same (plain_spells codes utf8.0.1.0 (ap is_plain same ∙ found.0))) behind_;
    }

percent-ascii : IsAsciiTest (is 37)
percent-ascii byte passes = omega (arith, eqb-true byte 37 passes)

-- a text that was read is spelled so
pub text_spells : (spelled text : List ℕ) → IsUtf8 spelled → text_of spelled ≡ Ok text → SpellsText spelled text
unfolding text_of bytes_of
text_spells spelled text utf8 e =
    let bytes = bind_ok (bytes_of spelled) (λ bytes. Ok (chars bytes)) text e in
    let found = resolved_spells [] (slice_split (is 37) spelled) bytes.0 (split_utf8 (is 37) spelled percent-ascii utf8) bytes.1 in
    let same : found.codes ≡ text = sym (chars-encodes found.codes found.scalar) ∙ ap chars (sym found.is) ∙ ok_is _ _ bytes.2 in
    subst (λ t. SpellsText t text) (join_with_byte-slice_split 37 spelled)
    (subst (SpellsText (join_with_byte 37 (slice_split (is 37) spelled))) same found.spells)

-- ---- what is spelled is read

-- plain bytes in front of the first piece
resolved-front : (text front piece : List ℕ) (pieces : List (List ℕ)) → is_plain front ≡ true
    → resolved text ((front ++ piece) ∷ pieces) ≡ resolved (text ++ front) (piece ∷ pieces)
unfolding resolved
resolved-front text front piece [] plain =
    let e : is_plain (front ++ piece) ≡ is_plain piece =
    list_all-append (λ byte. not (is_reserved byte)) front piece ∙ ap (λ b. b && is_plain piece) plain in
    ap (λ b. cond b (Ok (text ++ (front ++ piece))) (Err Escape)) e
    ∙ ap (λ t. cond (is_plain piece) (Ok t) (Err Escape)) (sym (append_assoc text front piece))
resolved-front text front piece (digits ∷ pieces) plain =
    let e : is_plain (front ++ piece) ≡ is_plain piece =
    list_all-append (λ byte. not (is_reserved byte)) front piece ∙ ap (λ b. b && is_plain piece) plain in
    ap (λ b. cond b (escaped digits >>= λ code. resolved ((text ++ (front ++ piece)) ++ encode_utf8 code) pieces) (Err Escape)) e
    ∙ ap (λ t. cond (is_plain piece) (escaped digits >>= λ code. resolved (t ++ encode_utf8 code) pieces) (Err Escape))
    (sym (append_assoc text front piece))

-- digits are free of a byte that is none
pub free_digits : (test : ℕ → Bool) (end : ℕ) (digits : List ℕ) → test end ≡ false → list_all test digits ≡ true → IsFree (is end) digits
free_digits test end [] none all = tt
free_digits test end (digit ∷ digits) none all =
    let parts = both _ _ all in (
      false_from_ne_true _ (λ same. let wrong : true ≡ false = sym parts.0 ∙ ap test (eqb-true digit end same) ∙ none in cc),
      free_digits test end digits none parts.1,
    )

-- a code point that is not reserved is plain
free_plain : (code : ℕ) → is_reserved code ≡ false → is_plain (encode_utf8 code) ≡ true
free_plain code free = all_free (encode_utf8 code) (free_encode is_reserved code reserved_small free) where
  all_free : (text : List ℕ) → IsFree is_reserved text → is_plain text ≡ true
  all_free [] h = refl
  all_free (byte ∷ text) h = rw h.0 (all_free text h.1)

escape_reads : (front : List ℕ) (code : ℕ) → (escape : SpellsEscape front code) → escaped escape.digits ≡ Ok code
unfolding escaped
escape_reads front code escape =
    let some = le-leb _ _ escape.some in
    let few = le-leb _ _ escape.few in
    let scalar_ : scalar (digits_value 16 escape.digits) ≡ true = ap scalar escape.value ∙ escape.scalar in
    let not_zero : ltb 0 (digits_value 16 escape.digits) ≡ true = lt-ltb _ _ (subst (λ n. 0 < n) (sym escape.value) escape.not_zero) in
    rw (some, few, escape.hexadecimal, scalar_, not_zero) (ap (λ n. Ok n) escape.value)

pub text_scalars : (spelled text : List ℕ) → SpellsText spelled text → scalars text ≡ true
text_scalars spelled [] s = refl
text_scalars spelled (code ∷ text) s = rw (code_scalar s.3) (text_scalars s.1 text s.4) where
  code_scalar : {front : List ℕ} → SpellsPlain front code ⊎ SpellsEscape front code → scalar code ≡ true
  code_scalar (inl plain) = plain.scalar
  code_scalar (inr escape) = escape.scalar

-- one code point in front
resolved_code : (front here rest : List ℕ) (code : ℕ) → SpellsPlain here code ⊎ SpellsEscape here code
    → resolved front (slice_split (is 37) (here ++ rest)) ≡ resolved (front ++ encode_utf8 code) (slice_split (is 37) rest)
unfolding resolved
resolved_code front here rest code (inl plain) =
    let p = split_pieces (is 37) rest in
    let other : is 37 code ≡ false = false_from_ne_true _
    (λ same. let wrong : true ≡ false = sym (ap is_reserved (eqb-true code 37 same)) ∙ plain.free in cc) in
    let free = free_encode (is 37) code percent-ascii other in
    ap (λ t. resolved front (slice_split (is 37) (t ++ rest))) plain.form
    ∙ ap (resolved front) (split_over (is 37) (encode_utf8 code) rest free ∙ ap (onto_front (encode_utf8 code)) p.2)
    ∙ resolved-front front (encode_utf8 code) p.0 p.1 (free_plain code plain.free)
    ∙ ap (resolved (front ++ encode_utf8 code)) (sym p.2)
resolved_code front here rest code (inr escape) =
    let free = free_digits is_ascii_hexdigit 37 escape.digits refl escape.hexadecimal in
    let whole : here ++ rest ≡ 37 ∷ (escape.digits ++ 37 ∷ rest) =
    ap (λ t. t ++ rest) escape.form ∙ ap (λ t. 37 ∷ t) (append_assoc escape.digits (37 ∷ []) rest) in
    let pieces : slice_split (is 37) (here ++ rest) ≡ [] ∷ escape.digits ∷ slice_split (is 37) rest
    = ap (slice_split (is 37)) whole ∙ slice_split-cons_yes (is 37) 37 (escape.digits ++ 37 ∷ rest) refl
    ∙ ap (λ t. [] ∷ t) (split_at 37 escape.digits rest free) in
    ap (resolved front) pieces
    ∙ ap (λ r. r >>= λ c. resolved ((front ++ []) ++ encode_utf8 c) (slice_split (is 37) rest)) (escape_reads here code escape)
    ∙ ap (λ t. resolved (t ++ encode_utf8 code) (slice_split (is 37) rest)) (append-nil front)

pub resolved_again : (front spelled text : List ℕ) → SpellsText spelled text
    → resolved front (slice_split (is 37) spelled) ≡ Ok (front ++ encode_utf8_all text)
unfolding resolved
resolved_again front spelled [] s = ap (λ t. resolved front (slice_split (is 37) t)) s
resolved_again front spelled (code ∷ text) s =
    ap (λ t. resolved front (slice_split (is 37) t)) s.2
    ∙ resolved_code front s.0 s.1 code s.3
    ∙ resolved_again (front ++ encode_utf8 code) s.1 text s.4
    ∙ ap (λ t. Ok t) (append_assoc front (encode_utf8 code) (encode_utf8_all text))

-- a text that is spelled so is read
pub text_again : (spelled text : List ℕ) → SpellsText spelled text → text_of spelled ≡ Ok text
unfolding text_of bytes_of
text_again spelled text s =
    ap (λ r. r >>= λ bytes. Ok (chars bytes)) (resolved_again [] spelled text s)
    ∙ ap (λ t. Ok t) (chars-encodes text (text_scalars spelled text s))

-- a text is free of what is reserved, but for percent signs
code_free : (end : ℕ) (here : List ℕ) (code : ℕ) → is_reserved end ≡ true → is_ascii_hexdigit end ≡ false → eqb 37 end ≡ false
    → SpellsPlain here code ⊎ SpellsEscape here code → IsFree (is end) here
code_free end here code held none other (inl plain) =
    let apart : is end code ≡ false = false_from_ne_true _
    (λ same. let wrong : true ≡ false = sym (ap is_reserved (eqb-true code end same) ∙ held) ∙ plain.free in cc) in
    let small : IsAsciiTest (is end) = λ byte passes. subst (λ n. n < 128) (sym (eqb-true byte end passes)) (reserved_small end held) in
    subst (IsFree (is end)) (sym plain.form) (free_encode (is end) code small apart)
code_free end here code held none other (inr escape) =
    subst (IsFree (is end)) (sym escape.form) (
      other,
      free_append (is end) escape.digits (37 ∷ []) (free_digits is_ascii_hexdigit end escape.digits none escape.hexadecimal)
          (other, tt),
    )

pub text_free : (end : ℕ) (spelled text : List ℕ) → is_reserved end ≡ true → is_ascii_hexdigit end ≡ false → eqb 37 end ≡ false
    → SpellsText spelled text → IsFree (is end) spelled
text_free end spelled [] held none other s = subst (IsFree (is end)) (sym s) tt
text_free end spelled (code ∷ text) held none other s =
    subst (IsFree (is end)) (sym s.2) (free_append (is end) s.0 s.1 (code_free end s.0 code held none other s.3)
    (text_free end s.1 text held none other s.4))
