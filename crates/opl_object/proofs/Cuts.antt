-- Where a text is cut, and what the parts are.
use Rattle.std.proofs.Common.{◌≡◌, ℕ, zero, suc, ◌+◌, ◌<◌, ◌≤◌, Bool, true, false, cond, not, eqb, List, [], ◌∷◌, length, get_or, take}
use Rattle.std.proofs.Common.{drop, refl, sym, ◌∙◌, ap, subst, arith, inl, inr, add-one}
use Rattle.std.specs.List.{slice_split, onto_first, filter, position_or_len, before_first, after_first}
use Rattle.std.specs.Char.{is_ascii_digit}
use Rattle.std.specs.Str.{IsUtf8, IsCharBoundary}
use Rattle.std.proofs.lemmas.Bool.{cases_lt, cases_Bool, eqb-true, ne_eqb, not-false, not-true}
use Rattle.std.proofs.lemmas.List.{drop_more, take_all, drop_all}
use Rattle.std.proofs.lemmas.List.Splits.{slice_split_first, slice_split_none, slice_split-cons_yes}
use Rattle.std.proofs.lemmas.List.Sums.{fails_before_first, passes_at_first}
use Rattle.std.proofs.lemmas.Str.{IsCharBoundary-start, IsCharBoundary-before_ascii, IsCharBoundary-after_ascii, IsCharBoundary-end}
use Rattle.opl_object.proofs.Digits.{digit_range}
use Rattle.opl_object.specs.Fields.{is, is_blank, is_empty, fields_of}

pub place_le : {X : Type 0} (p : X → Bool) (xs : List X) → position_or_len p xs ≤ length xs
place_le p [] = omega arith
place_le p (x ∷ xs) = elim (p x) as (λ b. cond (not b) (1 + position_or_len p xs) 0 ≤ length (x ∷ xs))
    [ true ↦ omega arith | false ↦ omega (arith, place_le p xs) ]

-- a test that only ASCII bytes pass
abbrev pub IsAsciiTest : (ℕ → Bool) → Type 0
IsAsciiTest test = (byte : ℕ) → test byte ≡ true → byte < 128

pub is-ascii : (end : ℕ) → end < 128 → IsAsciiTest (is end)
is-ascii end small byte passes = omega (arith, eqb-true byte end passes)

pub blank-ascii : IsAsciiTest is_blank
blank-ascii byte passes = elim (cases_Bool (eqb byte 32)) [
  | inl passed ↦ omega (arith, eqb-true byte 32 passed)
  | inr failed ↦ (let e : eqb byte 9 ≡ true = rw failed at passes in omega (arith, eqb-true byte 9 e))
]

-- a text may be cut before a byte that ends a piece, and after it
pub boundary_before : (ends : ℕ → Bool) (text : List ℕ) → IsAsciiTest ends → IsCharBoundary text (position_or_len ends text)
boundary_before ends text ascii = elim (cases_lt (position_or_len ends text) (length text)) [
  | inl lt ↦ IsCharBoundary-before_ascii text _ lt (ascii _ (passes_at_first ends text 0 lt))
  | inr le ↦ (let e : length text ≡ position_or_len ends text = omega (arith, place_le ends text) in
      subst (IsCharBoundary text) e (IsCharBoundary-end text))
]

pub boundary_after : (ends : ℕ → Bool) (text : List ℕ) → IsAsciiTest ends → IsUtf8 text → position_or_len ends text < length text
    → IsCharBoundary text (position_or_len ends text + 1)
boundary_after ends text ascii utf8 lt = IsCharBoundary-after_ascii text _ utf8 lt (ascii _ (passes_at_first ends text 0 lt))

-- and behind a run of ASCII bytes
after_run : (runs : ℕ → Bool) (text : List ℕ) (n : ℕ) → IsAsciiTest runs → IsUtf8 text → position_or_len (λ byte. not (runs byte)) text ≡ n
    → IsCharBoundary text n
after_run runs text zero ascii utf8 e = IsCharBoundary-start text utf8
after_run runs text (suc n) ascii utf8 e =
    let here : n < position_or_len (λ byte. not (runs byte)) text = omega arith in
    let within : n < length text = omega (arith, place_le (λ byte. not (runs byte)) text) in
    let passes : runs (get_or text n 0) ≡ true = not-false _ (fails_before_first (λ byte. not (runs byte)) text n 0 here) in
    subst (IsCharBoundary text) (add-one n) (IsCharBoundary-after_ascii text n utf8 within (ascii _ passes))

pub boundary_behind : (runs : ℕ → Bool) (text : List ℕ) → IsAsciiTest runs → IsUtf8 text
    → IsCharBoundary text (position_or_len (λ byte. not (runs byte)) text)
boundary_behind runs text ascii utf8 = after_run runs text _ ascii utf8 refl

-- the pieces are what a cut leaves in front and the pieces of what follows
pub split_none : (ends : ℕ → Bool) (text : List ℕ) → position_or_len ends text ≡ length text → slice_split ends text ≡ text ∷ []
split_none ends text e = slice_split_none ends text (λ k d lt. fails_before_first ends text k d (omega arith))

pub split_first : (ends : ℕ → Bool) (text : List ℕ) → position_or_len ends text < length text
    → slice_split ends text ≡ before_first ends text ∷ slice_split ends (after_first ends text)
split_first ends text lt = slice_split_first ends text 0 lt

-- a blank in front does not count
pub fields_of-blank : (byte : ℕ) (rest : List ℕ) → is_blank byte ≡ true → fields_of (byte ∷ rest) ≡ fields_of rest
unfolding fields_of
fields_of-blank byte rest e = ap (filter (λ piece. not (is_empty piece))) (slice_split-cons_yes is_blank byte rest e)

-- nor do many
pub fields_of-blanks : (text : List ℕ) → fields_of text ≡ fields_of (drop (position_or_len (λ byte. not (is_blank byte)) text) text)
fields_of-blanks [] = refl
fields_of-blanks (byte ∷ rest) = elim (cases_Bool (is_blank byte)) [
  | inl passed ↦ (
      let more : position_or_len (λ byte. not (is_blank byte)) (byte ∷ rest) ≡ suc (position_or_len (λ byte. not (is_blank byte)) rest) =
      rw passed (omega arith) in
      fields_of-blank byte rest passed ∙ rw more (fields_of-blanks rest))
  | inr failed ↦ rw failed refl
]

pub fields_of-nil : fields_of [] ≡ []
unfolding fields_of
fields_of-nil = refl

pub fields_none : (text : List ℕ) → position_or_len (λ byte. not (is_blank byte)) text ≡ length text → fields_of text ≡ []
fields_none text e = fields_of-blanks text ∙ ap fields_of (drop_all _ text (omega arith)) ∙ fields_of-nil

pub is_empty-cons : (byte : ℕ) (rest : List ℕ) → is_empty (byte ∷ rest) ≡ false
is_empty-cons byte rest = ne_eqb _ _ (λ e. omega arith)

-- a piece that is not empty counts
filter-some : (byte : ℕ) (front : List ℕ) (pieces : List (List ℕ))
    → filter (λ piece. not (is_empty piece)) ((byte ∷ front) ∷ pieces) ≡ (byte ∷ front) ∷ filter (λ piece. not (is_empty piece)) pieces
filter-some byte front pieces = rw (is_empty-cons byte front) refl

-- a text that begins with no blank begins with a field
pub fields_first : (byte : ℕ) (rest : List ℕ) → is_blank byte ≡ false
    → fields_of (byte ∷ rest) ≡ take (position_or_len is_blank (byte ∷ rest)) (byte ∷ rest)
    ∷ fields_of (drop (position_or_len is_blank (byte ∷ rest)) (byte ∷ rest))
unfolding fields_of
fields_first byte rest plain =
    let place : ℕ = position_or_len is_blank rest in
    let some : position_or_len is_blank (byte ∷ rest) ≡ suc place = rw plain (omega arith) in
    elim (cases_lt place (length rest)) [
      | inl lt ↦ (
          let cut : slice_split is_blank (byte ∷ rest) ≡ (byte ∷ take place rest) ∷ slice_split is_blank (drop (place + 1) rest) =
          rw plain (ap (onto_first byte) (split_first is_blank rest lt)) in
          let blank : is_blank (get_or rest place 0) ≡ true = passes_at_first is_blank rest 0 lt in
          let later : fields_of (drop place rest) ≡ fields_of (drop (place + 1) rest) =
          ap fields_of (drop_more rest place 0 lt) ∙ fields_of-blank (get_or rest place 0) (drop (place + 1) rest) blank in
          ap (filter (λ piece. not (is_empty piece))) cut
          ∙ filter-some byte (take place rest) (slice_split is_blank (drop (place + 1) rest))
          ∙ rw some (ap (λ fields. (byte ∷ take place rest) ∷ fields) (sym later)))
      | inr le ↦ (
          let full : position_or_len is_blank rest ≡ length rest = omega (arith, place_le is_blank rest) in
          let cut : slice_split is_blank (byte ∷ rest) ≡ (byte ∷ rest) ∷ [] =
          rw plain (ap (onto_first byte) (split_none is_blank rest full)) in
          let front : take place rest ≡ rest = take_all place rest (omega arith) in
          let back : drop place rest ≡ [] = drop_all place rest (omega arith) in
          ap (filter (λ piece. not (is_empty piece))) cut ∙ filter-some byte rest [] ∙ rw (some, front, back) refl)
    ]

-- what stands behind the blanks in front
pub record Begins (text : List ℕ) : Type 0 where
  pub first : fields_of text ≡ take (position_or_len is_blank text) text ∷ fields_of (drop (position_or_len is_blank text) text)
  pub some : 0 < position_or_len is_blank text

begins : (text : List ℕ) (byte : ℕ) (rest : List ℕ) → text ≡ byte ∷ rest → is_blank byte ≡ false → Begins text
begins text byte rest e plain =
    let some : 0 < position_or_len is_blank (byte ∷ rest) = rw plain (omega arith) in
    subst Begins (sym e) (record { first = fields_first byte rest plain; some = some })

pub begins_behind : (text : List ℕ) → position_or_len (λ byte. not (is_blank byte)) text < length text
    → Begins (drop (position_or_len (λ byte. not (is_blank byte)) text) text)
begins_behind text lt =
    begins _ _ _ (drop_more text _ 0 lt) (not-true _ (passes_at_first (λ byte. not (is_blank byte)) text 0 lt))

-- a text whose first byte is not zero has a byte
pub some_first : (text : List ℕ) → 0 < get_or text 0 0 → 0 < length text
some_first [] some = omega arith
some_first (byte ∷ rest) some = omega arith

pub digit-ascii : IsAsciiTest is_ascii_digit
digit-ascii byte passes = omega (arith, (digit_range byte passes).1)
