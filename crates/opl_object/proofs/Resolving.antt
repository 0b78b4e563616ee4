-- Resolving the escapes of a text, piece by piece.
use Rattle.std.proofs.Common.{◌≡◌, ℕ, Bool, true, false, cond, not, List, [], ◌∷◌, ◌++◌, length, get_or, Ok, Err, refl, ◌∙◌, ap, subst, ◌⊎◌}
use Rattle.std.proofs.Common.{inl, inr, ◌&&◌, nat_le, nat_lt, Result}
use Rattle.std.specs.List.{list_all, slice_split}
use Rattle.std.specs.Char.{encode_utf8, is_ascii_hexdigit}
use lib.Utf8.{scalar}
use Rattle.std.specs.Str.Parse.{digits_value}
use Rattle.std.proofs.lemmas.Bool.{cases_Bool, eqb-true}
use Rattle.std.proofs.lemmas.List.Sums.{AllPass-from_list_all}
use Rattle.std.proofs.lemmas.List.Splits.{slice_split_none}
use Rattle.opl_object.specs.declared.why.Why.{Why}
use Rattle.opl_object.specs.declared.why.Why.TheVariants.{Escape}
use Rattle.opl_object.specs.Fields.{is}
use Rattle.opl_object.specs.Why.{◌>>=◌}
use Rattle.opl_object.specs.Text.{is_reserved, is_plain, escaped, resolved, bytes_of}

-- a byte that is not reserved is no percent sign
not_percent : (byte : ℕ) → is_reserved byte ≡ false → is 37 byte ≡ false
not_percent byte e = elim (cases_Bool (is 37 byte)) [
  | inl same ↦ absurd (let at : byte ≡ 37 = eqb-true byte 37 same in let no : is_reserved 37 ≡ false =
      subst (λ b. is_reserved b ≡ false) at e in cc)
  | inr apart ↦ apart
]

-- a plain text has one piece
pub plain_pieces : (text : List ℕ) → is_plain text ≡ true → slice_split (is 37) text ≡ text ∷ []
plain_pieces text plain = slice_split_none (is 37) text
    (λ k d lt. not_percent _ (not_reserved (is_reserved (get_or text k d))
    (AllPass-from_list_all (λ byte. not (is_reserved byte)) text plain k d lt))) where
      not_reserved : (b : Bool) → not b ≡ true → b ≡ false
      not_reserved true e = absurd cc
      not_reserved false e = refl

-- and stands for itself
pub bytes_of-plain : (text : List ℕ) → is_plain text ≡ true → bytes_of text ≡ Ok text
unfolding bytes_of resolved
bytes_of-plain text plain = ap (resolved []) (plain_pieces text plain) ∙ rw plain refl

-- digits are an escape or not
pub escaped_cases : (digits : List ℕ) → (escaped digits ≡ Err Escape) ⊎ ((code : ℕ) × (escaped digits ≡ Ok code))
unfolding escaped
escaped_cases digits = cases (((nat_le 1 (length digits) && nat_le (length digits) 6) && list_all is_ascii_hexdigit digits)
    && (scalar (digits_value 16 digits) && nat_lt 0 (digits_value 16 digits))) (digits_value 16 digits) where
      cases : (fits : Bool) (code : ℕ) → (cond fits (Ok code) (Err Escape) ≡ Err Escape)
          ⊎ ((c : ℕ) × (cond fits (Ok code) (Err Escape) ≡ Ok c))
      cases true code = inr (code, refl)
      cases false code = inl refl

module _ (text plain : List ℕ) where
  -- what stands before an escape has to be plain
  pub resolved-reserved : (pieces : List (List ℕ)) → is_plain plain ≡ false → resolved text (plain ∷ pieces) ≡ Err Escape
  unfolding resolved
  resolved-reserved [] fails = rw fails refl
  resolved-reserved (digits ∷ pieces) fails = rw fails refl

  -- the last piece
  pub resolved-last : is_plain plain ≡ true → resolved text (plain ∷ []) ≡ Ok (text ++ plain)
  unfolding resolved
  resolved-last holds = rw holds refl

  -- digits without a percent sign behind them
  pub resolved-open : (digits : List ℕ) → is_plain plain ≡ true → resolved text (plain ∷ digits ∷ []) ≡ Err Escape
  unfolding resolved
  resolved-open digits holds = elim (escaped_cases digits) [
    | inl fails ↦ rw (holds, fails) refl
    | inr found ↦ rw (holds, found.1) refl
  ]

  -- an escape
  pub resolved-escape : (digits : List ℕ) (pieces : List (List ℕ)) (code : ℕ) → is_plain plain ≡ true → escaped digits ≡ Ok code
      → resolved text (plain ∷ digits ∷ pieces) ≡ resolved ((text ++ plain) ++ encode_utf8 code) pieces
  unfolding resolved
  resolved-escape digits pieces code holds e = rw (holds, e) refl

  -- an escape that is none
  pub resolved-no_escape : (digits : List ℕ) (pieces : List (List ℕ)) (why : Why) → is_plain plain ≡ true → escaped digits ≡ Err why
      → resolved text (plain ∷ digits ∷ pieces) ≡ Err why
  unfolding resolved
  resolved-no_escape digits pieces why holds e = rw (holds, e) refl

-- ---- a text that is not kept

abbrev pub kept_none : Result (List ℕ) Why → Result (Unit {0}) Why
kept_none read = read >>= λ _. Ok tt

-- whether the pieces are those of a text does not depend on what stands before them
pub resolved-any : (text other : List ℕ) (pieces : List (List ℕ)) → kept_none (resolved text pieces) ≡ kept_none (resolved other pieces)
unfolding resolved
resolved-any text other [] = refl
resolved-any text other (plain ∷ []) = elim (cases_Bool (is_plain plain)) [ inl holds ↦ rw holds refl | inr fails ↦ rw fails refl ]
resolved-any text other (plain ∷ digits ∷ pieces) = elim (cases_Bool (is_plain plain)) [
  | inl holds ↦ elim (escaped_cases digits) [
    | inl none ↦ rw (holds, none) refl
    | inr found ↦ rw (holds, found.1) (resolved-any ((text ++ plain) ++ encode_utf8 found.0)
        ((other ++ plain) ++ encode_utf8 found.0) pieces)
  ]
  | inr fails ↦ rw fails refl
]
