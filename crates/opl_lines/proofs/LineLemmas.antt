-- The lines of bytes that are put together, and the manual's rules on examples.
use Rattle.std.proofs.Common.{◌≡◌, ◌≢◌, ℕ, zero, suc, ◌+◌, ◌<◌, true, false, List, [], ◌∷◌, ◌++◌, ◌==◌, cond, length, take, drop, refl, sym}
use Rattle.std.proofs.Common.{◌∙◌, ap, arith}
use Rattle.std.proofs.lemmas.Bool.{ne_eqb}
use Rattle.std.proofs.lemmas.List.Elements.{All-nil, All-cons, All-head, All-tail}
use Rattle.std.specs.List.{onto_first, slice_index}
use Rattle.opl_lines.specs.declared.reader.TheConstants.{NEWLINE}
use Rattle.opl_lines.specs.Lines.{lines_of, first_of, first_line, IsWithinLine}
use Rattle.opl_lines.specs.Steps.{IsFront}

module _ (byte : ℕ) (bytes : List ℕ) (h : IsWithinLine (byte ∷ bytes)) where
  head_is_other : (byte == NEWLINE) ≡ false
  head_is_other = ne_eqb byte NEWLINE (All-head (λ b. b ≢ NEWLINE) byte bytes h)

  tail_is_within : IsWithinLine bytes
  tail_is_within = All-tail (λ b. b ≢ NEWLINE) byte bytes h

-- the bytes before a newline are the first line
pub lines_of-ended : (line rest : List ℕ) → IsWithinLine line → lines_of (line ++ NEWLINE ∷ rest) ≡ line ∷ lines_of rest
unfolding lines_of
lines_of-ended [] rest h = refl
lines_of-ended (byte ∷ line) rest h =
    rw (head_is_other byte line h, lines_of-ended line rest (tail_is_within byte line h)) refl

-- bytes without a newline are one line, where there are any
pub lines_of-last : (bytes : List ℕ) → IsWithinLine bytes → 0 < length bytes → lines_of bytes ≡ bytes ∷ []
unfolding lines_of
lines_of-last [] h some = absurd (omega arith)
lines_of-last (byte ∷ []) h some = rw (head_is_other byte [] h) refl
lines_of-last (byte ∷ next ∷ bytes) h some =
    rw (head_is_other byte (next ∷ bytes) h, lines_of-last (next ∷ bytes) (tail_is_within byte (next ∷ bytes) h) (omega arith)) refl

pub lines_of-none : lines_of [] ≡ []
unfolding lines_of
lines_of-none = refl

first_of-onto_first : (byte : ℕ) (lines : List (List ℕ)) → first_of (onto_first byte lines) ≡ byte ∷ first_of lines
first_of-onto_first byte [] = refl
first_of-onto_first byte (line ∷ lines) = refl

-- bytes without a newline begin the first line
pub first_line-within : (bytes rest : List ℕ) → IsWithinLine bytes → first_line (bytes ++ rest) ≡ bytes ++ first_line rest
unfolding lines_of
first_line-within [] rest h = refl
first_line-within (byte ∷ bytes) rest h =
    rw (head_is_other byte bytes h, first_of-onto_first)
    (ap (λ line. byte ∷ line) (first_line-within bytes rest (tail_is_within byte bytes h)))

pub first_line-newline : (rest : List ℕ) → first_line (NEWLINE ∷ rest) ≡ []
unfolding lines_of
first_line-newline rest = refl

pub first_line-none : first_line [] ≡ []
unfolding lines_of
first_line-none = refl

-- where there are bytes there is a line
some_lines : (byte : ℕ) (lines : List (List ℕ)) → 0 < length (onto_first byte lines)
some_lines byte [] = omega arith
some_lines byte (line ∷ lines) = omega arith

pub lines_of-some : (bytes : List ℕ) → 0 < length bytes → 0 < length (lines_of bytes)
unfolding lines_of
lines_of-some [] some = absurd (omega arith)
lines_of-some (byte ∷ bytes) some =
    elim (byte == NEWLINE) as (λ test. 0 < length (cond test ([] ∷ lines_of bytes) (onto_first byte (lines_of bytes)))) [
      | true ↦ omega arith
      | false ↦ some_lines byte (lines_of bytes)
    ]

-- what stands before the first newline of a piece
pub front_ended : (piece : List ℕ) (end : ℕ) → ((k : ℕ) → k < end → slice_index piece k ≢ NEWLINE) → end < length piece
    → slice_index piece end ≡ NEWLINE → IsFront piece (take end piece) true
front_ended [] end before high here = absurd (omega arith)
front_ended (byte ∷ piece) zero before high here = record { within_line = All-nil (λ b. b ≢ NEWLINE); parts = ap (λ b. b ∷ piece) here }
front_ended (byte ∷ piece) (suc end) before high here =
    let later = front_ended piece end (λ k lt. before (suc k) (omega (arith, lt))) (omega (arith, high)) here in
    let place : suc (length (take end piece)) + 1 ≡ suc (length (take end piece) + 1) = omega arith in
    record {
      within_line = All-cons (λ b. b ≢ NEWLINE) byte (take end piece) (before 0 (omega arith)) later.within_line;
      parts = ap (λ bytes. byte ∷ bytes) later.parts ∙ ap (λ n. byte ∷ (take end piece ++ NEWLINE ∷ drop n (byte ∷ piece))) (sym place);
    }
