-- The lines of bytes behind the first one.
use Rattle.std.proofs.Common.{◌≡◌, ℕ, zero, suc, ◌<◌, ◌≤◌, ◌==◌, false, List, [], ◌∷◌, ◌++◌, length, take, drop, refl, ap, ◌∙◌, arith, append_assoc, sym}
use Rattle.std.proofs.lemmas.Bool.{false≢true}
use Rattle.std.proofs.lemmas.List.{length-drop}
use Rattle.delta_feed.specs.Text.{ended_line, more_line, more_lines, ended_lines}
use Rattle.delta_feed.specs.declared.hexes.TheConstants.{LINE_BYTES}

drop_less : (n most : ℕ) (bytes : List ℕ) → 1 ≤ n → length bytes ≤ suc most → length (drop n bytes) ≤ most
drop_less n most bytes some few = omega (arith, some, few, length-drop n bytes)

pub drop_smaller : (n : ℕ) (bytes : List ℕ) → 1 ≤ n → (length bytes == 0) ≡ false → length (drop n bytes) < length bytes
drop_smaller n [] some own = absurd (false≢true (sym own))
drop_smaller n (byte ∷ bytes) some own = omega (arith, some, length-drop n (byte ∷ bytes))

pub room : 1 ≤ LINE_BYTES
room = omega arith

no_lines : (most : ℕ) → more_lines most [] ≡ []
no_lines zero = refl
no_lines (suc most) = refl

-- where there may be enough of them
enough : (one other : ℕ) (bytes : List ℕ) → length bytes ≤ one → length bytes ≤ other → more_lines one bytes ≡ more_lines other bytes
enough one other [] few less = no_lines one ∙ sym (no_lines other)
enough zero other (byte ∷ bytes) few less = absurd (omega (arith, few))
enough (suc one) zero (byte ∷ bytes) few less = absurd (omega (arith, less))
enough (suc one) (suc other) (byte ∷ bytes) few less = ap (λ own. more_line (take LINE_BYTES (byte ∷ bytes)) ∷ own)
    (enough one other (drop LINE_BYTES (byte ∷ bytes)) (drop_less LINE_BYTES one (byte ∷ bytes) room few) (drop_less LINE_BYTES other (byte ∷ bytes) room less))

-- one of them, and those behind it
pub one_more : (bytes : List ℕ) → (length bytes == 0) ≡ false
    → more_lines (length bytes) bytes ≡ more_line (take LINE_BYTES bytes) ∷ more_lines (length (drop LINE_BYTES bytes)) (drop LINE_BYTES bytes)
one_more [] some = absurd (false≢true (sym some))
one_more (byte ∷ bytes) some = ap (λ own. more_line (take LINE_BYTES (byte ∷ bytes)) ∷ own)
    (enough (length bytes) (length (drop LINE_BYTES (byte ∷ bytes))) (drop LINE_BYTES (byte ∷ bytes))
    (drop_less LINE_BYTES (length bytes) (byte ∷ bytes) room (same (length bytes))) (alike (length (drop LINE_BYTES (byte ∷ bytes)))))
  where
    same : (n : ℕ) → suc n ≤ suc n
    same n = omega arith

    alike : (n : ℕ) → n ≤ n
    alike n = omega arith

pub written_more : (out all bytes : List ℕ) → (length bytes == 0) ≡ false → out ++ ended_lines (more_lines (length bytes) bytes) ≡ all
    → (out ++ ended_line (more_line (take LINE_BYTES bytes))) ++ ended_lines (more_lines (length (drop LINE_BYTES bytes)) (drop LINE_BYTES bytes)) ≡ all
written_more out all bytes some is =
    append_assoc out (ended_line (more_line (take LINE_BYTES bytes))) (ended_lines (more_lines (length (drop LINE_BYTES bytes)) (drop LINE_BYTES bytes)))
    ∙ ap (λ own. out ++ ended_lines own) (sym (one_more bytes some)) ∙ is
