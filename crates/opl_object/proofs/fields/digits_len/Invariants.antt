use Rattle.std.proofs.Common.{◌≡◌, ℕ, ◌<◌, Bool, false, not, get_or}
use Rattle.std.specs.Char.{is_ascii_digit}
use Rattle.opl_object.proofs.fields.digits_len.Given as goal

-- no byte so far ends the piece
abbrev pub invariant-loop-place : goal.invariant-loop-place
invariant-loop-place l = let ends : ℕ → Bool = (λ byte. not (is_ascii_digit byte)) in
    (k : ℕ) → k < l.place → ends (get_or l.text k 0) ≡ false
