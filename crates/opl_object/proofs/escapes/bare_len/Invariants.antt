use Rattle.std.proofs.Common.{◌≡◌, ℕ, ◌<◌, Bool, false, not, get_or}
use Rattle.opl_object.specs.Escapes.{is_bare}
use Rattle.opl_object.proofs.escapes.bare_len.Given as goal

-- no byte so far ends the piece
abbrev pub invariant-loop-place : goal.invariant-loop-place
invariant-loop-place l = let ends : ℕ → Bool = (λ byte. not (is_bare byte)) in (k : ℕ) → k < l.place → ends (get_or l.text k 0) ≡ false
