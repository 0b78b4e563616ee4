use Rattle.std.proofs.Common.{◌≡◌, ℕ, ◌<◌, true, get_or}
use Rattle.opl_object.specs.Escapes.{is_zero}
use Rattle.opl_object.proofs.escapes.zeros_len.Given as goal

-- all digits so far are zeros
abbrev pub invariant-loop-place : goal.invariant-loop-place
invariant-loop-place l = (k : ℕ) → k < l.place → is_zero (get_or l.digits k 0) ≡ true
