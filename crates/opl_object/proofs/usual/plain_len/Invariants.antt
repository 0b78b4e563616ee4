use Rattle.std.proofs.Common.{◌≡◌, ℕ, ◌<◌, false, get_or}
use Rattle.opl_object.specs.Text.{is_reserved}
use Rattle.opl_object.proofs.usual.plain_len.Given as goal

-- no byte so far is reserved
abbrev pub invariant-loop-place : goal.invariant-loop-place
invariant-loop-place l = (k : ℕ) → k < l.place → is_reserved (get_or l.text k 0) ≡ false
