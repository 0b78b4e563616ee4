use Rattle.std.proofs.Common.{◌≡◌, ℕ, ◌<◌, Bool, false, get_or}
use Rattle.opl_object.specs.Fields.{is}
use Rattle.opl_object.proofs.fields.place_of.Given as goal

-- no byte so far ends the piece
abbrev pub invariant-loop-place : goal.invariant-loop-place
invariant-loop-place l = let ends : ℕ → Bool = is l.end in (k : ℕ) → k < l.place → ends (get_or l.text k 0) ≡ false
