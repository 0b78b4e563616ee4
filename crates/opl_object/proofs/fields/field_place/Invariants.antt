use Rattle.std.proofs.Common.{◌≡◌, ℕ, ◌<◌, Bool, false, not, get_or}
use Rattle.opl_object.specs.Fields.{is_blank}
use Rattle.opl_object.proofs.fields.field_place.Given as goal

-- no byte so far ends the piece
abbrev pub invariant-loop-place : goal.invariant-loop-place
invariant-loop-place l = let ends : ℕ → Bool = (λ byte. not (is_blank byte)) in (k : ℕ) → k < l.place → ends (get_or l.text k 0) ≡ false
