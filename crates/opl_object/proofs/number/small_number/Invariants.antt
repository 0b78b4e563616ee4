use Rattle.std.proofs.Common.{◌≡◌, ℕ, ◌<◌, ◌≤◌, Bool, false, not, get_or, take}
use Rattle.std.specs.Char.{is_ascii_digit}
use Rattle.std.specs.Str.Parse.{digits_value_after}
use Rattle.opl_object.specs.declared.number.TheConstants.{SMALL}
use Rattle.opl_object.proofs.number.small_number.Given as goal

-- the number that the digits so far write
abbrev pub invariant-loop-place : goal.invariant-loop-place
invariant-loop-place l = (l.value ≤ SMALL) × (l.value ≡ digits_value_after 10 l.front (take l.place l.text))
    × (let ends : ℕ → Bool = (λ byte. not (is_ascii_digit byte)) in (k : ℕ) → k < l.place → ends (get_or l.text k 0) ≡ false)
