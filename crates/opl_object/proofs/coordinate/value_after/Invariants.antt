use Rattle.std.proofs.Common.{◌≡◌, ◌≤◌, drop, min}
use Rattle.std.specs.Str.Parse.{digits_value_after}
use Rattle.opl_object.specs.declared.coordinate.TheConstants.{CAP}
use Rattle.opl_object.proofs.coordinate.value_after.Given as goal

-- the digits that are left lead to the same number, as far as it counts
abbrev pub invariant-loop-digit : goal.invariant-loop-digit
invariant-loop-digit l = (l.value ≤ CAP)
    × (min (digits_value_after 10 l.value (drop l.digit-index l.digits)) CAP ≡ min (digits_value_after 10 l.fn.front l.digits) CAP)
