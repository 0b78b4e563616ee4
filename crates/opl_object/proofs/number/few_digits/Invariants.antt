use Rattle.std.proofs.Common.{◌≡◌, ◌+◌, ◌<◌, ◌^◌, take}
use Rattle.std.specs.Str.Parse.{digits_value_after}
use Rattle.opl_object.proofs.number.few_digits.Given as goal

-- the number that the digits so far write, and how great it is
abbrev pub invariant-loop-digit : goal.invariant-loop-digit
invariant-loop-digit l = (l.value ≡ digits_value_after 10 l.front (take l.digit-index l.digits)) × (l.value < 10 ^ (l.digit-index + 12))
