use Rattle.std.proofs.Common.{◌≡◌, ◌<◌, ◌≤◌}
use Rattle.std.specs.Prelude.{decimal}
use Rattle.osm_base.specs.values.Degrees.{trimmed}
use Rattle.osm_base.proofs.values.degrees.without_last_zeros.Given as goal

-- the zeros that were taken off change no trimmed text
abbrev pub invariant-loop-digits : goal.invariant-loop-digits
invariant-loop-digits l = (0 < l.digits) × (l.digits ≤ l.number) × (trimmed (decimal l.digits) ≡ trimmed (decimal l.number))

abbrev pub decreases-loop-digits : goal.decreases-loop-digits
decreases-loop-digits l = l.digits
