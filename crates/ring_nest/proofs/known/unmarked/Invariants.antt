use Rattle.std.proofs.Common.{◌≡◌, not}
use Rattle.std.specs.List.{filter, range_with_len}
use Rattle.ring_nest.specs.Told.{is_marked}
use Rattle.ring_nest.proofs.known.unmarked.Given as goal

-- the numbers so far
abbrev pub invariant-loop-number : goal.invariant-loop-number
invariant-loop-number l = l.numbers.items ≡ filter (λ number. not (is_marked l.marks number)) (range_with_len 0 l.number)
