use Rattle.std.proofs.Common.{ap, List, ℕ, length}
use Rattle.std.specs.Prelude.{◌==◌}
use Rattle.back_index.proofs.IdLaws.{numbers_spelled, numbers_refused, numbers_behind, nothing_left}
use Rattle.back_index.proofs.ids.read_numbers.Goals as goal
use Rattle.value_bytes.proofs.Fronts.{needs_more}

pub returns-in-Err-clause-refused : goal.returns-in-Err-clause-refused
returns-in-Err-clause-refused c = needs_more c.in-Err.fault (numbers_refused c.args.bytes.now) c.in-Err.ensures.refused

pub returns-then-not-is_empty-clause-refused : goal.returns-then-not-is_empty-clause-refused
returns-then-not-is_empty-clause-refused c =
    numbers_behind c.args.bytes.now c.in-Ok.found.0 c.in-Ok.found.1.now c.in-Ok.ensures.values
    (λ none. absurd (cc (c.if-not-is_empty.ensures, ap (λ (l : List ℕ). length l == 0) none)))

pub returns-clause-numbers : goal.returns-clause-numbers
returns-clause-numbers c =
    numbers_spelled c.args.bytes.now c.in-Ok.found.0 c.in-Ok.found.1.now c.in-Ok.ensures.values
    (nothing_left c.in-Ok.found.1.now c.if-not-is_empty.ensures)
