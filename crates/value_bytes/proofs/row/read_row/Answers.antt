use Rattle.std.proofs.Common.{ap, List, ℕ, length}
use Rattle.std.specs.Prelude.{◌==◌}
use Rattle.value_bytes.specs.Row.{row_bytes, IsRow}
use Rattle.value_bytes.proofs.row.read_row.Goals as goal
use Rattle.value_bytes.proofs.Fronts.{needs_more, no_value, no_value_behind}

pub returns-in-Err-clause-refused : goal.returns-in-Err-clause-refused
returns-in-Err-clause-refused c = needs_more c.in-Err.fault
    (no_value row_bytes (IsRow c.args.columns) c.args.bytes.now) c.in-Err.ensures.refused

pub returns-then-not-is_empty-clause-refused : goal.returns-then-not-is_empty-clause-refused
returns-then-not-is_empty-clause-refused c =
    no_value_behind row_bytes (IsRow c.args.columns) c.args.bytes.now c.in-Ok.found.0 c.in-Ok.found.1.now
    (λ none. absurd (cc (c.if-not-is_empty.ensures, ap (λ (l : List ℕ). length l == 0) none))) c.in-Ok.ensures.row
