use mathlib.Core.Bool.{false≢true}
use Rattle.due_tiles.proofs.Reading.{needs_more, no_run, not_behind}
use Rattle.due_tiles.proofs.spelling.take_run.Goals as goal

pub returns-in-Err-clause-refused : goal.returns-in-Err-clause-refused
returns-in-Err-clause-refused c = needs_more c.in-Err.fault (no_run c.args.set.now c.args.rest.now) c.in-Err.ensures.refused

pub returns-then-not-is_behind-clause-refused : goal.returns-then-not-is_behind-clause-refused
returns-then-not-is_behind-clause-refused c =
    let found = c.in-Ok.found in
    not_behind c.args.set.now c.args.rest.now found.0 found.1.now c.in-Ok.ensures.run
    (λ all. false≢true (c.if-not-is_behind.ensures.behind.1 all))
