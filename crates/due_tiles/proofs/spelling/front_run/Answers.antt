use Rattle.std.proofs.Common.{refl, subst}
use Rattle.value_bytes.specs.Forms.{IsFrontless, NeedsFor}
use Rattle.due_tiles.specs.Spelling.{four_bytes, IsFour}
use Rattle.due_tiles.proofs.Reading.{run_front, run_frontless, run_off}
use Rattle.due_tiles.proofs.spelling.front_run.Goals as goal

pub returns-in-Err-NotSpelled-clause-refused : goal.returns-in-Err-NotSpelled-clause-refused
returns-in-Err-NotSpelled-clause-refused c =
    run_frontless c.args.bytes.now (subst (NeedsFor (IsFrontless four_bytes IsFour c.args.bytes.now)) c.in-Err-NotSpelled.field-0-is
    c.in-Err-NotSpelled.ensures.refused)

pub returns-in-Some-clause-run : goal.returns-in-Some-clause-run
returns-in-Some-clause-run c =
    let found = c.in-Ok.found in
    run_front c.args.bytes.now found.0 found.1.now c.in-Some.run' c.in-Ok.ensures.value c.in-Some.ensures.run.0 c.in-Some.ensures.run.1

pub returns-in-None-clause-refused : goal.returns-in-None-clause-refused
returns-in-None-clause-refused c =
    let found = c.in-Ok.found in
    run_off c.args.bytes.now found.0 found.1.now c.in-Ok.ensures.value (c.in-None.ensures.none refl)
