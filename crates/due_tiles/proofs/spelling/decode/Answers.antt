use Rattle.std.proofs.Common.{subst}
use Rattle.tile_cover.specs.Runs.{IsTileSet}
use Rattle.due_tiles.proofs.Reading.{needs_more, read_all, read_more, read_refused, takes_less}
use Rattle.due_tiles.proofs.spelling.decode.Goals as goal

pub loop-rest-smaller : goal.loop-rest-smaller
loop-rest-smaller c = takes_less c.loop-rest.set c.take_run.new.set c.loop-rest.rest.now c.in-Ok.behind.now c.in-Ok.ensures.taken

pub loop-rest-preserved : goal.loop-rest-preserved
loop-rest-preserved c = read_more c.args.bytes.now c.loop-rest.set c.loop-rest.rest.now c.take_run.new.set c.in-Ok.behind.now
    c.loop-rest.invariant c.loop-rest-test.true c.in-Ok.ensures.taken

pub returns-in-Err-clause-refused : goal.returns-in-Err-clause-refused
returns-in-Err-clause-refused c = needs_more c.in-Err.fault
    (read_refused c.args.bytes.now c.loop-rest.set c.loop-rest.rest.now c.loop-rest.invariant c.loop-rest-test.true)
    c.in-Err.ensures.refused

pub returns-clause-set : goal.returns-clause-set
returns-clause-set c = read_all c.args.bytes.now c.loop-rest.set c.loop-rest.rest.now c.loop-rest.invariant c.loop-rest-test.false
    (subst IsTileSet c.as_slice-runs.ensures.runs c.as_slice-runs.ensures.tiles)
