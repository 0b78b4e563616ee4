use Rattle.std.specs.Result.{result_err}
use Rattle.run_promise.specs.Course.{formats, looks}
use Rattle.run_promise.specs.Courses.{fills_demo}
use Rattle.run_promise.specs.World.{remembered, world}
use Rattle.updater.proofs.MakeRuns.{found_empty, goes_empty, not_empty}
use Rattle.updater.proofs.commands.demo.demo.Goals as goal

pub returns-in-Err-clause-course : goal.returns-in-Err-clause-course
returns-in-Err-clause-course g c =
    not_empty (g.I.Inputs.view c.args.inputs.now) (g.D.Disk.view c.args.disk.now) (g.D.Disk.view c.wants_empty.new.disk)
    (g.S.Sink.view c.args.out.now)
    c.wants_empty.ensures.stays.content c.wants_empty.ensures.later c.in-Err.fault
    (formats (looks (fills_demo c.args.squares.count))) c.in-Err.ensures.err

pub returns-clause-course : goal.returns-clause-course
returns-clause-course g c =
    let files = g.I.Inputs.view c.args.inputs.now in
    let view = g.D.Disk.view c.args.disk.now in
    let now = g.D.Disk.view c.wants_empty.new.disk in
    let output = g.S.Sink.view c.args.out.now in
    let same = c.wants_empty.ensures.stays.content in
    let later = c.wants_empty.ensures.later in
    goes_empty files view now output same later (formats (looks (fills_demo c.args.squares.count))) (result_err c.make_demo.result)
    (world files (g.D.Disk.view c.make_demo.new.disk) (g.S.Sink.view c.make_demo.new.out)) c.in_default.ensures.empty
    (c.make_demo.ensures.goes_on (remembered (world files view output)) (found_empty files view now output same later 0))
