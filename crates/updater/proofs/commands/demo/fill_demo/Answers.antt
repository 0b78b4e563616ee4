use Rattle.std.proofs.Common.{◌∙◌, sym}
use Rattle.std.specs.Result.{result_err}
use Rattle.demo_map.specs.Demo.{demo_first, demo_second}
use Rattle.demo_map.specs.Style.{demo_bounds}
use Rattle.update_flow.specs.Handle.{view_of}
use Rattle.update_flow.specs.Updater.{handle_of}
use Rattle.run_promise.specs.Courses.{fills_demo, growing, summing}
use Rattle.run_promise.specs.World.{world}
use Rattle.updater.proofs.DemoRuns.{demo_grown, demo_stopped}
use Rattle.updater.proofs.StoreRuns.{if_made, never_blank}
use Rattle.updater.proofs.Keeping.{keeps_then}
use Rattle.updater.proofs.commands.demo.fill_demo.Goals as goal

pub returns-then-imported-clause-goes_on : goal.returns-then-imported-clause-goes_on
returns-then-imported-clause-goes_on g c = λ old start done state head.
    never_blank start done 0 old (g.I.Inputs.view c.args.inputs.now) (handle_of c.args.store.now) (g.S.Sink.view c.args.out.now)
    (fills_demo c.args.squares.count) state head (sym c.imported.ensures.is ∙ c.if-imported.true)

pub returns-in-Err-clause-goes_on : goal.returns-in-Err-clause-goes_on
returns-in-Err-clause-goes_on g c = λ old start done state head.
    let files = g.I.Inputs.view c.args.inputs.now in
    if_made start done 0 old files (handle_of c.args.store.now) (g.S.Sink.view c.args.out.now)
    (fills_demo c.args.squares.count) _ _ state head (sym c.imported.ensures.is ∙ c.if-imported.false)
    (λ head. c.in-Err.ensures.leads 0 files old start done head
    (growing demo_bounds (demo_first c.args.squares.count) (growing demo_bounds (demo_second c.args.squares.count) summing)))

pub returns-in-Err-grow_demo-clause-goes_on : goal.returns-in-Err-grow_demo-clause-goes_on
returns-in-Err-grow_demo-clause-goes_on g c = λ old start done state head.
    let files = g.I.Inputs.view c.args.inputs.now in
    if_made start done 0 old files (handle_of c.args.store.now) (g.S.Sink.view c.args.out.now)
    (fills_demo c.args.squares.count) _ _ state head (sym c.imported.ensures.is ∙ c.if-imported.false)
    (λ head. demo_stopped c.args.squares.count start done 0 old files (handle_of c.import_demo.new.store) (g.S.Sink.view c.import_demo.new.out)
    (c.in-Ok.ensures.leads 0 files old start done head) c.in-Err-grow_demo.fault (handle_of c.grow_demo.new.store)
    (g.S.Sink.view c.grow_demo.new.out)
    (λ further held head. c.in-Err-grow_demo.ensures.leads 0 files old start further held head))

pub returns-clause-goes_on : goal.returns-clause-goes_on
returns-clause-goes_on g c = λ old start done state head.
    let files = g.I.Inputs.view c.args.inputs.now in
    let new = world files (view_of (handle_of c.tell_summary.new.store)) (g.S.Sink.view c.tell_summary.new.out) in
    if_made start done 0 old files (handle_of c.args.store.now) (g.S.Sink.view c.args.out.now)
    (fills_demo c.args.squares.count) (result_err c.tell_summary.result) new state head (sym c.imported.ensures.is ∙ c.if-imported.false)
    (λ head. demo_grown c.args.squares.count start done 0 old files (handle_of c.import_demo.new.store) (g.S.Sink.view c.import_demo.new.out)
    (c.in-Ok.ensures.leads 0 files old start done head) (handle_of c.grow_demo.new.store) (g.S.Sink.view c.grow_demo.new.out)
    (λ further held head. c.in-Ok-grow_demo.ensures.leads 0 files old start further held head) (result_err c.tell_summary.result) new
    (λ further held head. c.tell_summary.ensures.goes_on old files start further held 0 head))

pub returns-in-Err-clause-keeps : goal.returns-in-Err-clause-keeps
returns-in-Err-clause-keeps g c = c.in-Err.ensures.keeps

pub returns-in-Err-grow_demo-clause-keeps : goal.returns-in-Err-grow_demo-clause-keeps
returns-in-Err-grow_demo-clause-keeps g c =
    keeps_then c.args.store.now c.import_demo.new.store _ c.grow_demo.new.store c.in-Ok.ensures.keeps c.in-Err-grow_demo.ensures.keeps

pub returns-clause-keeps : goal.returns-clause-keeps
returns-clause-keeps g c =
    keeps_then c.args.store.now c.import_demo.new.store _ c.tell_summary.new.store c.in-Ok.ensures.keeps
    (keeps_then c.import_demo.new.store c.grow_demo.new.store _ c.tell_summary.new.store c.in-Ok-grow_demo.ensures.keeps
    c.tell_summary.ensures.keeps)
