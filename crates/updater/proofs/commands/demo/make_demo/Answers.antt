use Rattle.std.proofs.Common.{ℕ, List, [], ◌∷◌, ◌∙◌, refl, sym}
use Rattle.std.specs.Result.{result_err}
use Rattle.page_journal.specs.Pages.{page_from}
use Rattle.run_promise.specs.Course.{looks}
use Rattle.run_promise.specs.Courses.{fills_demo}
use Rattle.updater.proofs.FillRuns.{made_never}
use Rattle.updater.proofs.InitRuns.{never_unformatted}
use Rattle.updater.proofs.MakeRuns.{goes_over_made, taken_made, unmade, unopened}
use Rattle.updater.proofs.OpenRuns.{found_none, found_some}
use Rattle.updater.proofs.commands.demo.make_demo.Goals as goal

pub returns-in-Err-clause-goes_on : goal.returns-in-Err-clause-goes_on
returns-in-Err-clause-goes_on g c = rw c.in_store.ensures.fault (λ old head.
    unmade [] 0 old (g.I.Inputs.view c.args.inputs.now) (g.D.Disk.view c.args.disk.now) (g.S.Sink.view c.args.out.now) head
    c.in-Err.fault (g.D.Disk.view c.format.new.disk) (looks (fills_demo c.args.squares.count))
    c.in-Err.ensures.alone c.in-Err.ensures.answers (λ refused. (c.in-Err.ensures.refused refused).content) c.in-Err.ensures.cause)

pub returns-in-Err-clause-formatted : goal.returns-in-Err-clause-formatted
returns-in-Err-clause-formatted g c = rw c.in_store.ensures.fault (λ is. never_unformatted c.in-Err.fault _ c.in-Err.ensures.alone is)

pub returns-in-Err-open-clause-goes_on : goal.returns-in-Err-open-clause-goes_on
returns-in-Err-open-clause-goes_on g c = rw c.in_made.ensures.fault (λ old head.
    unopened [] 0 old (g.I.Inputs.view c.args.inputs.now) (g.D.Disk.view c.args.disk.now) (g.S.Sink.view c.args.out.now) head
    (λ (now : List ℕ). page_from now 4096 ∷ [])
    (g.D.Disk.view c.format.new.disk) c.in_default.ensures.fresh c.in_default.ensures.cause.later
    (g.D.Disk.view c.open.new.disk) (fills_demo c.args.squares.count)
    c.in-Err-open.fault c.in-Err-open.ensures.opens c.in-Err-open.ensures.any.told c.in-Err-open.ensures.any.alone
    c.in-Err-open.ensures.any.cause)

pub returns-in-Err-open-clause-formatted : goal.returns-in-Err-open-clause-formatted
returns-in-Err-open-clause-formatted g c =
    rw c.in_made.ensures.fault (λ is. made_never c.in-Err-open.fault _ c.in-Err-open.ensures.any.alone is)

pub returns-in_default-found-clause-goes_on : goal.returns-in_default-found-clause-goes_on
returns-in_default-found-clause-goes_on g c = (λ old head.
    taken_made [] 0 old (g.I.Inputs.view c.args.inputs.now) (g.D.Disk.view c.args.disk.now) (g.S.Sink.view c.args.out.now) head
    (λ (now : List ℕ). page_from now 4096 ∷ [])
    (g.D.Disk.view c.format.new.disk) c.in_default.ensures.fresh c.in_default.ensures.cause.later
    (g.D.Disk.view c.open.new.disk) (fills_demo c.args.squares.count)
    c.in-Ok.ensures.opens
    (λ told state at. found_none c.in-Ok.found c.in_default-found.is state (g.D.Disk.view c.open.new.disk) (c.in-Ok.ensures.found told state at))
    c.in-Ok.ensures.any.cause)

pub returns-clause-goes_on : goal.returns-clause-goes_on
returns-clause-goes_on g c = λ old head.
    goes_over_made [] 0 old (g.I.Inputs.view c.args.inputs.now) (g.D.Disk.view c.args.disk.now)
    (g.S.Sink.view c.args.out.now) head
    (λ (now : List ℕ). page_from now 4096 ∷ [])
    (g.D.Disk.view c.format.new.disk) c.in_default.ensures.fresh c.in_default.ensures.cause.later
    c.open.new.disk c.over-store.result c.over-store.ensures.disk c.in-Ok.ensures.opens
    (λ told state at. c.over-store.ensures.open state at
    (found_some c.in-Ok.found c.in-Some.opened c.in-Some.is state (g.D.Disk.view c.open.new.disk) (c.in-Ok.ensures.found told state at)))
    (c.over-store.ensures.tells.limits_are ∙ c.standard-limits.ensures.numbers) c.over-store.ensures.tells.whole
    (λ is. (c.over-store.ensures.tells.begun is, c.over-store.ensures.tells.unbegun is)) c.in-Ok.ensures.any.cause
    (λ now. refl) c.in-Ok.ensures.any.same
    (fills_demo c.args.squares.count)
    (result_err c.fill_demo-done.result) c.fill_demo-done.new.store
    c.disk-1.given.0 (c.disk-1.given.1 (sym c.over-store.ensures.same_disk ∙ sym c.fill_demo-done.ensures.keeps.stays.same_disk
    ∙ sym c.close-disk.ensures.same_disk) ∙ c.close-disk.ensures.disk)
    (g.I.Inputs.view c.args.inputs.now) (g.S.Sink.view c.fill_demo-done.new.out) c.fill_demo-done.ensures.goes_on
