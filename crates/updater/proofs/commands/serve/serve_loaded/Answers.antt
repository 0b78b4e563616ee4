use Rattle.std.proofs.Common.{◌≡◌, ◌∙◌, ℕ, None, Some, [], ap, subst, sym}
use Rattle.std.specs.Result.{result_err}
use Rattle.table_versions.specs.Fronts.{FrontOf}
use Rattle.update_flow.specs.Handle.{view_of}
use Rattle.update_flow.specs.State.{imported}
use Rattle.update_flow.specs.Updater.{handle_of}
use Rattle.run_promise.specs.Comes.{IsCertain}
use Rattle.run_promise.specs.Courses.{serves}
use Rattle.updater.specs.Heads.{GoesOn}
use Rattle.run_promise.specs.World.{world}
use Rattle.updater.proofs.ServeRuns.{short_serving}
use Rattle.updater.proofs.ShownVersions.{shown_first}
use Rattle.updater.proofs.StoreRuns.{same_style}
use Rattle.updater.proofs.StoreDeeds.{shows_here}
use Rattle.updater.proofs.commands.serve.serve_loaded.Goals as goal

pub returns-in-None-clause-goes_on : goal.returns-in-None-clause-goes_on
returns-in-None-clause-goes_on g c = λ old start done held head loaded.
    let shown = shows_here done.store done.cut (imported held) (handle_of c.args.store.now) head.here in
    absurd (let two : None ≡ Some held.style = c.in-None.ensures.style ∙ shown.style_is in cc)

pub returns-in-Err-clause-goes_on : goal.returns-in-Err-clause-goes_on
returns-in-Err-clause-goes_on g c = λ old start done held head loaded.
    short_serving c.args.bounds.now c.args.queries.now c.args.readers [] held c.args.files.first c.args.files.count start done old
    (g.I.Inputs.view c.args.inputs.now) (handle_of c.args.store.now) (g.S.Sink.view c.args.out.now) head

pub returns-in-Err-publish_first-clause-goes_on : goal.returns-in-Err-publish_first-clause-goes_on
returns-in-Err-publish_first-clause-goes_on g c = λ old start done held head loaded.
    short_serving c.args.bounds.now c.args.queries.now c.args.readers [] held c.args.files.first c.args.files.count start done old
    (g.I.Inputs.view c.args.inputs.now) (handle_of c.args.store.now) (g.S.Sink.view c.args.out.now) head

pub returns-in-Ok-publish_first-clause-goes_on : goal.returns-in-Ok-publish_first-clause-goes_on
returns-in-Ok-publish_first-clause-goes_on g c = λ old start done held head loaded.
    let store = handle_of c.args.store.now in
    let files = g.I.Inputs.view c.args.inputs.now in
    let output = g.S.Sink.view c.args.out.now in
    let front : FrontOf = c.in-Ok-publish_first.publisher.front in
    let is = c.in-Ok-publish_first.ensures.front in
    let shown = shows_here done.store done.cut (imported held) store head.here in
    let same : held.style ≡ c.in-Ok.style = sym
    (c.in-Ok.ensures.equal ∙ same_style start done held c.args.files.first old files store output head c.in-Some.style.now
    c.in-Some.ensures.style) in
    let none : front.log ≡ [] = ap (λ (own : FrontOf). own.log) is in
    let changes : held.changes ≡ front.base =
    sym (ap (λ (own : FrontOf). own.base) is ∙ c.changes-version.ensures.number ∙ shown.changes_are) in
    subst (λ (readers : ℕ).
    GoesOn (serves c.args.bounds.now c.args.queries.now readers [] held c.args.files.first c.args.files.count) start done
    (result_err c.serve_shown-done.result) old
    (world (g.I.Inputs.view c.serve_shown-done.new.inputs) (view_of (handle_of c.serve_shown-done.new.store))
    (g.S.Sink.view c.serve_shown-done.new.out)))
    c.in-Ok-publish_first.ensures.count
    (c.serve_shown-done.ensures.goes_on old start done held head same
    (λ (certain : IsCertain done.store). shown_first c.in-Ok.style front held none changes same
    (ap (λ (own : FrontOf). own.first) is ∙ loaded certain)))

pub returns-in-Ok-publish_first-clause-works : goal.returns-in-Ok-publish_first-clause-works
returns-in-Ok-publish_first-clause-works g c = c.serve_shown-done.ensures.works
