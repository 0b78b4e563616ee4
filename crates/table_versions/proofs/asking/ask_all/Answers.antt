use Rattle.std.proofs.Common.{◌≡◌, ◌+◌, List, sym, subst}
use Rattle.table_versions.specs.Answers.{IsRefused}
use Rattle.table_versions.specs.Views.{ReaderOf}
use Rattle.table_versions.specs.declared.answers.Answer.{Answer}
use Rattle.table_versions.specs.declared.answers.LookRefused.{LookRefused}
use Rattle.table_versions.proofs.Rounds.{Asked, asked_more, asked_shut, asked_so_far}
use Rattle.table_versions.proofs.asking.ask_all.Goals as goal

pub returns-in-Err-Shut-clause-answers : goal.returns-in-Err-Shut-clause-answers
returns-in-Err-Shut-clause-answers g c =
    let old : ReaderOf = g.E.Reads.state c.args.reader.now in
    let now : ReaderOf = g.E.Reads.state c.loop-query.reader in
    let new : ReaderOf = g.E.Reads.state c.look.new.self in
    let refused = subst (λ (why : LookRefused). IsRefused now.refusals new.refusals (new.seen ≡ now.seen) why) c.in-Err-Shut.field-0-is
    c.in-Err-Shut.ensures.shut in
    asked_shut old now new c.args.queries.now c.loop-query.query-index c.loop-query.answers c.loop-query.invariant refused.1

pub loop-query-preserved : goal.loop-query-preserved
loop-query-preserved g c =
    let old : ReaderOf = g.E.Reads.state c.args.reader.now in
    let now : ReaderOf = g.E.Reads.state c.loop-query.reader in
    let new : ReaderOf = g.E.Reads.state c.look.new.self in
    let queries = c.args.queries.now in
    let index = c.loop-query.query-index in
    let more = asked_more old now new queries index c.loop-query.answers c.query-item.result c.in-Ok.answer c.loop-query.invariant
    c.loop-query-test.true c.query-item.is c.in-Ok.ensures.same c.in-Ok.ensures.seen c.in-Ok.ensures.later c.in-Ok.ensures.told
    c.in-Ok.ensures.handle c.in-Ok.ensures.answer in
    subst (λ (answers : List Answer). Asked old new queries (index + 1) answers) (sym c.in_ok-push-in-Ok.ensures.ok) more

pub returns-clause-answers : goal.returns-clause-answers
returns-clause-answers g c =
    asked_so_far (g.E.Reads.state c.args.reader.now)
    (g.E.Reads.state c.loop-query.reader) c.args.queries.now c.loop-query.query-index c.loop-query.answers c.loop-query.invariant

pub returns-in-Err-Shut-clause-handle : goal.returns-in-Err-Shut-clause-handle
returns-in-Err-Shut-clause-handle g c = c.loop-query.invariant.handle

pub returns-clause-handle : goal.returns-clause-handle
returns-clause-handle g c = c.loop-query.invariant.handle
