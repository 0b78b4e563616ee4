use Rattle.std.proofs.Common.{◌+◌, ◌∙◌, List, ℕ, subst, sym}
use Rattle.std.specs.String.{string_bytes}
use Rattle.table_versions.specs.Fronts.{FrontOf}
use Rattle.reader_rounds.specs.Asking.{AreAsking, begin_of, count_of}
use Rattle.update_flow.specs.Updater.{handle_of}
use Rattle.updater.specs.Serving.{IsServed}
use Rattle.updater.proofs.ServeEnds.{served_fits, served_short, served_told}
use Rattle.updater.proofs.Keeping.{keeps_short, keeps_told}
use Rattle.updater.proofs.serving.serve_shown.Goals as goal

pub served_text-requires-clause-asking : goal.served_text-requires-clause-asking
served_text-requires-clause-asking g c κs within =
    subst (λ (front : FrontOf). AreAsking c.args.own.style.now front c.args.own.queries.now c.args.files.count c.show_files.new.askers)
    (sym c.show_files.ensures.front.begin)
    (c.show_files.ensures.asks.each c.args.own.style.now (begin_of c.args.publisher.now.front) c.requires.asking)

pub served_text-requires-clause-shown : goal.served_text-requires-clause-shown
served_text-requires-clause-shown g c κs within = record {
  version = c.changes-version.ensures.number ∙ c.in-Ok.ensures.front.shown.version;
  tables_are = c.in-Ok.ensures.front.shown.tables_are;
}

pub returns-in-Err-clause-goes_on : goal.returns-in-Err-clause-goes_on
returns-in-Err-clause-goes_on g c = λ old start done held head same shown.
    c.in-Err.ensures.serves.each old start done held c.args.own.queries.now (count_of c.args.askers) head

pub returns-in-Ok-served_text-clause-goes_on : goal.returns-in-Ok-served_text-clause-goes_on
returns-in-Ok-served_text-clause-goes_on g c = λ old start done held head same shown.
    let readers = count_of c.args.askers in
    let files = g.I.Inputs.view c.show_files.new.inputs in
    let store = handle_of c.show_files.new.store in
    let output = g.S.Sink.view c.show_files.new.out in
    let before : FrontOf = c.args.publisher.now.front in
    let now : FrontOf = c.show_files.new.publisher.front in
    let turn = c.in-Ok.ensures.serves.each old start done held c.args.own.queries.now readers head in
    let text = c.as_bytes.result.now in
    let served : IsServed c.args.own.style.now now c.args.own.queries.now c.args.files.count readers text =
    subst (λ (own : List ℕ). IsServed c.args.own.style.now now c.args.own.queries.now c.args.files.count readers own)
    (sym c.as_bytes.ensures.value)
    (subst (λ (count : ℕ).
    IsServed c.args.own.style.now now c.args.own.queries.now c.args.files.count count (string_bytes c.in-Ok-served_text.text))
    c.show_files.ensures.asks.count c.in-Ok-served_text.ensures.text) in
    served_told c.args.own.bounds.now c.args.own.queries.now readers held c.args.files.first c.args.files.count start done
    (c.args.files.first + c.args.files.count) old files store output before now turn text (g.S.Sink.view c.tell.new.out)
    (served_fits c.args.own.bounds.now c.args.own.queries.now readers held c.args.files.first c.args.files.count start done
    (c.args.files.first + c.args.files.count) old files store output before now turn c.args.own.style.now text same shown served)
    c.tell.result c.tell.ensures.ok c.tell.ensures.err c.tell.ensures.alone c.tell.ensures.cause

pub returns-clause-goes_on : goal.returns-clause-goes_on
returns-clause-goes_on g c = λ old start done held head same shown.
    let readers = count_of c.args.askers in
    let turn = c.in-Ok.ensures.serves.each old start done held c.args.own.queries.now readers head in
    served_short c.args.own.bounds.now c.args.own.queries.now readers held c.args.files.first c.args.files.count start done
    (c.args.files.first + c.args.files.count) old (g.I.Inputs.view c.show_files.new.inputs) (handle_of c.show_files.new.store)
    (g.S.Sink.view c.show_files.new.out)
    c.args.publisher.now.front c.show_files.new.publisher.front turn

pub returns-in-Err-clause-works : goal.returns-in-Err-clause-works
returns-in-Err-clause-works g c = c.in-Err.ensures.works

pub returns-in-Ok-served_text-clause-works : goal.returns-in-Ok-served_text-clause-works
returns-in-Ok-served_text-clause-works g c = record {
  keeps = keeps_told c.args.store.now c.show_files.new.store c.in-Ok.ensures.works.keeps c.tell.result c.tell.ensures.alone;
  asked = c.show_files.ensures.works.asked;
}

pub returns-clause-works : goal.returns-clause-works
returns-clause-works g c = record {
  keeps = keeps_short c.args.store.now c.show_files.new.store c.in-Ok.ensures.works.keeps;
  asked = c.show_files.ensures.works.asked;
}
