use Rattle.std.proofs.Common.{◌+◌, ◌∙◌, ap, sym}
use Rattle.table_versions.specs.Fronts.{FrontOf}
use Rattle.table_versions.specs.Versions.{version_of}
use Rattle.update_flow.specs.Updater.{handle_of}
use Rattle.run_promise.specs.Courses.{serving}
use Rattle.updater.proofs.ServeRuns.{unshown}
use Rattle.updater.proofs.ShownVersions.{shown_version}
use Rattle.updater.proofs.Keeping.{keeps_short}
use Rattle.updater.proofs.serving.publish_file.Goals as goal

pub returns-in-Err-clause-publishes : goal.returns-in-Err-clause-publishes
returns-in-Err-clause-publishes g c = λ old start done held head queries readers shown count.
    c.in-Err.ensures.leads old start done held head (serving c.args.bounds.now queries readers shown (c.args.file + 1) count)

pub returns-in-Err-show_delta-clause-publishes : goal.returns-in-Err-show_delta-clause-publishes
returns-in-Err-show_delta-clause-publishes g c = λ old start done held head.
    unshown c.args.bounds.now c.args.file c.in-Ok.delta start done held old (g.I.Inputs.view c.commit_file.new.inputs)
    (handle_of c.commit_file.new.store) (g.S.Sink.view c.commit_file.new.out)
    c.args.publisher.now.front c.show_delta.new.publisher.front (c.in-Ok.ensures.leads old start done held head)

pub returns-clause-publishes : goal.returns-clause-publishes
returns-clause-publishes g c = λ old start done held head.
    let own = c.in-Ok.ensures.leads old start done held head in
    (own.0, own.1, own.2, own.3, (c.in-Ok.delta, c.in-Ok-show_delta.ensures.shown, own.4))

pub returns-clause-front : goal.returns-clause-front
returns-clause-front g c = record {
  begin = c.show_delta.ensures.begin;
  shown = record {
    version = c.in-Ok.ensures.changes ∙ ap (λ n. n + 1) c.requires.shown.version
        ∙ sym (shown_version c.args.publisher.now.front c.in-Ok.delta)
        ∙ ap (λ (front : FrontOf). version_of front) (sym c.in-Ok-show_delta.ensures.shown);
    tables_are = c.in-Ok-show_delta.ensures.tables;
  };
}

pub returns-in-Err-clause-works : goal.returns-in-Err-clause-works
returns-in-Err-clause-works g c = c.in-Err.ensures.works

pub returns-in-Err-show_delta-clause-works : goal.returns-in-Err-show_delta-clause-works
returns-in-Err-show_delta-clause-works g c = record {
  keeps = keeps_short c.args.store.now c.commit_file.new.store c.in-Ok.ensures.works.keeps;
  asked = c.commit_file.ensures.works.asked;
}

pub returns-clause-works : goal.returns-clause-works
returns-clause-works g c = c.in-Ok.ensures.works
