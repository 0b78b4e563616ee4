use Rattle.update_flow.specs.Updater.{handle_of}
use Rattle.updater.proofs.FeedRuns.{file_unfed}
use Rattle.updater.proofs.Keeping.{keeps_unread}
use Rattle.updater.proofs.feeding.feed_file.Goals as goal

pub returns-in-Err-clause-feeds : goal.returns-in-Err-clause-feeds
returns-in-Err-clause-feeds g c = λ old start done held head.
    file_unfed c.args.bounds.now held c.args.file start done old (g.I.Inputs.view c.args.inputs.now)
    (g.I.Inputs.view c.read_change.new.inputs) (handle_of c.args.store.now) (g.S.Sink.view c.args.out.now) head c.in-Err.fault
    c.in-Err.ensures.reads.err

pub returns-clause-feeds : goal.returns-clause-feeds
returns-clause-feeds g c = λ old start done held head.
    c.feed_change.ensures.feeds c.args.file (g.I.Inputs.view c.args.inputs.now) (g.I.Inputs.view c.read_change.new.inputs) old start done
    held c.in-Ok.ensures.reads.ok head

pub returns-in-Err-clause-works : goal.returns-in-Err-clause-works
returns-in-Err-clause-works g c = record {
  keeps = keeps_unread _ _ c.in-Err.fault _ _ c.args.store.now c.in-Err.ensures.reads.err;
  asked = c.read_change.ensures.reads.asked;
}

pub returns-clause-works : goal.returns-clause-works
returns-clause-works g c = record { keeps = c.feed_change.ensures.keeps; asked = c.read_change.ensures.reads.asked }
