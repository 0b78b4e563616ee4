use Rattle.std.proofs.Common.{sym}
use Rattle.std.specs.Result.{result_err}
use Rattle.update_flow.specs.Updater.{handle_of}
use Rattle.updater.proofs.FeedRuns.{full_asked, not_asked}
use Rattle.updater.proofs.Keeping.{keeps_none}
use Rattle.updater.proofs.feeding.feed_full.Goals as goal

pub returns-then-full-clause-feeds : goal.returns-then-full-clause-feeds
returns-then-full-clause-feeds g c = λ next files old start done held head.
    full_asked c.args.full (sym c.if-full.true) (result_err c.feed_tables.result) start done held next old files
    (handle_of c.feed_tables.new.store) (g.S.Sink.view c.feed_tables.new.out)
    (c.feed_tables.ensures.feeds next files old start done held head)

pub returns-clause-feeds : goal.returns-clause-feeds
returns-clause-feeds g c = λ next files old start done held head.
    not_asked c.args.full (sym c.if-full.false) start done held next old files (handle_of c.args.store.now)
    (g.S.Sink.view c.args.out.now) head

pub returns-then-full-clause-keeps : goal.returns-then-full-clause-keeps
returns-then-full-clause-keeps g c = c.feed_tables.ensures.keeps

pub returns-clause-keeps : goal.returns-clause-keeps
returns-clause-keeps g c = keeps_none c.args.store.now
