use Rattle.std.proofs.Common.{inl, inr, sym, refl, rules}
use Rattle.page_journal.proofs.Runs.{elapses_same, follows_same, shows_none}
use Rattle.page_journal.proofs.page_run.make_room.Goals as goal

pub returns-then-lies_behind-clause-start : goal.returns-then-lies_behind-clause-start
returns-then-lies_behind-clause-start g c = inr (refl, sym (c.lies_behind.ensures.place c.if-lies_behind.true))

pub returns-then-lies_behind-clause-writes : goal.returns-then-lies_behind-clause-writes
returns-then-lies_behind-clause-writes g c = record {
  crash = follows_same c.args.run.now.at c.args.run.now.filled (g.D.Disk.view c.args.disk.now).crashes;
  time = elapses_same (g.D.Disk.view c.args.disk.now).crashes;
  reads = search rules;
  cause = search rules;
}

pub returns-clause-shows : goal.returns-clause-shows
returns-clause-shows g c = λ content shows.
    shows_none c.args.at c.flush.new.run.filled c.flush.new.run.bytes content _ c.in_ok-flush.ensures.none
    (c.in_ok-flush.ensures.tells content shows)

pub returns-clause-start : goal.returns-clause-start
returns-clause-start g c = inl refl
