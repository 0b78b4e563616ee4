use Rattle.std.proofs.Common.{inl, length, arith, rules}
use Rattle.page_journal.specs.Crash.{BesideJournal, Spares}
use Rattle.page_journal.proofs.Moments.{started}
use Rattle.page_journal.proofs.Places.{goes_write}
use Rattle.page_journal.proofs.numbers.flush.Goals as goal

pub returns-in_err-write_at-clause-writes : goal.returns-in_err-write_at-clause-writes
returns-in_err-write_at-clause-writes g c = record {
  crash = λ low base le within.
      let page = c.args.page.now in
      goes_write (BesideJournal low) base page.at (length page.bytes) _ _ _ (started (Spares (BesideJournal low) base) _ within)
      c.write_at.ensures.time c.write_at.ensures.crash (λ i keeps. let below = keeps.1 in inl (omega (arith, below, le)));
  reads = search rules;
  cause = search rules;
}

pub returns-clause-writes : goal.returns-clause-writes
returns-clause-writes g c = record {
  crash = λ low base le within.
      let page = c.args.page.now in
      goes_write (BesideJournal low) base page.at (length page.bytes) _ _ _ (started (Spares (BesideJournal low) base) _ within)
      c.write_at.ensures.time c.write_at.ensures.crash (λ i keeps. let below = keeps.1 in inl (omega (arith, below, le)));
  reads = search rules;
  cause = search rules;
}
