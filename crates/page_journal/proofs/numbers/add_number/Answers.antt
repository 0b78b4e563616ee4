use Rattle.std.proofs.Common.{◌≡◌, ℕ, ◌+◌, sym, subst}
use Rattle.outside.specs.Disk.{overlaid}
use Rattle.page_journal.specs.Written.{NumbersHeld}
use Rattle.page_journal.proofs.Counting.{held_added, held_flushed}
use Rattle.page_journal.proofs.Moments.{told_written}
use Rattle.page_journal.proofs.numbers.add_number.Goals as goal

pub returns-in_ok-flush-clause-put : goal.returns-in_ok-flush-clause-put
returns-in_ok-flush-clause-put g c = λ bytes told.
    let page = c.args.page.now in
    let buffer = c.put_number.new.bytes in (
      overlaid page.at buffer bytes,
      told_written (overlaid page.at buffer) _ _ bytes told c.in_ok-flush.ensures.written,
      λ entries count start base held is.
          let added : NumbersHeld entries (count + 1) start page.at (page.filled + 1) buffer base bytes =
          held_added entries count start page.at page.filled c.args.value page.bytes buffer base bytes held c.put_number.ensures.here
          c.put_number.ensures.others c.put_number.ensures.long is c.put_number.ensures.behind in
          let full : page.filled + 1 ≡ 512 = c.if-page-eq-PER_PAGE.true in
          let whole : NumbersHeld entries (count + 1) start page.at 512 buffer base bytes =
          subst (λ (n : ℕ). NumbersHeld entries (count + 1) start page.at n buffer base bytes) full added in
          let next = held_flushed entries (count + 1) start page.at buffer c.flush.new.page.bytes base bytes whole
          c.in_ok-flush.ensures.long c.in_ok-flush.ensures.zero in
          subst (λ (at : ℕ). NumbersHeld entries (count + 1) start at c.flush.new.page.filled c.flush.new.page.bytes base
          (overlaid page.at buffer bytes)) (sym c.in_ok-flush.ensures.next)
          (subst (λ (n : ℕ). NumbersHeld entries (count + 1) start (page.at + 4096) n c.flush.new.page.bytes base
          (overlaid page.at buffer bytes)) (sym c.in_ok-flush.ensures.none) next),
    )
