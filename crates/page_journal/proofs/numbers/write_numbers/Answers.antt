use Rattle.std.proofs.Common.{◌≡◌, ℕ, List, length, option_map, sym, ◌∙◌, subst, arith, rules}
use Rattle.std.proofs.Math.Nat.{le_trans}
use Rattle.std.proofs.lemmas.List.{length_push}
use Rattle.std.proofs.lemmas.Map.Iter.{iter_turn, iter_end}
use Rattle.std.specs.Map.Iter.{deref_pair}
use Rattle.outside.specs.Disk.{Tells, overlaid}
use Rattle.page_journal.specs.Crash.{BesideJournal, Spares}
use Rattle.page_journal.specs.PageSet.{plain}
use Rattle.page_journal.specs.Written.{NumbersHeld, NumbersPut}
use Rattle.page_journal.proofs.Causes.{cause_after, caused, on_ok}
use Rattle.page_journal.proofs.Counting.{held_start, held_last, held_none}
use Rattle.page_journal.proofs.Entries.{number_at-plain}
use Rattle.page_journal.proofs.Moments.{started, goes_then, told_written}
use Rattle.page_journal.proofs.numbers.write_numbers.Goals as goal

pub loop-number-init : goal.loop-number-init
loop-number-init g c =
    let page = c.new-page.result in
    record {
      can = tt;
      finite = tt;
      room = omega (arith, c.new-page.ensures.none);
      from = omega (arith, c.new-page.ensures.place);
      place = omega (arith, c.new-page.ensures.place, c.new-page.ensures.none);
      put = λ bytes told. (
        bytes,
        told,
        subst (λ (at : ℕ). NumbersHeld (plain c.args.pages.now.entries) 0 c.args.at at page.filled page.bytes bytes bytes)
            (sym c.new-page.ensures.place)
            (subst (λ (n : ℕ). NumbersHeld (plain c.args.pages.now.entries) 0 c.args.at c.args.at n page.bytes bytes bytes)
            (sym c.new-page.ensures.none)
            (held_start (plain c.args.pages.now.entries) c.args.at page.bytes bytes c.new-page.ensures.long c.new-page.ensures.zero)),
      );
      crash = λ low base le within. started (Spares (BesideJournal low) base) _ within;
      reads = search rules;
      later = omega arith;
    }

pub loop-number-preserved : goal.loop-number-preserved
loop-number-preserved g c =
    let so_far = c.loop-number.invariant in
    let added = c.in_ok-add_number.ensures in
    let entries = c.args.pages.now.entries in
    let yielded = c.loop-number.yielded in
    let start : c.into_iter-number-iterator.result ≡ entries = c.into_iter-number-iterator.ensures.into_iter_gives.0 in
    let turn = iter_turn deref_pair entries yielded c.into_iter-number-iterator.result _ _ _ start c.loop-number.yielded_by
    (c.in-Some.number, c.in-Some.field-0-1) c.in-Some.is c.next.ensures.steps in
    let here = number_at-plain entries (length yielded) c.in-Some.number.now c.in-Some.field-0-1.now turn.1 in
    let more = length_push yielded (c.in-Some.number, c.in-Some.field-0-1) in
    record {
      can = tt;
      finite = tt;
      room = added.room;
      from = omega (arith, so_far.from, added.further);
      place = omega (arith, so_far.place, added.place, more);
      put = λ bytes told.
          let held = so_far.put bytes told in
          let next = added.put held.0 held.1 in (
            next.0,
            next.1,
            subst (λ (n : ℕ). NumbersHeld (plain entries) n c.args.at c.add_number.new.page.at c.add_number.new.page.filled
                c.add_number.new.page.bytes bytes next.0) (sym more)
                (next.2 (plain entries) (length yielded) c.args.at bytes held.2 (sym here)),
          );
      crash = λ low base le within.
          let run = so_far.crash low base le within in
          goes_then (Spares (BesideJournal low) base) _ _ _ run (added.writes.crash low base (omega (arith, le, so_far.from)) run.now);
      reads = added.writes.reads ∙ so_far.reads;
      later = omega (arith, so_far.later, c.add_number.ensures.writes.cause.later);
    }

pub add_number-requires-clause-within : goal.add_number-requires-clause-within
add_number-requires-clause-within g c =
    let entries = c.args.pages.now.entries in
    let start : c.into_iter-number-iterator.result ≡ entries = c.into_iter-number-iterator.ensures.into_iter_gives.0 in
    let turn = iter_turn deref_pair entries c.loop-number.yielded c.into_iter-number-iterator.result _ _ _ start c.loop-number.yielded_by
    (c.in-Some.number, c.in-Some.field-0-1) c.in-Some.is c.next.ensures.steps in
    omega (arith, c.requires, c.loop-number.invariant.place, turn.0)

pub returns-in_err-add_number-clause-writes : goal.returns-in_err-add_number-clause-writes
returns-in_err-add_number-clause-writes g c = record {
  crash = λ low base le within.
      let so_far = c.loop-number.invariant in
      let run = so_far.crash low base le within in
      goes_then (Spares (BesideJournal low) base) _ _ _ run (c.add_number.ensures.writes.crash low base (le_trans le so_far.from) run.now);
  reads = c.add_number.ensures.writes.reads ∙ c.loop-number.invariant.reads;
  cause = caused _ _ _ _ c.loop-number.invariant.later c.add_number.ensures.writes.cause.later
      c.in_err-add_number.ensures.writes.cause.failed;
}

pub returns-then-page-eq0-clause-put : goal.returns-then-page-eq0-clause-put
returns-then-page-eq0-clause-put g c = λ bytes told.
    let so_far = c.loop-number.invariant in
    let page = c.loop-number.page in
    let entries = c.args.pages.now.entries in
    let start : c.into_iter-number-iterator.result ≡ entries = c.into_iter-number-iterator.ensures.into_iter_gives.0 in
    let end = iter_end deref_pair entries c.loop-number.yielded c.into_iter-number-iterator.result _ _ _ start c.loop-number.yielded_by
    c.in-None.is c.next.ensures.steps in
    let held = so_far.put bytes told in (
      held.0,
      held.1,
      subst (λ (n : ℕ). NumbersPut (plain entries) n c.args.at bytes held.0) end.1
          (held_none (plain entries) (length c.loop-number.yielded) c.args.at page.at page.filled page.bytes bytes held.0 held.2
          c.if-page-eq0.true),
    )

pub returns-then-page-eq0-clause-writes : goal.returns-then-page-eq0-clause-writes
returns-then-page-eq0-clause-writes g c = record {
  crash = λ low base le within. c.loop-number.invariant.crash low base le within;
  reads = search rules;
  cause = record { later = c.loop-number.invariant.later; failed = tt };
}

pub flush-requires : goal.flush-requires
flush-requires g c =
    let entries = c.args.pages.now.entries in
    let start : c.into_iter-number-iterator.result ≡ entries = c.into_iter-number-iterator.ensures.into_iter_gives.0 in
    let end = iter_end deref_pair entries c.loop-number.yielded c.into_iter-number-iterator.result _ _ _ start c.loop-number.yielded_by
    c.in-None.is c.next.ensures.steps in
    omega (arith, c.requires, c.loop-number.invariant.place, end.1)

pub returns-clause-put : goal.returns-clause-put
returns-clause-put g c =
    let page = c.loop-number.page in
    let old = g.D.Disk.view c.args.disk.now in
    let mid = g.D.Disk.view c.loop-number.disk in
    let new = g.D.Disk.view c.flush.new.disk in
    let entries = c.args.pages.now.entries in
    let start : c.into_iter-number-iterator.result ≡ entries = c.into_iter-number-iterator.ensures.into_iter_gives.0 in
    let end = iter_end deref_pair entries c.loop-number.yielded c.into_iter-number-iterator.result _ _ _ start c.loop-number.yielded_by
    c.in-None.is c.next.ensures.steps in
    on_ok (new.content ≡ option_map (overlaid page.at page.bytes) mid.content)
    ((bytes : List ℕ) → Tells old bytes → (now : List ℕ) × Tells new now × NumbersPut (plain entries) (length entries) c.args.at bytes now)
    c.flush.result
    (λ written bytes told.
    let so_far = c.loop-number.invariant in
    let held = so_far.put bytes told in (
      overlaid page.at page.bytes held.0,
      told_written (overlaid page.at page.bytes) _ _ held.0 held.1 written,
      subst (λ (n : ℕ). NumbersPut (plain entries) n c.args.at bytes (overlaid page.at page.bytes held.0)) end.1
          (held_last (plain entries) (length c.loop-number.yielded) c.args.at page.at page.filled page.bytes bytes held.0 held.2
          (omega (arith, so_far.room))),
    ))
    c.flush.ensures.written

pub returns-clause-writes : goal.returns-clause-writes
returns-clause-writes g c = record {
  crash = λ low base le within.
      let so_far = c.loop-number.invariant in
      let run = so_far.crash low base le within in
      goes_then (Spares (BesideJournal low) base) _ _ _ run (c.flush.ensures.writes.crash low base (le_trans le so_far.from) run.now);
  reads = c.flush.ensures.writes.reads ∙ c.loop-number.invariant.reads;
  cause = cause_after _ _ _ c.flush.result c.loop-number.invariant.later c.flush.ensures.writes.cause;
}
