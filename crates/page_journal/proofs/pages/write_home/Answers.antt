use Rattle.std.proofs.Common.{◌≡◌, ℕ, List, ◌*◌, ◌^◌, ◌<◌, inr, length, ap, sym, ◌∙◌, subst, arith, refl, rules}
use Rattle.std.proofs.Math.Nat.{le_trans}
use Rattle.std.proofs.lemmas.List.{length_push}
use Rattle.std.proofs.lemmas.Map.Iter.{iter_turn, iter_end}
use Rattle.std.specs.Map.Iter.{deref_pair}
use Rattle.outside.specs.Disk.{Only, Tells, overlaid}
use Rattle.page_journal.specs.Crash.{BesidePages, Spares}
use Rattle.page_journal.specs.PageSet.{padded, plain, number_at, page_at}
use Rattle.page_journal.specs.Written.{HomePut}
use Rattle.page_journal.proofs.Causes.{cause_after, caused, on_ok}
use Rattle.page_journal.proofs.Entries.{number_at-plain, page_at-plain}
use Rattle.page_journal.proofs.Padding.{padded_few}
use Rattle.page_journal.proofs.Moments.{started, goes_quiet}
use Rattle.page_journal.proofs.Parts.{home_none, home_more, beside_page}
use Rattle.page_journal.proofs.Places.{goes_write}
use Rattle.page_journal.proofs.Runs.{beside_grown, shows_none}
use Rattle.page_journal.proofs.pages.write_home.Goals as goal

pub overflow_mul-number : goal.overflow_mul-number
overflow_mul-number g c =
    let entries = c.args.pages.now.entries in
    let yielded = c.loop-number.yielded in
    let start : c.into_iter-number-iterator.result ≡ entries = c.into_iter-number-iterator.ensures.into_iter_gives.0 in
    let turn = iter_turn deref_pair entries yielded c.into_iter-number-iterator.result _ _ _ start c.loop-number.yielded_by
    (c.in-Some.number, c.in-Some.page) c.in-Some.is c.next.ensures.steps in
    let here = number_at-plain entries (length yielded) c.in-Some.number.now c.in-Some.page.now turn.1 in
    let room = c.requires.room (length yielded) turn.0 in
    let small : c.in-Some.number.now * 4096 < 2 ^ 64 = omega (arith, here, room) in
    search rules

pub put_page-requires-clause-size : goal.put_page-requires-clause-size
put_page-requires-clause-size g c =
    let entries = c.args.pages.now.entries in
    let yielded = c.loop-number.yielded in
    let start : c.into_iter-number-iterator.result ≡ entries = c.into_iter-number-iterator.ensures.into_iter_gives.0 in
    let turn = iter_turn deref_pair entries yielded c.into_iter-number-iterator.result _ _ _ start c.loop-number.yielded_by
    (c.in-Some.number, c.in-Some.page) c.in-Some.is c.next.ensures.steps in
    let same = page_at-plain entries (length yielded) c.in-Some.number.now c.in-Some.page.now turn.1 in
    let size : length (padded c.as_slice.result.now) ≡ 4096 =
    ap (λ (l : List ℕ). length (padded l)) c.as_slice.ensures.value ∙ ap length (sym same) ∙ c.requires.sized (length yielded) turn.0 in
    padded_few c.as_slice.result.now size

pub put_page-requires-clause-room : goal.put_page-requires-clause-room
put_page-requires-clause-room g c =
    let entries = c.args.pages.now.entries in
    let yielded = c.loop-number.yielded in
    let start : c.into_iter-number-iterator.result ≡ entries = c.into_iter-number-iterator.ensures.into_iter_gives.0 in
    let turn = iter_turn deref_pair entries yielded c.into_iter-number-iterator.result _ _ _ start c.loop-number.yielded_by
    (c.in-Some.number, c.in-Some.page) c.in-Some.is c.next.ensures.steps in
    let here = number_at-plain entries (length yielded) c.in-Some.number.now c.in-Some.page.now turn.1 in
    let room = c.requires.room (length yielded) turn.0 in
    omega (arith, here, room)

pub loop-number-init : goal.loop-number-init
loop-number-init g c =
    let run = c.new-run.result in
    record {
      can = tt;
      finite = tt;
      held = c.new-run.ensures.fits;
      spared = λ i keeps. inr (omega (arith, c.new-run.ensures.none, c.new-run.ensures.place));
      put = λ bytes told. (
        bytes,
        shows_none run.at run.filled run.bytes bytes _ c.new-run.ensures.none told,
        home_none (number_at (plain c.args.pages.now.entries)) (page_at (plain c.args.pages.now.entries)) bytes,
      );
      crash = λ base within. started (Spares (BesidePages (length c.args.pages.now.entries) (number_at (plain c.args.pages.now.entries)))
          base) _ within;
      reads = search rules;
      later = omega arith;
    }

pub loop-number-preserved : goal.loop-number-preserved
loop-number-preserved g c =
    let so_far = c.loop-number.invariant in
    let added = c.in_ok-put_page.ensures in
    let run = c.loop-number.run in
    let new = c.put_page.new.run in
    let entries = c.args.pages.now.entries in
    let yielded = c.loop-number.yielded in
    let start : c.into_iter-number-iterator.result ≡ entries = c.into_iter-number-iterator.ensures.into_iter_gives.0 in
    let turn = iter_turn deref_pair entries yielded c.into_iter-number-iterator.result _ _ _ start c.loop-number.yielded_by
    (c.in-Some.number, c.in-Some.page) c.in-Some.is c.next.ensures.steps in
    let here = number_at-plain entries (length yielded) c.in-Some.number.now c.in-Some.page.now turn.1 in
    let same = page_at-plain entries (length yielded) c.in-Some.number.now c.in-Some.page.now turn.1 in
    let page : List ℕ = padded c.as_slice.result.now in
    let is : page ≡ page_at (plain entries) (length yielded) =
    ap (λ (l : List ℕ). padded l) c.as_slice.ensures.value ∙ sym same in
    let size : length page ≡ 4096 = ap length is ∙ c.requires.sized (length yielded) turn.0 in
    let more = length_push yielded (c.in-Some.number, c.in-Some.page) in
    let at = c.in-Some.number.now * 4096 in
    let at-is : at ≡ 4096 * number_at (plain entries) (length yielded) = omega (arith, here) in
    let inside = turn.0 in
    let beside = BesidePages (length entries) (number_at (plain entries)) in
    record {
      can = tt;
      finite = tt;
      held = added.fits;
      spared = beside_grown beside run.at run.filled at new.at new.filled added.grows so_far.spared
          (beside_page (length entries) (number_at (plain entries)) (length yielded) at 4096 inside at-is refl);
      put = λ bytes told.
          let now = so_far.put bytes told in (
            overlaid at page now.0,
            added.shows now.0 now.1,
            subst (λ (n : ℕ). HomePut (number_at (plain entries)) (page_at (plain entries)) n bytes
                (overlaid at page now.0)) (sym more)
                (home_more (number_at (plain entries)) (page_at (plain entries)) (length yielded) at page bytes now.0 now.2
                (λ place below. c.requires.rises place (length yielded) below inside) at-is is size),
          );
      crash = λ base within.
          goes_write beside base run.at run.filled _ _ _
          (so_far.crash base within) c.put_page.ensures.writes.time c.put_page.ensures.writes.crash so_far.spared;
      reads = c.put_page.ensures.writes.reads ∙ so_far.reads;
      later = omega (arith, so_far.later, c.put_page.ensures.writes.cause.later);
    }

pub returns-in_err-put_page-clause-writes : goal.returns-in_err-put_page-clause-writes
returns-in_err-put_page-clause-writes g c = record {
  crash = λ base within.
      let so_far = c.loop-number.invariant in
      let entries = c.args.pages.now.entries in
      let run = c.loop-number.run in
      goes_write (BesidePages (length entries) (number_at (plain entries))) base run.at run.filled _ _ _ (so_far.crash base within)
      c.put_page.ensures.writes.time c.put_page.ensures.writes.crash so_far.spared;
  reads = c.put_page.ensures.writes.reads ∙ c.loop-number.invariant.reads;
  cause = caused _ _ _ _ c.loop-number.invariant.later c.put_page.ensures.writes.cause.later c.in_err-put_page.ensures.writes.cause.failed;
}

pub returns-in_err-flush-clause-writes : goal.returns-in_err-flush-clause-writes
returns-in_err-flush-clause-writes g c = record {
  crash = λ base within.
      let so_far = c.loop-number.invariant in
      let entries = c.args.pages.now.entries in
      let run = c.loop-number.run in
      goes_write (BesidePages (length entries) (number_at (plain entries))) base run.at run.filled _ _ _ (so_far.crash base within)
      c.flush.ensures.writes.time c.flush.ensures.writes.crash so_far.spared;
  reads = c.flush.ensures.writes.reads ∙ c.loop-number.invariant.reads;
  cause = caused _ _ _ _ c.loop-number.invariant.later c.flush.ensures.writes.cause.later c.in_err-flush.ensures.writes.cause.failed;
}

pub returns-clause-writes : goal.returns-clause-writes
returns-clause-writes g c = record {
  crash = λ base within.
      let so_far = c.loop-number.invariant in
      let entries = c.args.pages.now.entries in
      let beside = BesidePages (length entries) (number_at (plain entries)) in
      let run = c.loop-number.run in
      let flushed = goes_write beside base run.at run.filled _ _ _
      (so_far.crash base within) c.flush.ensures.writes.time c.flush.ensures.writes.crash so_far.spared in
      goes_quiet (Spares beside base) _ _ _ flushed c.sync.ensures.time c.sync.ensures.crash;
  reads = c.sync.ensures.reads ∙ (c.flush.ensures.writes.reads ∙ c.loop-number.invariant.reads);
  cause = cause_after _ _ _ c.sync.result (le_trans c.loop-number.invariant.later c.flush.ensures.writes.cause.later) c.sync.ensures.cause;
}

pub returns-clause-put : goal.returns-clause-put
returns-clause-put g c =
    let entries = c.args.pages.now.entries in
    let old = g.D.Disk.view c.args.disk.now in
    let mid = g.D.Disk.view c.flush.new.disk in
    let new = g.D.Disk.view c.sync.new.self in
    on_ok ((content : List ℕ) → Tells mid content → Only content new.crashes)
    ((bytes : List ℕ) → Tells old bytes → (now : List ℕ) × Tells new now
    × Only now new.crashes × HomePut (number_at (plain entries)) (page_at (plain entries)) (length entries) bytes now) c.sync.result
    (λ durable bytes told.
    let start : c.into_iter-number-iterator.result ≡ entries = c.into_iter-number-iterator.ensures.into_iter_gives.0 in
    let end = iter_end deref_pair entries c.loop-number.yielded c.into_iter-number-iterator.result _ _ _ start c.loop-number.yielded_by
    c.in-None.is c.next.ensures.steps in
    let now = c.loop-number.invariant.put bytes told in
    let tells = c.in_ok-flush.ensures.tells now.0 now.1 in (
      now.0,
      c.sync.ensures.content ∙ tells,
      durable now.0 tells,
      subst (λ (n : ℕ). HomePut (number_at (plain entries)) (page_at (plain entries)) n bytes now.0) end.1 now.2,
    ))
    c.sync.ensures.durable
