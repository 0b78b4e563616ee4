use Rattle.std.proofs.Common.{◌≡◌, ◌≤◌, ℕ, List, inl, ⊎_elim, length, ap, sym, ◌∙◌, subst, arith, rules}
use Rattle.std.proofs.lemmas.List.{length_push}
use Rattle.std.proofs.lemmas.Map.Iter.{iter_turn, iter_end}
use Rattle.std.specs.Map.Iter.{deref_pair}
use Rattle.outside.specs.Disk.{Tells, overlaid}
use Rattle.page_journal.specs.Crash.{BesideJournal, Spares}
use Rattle.page_journal.specs.PageRun.{Shows}
use Rattle.page_journal.specs.PageSet.{padded, plain, page_at}
use Rattle.page_journal.specs.Written.{PagesPut}
use Rattle.page_journal.proofs.Causes.{cause_after, caused, on_ok}
use Rattle.page_journal.proofs.Entries.{page_at-plain}
use Rattle.page_journal.proofs.Padding.{padded_few}
use Rattle.page_journal.proofs.Moments.{started}
use Rattle.page_journal.proofs.Parts.{bodies_none, bodies_more}
use Rattle.page_journal.proofs.Places.{goes_write}
use Rattle.page_journal.proofs.Runs.{shows_none}
use Rattle.page_journal.proofs.pages.write_bodies.Goals as goal

pub put_page-requires-clause-size : goal.put_page-requires-clause-size
put_page-requires-clause-size g c =
    let entries = c.args.pages.now.entries in
    let yielded = c.loop-page.yielded in
    let start : c.into_iter-page-iterator.result ≡ entries = c.into_iter-page-iterator.ensures.into_iter_gives.0 in
    let turn = iter_turn deref_pair entries yielded c.into_iter-page-iterator.result _ _ _ start c.loop-page.yielded_by
    (c.in-Some.field-0-0, c.in-Some.page) c.in-Some.is c.next.ensures.steps in
    let here = page_at-plain entries (length yielded) c.in-Some.field-0-0.now c.in-Some.page.now turn.1 in
    let size : length (padded c.as_slice.result.now) ≡ 4096 =
    ap (λ (l : List ℕ). length (padded l)) c.as_slice.ensures.value ∙ ap length (sym here) ∙ c.requires.sized (length yielded) turn.0 in
    padded_few c.as_slice.result.now size

pub put_page-requires-clause-room : goal.put_page-requires-clause-room
put_page-requires-clause-room g c =
    let entries = c.args.pages.now.entries in
    let yielded = c.loop-page.yielded in
    let start : c.into_iter-page-iterator.result ≡ entries = c.into_iter-page-iterator.ensures.into_iter_gives.0 in
    let turn = iter_turn deref_pair entries yielded c.into_iter-page-iterator.result _ _ _ start c.loop-page.yielded_by
    (c.in-Some.field-0-0, c.in-Some.page) c.in-Some.is c.next.ensures.steps in
    omega (arith, c.requires.room, c.loop-page.invariant.place, turn.0)

pub loop-page-init : goal.loop-page-init
loop-page-init g c =
    let run = c.new-run.result in
    record {
      can = tt;
      finite = tt;
      place = omega arith;
      held = c.new-run.ensures.fits;
      from = omega (arith, c.new-run.ensures.place);
      put = λ bytes told. (
        bytes,
        shows_none run.at run.filled run.bytes bytes _ c.new-run.ensures.none told,
        bodies_none (plain c.args.pages.now.entries) c.args.at bytes,
      );
      crash = λ low base le within. started (Spares (BesideJournal low) base) _ within;
      reads = search rules;
      later = omega arith;
    }

pub loop-page-preserved : goal.loop-page-preserved
loop-page-preserved g c =
    let so_far = c.loop-page.invariant in
    let added = c.in_ok-put_page.ensures in
    let run = c.loop-page.run in
    let entries = c.args.pages.now.entries in
    let yielded = c.loop-page.yielded in
    let start : c.into_iter-page-iterator.result ≡ entries = c.into_iter-page-iterator.ensures.into_iter_gives.0 in
    let turn = iter_turn deref_pair entries yielded c.into_iter-page-iterator.result _ _ _ start c.loop-page.yielded_by
    (c.in-Some.field-0-0, c.in-Some.page) c.in-Some.is c.next.ensures.steps in
    let here = page_at-plain entries (length yielded) c.in-Some.field-0-0.now c.in-Some.page.now turn.1 in
    let page : List ℕ = padded c.as_slice.result.now in
    let is : page ≡ page_at (plain entries) (length yielded) =
    ap (λ (l : List ℕ). padded l) c.as_slice.ensures.value ∙ sym here in
    let size : length page ≡ 4096 = ap length is ∙ c.requires.sized (length yielded) turn.0 in
    let more = length_push yielded (c.in-Some.field-0-0, c.in-Some.page) in
    let next = c.loop-page.next in
    let new = c.put_page.new.run in
    let from : c.args.at ≤ new.at =
    ⊎_elim (λ alone. omega (arith, alone, so_far.place)) (λ after. omega (arith, after.0, so_far.from)) added.grows.start in
    record {
      can = tt;
      finite = tt;
      place = omega (arith, so_far.place, more);
      held = added.fits;
      from = from;
      put = λ bytes told.
          let now = so_far.put bytes told in (
            overlaid next page now.0,
            added.shows now.0 now.1,
            subst (λ (n : ℕ). PagesPut (plain entries) n c.args.at bytes (overlaid next page now.0)) (sym more)
                (bodies_more (plain entries) (length yielded) c.args.at next page bytes now.0 now.2 so_far.place is size),
          );
      crash = λ low base le within.
          goes_write (BesideJournal low) base run.at run.filled _ _ _
          (so_far.crash low base le within) c.put_page.ensures.writes.time c.put_page.ensures.writes.crash
          (λ i keeps. let below = keeps.1 in inl (omega (arith, below, le, so_far.from)));
      reads = c.put_page.ensures.writes.reads ∙ so_far.reads;
      later = omega (arith, so_far.later, c.put_page.ensures.writes.cause.later);
    }

pub returns-in_err-put_page-clause-writes : goal.returns-in_err-put_page-clause-writes
returns-in_err-put_page-clause-writes g c = record {
  crash = λ low base le within.
      let so_far = c.loop-page.invariant in
      let run = c.loop-page.run in
      goes_write (BesideJournal low) base run.at run.filled _ _ _
      (so_far.crash low base le within) c.put_page.ensures.writes.time c.put_page.ensures.writes.crash
      (λ i keeps. let below = keeps.1 in inl (omega (arith, below, le, so_far.from)));
  reads = c.put_page.ensures.writes.reads ∙ c.loop-page.invariant.reads;
  cause = caused _ _ _ _ c.loop-page.invariant.later c.put_page.ensures.writes.cause.later c.in_err-put_page.ensures.writes.cause.failed;
}

pub returns-clause-writes : goal.returns-clause-writes
returns-clause-writes g c = record {
  crash = λ low base le within.
      let so_far = c.loop-page.invariant in
      let run = c.loop-page.run in
      goes_write (BesideJournal low) base run.at run.filled _ _ _
      (so_far.crash low base le within) c.flush.ensures.writes.time c.flush.ensures.writes.crash
      (λ i keeps. let below = keeps.1 in inl (omega (arith, below, le, so_far.from)));
  reads = c.flush.ensures.writes.reads ∙ c.loop-page.invariant.reads;
  cause = cause_after _ _ _ c.flush.result c.loop-page.invariant.later c.flush.ensures.writes.cause;
}

pub returns-clause-put : goal.returns-clause-put
returns-clause-put g c =
    let entries = c.args.pages.now.entries in
    let run = c.loop-page.run in
    let old = g.D.Disk.view c.args.disk.now in
    let mid = g.D.Disk.view c.loop-page.disk in
    let new = g.D.Disk.view c.flush.new.disk in
    on_ok ((content : List ℕ) → Shows run.at run.filled run.bytes mid content → Tells new content)
    ((bytes : List ℕ) → Tells old bytes → (now : List ℕ) × Tells new now × PagesPut (plain entries) (length entries) c.args.at bytes now)
    c.flush.result
    (λ tells bytes told.
    let start : c.into_iter-page-iterator.result ≡ entries = c.into_iter-page-iterator.ensures.into_iter_gives.0 in
    let end = iter_end deref_pair entries c.loop-page.yielded c.into_iter-page-iterator.result _ _ _ start c.loop-page.yielded_by
    c.in-None.is c.next.ensures.steps in
    let now = c.loop-page.invariant.put bytes told in (
      now.0,
      tells now.0 now.1,
      subst (λ (n : ℕ). PagesPut (plain entries) n c.args.at bytes now.0) end.1 now.2,
    ))
    c.flush.ensures.tells
