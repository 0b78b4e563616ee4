use Rattle.std.proofs.Common.{◌≡◌, ℕ, List, ◌+◌, ◌*◌, ◌<◌, ap, ◌∙◌, subst, refl, arith, rules}
use Rattle.outside.specs.Disk.{Only, Tells, overlaid}
use Rattle.page_journal.specs.Crash.{BesidePages, Spares}
use Rattle.page_journal.specs.Home.{IsWellFormed}
use Rattle.page_journal.specs.Pages.{entry, first_page, number_pages, page_count, page_from}
use Rattle.page_journal.specs.Written.{HomePut}
use Rattle.page_journal.proofs.Bytes.{page_long}
use Rattle.page_journal.proofs.Causes.{cause_after, on_ok}
use Rattle.page_journal.proofs.Finishing.{bodies_of, number_fits, copy_to, body_fits, copied_body, rises_to}
use Rattle.page_journal.proofs.Moments.{started, goes_stays, goes_quiet}
use Rattle.page_journal.proofs.Parts.{home_none, home_more, beside_page}
use Rattle.page_journal.proofs.Places.{goes_write}
use Rattle.page_journal.proofs.ReadCounts.{reads_none, reads_then, reads_more}
use Rattle.page_journal.proofs.opening.copy_home.Goals as goal

pub loop-place-init : goal.loop-place-init
loop-place-init g c = record {
  put = λ bytes told well first-is count-is. (bytes, told, home_none (entry bytes) (bodies_of bytes) bytes);
  crash = λ bytes told well first-is count-is within. started (Spares (BesidePages c.args.count (entry bytes)) bytes) _ within;
  reads = reads_none 0 _ _ _ refl;
  later = omega arith;
}

pub loop-place-preserved : goal.loop-place-preserved
loop-place-preserved g c = record {
  put = λ bytes told well first-is count-is.
      let first = c.args.first in
      let count = c.args.count in
      let place = c.loop-place.place in
      let inside : place < count = c.loop-place-test.true in
      let left = c.loop-place.invariant.put bytes told well first-is count-is in
      let value = c.in_ok-number.number in
      let is = c.in_ok-number.ensures.value left.0 left.1
      (number_fits bytes first count first-is count-is well place left.0 inside left.2) in
      let to = c.min.result * 4096 in
      let to-is : to ≡ 4096 * entry bytes place =
      ap (λ (n : ℕ). n * 4096) c.min.ensures ∙ copy_to bytes first count first-is count-is well place value left.0 inside left.2 is in
      let from = (first + c.number_page_count.result) * 4096 + 4096 * place in
      let from-is : from ≡ 4096 * (first + number_pages count + place) = omega (arith, c.number_page_count.ensures) in
      let fits = body_fits bytes first count first-is count-is well place from left.0 inside left.2 from-is in
      let page = page_from left.0 from in (
        overlaid to page left.0,
        c.in_ok-copy_page.ensures.put left.0 (c.read_number.ensures.reads.stays.content ∙ left.1) fits,
        home_more (entry bytes) (bodies_of bytes) place to page bytes left.0 left.2
            (rises_to bytes first count first-is count-is well place inside) to-is
            (copied_body bytes first count first-is count-is well place from left.0 inside left.2 from-is) (page_long left.0 from fits),
      );
  crash = λ bytes told well first-is count-is within.
      let first = c.args.first in
      let count = c.args.count in
      let place = c.loop-place.place in
      let inside : place < count = c.loop-place-test.true in
      let left = c.loop-place.invariant.put bytes told well first-is count-is in
      let value = c.in_ok-number.number in
      let is = c.in_ok-number.ensures.value left.0 left.1
      (number_fits bytes first count first-is count-is well place left.0 inside left.2) in
      let to = c.min.result * 4096 in
      let to-is : to ≡ 4096 * entry bytes place =
      ap (λ (n : ℕ). n * 4096) c.min.ensures ∙ copy_to bytes first count first-is count-is well place value left.0 inside left.2 is in
      goes_write (BesidePages count (entry bytes)) bytes to 4096 _ _ _
      (goes_stays (Spares (BesidePages count (entry bytes)) bytes) _ _ _
      (c.loop-place.invariant.crash bytes told well first-is count-is within) c.read_number.ensures.reads.stays)
      c.copy_page.ensures.time c.copy_page.ensures.torn (beside_page count (entry bytes) place to 4096 inside to-is refl);
  reads =
      let place = c.loop-place.place in
      let first = c.args.first in
      let end = 4096 * (first + number_pages c.args.count + c.args.count) in
      let one = reads_more 1 1 _ end _ _ (omega arith) (omega (arith, c.loop-place-test.true)) c.read_number.ensures.reads.reads in
      let two = reads_more 1 1 _ end _ _ (omega arith)
      (omega (arith, c.loop-place-test.true, c.number_page_count.ensures)) c.copy_page.ensures.copies.reads in
      reads_more (2 * place + (1 + 1)) (2 * (place + 1)) end end _ _ (omega arith) (omega arith)
      (reads_then (2 * place) (1 + 1) end _ _ _ c.loop-place.invariant.reads (reads_then 1 1 end _ _ _ one two));
  later = omega (arith, c.loop-place.invariant.later, c.read_number.ensures.reads.cause.later, c.copy_page.ensures.copies.cause.later);
}

pub returns-in_err-number-clause-crash : goal.returns-in_err-number-clause-crash
returns-in_err-number-clause-crash g c = λ bytes told well first-is count-is within.
    goes_stays (Spares (BesidePages c.args.count (entry bytes)) bytes) _ _ _
    (c.loop-place.invariant.crash bytes told well first-is count-is within) c.read_number.ensures.reads.stays

pub returns-in_err-copy_page-clause-crash : goal.returns-in_err-copy_page-clause-crash
returns-in_err-copy_page-clause-crash g c = λ bytes told well first-is count-is within.
    let first = c.args.first in
    let count = c.args.count in
    let place = c.loop-place.place in
    let inside : place < count = c.loop-place-test.true in
    let left = c.loop-place.invariant.put bytes told well first-is count-is in
    let value = c.in_ok-number.number in
    let is = c.in_ok-number.ensures.value left.0 left.1 (number_fits bytes first count first-is count-is well place left.0 inside left.2) in
    let to = c.min.result * 4096 in
    let to-is : to ≡ 4096 * entry bytes place =
    ap (λ (n : ℕ). n * 4096) c.min.ensures ∙ copy_to bytes first count first-is count-is well place value left.0 inside left.2 is in
    goes_write (BesidePages count (entry bytes)) bytes to 4096 _ _ _
    (goes_stays (Spares (BesidePages count (entry bytes)) bytes) _ _ _
    (c.loop-place.invariant.crash bytes told well first-is count-is within) c.read_number.ensures.reads.stays)
    c.copy_page.ensures.time c.copy_page.ensures.torn (beside_page count (entry bytes) place to 4096 inside to-is refl)

pub returns-clause-crash : goal.returns-clause-crash
returns-clause-crash g c = λ bytes told well first-is count-is within.
    goes_quiet (Spares (BesidePages c.args.count (entry bytes)) bytes) _ _ _
    (c.loop-place.invariant.crash bytes told well first-is count-is within) c.sync.ensures.time c.sync.ensures.crash

pub returns-clause-put : goal.returns-clause-put
returns-clause-put g c =
    let first = c.args.first in
    let count = c.args.count in
    let old = g.D.Disk.view c.args.disk.now in
    let mid = g.D.Disk.view c.loop-place.disk in
    let new = g.D.Disk.view c.sync.new.self in
    on_ok ((content : List ℕ) → Tells mid content → Only content new.crashes)
    ((bytes : List ℕ) → Tells old bytes → IsWellFormed bytes → first ≡ first_page bytes → count ≡ page_count bytes
    → (now : List ℕ) × Tells new now × Only now new.crashes × HomePut (entry bytes) (bodies_of bytes) count bytes now) c.sync.result
    (λ durable bytes told well first-is count-is.
    let left = c.loop-place.invariant.put bytes told well first-is count-is in
    let end : c.loop-place.place ≡ c.args.count = omega (arith, c.loop-place-test.false) in (
      left.0,
      c.sync.ensures.content ∙ left.1,
      durable left.0 left.1,
      subst (λ (n : ℕ). HomePut (entry bytes) (bodies_of bytes) n bytes left.0) end left.2,
    ))
    c.sync.ensures.durable

pub returns-clause-copies : goal.returns-clause-copies
returns-clause-copies g c = record {
  reads = search rules;
  cause = cause_after _ _ _ c.sync.result c.loop-place.invariant.later c.sync.ensures.cause;
}
