use Rattle.std.proofs.Common.{◌≡◌, ◌≤◌, ℕ, List, ◌+◌, ◌*◌, length, ap, ◌∙◌, subst, arith, rules}
use Rattle.std.proofs.Math.Nat.{le_trans}
use Rattle.outside.specs.Disk.{Only, Tells}
use Rattle.page_journal.specs.Crash.{BesideJournal, Spares}
use Rattle.page_journal.specs.Pages.{number_pages}
use Rattle.page_journal.specs.PageSet.{plain}
use Rattle.page_journal.specs.Written.{NumbersPut, FieldsPut, JournalPut}
use Rattle.page_journal.proofs.Causes.{cause_after, caused, on_ok}
use Rattle.page_journal.proofs.Moments.{goes_quiet, goes_then}
use Rattle.page_journal.proofs.Phases.{journal_put}
use Rattle.page_journal.proofs.committing.write_journal.Goals as goal

pub returns-in_err-write_numbers-clause-writes : goal.returns-in_err-write_numbers-clause-writes
returns-in_err-write_numbers-clause-writes g c = record {
  crash = λ base within.
      let start : 4096 * c.args.home ≤ c.args.home * 4096 = omega arith in
      c.write_numbers.ensures.writes.crash (4096 * c.args.home) base start within;
  reads = search rules;
  cause = search rules;
}

pub returns-in_err-write_bodies-clause-writes : goal.returns-in_err-write_bodies-clause-writes
returns-in_err-write_bodies-clause-writes g c = record {
  crash = λ base within.
      let P : List ℕ → Type 0 = Spares (BesideJournal (4096 * c.args.home)) base in
      let start : 4096 * c.args.home ≤ c.args.home * 4096 = omega arith in
      let behind : 4096 * c.args.home ≤ c.bodies_at-bodies.result = omega (arith, c.bodies_at-bodies.ensures.place) in
      let one = c.write_numbers.ensures.writes.crash (4096 * c.args.home) base start within in
      goes_then P _ _ _ one (c.write_bodies.ensures.writes.crash (4096 * c.args.home) base behind one.now);
  reads = c.write_bodies.ensures.writes.reads ∙ c.write_numbers.ensures.writes.reads;
  cause = caused _ _ _ _ c.write_numbers.ensures.writes.cause.later c.write_bodies.ensures.writes.cause.later
      c.in_err-write_bodies.ensures.writes.cause.failed;
}

pub returns-in_err-write_fields-clause-writes : goal.returns-in_err-write_fields-clause-writes
returns-in_err-write_fields-clause-writes g c = record {
  crash = λ base within.
      let P : List ℕ → Type 0 = Spares (BesideJournal (4096 * c.args.home)) base in
      let start : 4096 * c.args.home ≤ c.args.home * 4096 = omega arith in
      let behind : 4096 * c.args.home ≤ c.bodies_at-bodies.result = omega (arith, c.bodies_at-bodies.ensures.place) in
      let one = c.write_numbers.ensures.writes.crash (4096 * c.args.home) base start within in
      let two = goes_then P _ _ _ one (c.write_bodies.ensures.writes.crash (4096 * c.args.home) base behind one.now) in
      goes_then P _ _ _ two ((c.write_fields.ensures.writes (4096 * c.args.home)).crash base two.now);
  reads = (c.write_fields.ensures.writes 0).reads ∙ (c.write_bodies.ensures.writes.reads ∙ c.write_numbers.ensures.writes.reads);
  cause = caused _ _ _ _ (le_trans c.write_numbers.ensures.writes.cause.later c.write_bodies.ensures.writes.cause.later)
      (c.write_fields.ensures.writes 0).cause.later
      (c.in_err-write_fields.ensures.writes 0).cause.failed;
}

pub returns-clause-put : goal.returns-clause-put
returns-clause-put g c =
    let entries = plain c.args.pages.now.entries in
    let count = length c.args.pages.now.entries in
    let home = c.args.home in
    let old = g.D.Disk.view c.args.disk.now in
    let mid = g.D.Disk.view c.write_fields.new.disk in
    let new = g.D.Disk.view c.sync.new.self in
    on_ok ((content : List ℕ) → Tells mid content → Only content new.crashes)
    ((bytes : List ℕ) → Tells old bytes → (now : List ℕ) × Tells new now × Only now new.crashes × JournalPut entries count home bytes now)
    c.sync.result
    (λ durable bytes told.
    let one = c.in_ok-write_numbers.ensures.put bytes told in
    let two = c.in_ok-write_bodies.ensures.put one.0 one.1 in
    let three = c.in_ok-write_fields.ensures.put two.0 two.1 in
    let many : c.len-count.result ≡ count = search rules in
    let start : home * 4096 ≡ 4096 * home = omega arith in
    let at-is : c.bodies_at-bodies.result ≡ 4096 * (home + number_pages count) =
    c.bodies_at-bodies.ensures.place ∙ ap (λ (n : ℕ). 4096 * (home + number_pages n)) many in
    let numbers = subst (λ (at : ℕ). NumbersPut entries count at bytes one.0) start one.2 in
    let fields = subst (λ (n : ℕ). FieldsPut home n two.0 three.0) many three.2 in (
      three.0,
      c.sync.ensures.content ∙ three.1,
      durable three.0 three.1,
      journal_put entries count home c.bodies_at-bodies.result bytes one.0 two.0 three.0
          (omega (arith, c.requires.fits.some, c.requires.fits.few))
          c.requires.fits.some at-is numbers two.2 fields,
    ))
    c.sync.ensures.durable

pub returns-clause-writes : goal.returns-clause-writes
returns-clause-writes g c = record {
  crash = λ base within.
      let P : List ℕ → Type 0 = Spares (BesideJournal (4096 * c.args.home)) base in
      let start : 4096 * c.args.home ≤ c.args.home * 4096 = omega arith in
      let behind : 4096 * c.args.home ≤ c.bodies_at-bodies.result = omega (arith, c.bodies_at-bodies.ensures.place) in
      let one = c.write_numbers.ensures.writes.crash (4096 * c.args.home) base start within in
      let two = goes_then P _ _ _ one (c.write_bodies.ensures.writes.crash (4096 * c.args.home) base behind one.now) in
      let three = goes_then P _ _ _ two ((c.write_fields.ensures.writes (4096 * c.args.home)).crash base two.now) in
      goes_quiet P _ _ _ three c.sync.ensures.time c.sync.ensures.crash;
  reads = c.sync.ensures.reads ∙ ((c.write_fields.ensures.writes 0).reads
      ∙ (c.write_bodies.ensures.writes.reads ∙ c.write_numbers.ensures.writes.reads));
  cause = cause_after _ _ _ c.sync.result
      (le_trans c.write_numbers.ensures.writes.cause.later
      (le_trans c.write_bodies.ensures.writes.cause.later (c.write_fields.ensures.writes 0).cause.later)) c.sync.ensures.cause;
}
