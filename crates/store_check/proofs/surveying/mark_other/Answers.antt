-- A chain whose pages are told has marks on them, and one that is refused has no page.
use Rattle.std.proofs.Common.{Err, List, Ok, ap, arith, inr, subst, ℕ}
use Rattle.page_journal.specs.Journal.{is_broken}
use Rattle.page_journal.specs.declared.fault.StoreFault.{StoreFault}
use Rattle.page_journal.specs.declared.fault.StoreFault.TheVariants.{BadStore}
use Rattle.bucket_store.specs.Calls.{TouchesChain}
use Rattle.bucket_store.specs.Listing.{ListsChain}
use Rattle.bucket_store.specs.Reads.{MayReadChain}
use Rattle.store_check.proofs.Steps.{looks_of, low_refused, marks_nothing, marks_other}
use Rattle.store_check.proofs.surveying.mark_other.Goals as goal

pub returns-in-Ok : goal.returns-in-Ok
returns-in-Ok g c =
    let old = c.args.buckets.now in
    let mid = c.pages_of.new.self in
    let done = c.in-Ok.ensures in
    record {
      marks = marks_other c.args.n c.in-Ok.pages old mid c.begin.new.self c.args.marks.now c.mark.new.self
          (inr (omega (arith, c.requires.other))) c.requires.fresh.begun (λ pages was. done.lists.answers pages was) done.touches.opens
          (looks_of (MayReadChain c.args.n old mid) old mid (Ok c.in-Ok.pages) done.touches)
          (record {
            begun = c.begin.ensures.begun;
            opens = c.begin.ensures.open;
            kept = c.begin.ensures.kept;
            going = c.begin.ensures.going;
            same = c.begin.ensures.same;
            whole = ap (λ j. is_broken j) c.begin.ensures.journal;
          })
          c.mark.ensures.many c.mark.ensures.marked;
    }

pub returns-in-Err-BadStore : goal.returns-in-Err-BadStore
returns-in-Err-BadStore g c =
    let old = c.args.buckets.now in
    let mid = c.pages_of.new.self in
    let at = c.in-Err-BadStore.field-0-0 in
    let done = c.in-Err-BadStore.ensures in
    let bad = c.in-Err-BadStore.field-0-is in
    record {
      marks = marks_nothing c.args.n at old mid c.begin-in-Err-BadStore.new.self c.args.marks.now c.requires.fresh.begun
          (λ pages was. low_refused pages old c.args.n at c.requires.other
          (subst (λ (f : StoreFault). ListsChain pages old c.args.n (Err f)) bad (done.lists.answers pages was)))
          done.touches.opens
          (looks_of (MayReadChain c.args.n old mid) old mid (Err (BadStore at))
          (subst (λ (f : StoreFault). TouchesChain {T = List ℕ} c.args.n old mid (Err f)) bad done.touches))
          (record {
            begun = c.begin-in-Err-BadStore.ensures.begun;
            opens = c.begin-in-Err-BadStore.ensures.open;
            kept = c.begin-in-Err-BadStore.ensures.kept;
            going = c.begin-in-Err-BadStore.ensures.going;
            same = c.begin-in-Err-BadStore.ensures.same;
            whole = ap (λ j. is_broken j) c.begin-in-Err-BadStore.ensures.journal;
          });
    }
