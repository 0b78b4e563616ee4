use Rattle.std.proofs.Common.{ap, not, ℕ, Bool}
use Rattle.ring_nest.specs.Told.{is_marked}
use Rattle.ring_nest.proofs.Marked.{kept_next, left_next}
use Rattle.ring_nest.proofs.known.unmarked.Goals as goal
use Rattle.ring_nest.proofs.known.unmarked.Goals.{then-not-marks-number+in_ok-push, else-not-marks-number}

pub loop-number-preserved : goal.loop-number-preserved
loop-number-preserved c =
    let test : ℕ → Bool = λ number. not (is_marked c.args.marks.now number) in
    elim c.if-not-marks-number.branch [
      | then-not-marks-number+in_ok-push w ↦ rw (w.numbers-is, w.in_ok-push.ensures.items)
          (kept_next test c.loop-number.numbers.items c.loop-number.number (ap not w.if-not-marks-number.true) c.loop-number.invariant)
      | else-not-marks-number w ↦ rw w.numbers-is
          (left_next test c.loop-number.numbers.items c.loop-number.number (ap not w.if-not-marks-number.false) c.loop-number.invariant)
    ]
