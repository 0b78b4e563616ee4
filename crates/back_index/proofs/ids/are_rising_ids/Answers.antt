use Rattle.std.proofs.Common.{arith, rules}
use Rattle.back_index.proofs.IdLaws.{sorted, rises, rise_step, rise_none}
use Rattle.back_index.proofs.ids.are_rising_ids.Goals as goal
use Rattle.back_index.proofs.ids.are_rising_ids.Goals.{then-number-least-via-then-number-least}
use Rattle.back_index.proofs.ids.are_rising_ids.Goals.{then-number-least-via-else-number-least+then-number-gt-MAX_ID}

pub returns-then-number-least : goal.returns-then-number-least
returns-then-number-least c =
    let numbers = c.args.numbers.now in
    record {
      rising = (
        λ e. absurd (cc (e)),
        λ rising.
            let step = rise_step numbers c.loop-number.number-index c.loop-number.least c.loop-number-test.true
            (c.loop-number.invariant.ahead (rises numbers rising)) in
            elim c.then-number-least.branch [
              | then-number-least-via-then-number-least w ↦ absurd (omega (arith, step.0))
              | then-number-least-via-else-number-least+then-number-gt-MAX_ID w ↦ absurd (omega (arith, step.1))
            ],
      );
    }

pub returns : goal.returns
returns c =
    let numbers = c.args.numbers.now in
    record {
      rising = (
        λ e. sorted 1 numbers (omega arith) (c.loop-number.invariant.back
            (rise_none numbers c.loop-number.number-index c.loop-number.least (omega arith))),
        λ rising. search rules,
      );
    }
