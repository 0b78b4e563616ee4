use Rattle.std.proofs.Common.{ℕ, List, slice_range, ap, ◌∙◌}
use Rattle.doubles.specs.CrashPick.{all_cut_short}
use Rattle.doubles.proofs.Cutting.{left_outcome}
use Rattle.doubles.proofs.crash_pick.left_in.Goals as goal

pub returns-clause-outcome : goal.returns-clause-outcome
returns-clause-outcome c =
    left_outcome c.args.pick c.args.start.now c.args.calls.now c.args.number c.cut_all_short.new.left.items c.requires.first c.requires.last
    (record {
      settled = c.settled_before-settled.result;
      sync = c.settled_before-settled.ensures;
      content = c.in_ok-cut_all_short.ensures.left
          ∙ ap (λ (l : List ℕ). all_cut_short c.args.pick (slice_range c.args.calls.now c.settled_before-settled.result c.args.number) l)
          c.in_ok-left.ensures.seen;
    })
