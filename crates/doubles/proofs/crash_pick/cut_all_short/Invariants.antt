use Rattle.std.proofs.Common.{◌≡◌, drop}
use Rattle.doubles.specs.CrashPick.{all_cut_short}
use Rattle.doubles.proofs.crash_pick.cut_all_short.Given as goal

-- what is left, with the calls to come cut short, is what all calls leave
abbrev pub invariant-loop-call : goal.invariant-loop-call
invariant-loop-call l = all_cut_short l.pick (drop l.call-index l.calls) l.left.items ≡ all_cut_short l.pick l.calls l.fn.left.items
