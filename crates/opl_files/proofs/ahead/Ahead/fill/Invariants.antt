use Rattle.std.proofs.Common.{◌≡◌, ◌≤◌, ◌-◌, ◌+◌, length, cond}
use Rattle.opl_files.specs.Ahead.{HasRoom, MovesOn, most_of_lot}
use Rattle.outside.specs.Reads.{ReadsNoOther}
use Rattle.opl_files.proofs.ahead.Ahead.fill.Given as goal

-- the bytes that are kept, and then those that are left, are what they were
abbrev pub invariant-loop-self : goal.invariant-loop-self
invariant-loop-self g l = record {
  room : HasRoom l.self;
  few : length l.self.kept.items ≤ most_of_lot l.fn.self;
  lot : l.self.lot ≡ l.fn.self.lot;
  moves : MovesOn l.fn.self l.self ((g.I.Inputs.view l.fn.inputs).left l.file) ((g.I.Inputs.view l.inputs).left l.file);
  alone : ReadsNoOther l.file (λ asked. g.I.Inputs.reads l.fn.inputs asked l.inputs) (g.I.Inputs.view l.fn.inputs)
      (g.I.Inputs.view l.inputs);
}

abbrev pub decreases-loop-self : goal.decreases-loop-self
decreases-loop-self g l = cond l.self.more (1 + (l.self.lot - length l.self.kept.items)) 0
