use Rattle.std.proofs.Common.{◌-◌, ◌≤◌}
use Rattle.std.specs.Option.{option_copied}
use Rattle.outside.specs.Reads.{ReadsNoOther}
use Rattle.delta_feed.specs.Feeding.{IsGoing, IsSameReader}
use Rattle.delta_feed.specs.Sound.{IsSoundStage}
use Rattle.delta_feed.proofs.BlockSteps.{IsFirst, LeadsTo}
use Rattle.delta_feed.proofs.reader.FeedReader.next.Given as goal

-- whatever the lines that are left come to, behind so much of a block, all come to
abbrev pub invariant-loop-next : goal.invariant-loop-next
invariant-loop-next g l = record {
  going : IsGoing l.self;
  counted : l.fn.self.lines.number ≤ l.self.lines.number;
  same : IsSameReader l.fn.self l.self;
  sound : IsSoundStage (option_copied l.base) l.stage;
  leads : LeadsTo (option_copied l.base) l.stage l.fn.self l.self ((g.I.Inputs.view l.fn.inputs).left l.fn.self.file)
      ((g.I.Inputs.view l.inputs).left l.fn.self.file);
  first : IsFirst l.stage l.fn.self l.self ((g.I.Inputs.view l.fn.inputs).left l.fn.self.file) ((g.I.Inputs.view l.inputs).left l.fn.self.file);
  alone : ReadsNoOther l.fn.self.file (λ asked. g.I.Inputs.reads l.fn.inputs asked l.inputs) (g.I.Inputs.view l.fn.inputs)
      (g.I.Inputs.view l.inputs);
}

abbrev pub decreases-loop-next : goal.decreases-loop-next
decreases-loop-next g l = l.fn.self.limits.lines - l.self.lines.number
