use Rattle.std.proofs.Common.{◌≡◌, ◌-◌, length}
use Rattle.outside.specs.Reads.{ReadsNoOther}
use Rattle.delta_feed.specs.Feeding.{IsSameReader}
use Rattle.delta_feed.proofs.BlockSteps.{Moved}
use Rattle.delta_feed.proofs.reader.FeedReader.look.Given as goal

-- what is held now and then what is left is what it was
abbrev pub invariant-loop-alloc : goal.invariant-loop-alloc
invariant-loop-alloc g l = record {
  same : IsSameReader l.fn.self l.self;
  lines_same : l.self.lines ≡ l.fn.self.lines;
  moved : Moved l.fn.self.ahead l.self.ahead ((g.I.Inputs.view l.fn.inputs).left l.fn.self.file) ((g.I.Inputs.view l.inputs).left l.fn.self.file);
  alone : ReadsNoOther l.fn.self.file (λ asked. g.I.Inputs.reads l.fn.inputs asked l.inputs) (g.I.Inputs.view l.fn.inputs)
      (g.I.Inputs.view l.inputs);
}

abbrev pub decreases-loop-alloc : goal.decreases-loop-alloc
decreases-loop-alloc g l = 5 - length l.self.ahead
