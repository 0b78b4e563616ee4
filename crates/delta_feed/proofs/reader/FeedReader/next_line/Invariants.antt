use Rattle.std.proofs.Common.{◌≡◌}
use Rattle.outside.specs.Reads.{ReadsNoOther}
use Rattle.opl_lines.specs.Reading.{room}
use Rattle.delta_feed.specs.Feeding.{IsReading, IsSameReader}
use Rattle.delta_feed.proofs.LineSteps.{Left}
use Rattle.delta_feed.proofs.reader.FeedReader.next_line.Given as goal

-- the lines that were left are those of what is begun, held and left now
abbrev pub invariant-loop-self : goal.invariant-loop-self
invariant-loop-self g l = record {
  ready : IsReading l.self;
  same : IsSameReader l.fn.self l.self;
  number : l.self.lines.number ≡ l.fn.self.lines.number;
  left : Left l.fn.self l.self ((g.I.Inputs.view l.fn.inputs).left l.fn.self.file) ((g.I.Inputs.view l.inputs).left l.fn.self.file);
  alone : ReadsNoOther l.fn.self.file (λ asked. g.I.Inputs.reads l.fn.inputs asked l.inputs) (g.I.Inputs.view l.fn.inputs)
      (g.I.Inputs.view l.inputs);
}

abbrev pub decreases-loop-self : goal.decreases-loop-self
decreases-loop-self g l = room l.self.lines
