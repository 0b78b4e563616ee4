use Rattle.std.proofs.Common.{◌≤◌, ◌<◌, List, ℕ, Option, length}
use Rattle.opl_lines.specs.Reading.{room}
use Rattle.opl_files.specs.declared.scan.TheConstants.{PIECE}
use Rattle.opl_files.specs.Lots.{HasLots}
use Rattle.opl_files.specs.Progress.{IsReadyFor, HasRead}
use Rattle.outside.specs.Reads.{ReadsNoOther}
use Rattle.opl_files.proofs.lots.LotReader.finish.Given as goal

-- what is left of the file makes of the entries now what the whole file makes of none
abbrev pub invariant-loop-progress : goal.invariant-loop-progress
invariant-loop-progress g l = record {
  ready : IsReadyFor g.K.Keeper.takes l.limits l.progress l.keeper;
  some : 0 < length l.buffer.items;
  room : length l.buffer.items ≤ PIECE;
  read : (first : _) (start : Option (List ℕ)) → HasLots g.K.Keeper.after l.limits first l.fn.self.waiting.passed l.fn.keeper l.fn.self.ahead.kept.items
      start ((g.I.Inputs.view l.fn.inputs).left l.file)
      → HasRead g.K.Keeper.after l.limits first l.progress l.keeper start ((g.I.Inputs.view l.inputs).left l.file);
  alone : ReadsNoOther l.file (λ asked. g.I.Inputs.reads l.fn.inputs asked l.inputs) (g.I.Inputs.view l.fn.inputs)
      (g.I.Inputs.view l.inputs);
}

abbrev pub decreases-loop-progress : goal.decreases-loop-progress
decreases-loop-progress g l = room l.progress.reader
