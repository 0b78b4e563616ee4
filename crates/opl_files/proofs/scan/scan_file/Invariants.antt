use Rattle.std.proofs.Common.{◌≡◌, ◌≤◌, ◌<◌, length}
use Rattle.opl_lines.specs.Reading.{room}
use Rattle.outside.specs.Bytes.{BothKnown}
use Rattle.opl_files.specs.declared.scan.TheConstants.{PIECE}
use Rattle.opl_files.specs.Entries.{entries_of}
use Rattle.opl_files.specs.Keeps.{kept_all}
use Rattle.opl_files.specs.Progress.{entries_left, IsReadyFor, HasRead}
use Rattle.outside.specs.Reads.{ReadsNoOther}
use Rattle.opl_files.proofs.scan.scan_file.Given as goal

-- what is left of the file makes of the keeper now what the whole file makes of it
abbrev pub invariant-loop-progress : goal.invariant-loop-progress
invariant-loop-progress g l = record {
  ready : IsReadyFor g.K.Keeper.takes l.limits l.progress l.keeper;
  some : 0 < length l.buffer.items;
  room : length l.buffer.items ≤ PIECE;
  entries : BothKnown ((g.I.Inputs.view l.fn.inputs).left l.file) ((g.I.Inputs.view l.inputs).left l.file)
      (λ bytes rest. kept_all g.K.Keeper.after l.fn.keeper (entries_of l.limits bytes)
      ≡ kept_all g.K.Keeper.after l.keeper (entries_left l.limits l.progress rest));
  read : HasRead g.K.Keeper.after l.limits l.fn.keeper l.progress l.keeper ((g.I.Inputs.view l.fn.inputs).left l.file)
      ((g.I.Inputs.view l.inputs).left l.file);
  alone : ReadsNoOther l.file (λ asked. g.I.Inputs.reads l.fn.inputs asked l.inputs) (g.I.Inputs.view l.fn.inputs)
      (g.I.Inputs.view l.inputs);
}

abbrev pub decreases-loop-progress : goal.decreases-loop-progress
decreases-loop-progress g l = room l.progress.reader
