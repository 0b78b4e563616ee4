use Rattle.std.proofs.Common.{◌≡◌, ◌≤◌, ◌<◌, ◌-◌, ◌++◌, length}
use Rattle.outside.specs.Bytes.{BothKnown}
use Rattle.opl_files.specs.declared.scan.TheConstants.{PIECE}
use Rattle.outside.specs.Reads.{ReadsNoOther}
use Rattle.opl_files.proofs.whole.read_all.Given as goal

-- the bytes that are kept, and then those that are left, are the file
abbrev pub invariant-loop-bytes : goal.invariant-loop-bytes
invariant-loop-bytes g l = record {
  some : 0 < length l.buffer.items;
  room : length l.buffer.items ≤ PIECE;
  within : length l.bytes.items ≤ l.max;
  whole : BothKnown ((g.I.Inputs.view l.fn.inputs).left l.file) ((g.I.Inputs.view l.inputs).left l.file)
      (λ before after. before ≡ l.bytes.items ++ after);
  alone : ReadsNoOther l.file (λ asked. g.I.Inputs.reads l.fn.inputs asked l.inputs) (g.I.Inputs.view l.fn.inputs)
      (g.I.Inputs.view l.inputs);
}

abbrev pub decreases-loop-bytes : goal.decreases-loop-bytes
decreases-loop-bytes g l = l.max - length l.bytes.items
