use Rattle.std.proofs.Common.{◌-◌, ◌≤◌}
use Rattle.change_pipe.proofs.FileLaws.{HasRead}
use Rattle.change_pipe.proofs.joined.read_each.Given as goal

-- the files before this one were read, and none was refused
abbrev pub invariant-loop-file : goal.invariant-loop-file
invariant-loop-file g l = record {
  within : l.file ≤ l.end;
  so_far : HasRead l.limits l.fn.files.first l.file (λ asked. g.I.Inputs.reads l.fn.inputs asked l.inputs) (g.I.Inputs.view l.fn.inputs)
      (g.I.Inputs.view l.inputs) l.parcels.items;
}

abbrev pub decreases-loop-file : goal.decreases-loop-file
decreases-loop-file g l = l.end - l.file
