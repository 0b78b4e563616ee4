use Rattle.std.proofs.Common.{◌≡◌, take}
use Rattle.due_tiles.specs.Spelling.{set_bytes}
use Rattle.due_tiles.proofs.spelling.encode.Given as goal

-- the bytes of the runs so far
abbrev pub invariant-loop-run : goal.invariant-loop-run
invariant-loop-run l = l.out.items ≡ set_bytes (take l.run-index l.runs)
