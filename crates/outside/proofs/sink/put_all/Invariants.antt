use Rattle.std.proofs.Common.{ℕ, List, ◌≤◌, Option, length}
use Rattle.std.specs.Io.KnownBytes.{Appends}
use Rattle.outside.specs.Bytes.{AppendsPrefix}
use Rattle.outside.proofs.sink.put_all.Given as goal

-- whoever takes what is left takes all, a front of what is left is a front of all, and no fault is forgotten
abbrev pub invariant-loop-rest : goal.invariant-loop-rest
invariant-loop-rest g l =
    record {
      all : (after : Option (List ℕ)) → Appends (g.S.Sink.view l.out).taken after l.rest
          → Appends (g.S.Sink.view l.initial.out).taken after l.bytes;
      front : (after : Option (List ℕ)) → AppendsPrefix (g.S.Sink.view l.out).taken after l.rest
          → AppendsPrefix (g.S.Sink.view l.initial.out).taken after l.bytes;
      later : (g.S.Sink.view l.initial.out).faults ≤ (g.S.Sink.view l.out).faults;
    }

abbrev pub decreases-loop-rest : goal.decreases-loop-rest
decreases-loop-rest g l = length l.rest
