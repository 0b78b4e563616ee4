use Rattle.std.proofs.Common.{ℕ, List, ◌≤◌, Option, drop}
use Rattle.std.specs.Io.KnownBytes.{Appends}
use Rattle.outside.specs.Bytes.{AppendsPrefix}
use Rattle.delta_feed.proofs.Together.{bytes_of}
use Rattle.delta_feed.proofs.sharing.put_each.Given as goal

-- whoever takes those that are left takes all, a front of them is a front of all, and no fault is forgotten
abbrev pub invariant-loop-text : goal.invariant-loop-text
invariant-loop-text g l = record {
  all : (after : Option (List ℕ)) → Appends (g.S.Sink.view l.out).taken after (bytes_of (drop l.text-index l.texts))
      → Appends (g.S.Sink.view l.initial.out).taken after (bytes_of l.texts);
  front : (after : Option (List ℕ)) → AppendsPrefix (g.S.Sink.view l.out).taken after (bytes_of (drop l.text-index l.texts))
      → AppendsPrefix (g.S.Sink.view l.initial.out).taken after (bytes_of l.texts);
  later : (g.S.Sink.view l.initial.out).faults ≤ (g.S.Sink.view l.out).faults;
}
