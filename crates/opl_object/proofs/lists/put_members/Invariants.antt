use Rattle.std.proofs.Common.{[], ◌∷◌, ◌≤◌, take}
use Rattle.std.specs.Io.KnownBytes.{Appends}
use Rattle.std.specs.List.{AllByRecursion, join_by}
use Rattle.opl_object.specs.Lists.{member_text, IsMember}
use Rattle.opl_object.proofs.lists.put_members.Given as goal

-- the items so far were put, and no fault is forgotten
abbrev pub invariant-loop-index : goal.invariant-loop-index
invariant-loop-index g l = record {
  taken : Appends (g.S.Sink.view l.initial.out).taken (g.S.Sink.view l.out).taken
      (join_by member_text (44 ∷ []) (take l.index (l.members)));
  later : (g.S.Sink.view l.initial.out).faults ≤ (g.S.Sink.view l.out).faults;
  each : AllByRecursion (IsMember) (take l.index (l.members));
}
