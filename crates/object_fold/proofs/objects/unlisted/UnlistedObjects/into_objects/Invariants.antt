use Rattle.std.proofs.Common.{◌≡◌}
use Rattle.object_fold.proofs.Gathered.{with_entries}
use Rattle.object_fold.proofs.objects.unlisted.UnlistedObjects.into_objects.Given as goal

-- with what is left they are all objects
abbrev pub invariant-loop-key : goal.invariant-loop-key
invariant-loop-key l = with_entries l.listed l.key-iterator ≡ l.fn.self
