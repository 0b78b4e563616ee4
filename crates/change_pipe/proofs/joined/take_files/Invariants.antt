use Rattle.std.proofs.Common.{◌≡◌, ◌+◌, length}
use Rattle.std.specs.List.{AllByRecursion}
use Rattle.change_pipe.specs.Parcels.{IsWhole}
use Rattle.change_pipe.proofs.joined.take_files.Given as goal

-- what was taken so far is what is answered, and none of it was refused
abbrev pub invariant-loop-left : goal.invariant-loop-left
invariant-loop-left g l = record {
  ours : l.taker.home ≡ l.pipe.home;
  taken : l.taken.items ≡ l.taker.list;
  whole : AllByRecursion IsWhole l.taken.items;
  many : length l.taken.items + l.left ≡ l.count;
}

abbrev pub decreases-loop-left : goal.decreases-loop-left
decreases-loop-left g l = l.left
