use Rattle.std.proofs.Common.{◌≡◌, ◌-◌}
use Rattle.bucket_store.specs.Slots.{ArePlaced}
use Rattle.bucket_store.proofs.slots.take_next.Given as goal

-- the slots are as they were
abbrev pub invariant-loop-next : goal.invariant-loop-next
invariant-loop-next l = record {
  placed : ArePlaced l.fn.places l.slots.items;
  same : l.slots.items ≡ l.fn.slots.items;
}

abbrev pub decreases-loop-next : goal.decreases-loop-next
decreases-loop-next l = l.end - l.next
