use Rattle.std.proofs.Common.{◌≡◌, length}
use Rattle.bucket_store.specs.Slots.{ArePlaced, map_of}
use Rattle.bucket_store.proofs.slots.take_last.Given as goal

-- the slots that are left have all buckets
abbrev pub invariant-loop-slot : goal.invariant-loop-slot
invariant-loop-slot l = record {
  placed : ArePlaced l.fn.places l.slots.items;
  same : map_of l.slots.items ≡ map_of l.fn.slots.items;
}

abbrev pub decreases-loop-slot : goal.decreases-loop-slot
decreases-loop-slot l = length l.slots.items
