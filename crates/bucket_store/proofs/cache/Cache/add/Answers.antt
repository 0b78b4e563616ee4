-- The slot of a number is given its bucket.
use Rattle.std.proofs.Common.{Some, false, refl}
use Rattle.bucket_store.specs.declared.cache.Cached.{Cached}
use Rattle.bucket_store.specs.declared.slots.Slot.{Slot}
use Rattle.bucket_store.proofs.SlotLaws.{seen_put, slot_shown, slot_there}
use Rattle.bucket_store.proofs.cache.Cache.add.Goals as goal

pub returns-in-Some : goal.returns-in-Some
returns-in-Some c =
    let slots = c.self.inside.slots.items in
    let slot = c.index_mut.result.now in
    let at = slot_there c.as_slice.result.now slots c.in-Some.k slot c.as_slice.ensures.value c.in-Some.ensures.there c.index_mut.ensures.value in
    let number = c.in-Some.ensures.number slot (slot_shown c.as_slice.result.now slots c.in-Some.k slot c.as_slice.ensures.value at) in
    let own : Cached = record { bucket = c.args.bucket; changed = false } in
    let new : Slot = record { number = slot.number; own = Some own } in
    record {
      added = seen_put c.self.inside.places slots c.in-Some.k c.args.n slot new own c.args.self.now c.self.view_is c.self.invariant at number refl
          refl;
    }
