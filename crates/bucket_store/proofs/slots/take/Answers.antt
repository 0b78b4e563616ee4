-- What the slot of a number has is taken out of the map.
use Rattle.std.proofs.Common.{refl, ◌∙◌}
use Rattle.bucket_store.specs.declared.slots.Slot.{Slot}
use Rattle.bucket_store.proofs.SlotLaws.{if_is, seen_at, seen_out, slot_shown, slot_there}
use Rattle.bucket_store.proofs.slots.take.Goals as goal

pub returns-clause-there : goal.returns-clause-there
returns-clause-there c =
    let slots = c.args.slots.now.items in
    let slot = c.index_mut.result.now in
    let at = slot_there c.as_slice.result.now slots c.in-Some.k slot c.as_slice.ensures.value c.in-Some.ensures.there c.index_mut.ensures.value in
    let number = c.in-Some.ensures.number slot (slot_shown c.as_slice.result.now slots c.in-Some.k slot c.as_slice.ensures.value at) in
    if_is c.take.result slot.own _ c.take.ensures.value (λ own is.
    seen_at c.args.places.now slots c.in-Some.k c.args.n slot _ refl c.requires.placed at number ∙ is)

pub returns-clause-rest : goal.returns-clause-rest
returns-clause-rest c =
    let slots = c.args.slots.now.items in
    let slot = c.index_mut.result.now in
    let at = slot_there c.as_slice.result.now slots c.in-Some.k slot c.as_slice.ensures.value c.in-Some.ensures.there c.index_mut.ensures.value in
    let number = c.in-Some.ensures.number slot (slot_shown c.as_slice.result.now slots c.in-Some.k slot c.as_slice.ensures.value at) in
    let new : Slot = record { number = slot.number; own = c.take.new.self } in
    if_is c.take.result slot.own _ c.take.ensures.value (λ own is.
    seen_out c.args.places.now slots c.in-Some.k c.args.n slot new c.requires.placed at number refl c.take.ensures.after)
