-- The slot of a number has what the map has.
use Rattle.std.proofs.Common.{refl, sym, ap, ◌∙◌}
use Rattle.bucket_store.specs.Slots.{IsSlotAt}
use Rattle.bucket_store.specs.declared.slots.Slot.{Slot}
use Rattle.bucket_store.proofs.SlotLaws.{get_none, matched, seen_at}
use Rattle.bucket_store.proofs.slots.own_of.Goals as goal

pub returns-in_default : goal.returns-in_default
returns-in_default c = get_none c.args.slots.now c.args.n (c.in_default.ensures.none refl)

pub returns : goal.returns
returns c =
    let slot = c.index-slots-k.result in
    let at : IsSlotAt c.args.slots.now c.in-Some.k slot = (c.in-Some.ensures.there, c.index-slots-k.is) in
    matched c.as_ref.result slot.own _ (c.as_ref.ensures.value ∙ ap (λ (it : Slot). it.own) (sym c.index-slots-k.is))
    (seen_at c.args.places.now c.args.slots.now c.in-Some.k c.args.n slot _ refl c.requires.placed at (c.in-Some.ensures.number slot at))
