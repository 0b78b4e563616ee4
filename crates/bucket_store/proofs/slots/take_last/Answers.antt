-- The last slot leaves, with its bucket where that is there.
use Rattle.std.proofs.Common.{List, sym, ap, subst, ◌∙◌}
use Rattle.std.specs.FinMap as map
use Rattle.bucket_store.specs.Cache.{CacheMap}
use Rattle.bucket_store.specs.Slots.{ArePlaced, map_of}
use Rattle.bucket_store.specs.declared.slots.Slot.{Slot}
use Rattle.bucket_store.proofs.SlotLaws.{last_out, last_there, let_go, placed_front}
use Rattle.bucket_store.proofs.slots.take_last.Goals as goal

pub returns-in-Some-own-clause-there : goal.returns-in-Some-own-clause-there
returns-in-Some-own-clause-there c =
    let placed = subst (λ (slots : List Slot). ArePlaced c.args.places.now slots) c.in-Some.ensures.items c.loop-slot.invariant.placed in
    ap (λ (m : CacheMap). map.get m c.in-Some.slot.number)
    (sym c.loop-slot.invariant.same ∙ ap (λ (slots : List Slot). map_of slots) c.in-Some.ensures.items)
    ∙ last_there c.args.places.now c.pop.new.self.items c.in-Some.slot c.in-Some-own.own placed c.in-Some-own.is

pub returns-in-Some-own-clause-rest : goal.returns-in-Some-own-clause-rest
returns-in-Some-own-clause-rest c =
    let placed = subst (λ (slots : List Slot). ArePlaced c.args.places.now slots) c.in-Some.ensures.items c.loop-slot.invariant.placed in
    last_out c.args.places.now c.pop.new.self.items c.in-Some.slot c.in-Some-own.own placed c.in-Some-own.is
    ∙ ap (λ (m : CacheMap). map.remove m c.in-Some.slot.number)
    (ap (λ (slots : List Slot). map_of slots) (sym c.in-Some.ensures.items) ∙ c.loop-slot.invariant.same)

pub loop-slot-preserved : goal.loop-slot-preserved
loop-slot-preserved c =
    let placed = subst (λ (slots : List Slot). ArePlaced c.args.places.now slots) c.in-Some.ensures.items c.loop-slot.invariant.placed in
    record {
      placed = placed_front c.args.places.now c.pop.new.self.items c.in-Some.slot placed;
      same = sym (let_go c.pop.new.self.items c.in-Some.slot c.in_default-own.is)
          ∙ ap (λ (slots : List Slot). map_of slots) (sym c.in-Some.ensures.items) ∙ c.loop-slot.invariant.same;
    }
