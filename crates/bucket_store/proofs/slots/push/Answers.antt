-- A slot behind the others is a bucket more.
use Rattle.std.proofs.Common.{List, Some, refl, ap, ◌∙◌}
use Rattle.bucket_store.specs.Slots.{map_of}
use Rattle.bucket_store.specs.declared.slots.Slot.{Slot}
use Rattle.bucket_store.proofs.SlotLaws.{push_in}
use Rattle.bucket_store.proofs.slots.push.Goals as goal

pub returns-clause-ok : goal.returns-clause-ok
returns-clause-ok c =
    let slot : Slot = record { number = c.args.n; own = Some c.args.own } in
    ap (λ (slots : List Slot). map_of slots) c.in_ok-push.ensures.items
    ∙ push_in c.args.slots.now.items slot c.args.own c.requires.new refl
