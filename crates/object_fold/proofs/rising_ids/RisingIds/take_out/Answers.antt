use Rattle.std.proofs.Common.{sym, subst}
use Rattle.std.specs.List.{remove}
use Rattle.osm_base.specs.values.Ids.{IsRising}
use Rattle.object_fold.specs.RisingIds.{IsGapAt, StandsAt, Leaves}
use Rattle.object_fold.proofs.SortedIds.{remove-rise, has-remove, leaves-absent}
use Rattle.object_fold.proofs.rising_ids.RisingIds.take_out.Goals as goal

pub invariant_of-self : goal.invariant_of-self
invariant_of-self c =
    let stands = subst (λ ids. StandsAt ids c.args.id c.in-Ok.at) c.as_slice.ensures.value c.in-Ok.ensures.ok in
    subst IsRising (sym c.remove.ensures.items) (remove-rise c.self.inside.ids.items c.in-Ok.at stands.within c.self.invariant)

pub returns-in-Ok : goal.returns-in-Ok
returns-in-Ok c =
    let ids = c.self.inside.ids.items in
    let stands = subst (λ ids. StandsAt ids c.args.id c.in-Ok.at) c.as_slice.ensures.value c.in-Ok.ensures.ok in
    record {
      left = subst (λ new. Leaves c.args.id c.args.self.now new) (sym c.remove.ensures.items)
          (subst (λ old. Leaves c.args.id old (remove ids c.in-Ok.at)) c.self.view_is
          (has-remove ids c.in-Ok.at c.args.id c.self.invariant stands));
    }

pub returns-in_default : goal.returns-in_default
returns-in_default c = record {
  left = subst (λ ids. Leaves c.args.id ids ids) c.self.view_is
      (leaves-absent c.self.inside.ids.items c.in_default.field-0 c.args.id
      (subst (λ ids. IsGapAt ids c.args.id c.in_default.field-0) c.as_slice.ensures.value c.in_default.ensures.err));
}
