use Rattle.std.proofs.Common.{sym, subst}
use Rattle.std.specs.List.{insert}
use Rattle.osm_base.specs.values.Ids.{IsRising}
use Rattle.object_fold.specs.RisingIds.{IsGapAt, StandsAt, Joins}
use Rattle.object_fold.proofs.SortedIds.{insert-rise, has-insert, joins-there}
use Rattle.object_fold.proofs.rising_ids.RisingIds.add.Goals as goal

pub invariant_of-self : goal.invariant_of-self
invariant_of-self c =
    subst IsRising (sym c.in_ok-insert.ensures.items)
    (insert-rise c.self.inside.ids.items c.args.id c.in-Err.at c.self.invariant
    (subst (λ ids. IsGapAt ids c.args.id c.in-Err.at) c.as_slice.ensures.value c.in-Err.ensures.err))

pub returns-in_ok-insert-clause-ok : goal.returns-in_ok-insert-clause-ok
returns-in_ok-insert-clause-ok c =
    let ids = c.self.inside.ids.items in
    subst (λ new. Joins c.args.id c.args.self.now new) (sym c.in_ok-insert.ensures.items)
    (subst (λ old. Joins c.args.id old (insert ids c.in-Err.at c.args.id)) c.self.view_is (has-insert ids c.in-Err.at c.args.id))

pub returns-in_default-clause-ok : goal.returns-in_default-clause-ok
returns-in_default-clause-ok c =
    subst (λ ids. Joins c.args.id ids ids) c.self.view_is
    (joins-there c.self.inside.ids.items c.in_default.field-0 c.args.id
    (subst (λ ids. StandsAt ids c.args.id c.in_default.field-0) c.as_slice.ensures.value c.in_default.ensures.ok))
