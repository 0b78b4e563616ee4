use Rattle.std.proofs.Common.{subst, sym, ap, ◌∙◌, nat_eq}
use Rattle.std.proofs.lemmas.List.Filters.{dedup_is}
use Rattle.osm_base.specs.values.Ids.{IsRising, has}
use Rattle.object_fold.proofs.SortedIds.{dedup-rise, has-dedup, has-permutation}
use Rattle.object_fold.proofs.rising_ids.RisingIds.from_vec.Goals as goal

pub invariant_of-result : goal.invariant_of-result
invariant_of-result c =
    subst IsRising (sym (dedup_is nat_eq c.sort_unstable.new.self.items c.dedup.new.self.items c.dedup.ensures.filtered))
    (dedup-rise c.sort_unstable.new.self.items c.sort_unstable.ensures.sorted)

pub returns-clause-same : goal.returns-clause-same
returns-clause-same c id =
    ap (λ ids. has ids id) (dedup_is nat_eq c.sort_unstable.new.self.items c.dedup.new.self.items c.dedup.ensures.filtered)
    ∙ has-dedup c.sort_unstable.new.self.items id
    ∙ sym (has-permutation c.args.ids.items c.sort_unstable.new.self.items id c.sort_unstable.ensures.permutation)

pub returns-clause-rise : goal.returns-clause-rise
returns-clause-rise c = invariant_of-result c
