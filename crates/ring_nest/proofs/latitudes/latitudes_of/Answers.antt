use Rattle.std.proofs.Common.{◌∙◌}
use Rattle.std.proofs.lemmas.List.Sorted.{IsNonDecreasingBy-from_sort}
use Rattle.ring_nest.proofs.Lats.{count_sorted}
use Rattle.ring_nest.proofs.latitudes.latitudes_of.Goals as goal

pub returns-clause-sorted : goal.returns-clause-sorted
returns-clause-sorted c = IsNonDecreasingBy-from_sort (λ own. own) c.sort_unstable.new.self.items c.sort_unstable.ensures.sorted

pub returns-clause-count : goal.returns-clause-count
returns-clause-count c north =
    count_sorted north c.in_ok-lats.lats.items c.sort_unstable.new.self.items c.sort_unstable.ensures.permutation ∙ c.in_ok-lats.ensures.count north
