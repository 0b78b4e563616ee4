use Rattle.std.proofs.Common.{rules}
use Rattle.std.proofs.lemmas.List.Sorted.{IsNonDecreasingBy-from_sort_by_key}
use Rattle.tile_cover.specs.Sweep.{position_of}
use Rattle.tile_cover.proofs.Sweeps.{rising_from}
use Rattle.tile_cover.proofs.covering.sort.Goals as goal

pub returns-clause-rising : goal.returns-clause-rising
returns-clause-rising c = rising_from _ (IsNonDecreasingBy-from_sort_by_key position_of _ c.sort_unstable_by_key.ensures.sorted
    (λ a r q k. search rules))
