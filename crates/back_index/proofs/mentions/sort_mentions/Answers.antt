-- A sort by what is listed.
use Rattle.std.proofs.Common.{rules}
use Rattle.std.proofs.lemmas.List.Sorted.{IsNonDecreasingBy-from_sort_by_key}
use Rattle.back_index.specs.Filling.{id_of}
use Rattle.back_index.proofs.mentions.sort_mentions.Goals as goal

pub returns-clause-rising : goal.returns-clause-rising
returns-clause-rising c = IsNonDecreasingBy-from_sort_by_key id_of _ c.sort_unstable_by_key.ensures.sorted (λ a r q k. search rules)
