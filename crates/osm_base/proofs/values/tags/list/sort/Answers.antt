use Rattle.std.proofs.Common.{rules}
use Rattle.osm_base.specs.values.TagText.{key_bytes}
use Rattle.osm_base.proofs.TagLists.{AreSpans-IsPermutation, sorted_by_key}
use Rattle.osm_base.proofs.values.tags.list.sort.Goals as goal

pub returns-clause-cuts : goal.returns-clause-cuts
returns-clause-cuts c = AreSpans-IsPermutation c.args.text.now _ _ c.sort_unstable_by.ensures.permutation c.requires

pub returns-clause-sorted : goal.returns-clause-sorted
returns-clause-sorted c = sorted_by_key (key_bytes c.args.text.now) _ c.sort_unstable_by.ensures.sorted (λ a r f' k. search rules)
