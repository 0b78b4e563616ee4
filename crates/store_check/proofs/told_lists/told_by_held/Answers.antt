-- The order makes no difference to what is told.
use Rattle.std.proofs.Common.{◌∙◌, sym, ap}
use Rattle.std.specs.FinMap as finite
use Rattle.std.proofs.lemmas.List.Sorted.{list_any-IsPermutation}
use Rattle.osm_base.specs.values.Ids.{has}
use Rattle.store_maps.specs.Turns.{listed_by}
use Rattle.back_index.specs.Filling.{is_told}
use Rattle.back_index.specs.Listed.{ids_in}
use Rattle.back_index.specs.declared.mentions.Mention.{Mention}
use Rattle.store_check.specs.Values.{ObjectMap}
use Rattle.store_check.proofs.told_lists.told_by_held.Goals as goal

pub returns-clause-told : goal.returns-clause-told
returns-clause-told c id by =
    sym (list_any-IsPermutation (λ (own : Mention). is_told own id by) c.in_ok-mentions.mentions.items c.sort_mentions.new.mentions.items
    c.sort_mentions.ensures.permutation)
    ∙ c.in_ok-mentions.ensures.told id by
    ∙ ap (λ (m : ObjectMap). has (listed_by (ids_in c.args.map) (finite.get m by)) id) c.listers_of.ensures.listers
