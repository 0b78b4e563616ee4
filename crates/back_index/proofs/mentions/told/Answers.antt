-- The order makes no difference to what is told.
use Rattle.std.proofs.Common.{◌∙◌}
use Rattle.back_index.specs.Filling.{mentions_tell}
use Rattle.back_index.proofs.Filled.{by_ids_as, told_permuted}
use Rattle.back_index.proofs.mentions.told.Goals as goal

pub returns-clause-told : goal.returns-clause-told
returns-clause-told c id by =
    told_permuted c.in_ok-mentions.mentions.items c.sort_mentions.new.mentions.items c.sort_mentions.ensures.permutation id by
    ∙ c.in_ok-mentions.ensures.told id by

pub returns-clause-ids : goal.returns-clause-ids
returns-clause-ids c =
    by_ids_as (mentions_tell c.in_ok-mentions.mentions.items) (mentions_tell c.sort_mentions.new.mentions.items)
    (λ id by. told_permuted c.in_ok-mentions.mentions.items c.sort_mentions.new.mentions.items c.sort_mentions.ensures.permutation id by)
    c.in_ok-mentions.ensures.ids
