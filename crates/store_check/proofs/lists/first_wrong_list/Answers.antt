-- What is told is what the objects of the store tell.
use Rattle.std.proofs.Common.{◌≡◌, ◌∙◌, List, ap}
use Rattle.back_index.specs.Filling.{mentions_tell}
use Rattle.back_index.specs.declared.mentions.Mention.{Mention}
use Rattle.store_check.proofs.FindsLaws.{finds_as, lacks_memory, saw_none}
use Rattle.store_check.proofs.HeldLists.{right_lists}
use Rattle.store_check.proofs.lists.first_wrong_list.Goals as goal

pub returns-in-Ok : goal.returns-in-Ok
returns-in-Ok g c =
    let told : List Mention = c.as_slice-all.result.now in
    let same : told ≡ c.in-Ok.mentions.items = cc (c.as_slice-all.ensures.value) in
    record {
      least = finds_as c.wrong_list.ensures.least (λ rest has found least style nodes ways relations read held.
          right_lists style rest nodes ways relations c.args.held.now held (mentions_tell told) c.args.map found c.requires.lists
          (λ id by. ap (λ (l : List Mention). mentions_tell l id by) same ∙ c.in-Ok.ensures.told id by) least);
    }

pub returns-in-Err : goal.returns-in-Err
returns-in-Err g c = record { least = lacks_memory (saw_none c.args.reading.now) }
