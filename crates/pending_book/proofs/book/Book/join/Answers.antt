use Rattle.std.proofs.Common.{rules, arith}
use mathlib.Core.Option.{none}
use Rattle.atomic_table.specs.Table.{step}
use Rattle.pending_book.proofs.Steps.{merges}
use Rattle.pending_book.proofs.Ruled.{looks_state}
use Rattle.pending_book.proofs.book.Book.join.Goals as goal

pub join_seat-requires : goal.join_seat-requires
join_seat-requires c = (
  search rules,
  search rules,
  search rules,
  search rules,
  λ s rule at apart there. (rule.0, merges _ _ _ _ _ _ _ rule.1 at apart there (omega arith)),
)

pub load-few-requires : goal.load-few-requires
load-few-requires c = (search rules, search rules, λ s rule homes at small. looks_state _ (step 0 0 0 0 none) s _ _ rule at)
