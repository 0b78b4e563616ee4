use Rattle.std.proofs.Common.{rules, arith}
use mathlib.Core.Option.{none}
use Rattle.atomic_table.specs.Table.{step}
use Rattle.pending_book.proofs.Ruled.{draws_state}
use Rattle.pending_book.proofs.book.Book.draw.Goals as goal

pub fetch_add-found-requires : goal.fetch_add-found-requires
fetch_add-found-requires c =
    (search rules, search rules, λ s rule homes at small. draws_state _ (step 0 0 0 0 none) s _ _ rule at (omega arith))
