use Rattle.std.proofs.Common.{rules, arith, ap}
use Rattle.pending_book.specs.Seat.{SeatView}
use Rattle.pending_book.proofs.Steps.{splits}
use Rattle.pending_book.proofs.book.Book.split_by.Goals as goal

pub split_seat-place-requires : goal.split_seat-place-requires
split_seat-place-requires g c =
    let share = ap (λ (z : SeatView). z.share) c.seat.view_is in
    let nones = ap (λ (z : SeatView). z.nones) c.seat.view_is in
    (search rules, search rules, λ s rule at. (rule.0, splits _ _ _ _ _ _ rule.1 at (omega arith) (omega arith) (omega arith)))
