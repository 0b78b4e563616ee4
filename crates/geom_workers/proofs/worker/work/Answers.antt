use Rattle.std.proofs.Common.{ap}
use Rattle.pending_book.specs.Seat.{SeatView}
use Rattle.geom_workers.proofs.Drawing.{nearer_still}
use Rattle.geom_workers.proofs.worker.work.Goals as goal

pub drawing-smaller : goal.drawing-smaller
drawing-smaller g c =
    nearer_still c.drawing.seat.tickets c.draw.new.seat.tickets c.draw_more.new.seat.tickets c.in-Some.first c.args.book.now.tickets
    c.in-Some.ensures.rises c.in-Some.ensures.below
    (ap (λ (seat : SeatView). seat.tickets) c.in-Some.ensures.some) c.draw_more.ensures.behind
