use Rattle.std.proofs.Common.{rules, ap}
use Rattle.pending_book.specs.Seat.{SeatView}
use Rattle.geom_workers.proofs.Drawing.{further, grown}
use Rattle.geom_workers.proofs.worker.draw_more.Goals as goal

pub returns-in_err-push-2-clause-behind : goal.returns-in_err-push-2-clause-behind
returns-in_err-push-2-clause-behind g c =
    further c.args.seat.now.tickets c.loop.seat.tickets c.draw.new.seat.tickets c.in-Some.ticket c.loop.invariant.behind
    c.in-Some.ensures.rises (ap (λ (seat : SeatView). seat.tickets) c.in-Some.ensures.some)

pub loop-preserved : goal.loop-preserved
loop-preserved g c =
    let drawn = ap (λ (seat : SeatView). seat.tickets) c.in-Some.ensures.some in
    record {
      seat = search rules;
      small = search rules;
      drawn = λ before is. grown before c.loop.batch.items c.loop.seat.tickets c.draw.new.seat.tickets c.push-in-loop.new.self.items
          c.in-Some.ticket (c.loop.invariant.drawn before is) drawn c.in_ok-push-2.ensures.items;
      behind = further c.args.seat.now.tickets c.loop.seat.tickets c.draw.new.seat.tickets c.in-Some.ticket c.loop.invariant.behind
          c.in-Some.ensures.rises drawn;
    }
