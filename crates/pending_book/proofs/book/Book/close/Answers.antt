use Rattle.std.proofs.Common.{◌≡◌, ◌<◌, ◌+◌, arith, ap, sym, subst, ◌∙◌, ℕ}
use Rattle.pending_book.specs.Once.{IsOnce}
use Rattle.pending_book.specs.Seat.{SeatView, BookView}
use Rattle.pending_book.specs.declared.view.Size.{Size}
use Rattle.pending_book.proofs.Ruled.{closes_final}
use Rattle.pending_book.proofs.Steps.{Closed}
use Rattle.pending_book.proofs.book.Book.close.Goals as goal

-- the book at its end, by its own size
closed : (c : goal.After-free) → Closed c.self.inside.size c.word-draws.result c.seat.inside.place.me.0
closed c =
    let key = c.self.invariant.2 in
    let share_of_key = ap (λ (z : Size). z.share) key in
    let share = ap (λ (z : SeatView). z.share) c.seat.view_is in
    let nones = ap (λ (z : SeatView). z.nones) c.seat.view_is in
    let whole = ap (λ (z : BookView). z.share) c.self.view_is in
    subst (λ (size : Size). Closed size c.word-draws.result c.seat.inside.place.me.0) key
    (closes_final c.self.inside.table.shared.key _ c.seat.inside.place.me.0 _ _ c.word-draws.result c.close_with-closed.ensures.values.2
    c.word-draws.ensures (omega arith) (omega arith))

pub invariant_of-result : goal.invariant_of-result
invariant_of-result c =
    let end = closed c in
    let e = ap (λ place. place.me.0.drawn) c.of-place.ensures in
    (rw e end.once, omega arith)

pub returns-clause-once : goal.returns-clause-once
returns-clause-once c =
    let list = ap (λ (z : SeatView). z.tickets) c.seat.view_is in
    let tickets = ap (λ (z : BookView). z.tickets) c.self.view_is in
    rw (← list, ← tickets) (closed c).once

pub returns-clause-draws : goal.returns-clause-draws
returns-clause-draws c =
    let end = closed c in
    let nones = ap (λ (z : SeatView). z.nones) c.seat.view_is in
    let tickets = ap (λ (z : BookView). z.tickets) c.self.view_is in
    omega arith
