use Rattle.std.proofs.Common.{◌≤◌, ◌+◌, ◌^◌, ◌==◌, ◌&&◌, arith, ap, refl, List, ℕ, ◌∷◌, drop, get_or, nat_le, false}
use Rattle.std.proofs.Math.Nat.{pow-le-pow_right}
use Rattle.tile_cover.specs.Runs.{has, start_of}
use Rattle.tile_cover.specs.Events.{IsEvent}
use Rattle.tile_cover.specs.Sweep.{is_told, is_open, from_of}
use Rattle.tile_cover.specs.declared.events.Event.{Event}
use Rattle.tile_cover.proofs.Sweeps.{rising_drop, all_drop, events_fit, nothing_before, open_at_first, stands_at, told_at, told_step}
use Rattle.tile_cover.proofs.Sweeps.{told_on, odd_on, rows_on, edge_on, edge_at, next_at}
use Rattle.tile_cover.proofs.sweep.runs_of.Goals as goal

pub is_odd-requires-clause-events : goal.is_odd-requires-clause-events
is_odd-requires-clause-events c =
    let bound : 2 ^ c.args.zoom ≤ 2 ^ 16 = pow-le-pow_right {n = 2} (omega arith) c.requires.zoom in
    events_fit (2 ^ c.args.zoom) c.args.events.now bound c.requires.events

pub loop-at-init : goal.loop-at-init
loop-at-init c = record {
  within = omega arith;
  tiles = λ other x y. rw c.new-set.ensures.none
      (ap (λ b. (c.args.zoom == other) && b) (open_at_first y x c.is_odd.result (is_told c.args.filled c.args.events.now y x)));
  before = λ next h. rw c.new-set.ensures.none tt;
  odd = c.is_odd.ensures.odd;
  rows = nothing_before c.args.events.now;
  edge = omega arith;
}

pub cursor_at-here-requires-clause-rising : goal.cursor_at-here-requires-clause-rising
cursor_at-here-requires-clause-rising c = rw c.split_at.ensures.back (rising_drop c.args.events.now c.loop-at.at c.requires.rising)

pub cursor_at-here-requires-clause-events : goal.cursor_at-here-requires-clause-events
cursor_at-here-requires-clause-events c =
    let bound : 2 ^ c.args.zoom ≤ 2 ^ 16 = pow-le-pow_right {n = 2} (omega arith) c.requires.zoom in
    rw c.split_at.ensures.back (all_drop (IsEvent 65536) c.args.events.now c.loop-at.at
    (events_fit (2 ^ c.args.zoom) c.args.events.now bound c.requires.events))

-- the event, those after it, and what holds of them
abbrev event_at : List Event → ℕ → Event
event_at events at = get_or events at (record { row = 0; span = record { first = 0; last = 0; straddles = false } })

pub add_event-requires-clause-before : goal.add_event-requires-clause-before
add_event-requires-clause-before c = λ next h.
    let events = c.args.events.now in
    let event = event_at events c.loop-at.at in
    let there = c.cursor_at-here.ensures.at_row in
    let left = next_at events c.loop-at.at (record { row = 0; span = record { first = 0; last = 0; straddles = false } }) (omega arith) in
    let rows = (rw left at c.loop-at.invariant.rows).0 in
    c.loop-at.invariant.before next (stands_at c.args.zoom c.loop-at.cursor.row event.row c.loop-at.cursor.edge c.cursor_at-here.result.edge
    (start_of next) rows c.loop-at.invariant.edge there.edge
    (rw there.row at h))

pub loop-at-preserved : goal.loop-at-preserved
loop-at-preserved c =
    let events = c.args.events.now in
    let event = event_at events c.loop-at.at in
    let rest = drop (c.loop-at.at + 1) events in
    let there = c.cursor_at-here.ensures.at_row in
    let adds = c.in_ok-cursor.ensures.adds in
    let left = next_at events c.loop-at.at (record { row = 0; span = record { first = 0; last = 0; straddles = false } }) (omega arith) in
    let bound : 2 ^ c.args.zoom ≤ 2 ^ 16 = pow-le-pow_right {n = 2} (omega arith) c.requires.zoom in
    let fit = rw left at (all_drop (IsEvent 65536) events c.loop-at.at (events_fit (2 ^ c.args.zoom) events bound c.requires.events)) in
    let rising = rw left at (rising_drop events c.loop-at.at c.requires.rising) in
    let rows = rw left at c.loop-at.invariant.rows in
    let odd = rw (c.split_at.ensures.back, left) at there.odd in
    record {
      within = omega arith;
      tiles = λ other x y. told_on (has c.loop-at.set other x y) (has c.add_event.new.set other x y) (c.args.zoom == other)
          ((c.cursor_at-here.result.row == y) && (nat_le
          (from_of c.args.filled c.cursor_at-here.result event) x && nat_le x event.span.last))
          (is_open c.in_ok-cursor.cursor y x && is_told c.args.filled rest y x) (is_open c.loop-at.cursor y x)
          (is_open c.cursor_at-here.result y x) (is_told c.args.filled (event ∷ rest) y x)
          ((c.args.zoom == other) && is_told c.args.filled events y x) (adds.tiles other x y)
          (told_at c.args.filled c.loop-at.cursor c.cursor_at-here.result event rest y x there.row there.edge rows fit rising)
          (told_step c.args.filled c.cursor_at-here.result c.in_ok-cursor.cursor event rest y x there.row odd adds.row adds.edge fit.0
          rising.0)
          (rw left at c.loop-at.invariant.tiles other x y);
      before = c.in_ok-cursor.ensures.before;
      odd = rw (adds.row, there.row) (odd_on event.span.straddles c.cursor_at-here.result.odd c.in_ok-cursor.cursor.odd event rest refl odd
          adds.odd);
      rows = rows_on c.cursor_at-here.result.row c.in_ok-cursor.cursor.row event rest adds.row there.row fit rising;
      edge = rw adds.edge (edge_on c.args.filled c.cursor_at-here.result event
          (edge_at c.loop-at.cursor.row event.row c.loop-at.cursor.edge c.cursor_at-here.result.edge c.loop-at.invariant.edge there.edge)
          fit.0);
    }
