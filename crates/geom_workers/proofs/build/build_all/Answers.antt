use Rattle.std.proofs.Common.{◌≡◌, ℕ, map, ap, sym, ◌∙◌}
use Rattle.std.specs.List.{range_with_len}
use Rattle.osm_base.specs.values.Key.{node_key}
use Rattle.geom_workers.specs.Builds.{rows_at}
use Rattle.geom_workers.specs.Keys.{keys_of}
use Rattle.row_rules.specs.Rows.{rows_known}
use Rattle.geom_workers.proofs.Agreeing.{agree}
use Rattle.geom_workers.proofs.Keyed.{by_number}
use Rattle.geom_workers.proofs.build.build_all.Goals as goal

pub returns-clause-rows : goal.returns-clause-rows
returns-clause-rows g c =
    let style = c.args.style.now in
    let known = g.L.Lookup.known c.args.lookup.now in
    let pending = c.args.pending.now in
    let of = rows_at style known pending in
    let tickets : c.as_slice.result.now ≡ c.in_ok-seat.seat.tickets = c.as_slice.ensures.items ∙ c.in_ok-seat.ensures.part.tickets in
    let rows : c.in_ok-seat.part.rows ≡ map of c.as_slice.result.now = c.in_ok-seat.ensures.part.rows ∙ ap (map of) (sym tickets) in
    let numbers = ap (λ (n : ℕ). map of (range_with_len 0 n)) c.key_count-count.ensures.count in
    c.in_ok-rows.ensures.rows of rows ∙ numbers ∙ by_number (rows_known style known) (keys_of pending) (node_key 0)

pub returns-clause-agreeing : goal.returns-clause-agreeing
returns-clause-agreeing g c =
    λ objects suffices. returns-clause-rows g c
    ∙ agree c.args.style.now (g.L.Lookup.known c.args.lookup.now) (keys_of c.args.pending.now) objects suffices
