use Rattle.std.proofs.Common.{◌∙◌, ap, count_by, length, arith}
use Rattle.ring_nest.specs.Edges.{AreWest, passes}
use Rattle.ring_nest.specs.Opening.{woven}
use Rattle.ring_nest.proofs.Woven.{as_opened, span_woven, turns}
use Rattle.ring_nest.proofs.opening.open_across.Goals as goal

pub are_west-requires : goal.are_west-requires
are_west-requires c = record {
  edges = rw (c.deref-3.ensures.value, c.in_ok-edges.ensures, c.deref.ensures.value, c.deref-2.ensures.value)
      (span_woven c.args.band.low c.args.band.high c.band_row-minus.result.edges.items c.band_row-plus.result.edges.items c.band_row-minus.ensures.row.spans
      c.band_row-plus.ensures.row.spans);
}

pub returns : goal.returns
returns c = record {
  opens = λ e north east from to.
      let minus = c.band_row-minus.result.edges.items in
      let plus = c.band_row-plus.result.edges.items in
      let west : AreWest (woven minus plus) =
      rw (c.deref-3.ensures.value, c.in_ok-edges.ensures, c.deref.ensures.value, c.deref-2.ensures.value) at (c.are_west.ensures.west e) in
      as_opened _ _ _ _
      (c.band_row-minus.ensures.count north east ∙ ap (count_by (passes north east)) c.in_ok-from_slice.ensures.items)
      (c.band_row-plus.ensures.count north east ∙ ap (count_by (passes north east)) c.in_ok-from_slice-2.ensures.items)
      (turns c.args.band.low c.args.band.high north east minus plus
      (span_woven c.args.band.low c.args.band.high minus plus c.band_row-minus.ensures.row.spans c.band_row-plus.ensures.row.spans) west from to
      (omega (arith, c.band_row-minus.ensures.len, c.band_row-plus.ensures.len, c.if-minus-plus.false, ap length c.in_ok-from_slice.ensures.items, ap length c.in_ok-from_slice-2.ensures.items)));
}
