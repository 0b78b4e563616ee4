use Rattle.std.proofs.Common.{arith, ◌∙◌, length, pos, slice_index_or, w32, FitsSigned}
use Rattle.std.proofs.lemmas.Int.{to_z-of_z}
use Rattle.tile_cover.specs.Span.{lat_of}
use Rattle.tile_cover.proofs.Rows.{rows_told}
use Rattle.tile_cover.proofs.bounds.Bounds.rows_of.Goals as goal

pub returns-clause-reached : goal.returns-clause-reached
returns-clause-reached c = λ row h.
    let north_fits : FitsSigned w32 c.lat_from_pole-north.result = record { sfits = c.lat_from_pole-north.type_inv } in
    let south_fits : FitsSigned w32 c.lat_south_of-south_of.result = record { sfits = c.lat_south_of-south_of.type_inv } in
    let lats = c.args.self.now.lats in
    let above = rw c.deref.ensures.value at c.count_north_of-north_of_all.ensures in
    let below = rw c.deref-2.ensures.value at c.count_north_of-to.ensures in
    rw (← c.self.view_is) (rows_told (λ k. slice_index_or c.self.inside.lats.items k (pos 0)) c.columns-columns.result
    (length c.self.inside.lats.items)
    c.count_north_of-north_of_all.result c.count_north_of-to.result c.saturating_sub-from.result c.max.result row
    (lat_of c.args.climb.north) (lat_of c.args.climb.south) _ _
    (to_z-of_z w32 c.lat_from_pole-north.result north_fits ∙ c.lat_from_pole-north.ensures.lat)
    (to_z-of_z w32 c.lat_south_of-south_of.result south_fits ∙ c.lat_south_of-south_of.ensures.lat)
    (rw (c.columns-columns.ensures.power, ← c.self.view_is) c.self.invariant.whole)
    (rw c.columns-columns.ensures.power h) above.north above.others below.north below.others (omega arith) (omega arith))
