use Rattle.std.proofs.Common.{◌+◌, arith, pos, ◌∙◌, w32, slice_index_or}
use Rattle.std.proofs.lemmas.Int.{to_z-of_z}
use Rattle.tile_cover.specs.Table.{IsLatitude}
use Rattle.tile_cover.proofs.Rows.{all_at, falls, fits_lat, ordered, same_item}
use Rattle.tile_cover.proofs.bounds.Bounds.sides.Goals as goal

pub returns-clause-ordered : goal.returns-clause-ordered
returns-clause-ordered c =
    let table = c.self.inside in
    let lats = table.lats.items in
    let row = c.args.row in
    let whole = c.self.invariant.whole in
    let within = rw (← c.self.view_is) at c.requires in
    let south = slice_index_or lats (row + 1) (pos 0) in
    let north = slice_index_or lats row (pos 0) in
    let south_is = same_item lats (row + 1) _ (pos 0) c.index-south.result.now c.index-south.ensures (omega (arith, within, whole)) in
    let north_is = same_item lats row _ (pos 0) c.index-north.result.now c.index-north.ensures (omega (arith, within, whole)) in
    let latitudes = c.self.invariant.latitudes in
    ordered c.from_pole.result c.from_pole-2.result south north
    (rw south_is at c.from_pole.ensures.lat ∙ to_z-of_z w32 south
    (fits_lat south (all_at IsLatitude lats (row + 1) (pos 0) latitudes (omega (arith, within, whole)))))
    (rw north_is at c.from_pole-2.ensures.lat ∙ to_z-of_z w32 north
    (fits_lat north (all_at IsLatitude lats row (pos 0) latitudes (omega (arith, within, whole)))))
    (falls lats row (pos 0) c.self.invariant.falling (omega (arith, within, whole)))
