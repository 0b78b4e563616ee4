use Rattle.std.proofs.Common.{◌∙◌, ap, w32, FitsSigned}
use Rattle.std.proofs.lemmas.Int.{to_z-of_z}
use Rattle.osm_base.specs.values.Place.{PlaceOf}
use Rattle.tile_cover.specs.Tile.{widened}
use Rattle.tile_cover.proofs.Within.{between_is}
use Rattle.tile_cover.proofs.inside.is_inside.Goals as goal

pub returns : goal.returns
returns c =
    let tile = c.args.tile in
    let fits : FitsSigned w32 c.place.inside.lat = record { sfits = c.place.ranges.1.0.1 } in
    let lat = c.from_pole-lat.ensures.lat ∙ to_z-of_z w32 c.place.inside.lat fits ∙ ap (λ (place : PlaceOf). place.lat) c.place.view_is in
    record {
      inside = rw c.from-west.ensures (between_is (widened tile.columns c.args.place) tile.x tile.south tile.north
          c.wide_lon-lon.result c.from_pole-lat.result c.wide_lon-lon.ensures.lon lat);
    }
