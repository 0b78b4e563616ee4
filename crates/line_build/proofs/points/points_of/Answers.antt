use Rattle.std.proofs.Common.{◌∙◌, ap}
use Rattle.std.specs.List.{dedup}
use Rattle.std.proofs.lemmas.List.Filters.{dedup_is}
use Rattle.piece_ends.specs.Pieces.{same_place}
use Rattle.line_build.proofs.points.points_of.Goals as goal

pub returns : goal.returns
returns g c = record {
  points = c.from_vec.ensures.items ∙ dedup_is same_place c.in_ok-places.places.items c.dedup.new.self.items c.dedup.ensures.filtered
      ∙ ap (dedup same_place) c.in_ok-places.ensures.places;
}
