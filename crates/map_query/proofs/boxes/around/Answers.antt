use Rattle.std.proofs.Common.{rules, ◌∙◌, w32, FitsSigned}
use Rattle.std.proofs.lemmas.Int.{to_z-of_z}
use Rattle.map_query.proofs.Joined.{around_is}
use Rattle.map_query.proofs.boxes.around.Goals as goal

pub returns : goal.returns
returns c =
    let west : FitsSigned w32 c.min.result = search rules in
    let one_west : FitsSigned w32 c.args.one.west = search rules in
    let other_west : FitsSigned w32 c.args.other.west = search rules in
    let south : FitsSigned w32 c.min-2.result = search rules in
    let one_south : FitsSigned w32 c.args.one.south = search rules in
    let other_south : FitsSigned w32 c.args.other.south = search rules in
    let east : FitsSigned w32 c.max.result = search rules in
    let one_east : FitsSigned w32 c.args.one.east = search rules in
    let other_east : FitsSigned w32 c.args.other.east = search rules in
    let north : FitsSigned w32 c.max-2.result = search rules in
    let one_north : FitsSigned w32 c.args.one.north = search rules in
    let other_north : FitsSigned w32 c.args.other.north = search rules in
    record {
      sides = around_is c.args.one c.args.other _ _ _ _
          (to_z-of_z w32 c.min.result west ∙ (rw (to_z-of_z w32 c.args.one.west one_west, to_z-of_z w32 c.args.other.west other_west) at
          c.min.ensures.value))
          (to_z-of_z w32 c.min-2.result south ∙ (rw
          (to_z-of_z w32 c.args.one.south one_south, to_z-of_z w32 c.args.other.south other_south) at c.min-2.ensures.value))
          (to_z-of_z w32 c.max.result east ∙ (rw (to_z-of_z w32 c.args.one.east one_east, to_z-of_z w32 c.args.other.east other_east) at
          c.max.ensures.value))
          (to_z-of_z w32 c.max-2.result north ∙ (rw
          (to_z-of_z w32 c.args.one.north one_north, to_z-of_z w32 c.args.other.north other_north) at c.max-2.ensures.value));
    }
