use Rattle.std.proofs.Common.{◌∙◌, ap, sym, subst}
use Rattle.std.specs.Option.{option_to_list}
use Rattle.piece_ends.specs.Pieces.{ArePieces}
use Rattle.row_map.proofs.Joinable.{pieces_of_one}
use Rattle.row_map.proofs.geometry.way_area.Goals as goal

pub area_of-requires : goal.area_of-requires
area_of-requires g c = record {
  pieces =
      subst ArePieces (sym (c.in_ok-pieces.ensures.lines ∙ ap option_to_list c.in_ok-line.ensures.line))
      (pieces_of_one (g.L.Lookup.known c.args.lookup.now).place c.args.nodes.now);
}
