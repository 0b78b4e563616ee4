use Rattle.std.proofs.Common.{subst, sym}
use Rattle.piece_ends.specs.Pieces.{ArePieces}
use Rattle.row_map.proofs.Joinable.{pieces_in}
use Rattle.row_map.proofs.pieces.pieces_of.Goals as goal

pub returns-clause-are : goal.returns-clause-are
returns-clause-are g c = subst ArePieces (sym c.in_ok-lines_of.ensures.lines)
    (pieces_in (g.L.Lookup.known c.args.lookup.now).place (g.L.Lookup.known c.args.lookup.now).object c.deref.result.now)
