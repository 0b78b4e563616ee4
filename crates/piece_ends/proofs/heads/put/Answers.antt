use Rattle.std.proofs.Common.{◌∙◌}
use Rattle.piece_ends.proofs.PlaceTree.{found, inserted}
use Rattle.piece_ends.proofs.heads.put.Goals as goal

pub returns-clause-old : goal.returns-clause-old
returns-clause-old c = c.in_ok-insert.ensures.old ∙ found c.args.place c.args.heads.now.entries

pub returns-clause-ok : goal.returns-clause-ok
returns-clause-ok c =
    inserted c.args.heads.now c.insert.new.self c.args.place c.args.number c.in_ok-insert.ensures.updates
