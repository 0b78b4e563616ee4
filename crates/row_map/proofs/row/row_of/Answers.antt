use Rattle.std.proofs.Common.{◌∙◌}
use Rattle.row_rules.proofs.Locality.{row_from-suffices}
use Rattle.row_map.proofs.row.row_of.Goals as goal

pub returns-clause-row : goal.returns-clause-row
returns-clause-row g c objects suffices =
    c.in_ok-known_row.ensures.row ∙ row_from-suffices c.args.style.now c.args.table c.args.key
    (g.L.Lookup.known c.args.lookup.now) objects suffices
