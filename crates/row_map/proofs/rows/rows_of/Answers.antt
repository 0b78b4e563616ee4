use Rattle.std.proofs.Common.{◌∙◌}
use Rattle.row_rules.proofs.TableRows.{rows_known-suffices}
use Rattle.row_map.proofs.rows.rows_of.Goals as goal

pub returns-clause-rows : goal.returns-clause-rows
returns-clause-rows g c objects suffices =
    c.in_ok-known_rows.ensures.rows ∙ rows_known-suffices c.args.style.now (g.L.Lookup.known c.args.lookup.now) c.args.key objects suffices
