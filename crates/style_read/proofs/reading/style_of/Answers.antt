use Rattle.std.proofs.Common.{length, map, ap, arith}
use Rattle.toml.specs.View.{view}
use Rattle.style_read.proofs.Own.{is_style}
use Rattle.style_read.proofs.reading.style_of.Goals as goal

pub invariant_of-result : goal.invariant_of-result
invariant_of-result c =
    let parts = map view c.selections_of-parts.result.now in
    let tables = map view c.tables_of.result.now in
    rw (c.in_ok-selections.ensures.selections, c.in_ok-tables.ensures.tables)
    (is_style parts tables (omega (arith, c.requires.selections, ap length c.selections_of-parts.ensures.selections))
    (omega (arith, c.requires.tables, ap length c.tables_of.ensures.tables)))
