use Rattle.value_bytes.proofs.WholeRowLaws.{row_front, row_no_cells, row_no_geometry}
use Rattle.value_bytes.proofs.row.front_row.Goals as goal
use Rattle.value_bytes.proofs.Fronts.{needs_more}

pub returns-in-Err-clause-refused : goal.returns-in-Err-clause-refused
returns-in-Err-clause-refused c = needs_more c.in-Err.fault (row_no_cells c.args.columns c.args.bytes.now) c.in-Err.ensures.refused

pub returns-in-Err-front-clause-refused : goal.returns-in-Err-front-clause-refused
returns-in-Err-front-clause-refused c =
    needs_more c.in-Err-front.fault (row_no_geometry c.args.columns c.args.bytes.now c.in-Ok.found.0 c.in-Ok.found.1.now
    c.in-Ok.ensures.values)
    c.in-Err-front.ensures.refused

pub returns-clause-row : goal.returns-clause-row
returns-clause-row c =
    row_front c.args.columns c.args.bytes.now c.in-Ok.found.1.now c.in-Ok-front.found.1.now _ c.in-Ok.ensures.values
    c.in-Ok-front.ensures.value
