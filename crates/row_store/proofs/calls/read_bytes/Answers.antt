use Rattle.std.proofs.Common.{ap}
use Rattle.std.specs.Option.{option_copied}
use Rattle.row_store.proofs.calls.read_bytes.Goals as goal

pub returns-in-Err-clause-reads : goal.returns-in-Err-clause-reads
returns-in-Err-clause-reads c = (c.in-Some.bytes.now, ap (λ o. option_copied o) c.in-Some.is, c.in-Err.ensures.refused)
