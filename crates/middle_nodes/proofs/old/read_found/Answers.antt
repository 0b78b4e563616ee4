use Rattle.std.proofs.Common.{ap}
use Rattle.std.specs.Option.{option_copied}
use Rattle.middle_nodes.proofs.old.read_found.Goals as goal

pub returns-in-Err : goal.returns-in-Err
returns-in-Err c = record { reads = (c.in-Some.bytes.now, ap (λ o. option_copied o) c.in-Some.is, c.in-Err.ensures.refused) }
