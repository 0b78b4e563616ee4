-- Where the reading is over, the transaction is as it was left.
use Rattle.std.proofs.Common.{rules}
use Rattle.store_check.proofs.FindsLaws.{finds_there}
use Rattle.store_check.proofs.searching.wrong_there.Goals as goal

pub returns-clause-wrong : goal.returns-clause-wrong
returns-clause-wrong g c = finds_there (search rules) c.wrong_read.ensures.wrong
