use Rattle.page_journal.proofs.Counting.{zeros-zero}
use Rattle.page_journal.proofs.numbers.NumberPage.new.Goals as goal

pub returns-clause-zero : goal.returns-clause-zero
returns-clause-zero c = zeros-zero 4096
