use Rattle.page_journal.proofs.Uniqueness.{one_home}
use Rattle.page_journal.proofs.laws.home_is_one.Goals as goal

pub returns : goal.returns
returns c = one_home
