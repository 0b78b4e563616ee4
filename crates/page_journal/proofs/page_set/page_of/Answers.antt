use Rattle.page_journal.proofs.Padding.{page_made}
use Rattle.page_journal.proofs.page_set.page_of.Goals as goal

pub returns : goal.returns
returns c = page_made c.args.bytes.now c.copy_from_slice.new.self c.copy_from_slice.ensures.after
