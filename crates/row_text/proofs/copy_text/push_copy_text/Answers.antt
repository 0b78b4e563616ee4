use Rattle.std.proofs.Common.{rules}
use Rattle.row_text.proofs.Escapes.{plain}
use Rattle.row_text.proofs.copy_text.push_copy_text.Goals as goal

pub returns : goal.returns
returns c = record { text = rw (plain c.args.text.now (search rules)) (search rules) }
