use Rattle.std.proofs.Common.{rules}
use Rattle.std.proofs.lemmas.Str.{encodes-chars}
use Rattle.row_text.proofs.row.push_text.Goals as goal

pub returns : goal.returns
returns c = record { text = rw (encodes-chars c.args.text.now c.utf8.text) (search rules) }
