use Rattle.style_read.proofs.Texts.{behind-stripped}
use Rattle.style_read.proofs.text.behind.Goals as goal

pub returns : goal.returns
returns c = record { rest = behind-stripped c.args.front.now c.args.text.now c.strip_prefix.result c.strip_prefix.ensures.cases }
