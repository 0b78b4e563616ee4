use Rattle.demo_map.proofs.StyleText.{reading-DEMO_STYLE}
use Rattle.demo_map.proofs.laws.style_is_read.Goals as goal

pub returns : goal.returns
returns c = record { read = reading-DEMO_STYLE }
