use Rattle.std.proofs.Common.{Ok, ap, sym, ◌∙◌}
use Rattle.style_read.specs.Reading.{reading}
use Rattle.demo_map.proofs.StyleText.{reading-DEMO_STYLE}
use Rattle.demo_map.proofs.style.demo_style.Goals as goal

pub returns-clause-read : goal.returns-clause-read
returns-clause-read c =
    ap reading (c.from_vec.ensures.items ∙ c.in_ok-bytes.ensures.items ∙ c.style_text.ensures.text) ∙ reading-DEMO_STYLE
    ∙ ap Ok (sym c.in_ok-style.ensures.style)
