use Rattle.std.proofs.Common.{subst}
use Rattle.std.specs.Prelude.{Err}
use Rattle.style_read.specs.Reading.{Gives, reading}
use Rattle.demo_map.proofs.StyleText.{never_bad, read_is}
use Rattle.demo_map.proofs.style.known_style.Goals as goal

pub unreachable-requires : goal.unreachable-requires
unreachable-requires c =
    never_bad c.style_text.result.now c.in-Err-Bad.field-0-0 c.in-Err-Bad.field-0-1 c.style_text.ensures.text
    (subst (λ fault. Gives (Err fault) (reading c.style_text.result.now)) c.in-Err-Bad.field-0-is c.in-Err-Bad.ensures.exact)

pub returns-in-Ok : goal.returns-in-Ok
returns-in-Ok c = record { style = read_is c.style_text.result.now c.in-Ok.style c.style_text.ensures.text c.in-Ok.ensures.exact }
