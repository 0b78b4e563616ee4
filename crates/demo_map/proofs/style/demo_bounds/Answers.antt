use Rattle.demo_map.proofs.BoundsText.{never_bad, read_is}
use Rattle.demo_map.proofs.style.demo_bounds.Goals as goal

pub unreachable-requires : goal.unreachable-requires
unreachable-requires c =
    never_bad c.bounds_text.result.now c.in-Err-Bad.field-0 c.in-Err-Bad.field-0-0 c.bounds_text.ensures.text c.in-Err-Bad.field-0-is
    c.in-Err-Bad.ensures.bad

pub returns-in-Ok : goal.returns-in-Ok
returns-in-Ok c =
    record { bounds = read_is c.bounds_text.result.now c.in-Ok.bounds c.bounds_text.ensures.text c.in-Ok.ensures.table c.in-Ok.ensures.lats }
