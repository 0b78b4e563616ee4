use Rattle.std.proofs.Common.{arith, sym, take}
use Rattle.std.proofs.lemmas.List.{map-append}
use lib.Lanes.{chunk}
use Rattle.lanes_geo.specs.Box.{meets}
use Rattle.lanes_geo.proofs.Marks.{four_more}
use Rattle.lanes_geo.proofs.boxes.boxes_meet.Goals as goal

pub fours-preserved : goal.fours-preserved
fours-preserved c =
    let more = four_more c.args.boxes.now c.fours.at (omega arith) in (
      omega arith,
      omega (arith, c.mark_four.auto.mask),
      rw (c.mark_four.ensures, c.fours.invariant.2, more)
          (sym (map-append (meets c.args.asked) (take c.fours.at c.args.boxes.now) (chunk c.fours.at 4 c.args.boxes.now))),
    )
