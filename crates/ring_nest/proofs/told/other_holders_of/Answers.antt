use Rattle.std.proofs.Common.{◌≡◌, ◌∙◌, ap, arith, length, refl}
use Rattle.lanes_geo.specs.Nesting.{ring_at}
use Rattle.ring_nest.specs.Holders.{numbers_of}
use Rattle.ring_nest.specs.Told.{other_holders}
use Rattle.ring_nest.proofs.Marked.{others_are}
use Rattle.ring_nest.proofs.told.other_holders_of.Goals as goal

pub returns : goal.returns
returns c =
    let rings = c.args.asked.now.rings.now in
    let known = c.args.asked.now.known.now in
    let found : length c.add_holders.new.found.items ≡ other_holders rings known.marks.items (ring_at rings c.args.asked.now.number) =
    ap length (c.in_ok-add_holders.ensures ∙ rw c.new-found.ensures.items refl)
    ∙ others_are rings known.marks.items (numbers_of known.others) (ring_at rings c.args.asked.now.number) c.args.asked.now.is_known.marked c.args.asked.now.is_known.all_others in
    record { count = omega (arith, found, c.len.ensures, c.add_holders.new.found.ok.0) }
