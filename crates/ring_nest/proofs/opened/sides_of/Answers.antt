use Rattle.ring_nest.proofs.Measured.{opens_down, opens_up}
use Rattle.ring_nest.proofs.opened.sides_of.Goals as goal

pub returns-then-branch : goal.returns-then-branch
returns-then-branch c = record {
  sides =
      let opens = rw (c.deref.ensures.value, c.in_ok-down.ensures, c.deref-2.ensures.value, c.in_ok-up.ensures)
      at (c.in_ok-opens_in.ensures.opens c.if-branch.true) in
      rw (c.in_ok-down.ensures, c.in_ok-up.ensures) (opens_up c.args.ring.now c.requires.places opens);
}

pub returns-then-branch-2 : goal.returns-then-branch-2
returns-then-branch-2 c = record {
  sides =
      let opens = rw (c.deref-3.ensures.value, c.in_ok-up.ensures, c.deref-4.ensures.value, c.in_ok-down.ensures)
      at (c.in_ok-opens_in-2.ensures.opens c.if-branch-2.true) in
      rw (c.in_ok-up.ensures, c.in_ok-down.ensures) (opens_down c.args.ring.now c.requires.places opens);
}
