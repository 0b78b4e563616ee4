use Rattle.std.proofs.Common.{refl, arith}
use Rattle.ring_nest.proofs.Woven.{opens_halves}
use Rattle.ring_nest.proofs.opening.+opens_in.Goals as goal

pub opens_in-requires : goal.opens_in-requires
opens_in-requires t c = let within = c.in_ok-middle.ensures.within in omega (arith, within)

pub opens_in-requires-2 : goal.opens_in-requires-2
opens_in-requires-2 t c = let within = c.in_ok-middle.ensures.within in omega (arith, within)

pub returns : goal.returns
returns t c = record {
  opens = λ e.
      opens_halves c.args.band.low c.in_ok-middle.middle c.args.band.high c.args.minus.now c.args.plus.now
      c.deref.result.now c.deref-2.result.now c.deref-3.result.now c.deref-4.result.now
      (rw (c.deref.ensures.value, c.in_ok-south_minus.ensures) refl) (rw (c.deref-2.ensures.value, c.in_ok-south_plus.ensures) refl)
      (rw (c.deref-3.ensures.value, c.in_ok-north_minus.ensures) refl) (rw (c.deref-4.ensures.value, c.in_ok-north_plus.ensures) refl)
      (c.in_ok-opens_in.ensures.opens c.if-not-branch.false) (c.in_ok-opens.ensures.opens e);
}
