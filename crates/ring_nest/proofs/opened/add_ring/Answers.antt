use Rattle.ring_nest.proofs.Measured.{none_more, one_more}
use Rattle.ring_nest.proofs.opened.add_ring.Goals as goal

pub returns-in_ok-push-in-Some : goal.returns-in_ok-push-in-Some
returns-in_ok-push-in-Some c = record {
  measured = λ rings so_far.
      let one = rw c.in-Some.is at c.in_ok-minus.ensures.sides in
      rw (
        c.in_ok-push-in-Some.ensures.items,
        c.in_ok-extend_from_slice-in-Some.ensures.items,
        c.in_ok-extend_from_slice-in-Some-2.ensures.items,
        c.deref.ensures.value,
        c.deref-in-Some.ensures.value,
      )
      (one_more rings c.args.opened.now.marks.items c.args.opened.now.minus.items c.args.opened.now.plus.items c.in-Some.minus.items c.in-Some.plus.items
      c.args.ring.now so_far one);
}

pub returns-in_ok-push-in-None : goal.returns-in_ok-push-in-None
returns-in_ok-push-in-None c = record {
  measured = λ rings so_far.
      rw c.in_ok-push-in-None.ensures.items
      (none_more rings c.args.opened.now.marks.items c.args.opened.now.minus.items c.args.opened.now.plus.items c.args.ring.now so_far);
}
