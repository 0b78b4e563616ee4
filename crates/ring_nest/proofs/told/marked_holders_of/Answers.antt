use Rattle.std.proofs.Common.{rules, arith, ◌≡◌, ◌∙◌, ◌+◌, ◌∷◌, false, true, length, refl, sym, ◌<◌}
use Rattle.lanes_geo.specs.Crossing.{odd}
use Rattle.lanes_geo.specs.Nesting.{ring_at}
use Rattle.ring_nest.specs.Told.{Tells, is_marked, marked_holders}
use Rattle.ring_nest.proofs.Near.{begins, behind_first, mark_with, ring_with, told_by}
use Rattle.ring_nest.proofs.told.marked_holders_of.Goals as goal
use Rattle.ring_nest.proofs.told.marked_holders_of.Goals.{else-index-via-then-index+else-crosses_odd, else-index-via-else-index}

both : (c : goal.Then-crosses_odd) → marked_holders c.args.asked.now.rings.now c.args.asked.now.known.now.marks.items (ring_at c.args.asked.now.rings.now c.args.asked.now.number) + 1 ≡ c.inside_at-inside.result
both c =
    let rings = c.args.asked.now.rings.now in
    let marks = c.args.asked.now.known.now.marks.items in
    let ring : c.as_slice-ring.result.now ≡ ring_at rings c.args.asked.now.number = c.as_slice-ring.ensures.items
    ∙ sym c.index-asked-asked.is ∙ ring_with rings c.args.asked.now.number c.index-asked-asked.result c.index-asked-asked.is c.args.asked.now.within in
    let own : ring_at rings c.args.asked.now.number ≡ c.place-item.result ∷ behind_first c.as_slice-ring.result.now =
    sym ring ∙ begins c.as_slice-ring.result.now c.place-item.result c.in-len1-up.len_at_least c.place-item.is in
    let tells : Tells rings marks c.args.asked.now.number c.place-item.result = search rules in
    let mark : is_marked marks c.args.asked.now.number ≡ true =
    mark_with marks c.args.asked.now.number c.index.result.now true c.index.ensures (omega (arith, c.args.asked.now.within, c.args.asked.now.is_known.marked)) c.if-index.true in
    let crossed : odd (ring_at rings c.args.asked.now.number) c.place-item.result ≡ true = rw ring at (sym c.crosses_odd.ensures ∙ c.if-crosses_odd.true) in
    told_by rings marks c.args.asked.now.number c.place-item.result (behind_first c.as_slice-ring.result.now) c.inside_at-inside.result true true c.args.asked.now.is_known.marked
    c.args.asked.now.within c.args.asked.now.boxed own c.in-Some.ensures.1.1 tells c.inside_at-inside.ensures mark crossed

pub overflow_sub-result : goal.overflow_sub-result
overflow_sub-result c = omega (arith, both c)

pub returns-then-crosses_odd : goal.returns-then-crosses_odd
returns-then-crosses_odd c = omega (arith, both c)

pub returns : goal.returns
returns c =
    let rings = c.args.asked.now.rings.now in
    let marks = c.args.asked.now.known.now.marks.items in
    let ring : c.as_slice-ring.result.now ≡ ring_at rings c.args.asked.now.number = c.as_slice-ring.ensures.items
    ∙ sym c.index-asked-asked.is ∙ ring_with rings c.args.asked.now.number c.index-asked-asked.result c.index-asked-asked.is c.args.asked.now.within in
    let own : ring_at rings c.args.asked.now.number ≡ c.place-item.result ∷ behind_first c.as_slice-ring.result.now =
    sym ring ∙ begins c.as_slice-ring.result.now c.place-item.result c.in-len1-up.len_at_least c.place-item.is in
    let tells : Tells rings marks c.args.asked.now.number c.place-item.result = search rules in
    let within : c.args.asked.now.number < length marks = omega (arith, c.args.asked.now.within, c.args.asked.now.is_known.marked) in
    elim c.else-index.branch [
      | else-index-via-then-index+else-crosses_odd w ↦
          let mark : is_marked marks c.args.asked.now.number ≡ true = mark_with marks c.args.asked.now.number c.index.result.now true c.index.ensures within w.if-index.true in
          let crossed : odd (ring_at rings c.args.asked.now.number) c.place-item.result ≡ false = rw ring at (sym w.crosses_odd.ensures ∙ w.if-crosses_odd.false) in
          let all = told_by rings marks c.args.asked.now.number c.place-item.result (behind_first c.as_slice-ring.result.now) c.inside_at-inside.result true false
          c.args.asked.now.is_known.marked c.args.asked.now.within c.args.asked.now.boxed own c.in-Some.ensures.1.1 tells c.inside_at-inside.ensures mark crossed in
          omega (arith, all)
      | else-index-via-else-index w ↦
          let mark : is_marked marks c.args.asked.now.number ≡ false = mark_with marks c.args.asked.now.number c.index.result.now false c.index.ensures within w.if-index.false in
          let all = told_by rings marks c.args.asked.now.number c.place-item.result (behind_first c.as_slice-ring.result.now) c.inside_at-inside.result false
          (odd (ring_at rings c.args.asked.now.number) c.place-item.result)
          c.args.asked.now.is_known.marked c.args.asked.now.within c.args.asked.now.boxed own c.in-Some.ensures.1.1 tells c.inside_at-inside.ensures mark refl in
          omega (arith, all)
    ]
