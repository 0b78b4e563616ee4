-- What is left on one side of an id is known by it.
use Rattle.std.proofs.Common.{◌<◌, length, get_or, arith}
use Rattle.object_fold.proofs.SortedIds.{not_has_gap}
use Rattle.placed_objects.proofs.Searched.{all_greater, all_less}
use Rattle.placed_objects.proofs.search.stand_of.Goals as goal

pub loop-low-preserved-then-rises : goal.loop-low-preserved-then-rises
loop-low-preserved-then-rises c =
    let so-far = c.loop-low.invariant in
    let place = c.next_place-place.result in
    let inside : place < length c.args.ids.now = omega (arith, c.next_place-place.ensures.high, so-far.within) in
    record {
      order = omega (arith, c.next_place-place.ensures.high);
      within = so-far.within;
      less = λ k before. all_less c.args.ids.now c.requires c.args.id place k inside c.if-rises.true (omega (arith, before));
      greater = so-far.greater;
    }

pub loop-low-preserved : goal.loop-low-preserved
loop-low-preserved c =
    let so-far = c.loop-low.invariant in
    let place = c.next_place-place.result in
    let here : c.args.id < get_or c.args.ids.now place 0 = omega (arith, c.if-own-id.false, c.if-rises.false) in
    record {
      order = c.next_place-place.ensures.low;
      within = omega (arith, c.next_place-place.ensures.high, so-far.within);
      less = so-far.less;
      greater = λ k from within. all_greater c.args.ids.now c.requires c.args.id place k here from within;
    }

pub returns-clause-none : goal.returns-clause-none
returns-clause-none c = λ _.
    let so-far = c.loop-low.invariant in
    not_has_gap c.args.ids.now c.loop-low.low c.args.id (record {
      within = omega (arith, so-far.order, so-far.within);
      less = so-far.less;
      greater = λ k from within. so-far.greater k (omega (arith, from, c.loop-low-test.false)) within;
    })
