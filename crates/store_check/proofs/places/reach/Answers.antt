use Rattle.std.proofs.Common.{sym, ap, subst, ◌∙◌}
use Rattle.store_check.specs.Places.{AreOwn, joined_lists}
use Rattle.store_check.proofs.PlaceLists.{joined_more, own_more}
use Rattle.store_check.proofs.places.reach.Goals as goal

pub loop-alloc-preserved : goal.loop-alloc-preserved
loop-alloc-preserved c = record {
  same = ap joined_lists c.in_ok-push.ensures.items ∙ joined_more c.loop-alloc.lists.items c.new.result c.new.ensures.empty
      ∙ c.loop-alloc.invariant.same;
  own = λ count own. subst (AreOwn count 0) (sym c.in_ok-push.ensures.items)
      (own_more count c.loop-alloc.lists.items c.new.result c.new.ensures.empty (c.loop-alloc.invariant.own count own));
}
