use Rattle.std.proofs.Common.{sym, subst}
use Rattle.store_check.specs.Places.{AreOwn}
use Rattle.store_check.proofs.places.Places.new.Goals as goal

pub invariant_of-result : goal.invariant_of-result
invariant_of-result c = record {
  some = c.at_least_one.ensures;
  own = subst (AreOwn c.at_least_one.result 0) (sym c.new.ensures.items) tt;
}
