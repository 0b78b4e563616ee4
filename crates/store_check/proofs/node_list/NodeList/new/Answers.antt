use Rattle.std.proofs.Common.{[], sym, subst, arith}
use Rattle.std.specs.List.Sorted.{IsNonDecreasingBy}
use Rattle.std.proofs.lemmas.List.Sorted.{IsNonDecreasingBy-short}
use Rattle.store_check.specs.Places.{id_of}
use Rattle.store_check.proofs.node_list.NodeList.new.Goals as goal

pub invariant_of-result : goal.invariant_of-result
invariant_of-result c = subst (IsNonDecreasingBy id_of) (sym c.new.ensures.items) (IsNonDecreasingBy-short id_of [] (omega arith))
