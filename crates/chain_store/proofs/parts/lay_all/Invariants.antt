use Rattle.std.proofs.Common.{◌≡◌, ◌++◌, ◌≤◌, length}
use Rattle.std.specs.Vec.Iter.{into_iter_items}
use Rattle.chain_store.specs.Parts.{growth, laid_all}
use Rattle.chain_store.proofs.parts.lay_all.Given as goal

abbrev pub invariant-loop-part : goal.invariant-loop-part
invariant-loop-part l = record {
  all : l.laid.items ++ laid_all (into_iter_items l.part-iterator) l.rest ≡ laid_all l.fn.parts.items l.pool;
  enough : growth (into_iter_items l.part-iterator) ≤ length l.rest;
}
