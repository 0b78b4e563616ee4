use Rattle.std.proofs.Common.{◌≡◌, ◌++◌, map}
use Rattle.std.specs.Vec.Iter.{into_iter_items}
use Rattle.chain_store.proofs.planning.directories_of.Given as goal

abbrev pub invariant-loop-one : goal.invariant-loop-one
invariant-loop-one l = record {
  pages : map (λ one. one.pages.items) l.directories.items ++ map (λ one. one.pages) (into_iter_items l.one-iterator)
      ≡ map (λ one. one.pages) l.fn.laid.items;
  bytes : map (λ one. one.bytes.items) l.directories.items ++ map (λ one. one.bytes) (into_iter_items l.one-iterator)
      ≡ map (λ one. one.bytes) l.fn.laid.items;
}
