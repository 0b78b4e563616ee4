use Rattle.std.proofs.Common.{◌≡◌, ◌++◌, map}
use Rattle.std.specs.List.{All}
use Rattle.std.specs.Vec.Iter.{into_iter_items}
use Rattle.chain_store.specs.Firsts.{MayFill, filled}
use Rattle.chain_store.proofs.firsts.fill_all.Given as goal

abbrev pub invariant-loop-directory : goal.invariant-loop-directory
invariant-loop-directory l = record {
  all : l.parts.items ++ map (filled l.count l.laid) (into_iter_items l.directory-iterator)
      ≡ map (filled l.count l.laid) l.fn.directories.items;
  may : All (MayFill l.count) (into_iter_items l.directory-iterator);
}
