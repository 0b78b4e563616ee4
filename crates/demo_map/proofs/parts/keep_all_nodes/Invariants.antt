use Rattle.std.proofs.Common.{◌≡◌, ◌+◌, ◌*◌, ◌-◌, ◌++◌, None}
use Rattle.std.specs.Prelude.{flat_map}
use Rattle.std.specs.List.{range_with_len}
use Rattle.osm_base.specs.values.Key.{node_key}
use Rattle.object_fold.specs.Change.{Follows, last_key}
use Rattle.demo_map.specs.Demo.{nodes_of, squares}
use Rattle.demo_map.proofs.parts.keep_all_nodes.Given as goal

-- what is kept, and then the nodes of the squares that are left, is all of it; and the next square may come
abbrev pub invariant-loop-square : goal.invariant-loop-square
invariant-loop-square l = record {
  kept : l.change ++ flat_map nodes_of (range_with_len l.square (l.fn.squares.count - l.square)) ≡ l.fn.change ++ flat_map nodes_of (squares l.fn.squares.count);
  follows : Follows (last_key None l.change) (node_key (4 * l.square + 1));
}
