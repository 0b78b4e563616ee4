use Rattle.std.proofs.Common.{◌≡◌, ◌+◌, ◌*◌, ◌-◌, ◌<◌, ◌++◌, None, subst, arith}
use Rattle.std.specs.Prelude.{flat_map}
use Rattle.std.specs.List.{range_with_len}
use Rattle.osm_base.specs.values.Key.{node_key}
use Rattle.object_fold.specs.Change.{Follows, last_key}
use Rattle.demo_map.specs.Demo.{nodes_of, squares}
use Rattle.demo_map.proofs.PartLists.{added, nodes-next}
use Rattle.demo_map.proofs.parts.keep_all_nodes.Goals as goal

pub loop-square-preserved : goal.loop-square-preserved
loop-square-preserved c =
    let count = c.args.squares.count in
    let square = c.loop-square.square in
    let inside : square < count = omega arith in
    let later : 4 * square + 5 ≡ 4 * (square + 1) + 1 = omega arith in
    record {
      kept = added c.loop-square.change (nodes_of square) (flat_map nodes_of (range_with_len (square + 1) (count - (square + 1))))
          c.keep_nodes.new.change (flat_map nodes_of (range_with_len square (count - square)))
          (c.args.change.now ++ flat_map nodes_of (squares count)) c.loop-square.invariant.kept (nodes-next count square inside)
          c.in_ok-keep_nodes.ensures.ok;
      follows = subst (λ id. Follows (last_key None c.keep_nodes.new.change) (node_key id)) later c.in_ok-keep_nodes.ensures.next;
    }
