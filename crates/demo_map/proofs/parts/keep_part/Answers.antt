use Rattle.std.proofs.Common.{◌+◌, ◌-◌, ◌<◌, ◌++◌, arith}
use Rattle.std.specs.List.{range_with_len}
use Rattle.demo_map.specs.Demo.{squares}
use Rattle.demo_map.specs.Parts.{made_by, made_of}
use Rattle.demo_map.proofs.PartLists.{added, made_by-next}
use Rattle.demo_map.proofs.parts.keep_part.Goals as goal

pub loop-square-preserved : goal.loop-square-preserved
loop-square-preserved c =
    let part = c.args.part in
    let count = c.args.squares.count in
    let square = c.loop-square.square in
    let inside : square < count = omega arith in
    record {
      kept = added c.loop-square.change (made_of part count square) (made_by part count (range_with_len (square + 1) (count - (square + 1))))
          c.keep_of.new.change (made_by part count (range_with_len square (count - square))) (c.args.change.now ++ made_by part count (squares count))
          c.loop-square.invariant.kept (made_by-next part count square inside) c.in_ok-keep_of.ensures.ok;
      follows = c.in_ok-keep_of.ensures.next;
    }
