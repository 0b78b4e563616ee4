use Rattle.std.proofs.Common.{◌≡◌, ◌-◌, ◌++◌, None}
use Rattle.std.specs.List.{range_with_len}
use Rattle.object_fold.specs.Change.{Follows, last_key}
use Rattle.demo_map.specs.Demo.{squares}
use Rattle.demo_map.specs.Parts.{first_of, made_by}
use Rattle.demo_map.proofs.parts.keep_part.Given as goal

-- what is kept, and then what is made of the squares that are left, is all of it; and the next square may come
abbrev pub invariant-loop-square : goal.invariant-loop-square
invariant-loop-square l = record {
  kept : l.change ++ made_by l.part l.squares.count (range_with_len l.square (l.squares.count - l.square)) ≡ l.fn.change ++ made_by l.part l.squares.count (squares l.squares.count);
  follows : Follows (last_key None l.change) (first_of l.part l.square);
}
