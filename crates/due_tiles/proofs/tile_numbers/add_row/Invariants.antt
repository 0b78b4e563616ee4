use Rattle.std.proofs.Common.{◌≡◌, ◌%◌, ◌/◌, ◌==◌, ◌&&◌, ◌||◌, ℕ, nat_le, nat_lt}
use Rattle.osm_base.specs.values.Ids.{has}
use Rattle.due_tiles.proofs.tile_numbers.add_row.Given as goal

-- the numbers of the columns so far
abbrev pub invariant-loop-x : goal.invariant-loop-x
invariant-loop-x l =
    (number : ℕ) → has l.numbers.items number
    ≡ ((l.y == number % l.side && (nat_le l.first (number / l.side) && nat_lt (number / l.side) l.x)) || has l.initial.numbers.items
    number)
