use Rattle.std.proofs.Common.{◌≡◌, ◌++◌, true, length}
use Rattle.std.specs.List.{list_all}
use Rattle.delta_feed.specs.Hexes.{bytes_of, is_digit}
use Rattle.delta_feed.proofs.hexes.add_bytes.Given as goal

-- the bytes so far stand before those of the digits that are left
abbrev pub invariant-loop-rest : goal.invariant-loop-rest
invariant-loop-rest l = record {
  read : l.bytes.items ++ bytes_of l.rest ≡ l.fn.bytes.items ++ bytes_of l.digits;
  digits : list_all is_digit l.rest ≡ true;
}

abbrev pub decreases-loop-rest : goal.decreases-loop-rest
decreases-loop-rest l = length l.rest
