use Rattle.std.proofs.Common.{◌≡◌, ◌++◌, drop, map}
use Rattle.row_text.specs.Numbered.{seen}
use Rattle.map_query.specs.Answer.{numbered}
use Rattle.map_query.proofs.near.with_numbers.Given as goal

-- what is copied, and then what is left, is all
abbrev pub invariant-loop-own : goal.invariant-loop-own
invariant-loop-own l = l.rows ++ numbered l.style l.table (map seen (drop l.own-index l.ordered))
    ≡ numbered l.style l.table (map seen l.ordered)
