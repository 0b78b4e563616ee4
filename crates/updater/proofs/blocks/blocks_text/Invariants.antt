use Rattle.std.proofs.Common.{◌≡◌, ◌+◌, ◌++◌, drop}
use Rattle.std.specs.String.{string_bytes}
use Rattle.updater.specs.Blocks.{given_blocks}
use Rattle.updater.proofs.blocks.blocks_text.Given as goal

-- what is written, and then the blocks that are left, are all
abbrev pub invariant-loop-rounds : goal.invariant-loop-rounds
invariant-loop-rounds l =
    (l.reader ≡ l.rounds-index) × (string_bytes l.out ++ given_blocks (l.reader + 1) (drop l.rounds-index l.blocks)
    ≡ given_blocks 1 l.blocks)
