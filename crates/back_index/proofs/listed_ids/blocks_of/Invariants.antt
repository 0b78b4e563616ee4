use Rattle.std.proofs.Common.{◌≡◌, map, take}
use Rattle.store_maps.specs.Maps.{block_of}
use Rattle.back_index.proofs.listed_ids.blocks_of.Given as goal

-- the blocks of the nodes so far
abbrev pub invariant-loop-node : goal.invariant-loop-node
invariant-loop-node l = l.blocks.items ≡ map block_of (take l.node-index l.nodes)
