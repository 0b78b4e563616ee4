use Rattle.std.proofs.Common.{◌≡◌, ◌+◌, drop}
use Rattle.chain_store.specs.Parts.{growth}
use Rattle.chain_store.proofs.parts.growth_all.Given as goal

abbrev pub invariant-loop-part : goal.invariant-loop-part
invariant-loop-part l = l.total + growth (drop l.part-index l.parts) ≡ growth l.parts
