use Rattle.std.proofs.Common.{◌≡◌, ◌++◌, drop}
use Rattle.chain_store.specs.Parts.{given}
use Rattle.chain_store.proofs.parts.give_all.Given as goal

abbrev pub invariant-loop-part : goal.invariant-loop-part
invariant-loop-part l = l.spare.items ++ given (drop l.part-index l.parts) ≡ l.initial.spare.items ++ given l.parts
