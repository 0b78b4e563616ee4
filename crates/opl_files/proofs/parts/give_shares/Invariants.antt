use Rattle.std.proofs.Common.{◌≤◌, [], length, drop, take}
use Rattle.opl_files.specs.Parts.{AreShares, GoesOn, TakesLines}
use Rattle.opl_files.proofs.parts.give_shares.Given as goal

-- the shares that are left are those of the bytes that are left
abbrev pub invariant-loop-len : goal.invariant-loop-len
invariant-loop-len g l = record {
  within : l.used ≤ length l.bytes;
  goes : GoesOn g.K.Keeper.takes l.limits l.passed l.keeper;
  shares : AreShares l.limits (drop l.used l.bytes) l.len-iterator.rest.items;
  lines : TakesLines g.K.Keeper.after l.limits l.fn.passed l.fn.keeper (take l.used l.bytes) l.passed l.keeper [];
}
