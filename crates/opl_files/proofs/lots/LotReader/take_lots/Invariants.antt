use Rattle.std.proofs.Common.{◌≡◌, List, ℕ, Option}
use Rattle.opl_files.specs.Lots.{IsThere, MayTakeLot}
use Rattle.outside.specs.Reads.{ReadsNoOther}
use Rattle.opl_files.proofs.lots.LotReader.take_lots.Given as goal

-- so far was read since the start
abbrev pub invariant-loop : goal.invariant-loop
invariant-loop g l = record {
  ready : MayTakeLot g.K.Keeper.takes l.limits l.self l.keeper;
  lot : l.self.ahead.lot ≡ l.fn.self.ahead.lot;
  lots : (first : _) (start : Option (List ℕ)) → IsThere g.K.Keeper.after l.limits first l.fn.self l.fn.keeper start ((g.I.Inputs.view l.fn.inputs).left l.file)
      → IsThere g.K.Keeper.after l.limits first l.self l.keeper start ((g.I.Inputs.view l.inputs).left l.file);
  alone : ReadsNoOther l.file (λ asked. g.I.Inputs.reads l.fn.inputs asked l.inputs) (g.I.Inputs.view l.fn.inputs)
      (g.I.Inputs.view l.inputs);
}
