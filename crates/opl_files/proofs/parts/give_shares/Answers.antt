use Rattle.std.proofs.Common.{[], drop, rules, subst, take, arith}
use Rattle.std.proofs.lemmas.List.{length-drop}
use Rattle.opl_files.specs.Parts.{AreShares, TakesLines}
use Rattle.opl_files.proofs.PartLaws.{takes_share, shares_behind}
use Rattle.opl_files.proofs.parts.give_shares.Goals as goal

pub loop-len-preserved : goal.loop-len-preserved
loop-len-preserved g c =
    let after = g.K.Keeper.after in
    let limits = c.args.limits.now in
    let bytes = c.args.bytes.now in
    let used = c.loop-len.used in
    let share = c.in-Some.field-0 in
    let shares = subst (λ own. AreShares limits (drop used bytes) own) c.in-Some.ensures.steps.0 c.loop-len.invariant.shares in
    let part = shares.1 in
    let lines : TakesLines after limits c.loop-len.passed c.loop-len.keeper (take share.len (drop used bytes)) c.give_part.new.passed
    c.give_part.new.keeper [] = search (rules, part) in
    record {
      within = omega (arith, shares.0, length-drop used bytes, c.loop-len.invariant.within);
      goes = c.in_ok-rest.ensures.goes;
      shares = shares_behind limits bytes used share.len c.next.new.self.rest.items shares.2;
      lines = takes_share after limits c.args.passed.now c.args.keeper.now c.loop-len.passed c.loop-len.keeper c.give_part.new.passed
          c.give_part.new.keeper bytes used share.len c.loop-len.invariant.lines lines;
    }
