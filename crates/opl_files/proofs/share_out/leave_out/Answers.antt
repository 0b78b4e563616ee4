use Rattle.std.proofs.Common.{◌≡◌, ◌+◌, ◌<◌, suc, ◌∙◌, ap, sym, subst, arith, take, length}
use Rattle.opl_files.specs.Parts.{AreShares}
use Rattle.opl_files.proofs.ShareLaws.{bytes_of, shares_of, whole_more}
use Rattle.opl_files.proofs.share_out.leave_out.Goals as goal

pub loop-whole-preserved : goal.loop-whole-preserved
loop-whole-preserved c =
    let whole = c.loop-whole.whole in
    let within : whole < length c.args.shares.now.items = omega (arith, c.if-whole-len.true, c.len.ensures) in
    record {
      pieces = omega (arith, c.loop-whole-test.true);
      shares = omega (arith, within);
      whole = whole_more c.args.pieces.now c.args.shares.now.items whole _ c.index.result.now c.loop-whole-test.true within
          c.loop-whole.invariant.whole c.index.ensures c.if-index-pieces.false;
    }

pub returns : goal.returns
returns c =
    let pieces = c.args.pieces.now in
    let shares = c.args.shares.now.items in
    let whole = c.loop-whole.whole in
    let next : whole + 1 ≡ suc whole = omega arith in
    let left = ap (λ n. take n shares) (sym next) ∙ sym c.truncate.ensures.items in
    record {
      shares = λ limits each. subst (AreShares limits (bytes_of pieces)) left
          (shares_of limits pieces shares whole each c.loop-whole.invariant.whole);
    }
