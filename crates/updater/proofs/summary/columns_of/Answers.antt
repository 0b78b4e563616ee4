use Rattle.std.proofs.Common.{◌≤◌, ◌^◌, arith}
use Rattle.std.proofs.Math.Nat.{pow-le-pow_right}
use Rattle.updater.proofs.summary.columns_of.Goals as goal

pub returns : goal.returns
returns c =
    let run = c.requires.run in
    let bound : 2 ^ c.args.run.zoom ≤ 2 ^ 16 = pow-le-pow_right {n = 2} (omega arith) run.shallow in
    record {
      columns = omega (arith, c.from.ensures, run.ordered);
      few = omega (arith, c.from.ensures, run.ordered, run.column, bound);
    }
