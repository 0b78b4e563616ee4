use Rattle.update_step.proofs.KeyedLists.{found_here, found_later}
use Rattle.update_step.proofs.turns.find_row.Goals as goal

pub returns-then-own-table : goal.returns-then-own-table
returns-then-own-table c =
    record {
      row = found_here c.args.rows.now c.loop-own.own-index c.args.table c.own-item.result c.loop-own-test.true c.own-item.is
          c.loop-own.invariant c.if-own-table.true;
    }

pub loop-own-preserved : goal.loop-own-preserved
loop-own-preserved c = found_later c.args.rows.now c.loop-own.own-index c.args.table c.own-item.result c.loop-own-test.true c.own-item.is
    c.loop-own.invariant c.if-own-table.false
