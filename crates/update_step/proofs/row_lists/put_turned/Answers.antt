use Rattle.std.proofs.Common.{subst}
use Rattle.update_step.proofs.RowsStill.{same-set}
use Rattle.update_step.proofs.row_lists.put_turned.Goals as goal

pub returns-then-not-turned-clause-holds : goal.returns-then-not-turned-clause-holds
returns-then-not-turned-clause-holds g c under maps held still =
    subst (g.S.MapStore.holds c.args.store.now under)
    (same-set maps c.args.key.kind c.args.key.id c.args.new.now (still c.if-not-turned.true)) held
