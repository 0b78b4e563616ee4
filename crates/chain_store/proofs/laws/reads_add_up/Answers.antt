use Rattle.chain_store.proofs.Counted.{pages_read-empty, within_call, within_on}
use Rattle.chain_store.proofs.laws.reads_add_up.Goals as goal

pub returns-clause-begun : goal.returns-clause-begun
returns-clause-begun g c = pages_read-empty

pub returns-clause-call : goal.returns-clause-call
returns-clause-call g c = λ end n old new before after.
    within_call end n old new (g.D.Disk.view before) (g.D.Disk.view after)

pub returns-clause-on : goal.returns-clause-on
returns-clause-on g c = λ old mid new before between after.
    within_on old mid new (g.D.Disk.view before) (g.D.Disk.view between) (g.D.Disk.view after)
