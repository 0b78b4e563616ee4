use Rattle.opl_files.proofs.Accepted.{HasEntries-IsAccepted}
use Rattle.opl_files.proofs.WholeFile.{ReadsAll-HasEntries}
use Rattle.opl_files.proofs.lots.read_parallel.Goals as goal

pub returns-clause-ok : goal.returns-clause-ok
returns-clause-ok g c =
    ReadsAll-HasEntries c.args.limits.now c.new-change.result c.scan_parallel.new.keeper _ _ c.new-change.ensures.empty
    c.in_ok-scan_parallel.ensures.ok

pub returns-clause-accepted : goal.returns-clause-accepted
returns-clause-accepted g c =
    HasEntries-IsAccepted c.args.limits.now c.scan_parallel.new.keeper _ _
    (ReadsAll-HasEntries c.args.limits.now c.new-change.result c.scan_parallel.new.keeper _ _ c.new-change.ensures.empty
    c.in_ok-scan_parallel.ensures.ok)
