use Rattle.opl_files.proofs.Accepted.{HasEntries-IsAccepted}
use Rattle.opl_files.proofs.WholeFile.{ReadsAll-HasEntries}
use Rattle.opl_files.proofs.lots.read_by_lots.Goals as goal

pub returns-clause-ok : goal.returns-clause-ok
returns-clause-ok g c =
    ReadsAll-HasEntries c.args.limits.now c.new-change.result c.scan_by_lots.new.keeper _ _ c.new-change.ensures.empty
    c.in_ok-scan_by_lots.ensures.ok

pub returns-clause-accepted : goal.returns-clause-accepted
returns-clause-accepted g c =
    HasEntries-IsAccepted c.args.limits.now c.scan_by_lots.new.keeper _ _
    (ReadsAll-HasEntries c.args.limits.now c.new-change.result c.scan_by_lots.new.keeper _ _ c.new-change.ensures.empty
    c.in_ok-scan_by_lots.ensures.ok)
