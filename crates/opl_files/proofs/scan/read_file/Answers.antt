use Rattle.opl_files.proofs.Accepted.{HasEntries-IsAccepted}
use Rattle.opl_files.proofs.WholeFile.{ReadsAll-HasEntries}
use Rattle.opl_files.proofs.scan.read_file.Goals as goal

pub returns-clause-ok : goal.returns-clause-ok
returns-clause-ok g c =
    ReadsAll-HasEntries c.args.limits.now c.new-change.result c.scan_file.new.keeper _ _ c.new-change.ensures.empty
    c.in_ok-scan_file.ensures.ok

pub returns-clause-accepted : goal.returns-clause-accepted
returns-clause-accepted g c =
    HasEntries-IsAccepted c.args.limits.now c.scan_file.new.keeper _ _
    (ReadsAll-HasEntries c.args.limits.now c.new-change.result c.scan_file.new.keeper _ _ c.new-change.ensures.empty
    c.in_ok-scan_file.ensures.ok)
