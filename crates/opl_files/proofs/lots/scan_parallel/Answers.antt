use Rattle.std.proofs.Common.{arith}
use Rattle.opl_files.proofs.LotLaws.{no_further}
use Rattle.opl_files.proofs.Pieces.{on_err}
use Rattle.opl_files.proofs.lots.scan_parallel.Goals as goal

pub returns-in_err-scan_file-clause-left : goal.returns-in_err-scan_file-clause-left
returns-in_err-scan_file-clause-left g c =
    on_err c.from_residual.result _
    (no_further c.args.limits.now _ ((g.I.Inputs.view c.args.inputs.now).left c.args.file)
    ((g.I.Inputs.view c.scan_file.new.inputs).left c.args.file) (omega arith) c.in_err-scan_file.ensures.left)
