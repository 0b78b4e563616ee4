use Rattle.std.proofs.Common.{◌++◌, ◌∙◌, ap}
use Rattle.opl_lines.specs.Lines.{lines_of}
use Rattle.opl_lines.specs.Reading.{Reading, begun}
use Rattle.opl_files.specs.Progress.{entries_from}
use Rattle.opl_files.proofs.WholeFile.{entries_of-start}
use Rattle.opl_files.proofs.progress.Progress.new.Goals as goal

pub returns-clause-start : goal.returns-clause-start
returns-clause-start c = λ bytes.
    ap (λ (reader : Reading). entries_from c.args.limits.now c.new-2.result (lines_of (begun reader ++ bytes))) c.new.ensures.start
    ∙ entries_of-start c.args.limits.now c.new-2.result bytes c.new-2.ensures.fields
