use Rattle.std.proofs.Common.{◌∙◌, sym}
use Rattle.opl_object.proofs.OneMeaning.{skipped_reads}
use Rattle.opl_object.proofs.line.read_line_exactly.Goals as goal

pub returns-then-is_skipped : goal.returns-then-is_skipped
returns-then-is_skipped c = record { exact = skipped_reads c.args.line.now (sym c.is_skipped.ensures.value ∙ c.if-is_skipped.true) }
