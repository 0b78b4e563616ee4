use Rattle.opl_object.proofs.OneMeaning.{each_line}
use Rattle.opl_object.proofs.line.one_meaning.Goals as goal

pub returns : goal.returns
returns c = record { one = each_line }
