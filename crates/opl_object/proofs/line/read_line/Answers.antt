use Rattle.std.proofs.Common.{◌∙◌, sym}
use Rattle.opl_object.proofs.Promises.{found_spells, again_gives, found_fault, fault_gives, never_order}
use Rattle.opl_object.proofs.OneMeaning.{skipped_reads}
use Rattle.opl_object.proofs.Writable.{found_writable}
use Rattle.opl_object.proofs.line.read_line.Goals as goal

pub returns-then-is_skipped-clause-exact : goal.returns-then-is_skipped-clause-exact
returns-then-is_skipped-clause-exact c = skipped_reads c.args.line.now (sym c.is_skipped.ensures.value ∙ c.if-is_skipped.true)

pub returns-clause-spelled : goal.returns-clause-spelled
returns-clause-spelled c = found_spells c.args.line.now c.read_counted.result c.read_counted.ensures.exact

pub returns-clause-read : goal.returns-clause-read
returns-clause-read c = λ entry s. again_gives c.args.line.now entry c.read_counted.result s c.read_counted.ensures.exact

pub returns-clause-in_order : goal.returns-clause-in_order
returns-clause-in_order c = λ earlier later e.
    never_order c.args.line.now earlier later c.read_counted.result c.read_counted.ensures.exact e

pub returns-clause-writable : goal.returns-clause-writable
returns-clause-writable c = found_writable c.args.line.now c.read_counted.result
    (found_spells c.args.line.now c.read_counted.result c.read_counted.ensures.exact)

pub returns-then-is_skipped-clause-refused : goal.returns-then-is_skipped-clause-refused
returns-then-is_skipped-clause-refused c = λ why f. absurd (f.counts (sym c.is_skipped.ensures.value ∙ c.if-is_skipped.true))

pub returns-clause-fault : goal.returns-clause-fault
returns-clause-fault c = found_fault c.args.line.now c.read_counted.result c.read_counted.ensures.exact

pub returns-clause-refused : goal.returns-clause-refused
returns-clause-refused c = λ why f. fault_gives c.args.line.now why c.read_counted.result f c.read_counted.ensures.exact
