use Rattle.std.proofs.Common.{cond, [], sym, ◌∙◌, ap, subst}
use Rattle.opl_lines.specs.Lines.{lines_of, IsWithinLine}
use Rattle.opl_lines.specs.Reading.{begun}
use Rattle.opl_lines.proofs.LineLemmas.{lines_of-none, lines_of-last}
use Rattle.opl_lines.proofs.reader.LineReader.finish.Goals as goal

pub returns-then-self-clause-lines : goal.returns-then-self-clause-lines
returns-then-self-clause-lines c =
    ap lines_of (ap begun (sym c.self.view_is) ∙ ap (λ whole. cond whole [] c.self.inside.line.items) c.if-self.true) ∙ lines_of-none

pub returns-clause-lines : goal.returns-clause-lines
returns-clause-lines c =
    let open_line = ap (λ whole. cond whole [] c.self.inside.line.items) c.if-self.false in
    ap lines_of (ap begun (sym c.self.view_is) ∙ open_line)
    ∙ lines_of-last c.self.inside.line.items (subst IsWithinLine open_line c.self.invariant.within_line)
    (c.self.invariant.has_bytes c.if-self.false)
