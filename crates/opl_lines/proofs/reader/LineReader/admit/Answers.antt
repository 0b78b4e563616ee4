use Rattle.opl_lines.proofs.TakeLemmas.{passes_as_grows, refuses}
use Rattle.opl_lines.proofs.reader.LineReader.admit.Goals as goal

pub returns-in-None-clause-line_bytes : goal.returns-in-None-clause-line_bytes
returns-in-None-clause-line_bytes c =
    let alike = passes_as_grows c.args.self.now c.args.piece.now _ _ c.refusal.ensures.limits.within_line
    c.up_to_newline-ends.ensures.front in (
      λ is. absurd (cc),
      λ passes. absurd (let is = c.in-None.ensures.line_bytes.1 (alike.0 passes) in cc),
    )

pub returns-in-Some-clause-err : goal.returns-in-Some-clause-err
returns-in-Some-clause-err c =
    refuses c.args.self.now _ c.args.piece.now _ _ c.in-Some.fault c.self.view_is c.refusal.ensures.limits c.requires.some
    c.up_to_newline-ends.ensures.front c.in-Some.ensures.line_bytes.0 c.in-Some.ensures.file_lines.0 c.in-Some.ensures.memory

pub returns-in-Some-clause-line_bytes : goal.returns-in-Some-clause-line_bytes
returns-in-Some-clause-line_bytes c =
    let alike = passes_as_grows c.args.self.now c.args.piece.now _ _ c.refusal.ensures.limits.within_line
    c.up_to_newline-ends.ensures.front in (
      λ is. alike.1 (c.in-Some.ensures.line_bytes.0 (cc)),
      λ passes. let is = c.in-Some.ensures.line_bytes.1 (alike.0 passes) in cc,
    )
