use Rattle.std.proofs.Common.{◌≡◌, ◌++◌, sym, ◌∙◌, ap}
use Rattle.std.proofs.lemmas.List.{append-nil}
use Rattle.std.proofs.lemmas.Result.{err_from_is_err_and}
use Rattle.std.specs.Option.{option_to_list}
use Rattle.opl_lines.specs.Takes.{ended_line}
use Rattle.opl_lines.specs.Whole.{texts}
use Rattle.opl_lines.proofs.Walk.{refused_limit, walks_on, texts-push}
use Rattle.opl_lines.proofs.whole.take_piece.Goals as goal
use Rattle.opl_lines.proofs.whole.take_piece.Goals.{in-Some+in_ok-from_slice+in_ok-push, in_default}

pub loop-rest-preserved : goal.loop-rest-preserved
loop-rest-preserved c =
    let before = texts c.loop-rest.lines.items in
    let line = ended_line c.in_ok-cut.cut.line c.take_line.new.self.line in
    let added : texts c.match-bytes.lines.items ≡ before ++ option_to_list line =
    elim c.match-bytes.branch [
      | in-Some+in_ok-from_slice+in_ok-push w ↦
          ap (λ lines. texts lines.items) w.lines-is
          ∙ texts-push c.loop-rest.lines.items w.push.new.self.items w.in_ok-from_slice.field-0 w.in-Some.line.now
          w.in_ok-push.ensures.items w.in_ok-from_slice.ensures.items
          ∙ ap (λ line. before ++ option_to_list line) w.in-Some.ensures.line
      | in_default w ↦
          ap (λ lines. texts lines.items) w.lines-is
          ∙ sym (append-nil before)
          ∙ ap (λ line. before ++ option_to_list line) w.in_default.ensures.line
    ] in
    walks_on c.loop-rest.reader c.take_line.new.self c.loop-rest.rest.now c.in_ok-cut.cut.used c.args.reader.now
    (texts c.args.lines.now.items) before (texts c.match-bytes.lines.items)
    c.args.piece.now c.split_at.result.1.now line c.in_ok-cut.ensures.ok c.split_at.ensures.back added c.loop-rest.invariant

-- the limit that stops the reader is the one that is passed from the start
pub returns-in_err-cut-clause-err : goal.returns-in_err-cut-clause-err
returns-in_err-cut-clause-err c =
    let p = err_from_is_err_and c.from_residual.result c.from_residual.ensures.1 in
    rw (p.1, p.2) (λ memory later. sym (c.loop-rest.invariant.limit_kept later)
    ∙ refused_limit c.loop-rest.reader c.take_line.new.self c.loop-rest.rest.now c.in_err-cut.field-0.0 c.in_err-cut.ensures.err
    c.loop-rest.invariant.no_fault memory later)
