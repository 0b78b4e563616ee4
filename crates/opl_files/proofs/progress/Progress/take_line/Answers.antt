use Rattle.std.proofs.Common.{ℕ, ◌++◌, List, drop, sym, ◌∙◌, ap, subst}
use Rattle.std.proofs.lemmas.Result.{err_from_is_err_and}
use Rattle.opl_lines.specs.Takes.{Takes}
use Rattle.opl_files.specs.declared.progress.Progress.{Progress}
use Rattle.opl_files.specs.Keeps.{kept_all}
use Rattle.opl_files.specs.Passed.{spelled}
use Rattle.opl_files.specs.Progress.{entries_left, passed_line}
use Rattle.opl_files.proofs.Lines.{took_part, took_line, stopped_at_line, stopped_at_limit, StopsAt-weaker}
use Rattle.opl_files.proofs.progress.Progress.take_line.Goals as goal
use Rattle.opl_files.proofs.progress.Progress.take_line.Goals.{in-Some+in_ok-add_line, in_default}

pub returns-in-Err-clause-stopped : goal.returns-in-Err-clause-stopped
returns-in-Err-clause-stopped g c =
    stopped_at_limit g.K.Keeper.after c.args.keeper.now c.args.limits.now c.args.self.now c.requires.ready.ready c.take_line.new.self
    c.args.piece.now
    c.in-Err.fault c.limit_fault.result c.limit_fault.ensures.line_bytes c.limit_fault.ensures.file_lines c.limit_fault.ensures.memory
    c.in-Err.ensures.err

pub returns-in_err-add_line-clause-stopped : goal.returns-in_err-add_line-clause-stopped
returns-in_err-add_line-clause-stopped g c =
    let takes = subst (Takes c.args.self.now.reader c.take_line.new.self c.args.piece.now c.in-Ok.cut.used)
    (sym c.in-Some.ensures.line) c.in-Ok.ensures.ok in
    let p = err_from_is_err_and c.from_residual.result c.from_residual.ensures.1 in
    rw (p.1, p.2) (StopsAt-weaker _ _ c.in_err-add_line.field-0.0
    (λ own cause. stopped_at_line g.K.Keeper.after c.args.keeper.now c.args.limits.now c.args.self.now c.requires.ready.ready
    c.take_line.new.self c.args.piece.now c.in-Ok.cut.used c.in-Some.line.now takes own cause)
    c.in_err-add_line.ensures.stopped)

pub returns-clause-entries : goal.returns-clause-entries
returns-clause-entries g c =
    let left = λ (keeper : g.row.K.Denot) (own : Progress) (later : List ℕ).
    kept_all g.K.Keeper.after keeper (entries_left c.args.limits.now own later) in
    let old = c.args.self.now in
    let new = c.take_line.new.self in
    let rest = drop c.in-Ok.cut.used c.args.piece.now in
    λ later. elim c.match-bytes.branch [
      | in-Some+in_ok-add_line w ↦
          let line = w.in-Some.line.now in
          let takes = subst (Takes old.reader new c.args.piece.now c.in-Ok.cut.used) (sym w.in-Some.ensures.line) c.in-Ok.ensures.ok in
          took_line g.K.Keeper.after c.args.keeper.now c.args.limits.now old c.requires.ready.ready new c.args.piece.now c.in-Ok.cut.used
          line takes w.in_ok-add_line.ensures.ok later
          ∙ ap (λ keeper. left keeper (record { reader = new; passed = passed_line old.passed (spelled line) }) (rest ++ later))
          (sym w.in_ok-add_line.ensures.kept ∙ sym w.keeper-is)
          ∙ ap (λ passed. left c.match-bytes.keeper (record { reader = new; passed = passed }) (rest ++ later))
          (sym w.in_ok-add_line.ensures.passed)
          ∙ ap (λ own. left c.match-bytes.keeper own (rest ++ later)) (sym w.self-is)
      | in_default w ↦
          let takes = subst (Takes old.reader new c.args.piece.now c.in-Ok.cut.used) (sym w.in_default.ensures.line) c.in-Ok.ensures.ok in
          took_part g.K.Keeper.after c.args.keeper.now c.args.limits.now old c.requires.ready.ready new c.args.piece.now c.in-Ok.cut.used
          takes later
          ∙ ap (λ keeper. left keeper (record { reader = new; passed = old.passed }) (rest ++ later)) (sym w.keeper-is)
          ∙ ap (λ own. left c.match-bytes.keeper own (rest ++ later)) (sym w.self-is)
    ]
