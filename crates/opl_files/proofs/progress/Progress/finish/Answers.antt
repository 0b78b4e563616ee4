use Rattle.std.proofs.Common.{◌<◌, ◌≤◌, List, [], ◌∷◌, ℕ, length, sym, ◌∙◌, ap, arith}
use Rattle.std.specs.Prelude.{Ok}
use Rattle.std.proofs.lemmas.Result.{err_from_is_err_and}
use Rattle.opl_lines.specs.Reading.{Reading}
use Rattle.opl_files.proofs.Lines.{finished, stopped_at_last, finished_before, StopsAt-weaker}
use Rattle.opl_files.proofs.progress.Progress.finish.Goals as goal
use Rattle.opl_files.proofs.progress.Progress.finish.Goals.{then-finish+in_ok-add_line, else-finish}

pub returns-clause-kept : goal.returns-clause-kept
returns-clause-kept g c =
    elim c.if-finish.branch [
      | then-finish+in_ok-add_line w ↦
          let ended = w.if-finish.ensures.ended in
          let counted : c.args.self.passed.lines < c.args.limits.now.lines
          = omega (
            arith,
            c.requires.ready.ready.counted,
            w.if-finish.ensures.limits.counted,
            ap (λ (own : Reading). own.number) ended,
            ap (λ (own : Reading). own.lines) ended,
            c.requires.ready.ready.lines,
          ) in
          let short : length w.line-line.result.now ≤ c.args.limits.now.line_bytes
          = omega (arith, w.if-finish.ensures.fits, ap length w.line-line.ensures.line, c.requires.ready.ready.line_bytes) in
          let last = w.if-finish.ensures.lines ∙ ap (λ (line : List ℕ). line ∷ []) (sym w.line-line.ensures.line) in
          finished g.K.Keeper.after c.args.keeper.now c.args.limits.now c.args.self c.requires.ready.ready w.line-line.result.now last
          counted short w.in_ok-add_line.ensures.ok
          ∙ ap Ok (sym w.in_ok-add_line.ensures.kept ∙ sym w.keeper-is)
      | else-finish w ↦
          finished_before g.K.Keeper.after c.args.keeper.now c.args.limits.now c.args.self c.requires.ready.ready w.if-finish.ensures.lines
          ∙ ap Ok (sym w.keeper-is)
    ]

pub returns-in_err-add_line-clause-stopped : goal.returns-in_err-add_line-clause-stopped
returns-in_err-add_line-clause-stopped g c =
    let ended = c.if-finish.ensures.ended in
    let counted : c.args.self.passed.lines < c.args.limits.now.lines
    = omega (
      arith,
      c.requires.ready.ready.counted,
      c.if-finish.ensures.limits.counted,
      ap (λ (own : Reading). own.number) ended,
      ap (λ (own : Reading). own.lines) ended,
      c.requires.ready.ready.lines,
    ) in
    let short : length c.line-line.result.now ≤ c.args.limits.now.line_bytes
    = omega (arith, c.if-finish.ensures.fits, ap length c.line-line.ensures.line, c.requires.ready.ready.line_bytes) in
    let last = c.if-finish.ensures.lines ∙ ap (λ (line : List ℕ). line ∷ []) (sym c.line-line.ensures.line) in
    let p = err_from_is_err_and c.from_residual.result c.from_residual.ensures.1 in
    rw (p.1, p.2) (StopsAt-weaker _ _ c.in_err-add_line.field-0.0
    (stopped_at_last g.K.Keeper.after c.args.keeper.now c.args.limits.now c.args.self c.requires.ready.ready c.line-line.result.now last
    counted short)
    c.in_err-add_line.ensures.stopped)
