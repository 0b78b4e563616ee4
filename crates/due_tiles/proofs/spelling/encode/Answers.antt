use Rattle.std.proofs.Common.{◌++◌, List, ℕ, get_or, sym, ap, ◌∙◌, arith}
use Rattle.tile_cover.specs.declared.runs.Run.{Run}
use Rattle.due_tiles.specs.Spelling.{run_bytes, set_bytes}
use Rattle.due_tiles.proofs.Same.{all_taken_runs, one_list}
use Rattle.due_tiles.proofs.Reading.{set_bytes-more}
use Rattle.due_tiles.proofs.spelling.encode.Goals as goal

pub loop-run-preserved : goal.loop-run-preserved
loop-run-preserved c =
    let runs = c.as_slice-runs.result.now in
    let none : Run = record { zoom = 0; y = 0; first = 0; last = 0 } in
    c.in_ok-push_run.ensures.ok
    ∙ ap (λ (own : List ℕ). own ++ run_bytes (get_or runs c.loop-run.run-index none)) c.loop-run.invariant
    ∙ sym (set_bytes-more runs c.loop-run.run-index none c.loop-run-test.true)

pub returns-clause-one : goal.returns-clause-one
returns-clause-one c = λ other set same.
    let runs = c.as_slice-runs.result.now in
    let all = all_taken_runs runs c.loop-run.run-index (omega (arith, c.loop-run-test.false)) in
    let bytes = c.from_vec.ensures.items ∙ c.loop-run.invariant ∙ ap set_bytes (all ∙ c.as_slice-runs.ensures.runs) in
    ap set_bytes (one_list other c.args.runs.now set (rw c.as_slice-runs.ensures.runs at c.as_slice-runs.ensures.tiles) same) ∙ sym bytes
