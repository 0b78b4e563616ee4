use Rattle.std.proofs.Common.{◌∙◌, ◌++◌, List, ℕ, ap}
use Rattle.run_promise.specs.Courses.{count_line}
use Rattle.updater.proofs.TableTexts.{text_more}
use Rattle.updater.proofs.summary.push_counts.Goals as goal

pub loop-table-preserved : goal.loop-table-preserved
loop-table-preserved c =
    let line = count_line c.as_slice-definitions.result.now c.args.tables.now c.loop-table.table in
    c.in_ok-push_count.ensures.text ∙ ap (λ (own : List ℕ). own ++ line) c.loop-table.invariant
    ∙ text_more (count_line c.as_slice-definitions.result.now c.args.tables.now) c.loop-table.table c.args.out.now.items
