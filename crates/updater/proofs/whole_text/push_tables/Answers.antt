use Rattle.std.proofs.Common.{◌∙◌, ◌++◌, List, ℕ, ap}
use Rattle.run_promise.specs.Courses.{named_text}
use Rattle.updater.proofs.TableTexts.{text_more}
use Rattle.updater.proofs.whole_text.push_tables.Goals as goal

pub loop-table-preserved : goal.loop-table-preserved
loop-table-preserved c =
    let text = named_text c.args.style.now c.args.tables.now c.loop-table.table in
    c.in_ok-push_table.ensures.text ∙ ap (λ (own : List ℕ). own ++ text) c.loop-table.invariant
    ∙ text_more (named_text c.args.style.now c.args.tables.now) c.loop-table.table c.args.out.now.items
