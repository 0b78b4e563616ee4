use Rattle.std.proofs.Common.{◌++◌, ◌+◌, ◌-◌, List, ℕ, sym, ap, ◌∙◌}
use Rattle.due_tiles.specs.TileText.{tile_text, zoom_text, zooms_text}
use Rattle.due_tiles.proofs.Numbers.{text_step, zooms-step}
use Rattle.due_tiles.proofs.tile_text.tile_lines.Goals as goal

pub loop-level-preserved : goal.loop-level-preserved
loop-level-preserved c =
    let runs = c.args.runs.now in
    let zoom = c.loop-level.level in
    text_step c.loop-level.text.items (zoom_text runs zoom) (zooms_text runs (zoom + 1) (17 - (zoom + 1))) c.push_zoom.new.text.items
    (tile_text runs c.args.least) c.in_ok-push_zoom.ensures.ok
    (ap (λ (lines : List ℕ). c.loop-level.text.items ++ lines) (sym (zooms-step runs zoom c.loop-level-test.true)) ∙ c.loop-level.invariant)
