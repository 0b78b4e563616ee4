use Rattle.std.proofs.Common.{◌++◌, ◌+◌, ◌-◌, ◌∷◌, [], ◌∙◌, List, ℕ, ap, sym}
use Rattle.std.proofs.lemmas.Grind.{flat_map-append}
use Rattle.std.proofs.lemmas.List.{append-nil}
use Rattle.due_tiles.specs.Levels.{level_text, levels_text}
use Rattle.due_tiles.specs.TileText.{tile_text, zoom_text, zooms_text}
use Rattle.due_tiles.proofs.Numbers.{text_step, zooms-step}
use Rattle.due_tiles.proofs.levels.levels_of.Goals as goal

pub loop-level-preserved : goal.loop-level-preserved
loop-level-preserved c =
    let runs = c.args.runs.now in
    let zoom = c.loop-level.level in
    let old = levels_text c.loop-level.levels.items in
    text_step old (zoom_text runs zoom) (zooms_text runs (zoom + 1) (17 - (zoom + 1))) (levels_text c.push.new.self.items)
    (tile_text runs c.args.least)
    (ap levels_text c.in_ok-push.ensures.items ∙ flat_map-append level_text c.loop-level.levels.items (c.in_ok-level_of.field-0 ∷ [])
    ∙ ap (λ own. old ++ own) (append-nil (level_text c.in_ok-level_of.field-0) ∙ c.in_ok-level_of.ensures.text))
    (ap (λ (lines : List ℕ). old ++ lines) (sym (zooms-step runs zoom c.loop-level-test.true)) ∙ c.loop-level.invariant)
