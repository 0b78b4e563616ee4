use Rattle.std.proofs.Common.{◌++◌, List, ℕ, ap, ◌∙◌}
use Rattle.due_tiles.proofs.Numbers.{lines_of_zoom}
use Rattle.due_tiles.proofs.tile_text.push_zoom.Goals as goal

pub returns : goal.returns
returns c = record {
  ok = c.in_ok-push_lines.ensures.ok
      ∙ ap (λ (lines : List ℕ). c.args.text.now.items ++ lines)
      (lines_of_zoom c.args.runs.now c.args.zoom.level c.in_ok-numbers.numbers c.as_slice.result.now c.requires.runs c.as_slice.ensures.ids
      c.as_slice.ensures.rise c.in_ok-numbers.ensures.listed);
}
