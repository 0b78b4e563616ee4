use Rattle.std.proofs.Common.{refl}
use Rattle.due_tiles.proofs.Numbers.{lines_of_zoom}
use Rattle.due_tiles.proofs.levels.level_of.Goals as goal

pub returns : goal.returns
returns c = record {
  text = lines_of_zoom c.args.runs.now c.args.zoom.level c.in_ok-numbers.numbers c.in_ok-numbers.numbers c.requires.runs refl
      c.in_ok-numbers.ensures.rise c.in_ok-numbers.ensures.listed;
}
