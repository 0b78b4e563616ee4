use Rattle.tile_cover.specs.Runs.{IsRun}
use Rattle.due_tiles.proofs.Reading.{all_at}
use Rattle.due_tiles.proofs.joining.first_run.Goals as goal

pub returns-clause-run : goal.returns-clause-run
returns-clause-run c =
    all_at IsRun c.args.part.runs.now 0 (record { zoom = 0; y = 0; first = 0; last = 0 }) c.args.part.set.each c.requires.some
