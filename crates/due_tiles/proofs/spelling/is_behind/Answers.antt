use Rattle.std.proofs.Common.{◌-◌, length, arith}
use Rattle.due_tiles.proofs.Reading.{behind_is}
use Rattle.due_tiles.proofs.spelling.is_behind.Goals as goal

pub returns : goal.returns
returns c =
    let runs = c.as_slice-runs.result.now in
    record {
      behind = rw (← c.as_slice-runs.ensures.runs) (behind_is runs c.args.run (length runs - 1)
          (record { zoom = 0; y = 0; first = 0; last = 0 }) c.follows.result c.as_slice-runs.ensures.tiles (omega arith)
          c.follows.ensures.follows);
    }
