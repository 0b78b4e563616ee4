use Rattle.std.proofs.Common.{arith}
use Rattle.tile_cover.proofs.Lone.{some_segment}
use Rattle.tile_cover.proofs.inside.start_of_line.Goals as goal

pub returns : goal.returns
returns c = record { some = λ columns. some_segment columns c.args.places.now (omega arith) }
