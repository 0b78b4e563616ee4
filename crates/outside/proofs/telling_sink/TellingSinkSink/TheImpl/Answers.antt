use Rattle.std.proofs.Common.{ℕ, List, Option, Result, Ok, Err, None}
use Rattle.std.specs.Io.KnownBytes.{WriteAppends}
use Rattle.outside.proofs.telling_sink.TellingSinkSink.TheImpl.Goals as goal

-- of a sink that tells no bytes nothing is said
untold : {E : Type 0} (result : Result ℕ E) (new : Option (List ℕ)) (piece : List ℕ) → WriteAppends None new result piece
untold (Ok count) new piece = tt
untold (Err error) new piece = tt

pub put-tells : goal.put-tells
put-tells g c = record {
  some = c.ensures.some;
  bytes = untold c.result None c.args.piece.now;
  cause = c.ensures.cause;
}
