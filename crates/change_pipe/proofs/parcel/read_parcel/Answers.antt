use Rattle.std.proofs.Common.{rules}
use Rattle.change_pipe.proofs.Ended.{ended_refused}
use Rattle.change_pipe.proofs.parcel.read_parcel.Goals as goal

pub returns-in-Err-clause-parcel : goal.returns-in-Err-clause-parcel
returns-in-Err-clause-parcel g c = record {
  number = search rules;
  body = search rules;
  at_end = search rules;
  ended = ended_refused _ c.args.limits.now _ _ c.in-Err.ensures.left;
  rose = search rules;
}
