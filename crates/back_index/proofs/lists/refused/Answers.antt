-- The transaction has refused a call, and has what it had.
use Rattle.back_index.proofs.Chained.{has_same}
use Rattle.back_index.proofs.lists.refused.Goals as goal

pub returns-in-NotSpelled-clause-marks : goal.returns-in-NotSpelled-clause-marks
returns-in-NotSpelled-clause-marks g c = record {
  chains = c.refuse.ensures.chains;
  refused = c.refuse.ensures.refused;
  has = λ rest now has. has_same rest now c.args.buckets.now c.refuse.new.self c.refuse.ensures.chains c.refuse.ensures.cached has;
}

pub returns-in-OutOfMemory-clause-marks : goal.returns-in-OutOfMemory-clause-marks
returns-in-OutOfMemory-clause-marks g c = record {
  chains = c.refuse.ensures.chains;
  refused = c.refuse.ensures.refused;
  has = λ rest now has. has_same rest now c.args.buckets.now c.refuse.new.self c.refuse.ensures.chains c.refuse.ensures.cached has;
}
