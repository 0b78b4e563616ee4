-- The first record that is not below the key.
use Rattle.std.proofs.Common.{arith}
use Rattle.bucket_records.proofs.MapLaws.{keys_from}
use Rattle.bucket_records.proofs.searching.seek.Goals as goal

pub returns-then-own-key-clause-place : goal.returns-then-own-key-clause-place
returns-then-own-key-clause-place c = record {
  within = c.loop-place.invariant.0;
  below = c.loop-place.invariant.2;
  from = λ k high inside.
      keys_from c.args.records.now c.args.key c.loop-place.place c.front-own.ensures.rise
      (omega (arith, c.front-own.ensures.key, c.if-own-key.true)) k high inside;
}
