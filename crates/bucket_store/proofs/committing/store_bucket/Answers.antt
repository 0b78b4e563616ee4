-- The chain of a changed bucket is written with its bytes.
use Rattle.std.proofs.Common.{◌∙◌}
use Rattle.chain_store.specs.Chains.{written_of}
use Rattle.bucket_store.proofs.Writings.{not_false, written_one}
use Rattle.bucket_store.proofs.committing.store_bucket.Goals as goal

pub returns-in-Ok-store_over-clause-written : goal.returns-in-Ok-store_over-clause-written
returns-in-Ok-store_over-clause-written g c =
    written_one (written_of c.args.chains.now)
    (written_of c.store_over.new.self) c.args.n c.args.cached c.from_vec-2.result c.in-Ok-store_over.ensures.puts.written
    (c.from_vec-2.ensures.items ∙ c.in-Ok.ensures.bytes) (not_false c.args.cached.changed c.if-not-cached.false)
