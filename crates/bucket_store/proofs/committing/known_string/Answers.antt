-- By arithmetic.
use Rattle.bucket_store.proofs.BucketLaws.{bucket_string}
use Rattle.bucket_store.proofs.committing.known_string.Goals as goal

pub returns : goal.returns
returns c = bucket_string c.args._buckets c.args._n c.requires
