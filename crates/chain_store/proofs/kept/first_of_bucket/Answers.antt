use Rattle.std.proofs.Common.{◌*◌, sym, arith}
use Rattle.chain_store.proofs.NumberLaws.{number-beyond}
use Rattle.chain_store.proofs.kept.first_of_bucket.Goals as goal

pub returns-then-directory-bucket : goal.returns-then-directory-bucket
returns-then-directory-bucket c = sym (number-beyond c.args.directory.now (8 * c.args.bucket) (omega (arith, c.requires.whole.1)))
