use Rattle.bucket_store.proofs.Needs.{needs_one}
use Rattle.bucket_store.proofs.laws.one_number_is_needed.Goals as goal

pub returns : goal.returns
returns c = needs_one
