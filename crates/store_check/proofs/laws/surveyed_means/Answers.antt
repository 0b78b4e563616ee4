use Rattle.store_check.proofs.Loads.{surveyed_means}
use Rattle.store_check.proofs.laws.surveyed_means.Goals as goal

pub returns : goal.returns
returns c = record { means = surveyed_means }
