use Rattle.run_promise.proofs.EndLaws.{imported_well}
use Rattle.run_promise.proofs.laws.imports_end_well.Goals as goal

pub returns : goal.returns
returns c = record {
  imported = λ old store files buckets workers kept ending comes well.
      imported_well old ending well store files buckets workers kept comes;
}
