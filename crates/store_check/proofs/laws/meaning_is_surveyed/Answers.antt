use Rattle.store_check.proofs.Meaning.{all_loaded, all_owned, never_refused}
use Rattle.store_check.proofs.laws.meaning_is_surveyed.Goals as goal

pub returns : goal.returns
returns c = record {
  loaded = λ pages kept own strings keeps state spells.
      (all_loaded pages kept keeps own strings state spells, all_owned pages kept keeps own strings state spells);
  accepted = λ pages kept own strings at keeps state spells. never_refused pages kept keeps own strings state spells at;
}
