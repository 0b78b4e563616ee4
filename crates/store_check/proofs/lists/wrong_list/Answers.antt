-- Each list that is kept is judged, and each that is told is there.
use Rattle.std.proofs.Common.{ℕ, Option, sym, subst}
use Rattle.value_bytes.specs.StoreMap.{map_number}
use Rattle.back_index.specs.Filling.{IsKeptAt, mentions_tell}
use Rattle.store_check.specs.Wrong.{IsLeast}
use Rattle.store_check.proofs.ListsLaws.{all_judged}
use Rattle.store_check.proofs.FindsLaws.{both_find, finds_err, second_refuses}
use Rattle.store_check.proofs.lists.wrong_list.Goals as goal

pub returns-in-Err : goal.returns-in-Err
returns-in-Err g c = record { least = finds_err c.in-Err.ensures.least }

pub returns-in-Ok-lacking : goal.returns-in-Ok-lacking
returns-in-Ok-lacking g c = record {
  least = both_find c.in-Ok.ensures.least c.in-Ok-lacking.ensures.least (λ rest has one other.
      let kept = rest.maps (map_number c.args.map) in
      let told = mentions_tell c.args.mentions.now.all.now in
      subst (λ (l : Option ℕ). IsLeast (IsKeptAt told kept) l) (sym c.lesser_of.ensures.lesser)
      (all_judged told kept c.in-Ok.kept c.in-Ok-lacking.other one other));
}

pub returns-in-Err-lacking : goal.returns-in-Err-lacking
returns-in-Err-lacking g c = record { least = second_refuses c.in-Ok.ensures.least c.in-Err-lacking.ensures.least }
