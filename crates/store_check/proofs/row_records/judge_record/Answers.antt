-- One key more was judged.
use Rattle.std.proofs.Common.{ℕ, Option, Some, false, sym, subst}
use Rattle.store_check.specs.Judged.{IsAsked, IsFound, IsOne, Sees, rows_key, rows_map}
use Rattle.store_check.specs.Least.{with_key}
use Rattle.store_check.specs.Values.{objects_of}
use Rattle.store_check.specs.Wrong.{IsRightIn}
use Rattle.store_check.proofs.Sight.{sees_right, sees_wrong}
use Rattle.store_check.proofs.FindsLaws.{finds_err, finds_ok}
use Rattle.store_check.proofs.row_records.judge_record.Goals as goal

pub returns-in-Err : goal.returns-in-Err
returns-in-Err g c = record { sees = finds_err c.in-Err.ensures.found }

pub returns-in-Ok-Some : goal.returns-in-Ok-Some
returns-in-Ok-Some g c = record {
  sees = finds_ok c.in-Ok-Some.ensures.found (λ rest had own nodes ways relations tells there.
      let Is = IsRightIn c.args.style.now rest nodes ways relations (rows_map c.args.source.map) in
      let Asked = IsAsked (objects_of nodes ways relations) in
      let source = c.args.source.map in
      let number = c.args.number in
      let old = c.args.wrong.now in
      let found : IsFound Is (Asked source number) (rows_key source number) (Some c.in-Ok-Some.key) =
      subst (λ (found : Option ℕ). IsFound Is (Asked source number) (rows_key source number) found) c.in-Ok-Some.field-0-is
      (own nodes ways relations tells there) in
      subst (λ (new : Option ℕ). Sees Is Asked (IsOne source number) old new) (sym c.see.ensures.seen)
      (subst (λ (key : ℕ). Sees Is Asked (IsOne source number) old (with_key old key false)) (sym found.0)
      (sees_wrong Is Asked source number old found.1)));
}

pub returns-in-Ok-None : goal.returns-in-Ok-None
returns-in-Ok-None g c = record {
  sees = finds_ok c.in-Ok-None.ensures.found (λ rest had own nodes ways relations tells there.
      sees_right (IsRightIn c.args.style.now rest nodes ways relations (rows_map c.args.source.map)) (IsAsked (objects_of nodes ways relations))
      c.args.source.map c.args.number c.args.wrong.now
      (subst (λ (found : Option ℕ). IsFound (IsRightIn c.args.style.now rest nodes ways relations (rows_map c.args.source.map))
      (IsAsked (objects_of nodes ways relations) c.args.source.map c.args.number) (rows_key c.args.source.map c.args.number) found)
      c.in-Ok-None.field-0-is (own nodes ways relations tells there)));
}
