-- What was only read is forgotten, and nothing is lost.
use Rattle.store_check.proofs.FindsLaws.{finds_err, found_all, saw_both, saw_it}
use Rattle.store_check.proofs.rows.judge_apart.Goals as goal

pub returns-in-Ok : goal.returns-in-Ok
returns-in-Ok g c = record {
  sees = found_all (saw_both (saw_it c.in-Ok.ensures.sees) c.forget.ensures.saw) c.in-Ok.ensures.sees.so;
}

pub returns-in-Err : goal.returns-in-Err
returns-in-Err g c = record { sees = finds_err c.in-Err.ensures.sees }
