-- What was found in lists or in rows is the value of a map.
use Rattle.std.proofs.Common.{◌≡◌, Ok, Err}
use Rattle.store_check.specs.Wrong.{IsRightIn}
use Rattle.store_check.proofs.FindsJoined.{joined_err, joined_ok}
use Rattle.store_check.proofs.SearchLaws.{wrong_found}
use Rattle.store_check.proofs.searching.wrong_in.Goals as goal
use Rattle.store_check.proofs.searching.wrong_in.Goals.{then-number-lt6, else-number-lt6}

pub returns-in-Ok : goal.returns-in-Ok
returns-in-Ok g c = record {
  least = elim c.if-number-lt6.branch [
    | then-number-lt6 w ↦
        let is : w.first_wrong_list-least.result ≡ Ok c.in-Ok.found = cc (w.least-is, c.in-Ok.is) in
        joined_ok c.args.reading.now w.first_wrong_list-least.new.reading c.if-number-lt6.reading w.first_wrong_list-least.result c.in-Ok.found
        c.wrong_at.result w.reading-is is w.first_wrong_list-least.ensures.least (λ rest has least nodes ways relations read ids held.
        wrong_found (IsRightIn c.args.style.now rest nodes ways relations) c.args.map c.in-Ok.found c.wrong_at.result c.wrong_at.ensures
        (least c.args.style.now nodes ways relations read held))
    | else-number-lt6 w ↦
        let is : w.first_wrong_rows-least.result ≡ Ok c.in-Ok.found = cc (w.least-is, c.in-Ok.is) in
        joined_ok c.args.reading.now w.first_wrong_rows-least.new.reading c.if-number-lt6.reading w.first_wrong_rows-least.result c.in-Ok.found
        c.wrong_at.result w.reading-is is w.first_wrong_rows-least.ensures.least (λ rest has least nodes ways relations read ids held.
        wrong_found (IsRightIn c.args.style.now rest nodes ways relations) c.args.map c.in-Ok.found c.wrong_at.result c.wrong_at.ensures
        (least nodes ways relations read ids held))
  ];
}

pub returns-in-Err : goal.returns-in-Err
returns-in-Err g c = record {
  least = elim c.if-number-lt6.branch [
    | then-number-lt6 w ↦
        let is : w.first_wrong_list-least.result ≡ Err c.in-Err.fault = cc (w.least-is, c.in-Err.is) in
        joined_err c.args.reading.now w.first_wrong_list-least.new.reading c.if-number-lt6.reading w.first_wrong_list-least.result
        c.in-Err.fault w.reading-is is w.first_wrong_list-least.ensures.least
    | else-number-lt6 w ↦
        let is : w.first_wrong_rows-least.result ≡ Err c.in-Err.fault = cc (w.least-is, c.in-Err.is) in
        joined_err c.args.reading.now w.first_wrong_rows-least.new.reading c.if-number-lt6.reading w.first_wrong_rows-least.result
        c.in-Err.fault w.reading-is is w.first_wrong_rows-least.ensures.least
  ];
}
