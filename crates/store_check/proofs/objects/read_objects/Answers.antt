use Rattle.std.proofs.Common.{◌≡◌, Some, None}
use Rattle.store_check.proofs.FoundLaws.{all_found_so, first_found_so}
use Rattle.store_check.proofs.FindsLaws.{finds_err, finds_ok}
use Rattle.store_check.proofs.objects.read_objects.Goals as goal

pub returns-in-Ok-None : goal.returns-in-Ok-None
returns-in-Ok-None g c =
    let none : c.in-Ok-None.field-0 ≡ None = cc (c.in-Ok-None.field-0-is) in
    record {
      found = finds_ok c.in-Ok-None.ensures.judges (λ rest has own. all_found_so c.args.style.now rest c.reaches_nodes.result c.new-held.result c.judge_maps.new.held c.in-Ok-None.field-0
          c.reaches_nodes.ensures.reaches c.new-held.ensures.nothing none own);
    }

pub returns-in-Ok-Some : goal.returns-in-Ok-Some
returns-in-Ok-Some g c =
    let found : c.in-Ok-Some.field-0 ≡ Some c.in-Ok-Some.wrong = cc (c.in-Ok-Some.field-0-is) in
    record {
      found = finds_ok c.in-Ok-Some.ensures.judges (λ rest has own. first_found_so c.args.style.now rest c.reaches_nodes.result c.new-held.result c.judge_maps.new.held c.in-Ok-Some.field-0
          c.in-Ok-Some.wrong c.reaches_nodes.ensures.reaches found own);
    }

pub returns-in-Err : goal.returns-in-Err
returns-in-Err g c = record { found = finds_err c.in-Err.ensures.judges }
