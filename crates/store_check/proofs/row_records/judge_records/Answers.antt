-- A record more was judged.
use Rattle.std.proofs.Common.{◌≡◌, ◌+◌, inl, inr, ℕ, List, Some, take, sym, subst, arith}
use Rattle.std.specs.FinMap as finite
use Rattle.value_bytes.specs.StoreMap.{map_number}
use Rattle.row_store.proofs.LoadLaws.{among_all, among_more}
use Rattle.store_check.specs.Judged.{IsAmong, IsAsked, IsOne, rows_map}
use Rattle.store_check.specs.Values.{objects_of}
use Rattle.store_check.specs.Wrong.{IsRightIn}
use Rattle.store_check.proofs.AllLaws.{all_at}
use Rattle.store_check.proofs.Sight.{sees_fewer, sees_then}
use Rattle.store_check.proofs.FindsLaws.{found_all, saw_then, then_refuses}
use Rattle.store_check.proofs.row_records.judge_records.Goals as goal

pub loop-number-preserved : goal.loop-number-preserved
loop-number-preserved g c =
    let before = c.loop-number.invariant in
    let done = c.in_default.ensures.sees in
    let source = c.args.source.map in
    let records = c.args.records.now in
    let place = c.loop-number.number-index in
    let one = c.loop-number-item.result in
    record {
      saw = saw_then before.saw done;
      sees = λ rest had nodes ways relations tells each.
          let here = all_at (λ (own : ℕ × List ℕ). finite.get (rest.maps (map_number source)) own.0 ≡ Some own.1) records place one each
          c.loop-number-test.true c.loop-number-item.is in
          let told = subst (λ (bytes : List ℕ). finite.get (rest.maps (map_number source)) one.0 ≡ Some bytes) (sym c.as_slice.ensures.items)
          here in
          sees_then (IsRightIn c.args.style.now rest nodes ways relations (rows_map source)) (IsAsked (objects_of nodes ways relations))
          (IsAmong source (take place records)) (IsOne source one.0) (IsAmong source (take (place + 1) records))
          c.args.wrong.now c.loop-number.wrong c.judge_record.new.wrong (before.sees rest had nodes ways relations tells each)
          (done.so rest (before.saw.has rest had) nodes ways relations tells told)
          (λ own number part.
          elim (among_more records place one number c.loop-number-test.true c.loop-number-item.is part.1) [
            | inl among ↦ inl (part.0, among)
            | inr is ↦ inr (part.0, is)
          ]);
    }

pub returns : goal.returns
returns g c =
    let looked = c.loop-number.invariant in
    record {
      sees = found_all looked.saw
          (λ rest had nodes ways relations tells each.
          let source = c.args.source.map in
          let records = c.args.records.now in
          let place = c.loop-number.number-index in
          sees_fewer (IsRightIn c.args.style.now rest nodes ways relations (rows_map source)) (IsAsked (objects_of nodes ways relations))
          (IsAmong source records) (IsAmong source (take place records)) c.args.wrong.now c.loop-number.wrong
          (λ own number part. (part.0, among_all records place number (omega (arith, c.loop-number-test.false)) part.1))
          (c.loop-number.invariant.sees rest had nodes ways relations tells each));
    }

pub returns-in-Err : goal.returns-in-Err
returns-in-Err g c =
    let looked = c.loop-number.invariant in
    record { sees = then_refuses looked.saw c.in-Err.ensures.sees }
