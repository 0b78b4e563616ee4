use Rattle.std.proofs.Common.{◌≡◌, Some, subst, arith}
use Rattle.std.specs.FinMap as finite
use Rattle.osm_base.specs.values.Key.{KeyOf}
use Rattle.value_bytes.specs.StoreMap.{map_number}
use Rattle.store_maps.specs.Asked.{object_map, row_key, row_map}
use Rattle.store_check.specs.Judged.{IsFound}
use Rattle.store_check.specs.Wrong.{IsRightIn}
use Rattle.store_check.proofs.RowFound.{kept_has_id}
use Rattle.store_check.proofs.FindsLaws.{finds_err, finds_here, finds_ok}
use Rattle.store_check.proofs.row_records.wrong_of_object.Goals as goal

pub returns-then-id-lt1 : goal.returns-then-id-lt1
returns-then-id-lt1 g c = record {
  found = finds_here
      (λ rest had nodes ways relations tells there asked.
      let is = kept_has_id c.args.style.now rest nodes ways relations c.args.held.now tells c.args.kind c.args.id c.args.bytes.now there in
      absurd (omega (arith, is.least, c.if-id-lt1.true)));
}

pub returns-then-id-gt-MAX_ID : goal.returns-then-id-gt-MAX_ID
returns-then-id-gt-MAX_ID g c = record {
  found = finds_here
      (λ rest had nodes ways relations tells there asked.
      let is = kept_has_id c.args.style.now rest nodes ways relations c.args.held.now tells c.args.kind c.args.id c.args.bytes.now there in
      absurd (omega (arith, is.greatest, c.if-id-gt-MAX_ID.true)));
}

pub returns-in-Err : goal.returns-in-Err
returns-in-Err g c = record { found = finds_err c.in-Err.ensures.found }

pub returns-in-Ok : goal.returns-in-Ok
returns-in-Ok g c = record {
  found = finds_ok c.in-Ok.ensures.found (λ rest had own nodes ways relations tells there.
      subst (λ (key : KeyOf). finite.get (rest.maps (map_number (object_map key.kind))) key.id ≡ Some c.args.bytes.now
      → IsFound (IsRightIn c.args.style.now rest nodes ways relations (row_map key.kind)) (Unit {0}) (row_key key.kind key.id) c.in-Ok.found)
      c.new.ensures.fields (own nodes ways relations tells) there);
}
