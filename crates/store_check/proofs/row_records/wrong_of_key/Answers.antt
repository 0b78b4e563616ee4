use Rattle.std.proofs.Common.{◌≡◌, true, ap, ◌∙◌}
use Rattle.osm_base.specs.values.Key.{KeyOf}
use Rattle.store_maps.specs.Asked.{row_key, row_map}
use Rattle.std.specs.FinMap as finite
use Rattle.value_bytes.specs.StoreMap.{map_number}
use Rattle.store_check.proofs.FindsLaws.{finds_err, finds_ok, lacks_memory, saw_it}
use Rattle.store_check.proofs.row_records.wrong_of_key.Goals as goal

pub returns-in-Err : goal.returns-in-Err
returns-in-Err g c = record { found = finds_err c.in-Err.ensures.found }

pub returns : goal.returns
returns g c = record { found = lacks_memory (saw_it c.in-Ok.ensures.found) }

pub returns-in-Ok-true : goal.returns-in-Ok-true
returns-in-Ok-true g c = record {
  found = finds_ok c.in-Ok.ensures.found (λ rest had bytes nodes ways relations tells there asked.
      (c.in-Ok-true.ensures.right rest nodes ways relations tells there
      (bytes
      ∙ (λ i. finite.get (rest.maps (map_number (c.row_map.ensures.map i))) (c.row_key-number.ensures.key i))
      ∙ ap (λ (own : KeyOf). finite.get (rest.maps (map_number (row_map own.kind))) (row_key c.args.key.kind c.args.key.id)) c.key.view_is)).0 c.in-Ok-true.field-0-test);
}

pub returns-in-Ok-false : goal.returns-in-Ok-false
returns-in-Ok-false g c = record {
  found = finds_ok c.in-Ok.ensures.found (λ rest had bytes nodes ways relations tells there. (
    c.row_key-number.ensures.key,
    λ is.
        let so : c.in-Ok-false.field-0 ≡ true = (c.in-Ok-false.ensures.right rest nodes ways relations tells there
        (bytes
        ∙ (λ i. finite.get (rest.maps (map_number (c.row_map.ensures.map i))) (c.row_key-number.ensures.key i))
        ∙ ap (λ (own : KeyOf). finite.get (rest.maps (map_number (row_map own.kind))) (row_key c.args.key.kind c.args.key.id)) c.key.view_is)).1 is in
        cc (so, c.in-Ok-false.field-0-test),
  ));
}
