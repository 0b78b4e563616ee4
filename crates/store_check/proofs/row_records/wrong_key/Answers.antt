-- Of each map the key that its record asks for.
use Rattle.std.proofs.Common.{◌≡◌, Some, None, sym, subst, ◌∙◌}
use Rattle.std.specs.FinMap as finite
use Rattle.value_bytes.specs.StoreMap.{map_number}
use Rattle.value_bytes.specs.declared.store_map.StoreMap.{StoreMap}
use Rattle.store_check.specs.Judged.{kind_kept}
use Rattle.store_check.proofs.RowKeys.{object_found, object_is, rows_found}
use Rattle.store_check.proofs.FindsLaws.{finds_err, finds_ok}
use Rattle.store_check.proofs.row_records.wrong_key.Goals as goal

pub returns-in-Err : goal.returns-in-Err
returns-in-Err g c = record { found = finds_err c.in-Err.ensures.found }

pub returns-in-Err-wrong_of_rows : goal.returns-in-Err-wrong_of_rows
returns-in-Err-wrong_of_rows g c = record { found = finds_err c.in-Err-wrong_of_rows.ensures.others }

pub returns-in-Ok : goal.returns-in-Ok
returns-in-Ok g c = record {
  found = finds_ok c.in-Ok.ensures.found (λ rest had own nodes ways relations tells there.
      let source = c.args.source.map in
      let kind = c.in-Some.kind in
      let same : kind_kept source ≡ Some kind = sym c.kind_of.ensures.kind ∙ c.in-Some.is in
      object_found c.args.style.now rest nodes ways relations c.args.number c.in-Ok.found source kind same
      (own nodes ways relations tells
      (subst (λ (own : StoreMap). finite.get (rest.maps (map_number own)) c.args.number ≡ Some c.args.bytes.now) (sym (object_is source kind same))
      there)));
}

pub returns-in-Ok-wrong_of_rows : goal.returns-in-Ok-wrong_of_rows
returns-in-Ok-wrong_of_rows g c = record {
  found = finds_ok c.in-Ok-wrong_of_rows.ensures.others (λ rest had own nodes ways relations tells there.
      let source = c.args.source.map in
      let none : kind_kept source ≡ None = sym c.kind_of.ensures.kind ∙ c.in-None.is in
      rows_found c.args.style.now rest nodes ways relations c.args.number c.in-Ok-wrong_of_rows.found c.args.bytes.now source none
      c.args.source.goes there
      (λ is kept. c.in-Ok-wrong_of_rows.ensures.nodes is rest had c.args.style.now nodes ways relations tells c.args.bytes.now kept)
      (λ is kept. own is c.args.style.now nodes ways relations tells c.args.bytes.now kept));
}
