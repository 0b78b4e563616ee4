use Rattle.row_store.proofs.LoadLaws.{record_fills}
use Rattle.value_bytes.specs.StoreMap.{map_number}
use Rattle.row_store.proofs.loading.add_record.Goals as goal

pub returns-in-Ok-add_rows-clause-filled : goal.returns-in-Ok-add_rows-clause-filled
returns-in-Ok-add_rows-clause-filled g c rows told =
    record_fills c.args.style.now.tables c.args.wanted (map_number c.args.map) rows c.args.number c.args.bytes.now c.in-Ok.rows c.in-Some.key
    (g.F.Filled.tables c.args.tables.now)
    (g.F.Filled.tables c.add_rows.new.tables) c.in-Ok.ensures.rows c.in-Some.ensures.key c.in-Ok-add_rows.ensures.ok told

pub returns-in-Ok-add_rows-clause-spelled : goal.returns-in-Ok-add_rows-clause-spelled
returns-in-Ok-add_rows-clause-spelled g c = record {
  own = c.in-Ok.rows;
  are = c.in-Ok.ensures.rows.is;
  bytes_are = c.in-Ok.ensures.rows.bytes_are;
  id = c.in-Some.ensures.id;
}
