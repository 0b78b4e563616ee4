use Rattle.std.proofs.Common.{refl, sym, ◌∙◌, ap}
use Rattle.tag_rows.specs.RowsById.{set_row}
use Rattle.tag_rows.proofs.RowMapLaws.{left_out, taken_out, put_in, no_byte, some_byte}
use Rattle.tag_rows.proofs.rows_by_id.RowsById.set.Goals as goal

pub returns-then-id-self : goal.returns-then-id-self
returns-then-id-self c = record {
  ok = left_out c.args.self.now c.args.id c.self.inside.rows c.self.view_is c.args.row.now
      (no_byte c.args.row.now (sym c.is_empty.ensures ∙ c.if-is_empty.true)) (c.self.invariant c.args.id c.if-id-self.true);
}

pub returns-then-is_empty : goal.returns-then-is_empty
returns-then-is_empty c = record {
  ok = taken_out c.args.self.now c.args.id c.self.inside.rows c.remove.new.self c.self.view_is c.args.row.now
      (no_byte c.args.row.now (sym c.is_empty.ensures ∙ c.if-is_empty.true)) c.remove.ensures.updates;
}

pub returns : goal.returns
returns c =
    let copied = c.from_vec.ensures.items ∙ c.in_ok-row.ensures.items in
    record {
      ok = put_in c.args.self.now c.args.id c.self.inside.rows c.insert.new.self c.self.view_is c.from_vec.result
          (some_byte c.from_vec.result c.args.row.now copied (sym c.is_empty.ensures ∙ c.if-is_empty.false)) c.in_ok-insert.ensures.updates
          ∙ ap (set_row c.args.self.now c.args.id) copied;
    }
