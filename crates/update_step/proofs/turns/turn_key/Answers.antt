use Rattle.std.proofs.Common.{◌≡◌, ◌++◌, ◌||◌, Bool, List, append_assoc, arith, length, sym, ap, ◌∙◌}
use Rattle.std.specs.List.{filter_map, list_any, range_with_len}
use Rattle.std.specs.Option.{option_to_list}
use Rattle.osm_base.specs.declared.values.row.RowChange.{RowChange}
use Rattle.style_read.specs.Style.{StyleOf}
use Rattle.store_maps.specs.Told.{change_in, told_key}
use Rattle.tile_cover.specs.Runs.{has}
use Rattle.update_step.specs.Due.{is_due_in}
use Rattle.update_step.specs.Turned.{is_turned_in}
use Rattle.update_step.proofs.KeyedLists.{found-more, or-assoc, range-any-more}
use Rattle.update_step.proofs.turns.turn_key.Goals as goal

pub loop-table-preserved : goal.loop-table-preserved
loop-table-preserved c =
    let old = c.args.old.now in
    let new = c.args.new.now in
    let change = change_in c.args.key old new in
    let front : List RowChange = filter_map change (range_with_len 0 c.loop-table.table) in
    record {
      told = c.in_ok-here.ensures.told
          ∙ ap (λ (changes : List RowChange). changes ++ option_to_list (change c.loop-table.table)) c.loop-table.invariant.told
          ∙ append_assoc c.args.changes.now front (option_to_list (change c.loop-table.table))
          ∙ ap (λ (rest : List RowChange). c.args.changes.now ++ rest) (sym (found-more change c.loop-table.table));
      due = λ zoom x y.
          let due = is_due_in c.args.style.now c.args.bounds.now old new zoom x y in
          let before : Bool = list_any due (range_with_len 0 c.loop-table.table) in
          c.in_ok-here.ensures.due zoom x y
          ∙ ap (λ (b : Bool). b || due c.loop-table.table) (c.loop-table.invariant.due zoom x y)
          ∙ or-assoc (has c.args.tiles.now zoom x y) before (due c.loop-table.table)
          ∙ ap (λ (b : Bool). has c.args.tiles.now zoom x y || b) (sym (range-any-more due c.loop-table.table));
      turned = ap (λ (b : Bool). b || c.in_ok-here.here) c.loop-table.invariant.turned
          ∙ ap (λ (b : Bool). list_any (is_turned_in old new) (range_with_len 0 c.loop-table.table) || b) c.in_ok-here.ensures.turned
          ∙ sym (range-any-more (is_turned_in old new) c.loop-table.table);
    }

pub returns-clause-told : goal.returns-clause-told
unfolding told_key
returns-clause-told c =
    let most = c.loop-table-test.false in
    let least = c.loop-table.auto.table-end in
    let same = ap length c.as_slice.ensures.items in
    let view = ap (λ (own : StyleOf). length own.tables) c.style.view_is in
    let count : c.loop-table.table ≡ length c.args.style.now.tables = omega (arith, most, least, same, view) in
    c.loop-table.invariant.told ∙ ap
    (λ n. c.args.changes.now ++ filter_map (change_in c.args.key c.args.old.now c.args.new.now) (range_with_len 0 n)) count
