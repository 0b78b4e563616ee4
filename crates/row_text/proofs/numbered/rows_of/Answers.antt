use Rattle.std.proofs.Common.{◌≡◌, ◌==◌, map, rules, sym, ◌∙◌, ap}
use Rattle.std.proofs.lemmas.Map.Iter.{iter_end}
use Rattle.std.specs.Map.Iter.{deref_pair}
use Rattle.row_text.specs.Numbered.{rows_among}
use Rattle.row_text.proofs.TableRows.{other_number, rows_in_range, rows_among-other}
use Rattle.row_text.proofs.numbered.rows_of.Goals as goal

pub loop-spot-preserved : goal.loop-spot-preserved
loop-spot-preserved c =
    c.loop-spot.invariant
    ∙ sym (rows_among-other c.args.table c.loop-spot.yielded c.in-Some.spot c.in-Some.row
    (ap (λ spot. spot.table == c.args.table) (sym c.spot.view_is) ∙ other_number c.spot.inside.table c.args.table c.if-spot-table.false))

pub returns : goal.returns
returns c =
    let all : map deref_pair c.loop-spot.yielded ≡ c.range-spot-items.result = search (rules, iter_end) in
    record {
      rows = c.loop-spot.invariant ∙ ap (rows_among c.args.table) (all ∙ c.range-spot-items.ensures.between tt)
          ∙ rows_in_range c.args.rows.now c.args.table _ _ c.range-spot-items.ensures.ordered c.before-2.ensures.front
          c.behind.ensures.back;
    }
