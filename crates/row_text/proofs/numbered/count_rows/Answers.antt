use Rattle.std.proofs.Common.{◌≡◌, ◌<◌, length, map, rules, ◌∙◌, ap, arith}
use Rattle.std.proofs.lemmas.Map.Iter.{iter_end, iter_turn}
use Rattle.std.specs.Map.Iter.{deref_pair}
use Rattle.row_text.specs.Numbered.{rows_among, rows_of}
use Rattle.row_text.proofs.Counted.{few_yielded}
use Rattle.row_text.proofs.TableRows.{rows_in_range}
use Rattle.row_text.proofs.numbered.count_rows.Goals as goal

pub overflow_add-count : goal.overflow_add-count
overflow_add-count c =
    let within : length c.loop-spot.yielded < length c.range-spot-items.result = search (rules, iter_turn) in
    omega (arith, few_yielded c.args.table c.loop-spot.yielded, within, c.range-spot-items.ensures.fits, c.loop-spot.invariant)

pub returns : goal.returns
returns c =
    let all : map deref_pair c.loop-spot.yielded ≡ c.range-spot-items.result = search (rules, iter_end) in
    record {
      count = c.loop-spot.invariant ∙ ap length (ap (rows_among c.args.table) (all ∙ c.range-spot-items.ensures.between tt)
          ∙ rows_in_range c.rows.result.now c.args.table _ _ c.range-spot-items.ensures.ordered c.before-2.ensures.front
          c.behind.ensures.back)
          ∙ ap (λ tables. length (rows_of tables c.args.table)) c.rows.ensures.rows;
    }
