use Rattle.std.proofs.Common.{T, subst, sym, ◌∙◌, ap, map}
use Rattle.std.specs.FinMap.{is_sorted}
use Rattle.osm_base.specs.values.KeyOrder.{key_cmp}
use Rattle.osm_base.specs.map.SpotTree.{rows_in}
use Rattle.row_text.specs.Numbered.{seen}
use Rattle.row_text.proofs.TableRows.{rows_of-rising}
use Rattle.row_text.proofs.numbered.rows_in_order.Goals as goal

pub put_in_order-requires : goal.put_in_order-requires
put_in_order-requires c =
    subst (λ rows. T (is_sorted key_cmp rows)) (sym (ap (map seen) c.deref_mut.ensures.value ∙ c.in_ok-rows.ensures.rows))
    (rows_of-rising (rows_in c.rows.result.now) c.args.table)
