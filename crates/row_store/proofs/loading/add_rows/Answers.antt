use Rattle.std.proofs.Common.{List, sym, ap, ◌∙◌}
use Rattle.osm_base.specs.declared.values.row.TableRow.{TableRow}
use Rattle.osm_base.specs.map.Spots.{TableMap}
use Rattle.row_store.specs.Loading.{with_all}
use Rattle.row_store.proofs.LoadLaws.{all_push}
use Rattle.row_store.proofs.loading.add_rows.Goals as goal

pub loop-row-preserved : goal.loop-row-preserved
loop-row-preserved g c =
    let front = c.pop.new.self.items in
    ap (λ (t : TableMap). with_all c.args.wanted c.args.key front t) c.in_ok-add_row.ensures.ok
    ∙ sym (all_push c.args.wanted c.args.key front c.in-Some.row (g.F.Filled.tables c.loop-row.tables))
    ∙ ap (λ (l : List TableRow). with_all c.args.wanted c.args.key l (g.F.Filled.tables c.loop-row.tables)) (sym c.in-Some.ensures.items)
    ∙ c.loop-row.invariant
