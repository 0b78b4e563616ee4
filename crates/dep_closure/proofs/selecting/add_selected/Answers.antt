use Rattle.osm_base.specs.values.Ids.{has}
use Rattle.dep_closure.specs.Selecting.{selects_again}
use Rattle.dep_closure.proofs.Anys.{any_step}
use Rattle.dep_closure.proofs.selecting.add_selected.Goals as goal

pub loop-entry-preserved : goal.loop-entry-preserved
loop-entry-preserved c = record {
  added = λ id. any_step (selects_again c.args.style.now c.args.old.now c.args.kind id) c.entries-entries.result.now
      c.loop-entry.entry-index c.entry-item.result
      (has c.add_entry.new.ids.items id) (has c.loop-entry.ids.items id) (has c.args.ids.now.items id)
      c.loop-entry-test.true c.entry-item.is (c.in_ok-add_entry.ensures.selected.added id) (c.loop-entry.invariant.added id);
  ids = λ all. c.in_ok-add_entry.ensures.selected.ids (c.loop-entry.invariant.ids all);
}
