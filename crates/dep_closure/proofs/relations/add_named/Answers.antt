use Rattle.std.proofs.Common.{◌++◌, suc, drop, take, sym, ap, ◌∙◌}
use Rattle.dep_closure.specs.Questions.{of_member, of_members}
use Rattle.dep_closure.proofs.Cuts.{flat_map-cut, on_err}
use Rattle.dep_closure.proofs.relations.add_named.Goals as goal

pub returns-in_err-add_entry-clause-asked_some : goal.returns-in_err-add_entry-clause-asked_some
returns-in_err-add_entry-clause-asked_some g c =
    let entries = c.entries-entries.result.now in
    let at = c.loop-entry.entry-index in
    let entry = c.entry-item.result in
    on_err c.from_residual.result _ (
      of_members (take at entries) ++ of_member entry,
      of_members (drop (suc at) entries),
      ap of_members (sym c.entries-entries.ensures.entries)
          ∙ flat_map-cut of_member entries at entry c.loop-entry-test.true c.entry-item.is,
      g.met.B.Back.asks_then c.args.back.now c.loop-entry.back c.add_entry.new.back (of_members (take at entries))
          (of_member entry) c.loop-entry.invariant.asks.asked c.add_entry.ensures.asked,
    )
