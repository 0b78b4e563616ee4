use Rattle.std.proofs.Common.{◌++◌, suc, drop, take, sym, ap, subst, ◌∙◌}
use Rattle.std.proofs.lemmas.List.{take_all}
use Rattle.osm_base.specs.map.Objects.{folded_all}
use Rattle.osm_base.specs.map.Listers.{index_of}
use Rattle.osm_base.specs.values.Ids.{IsRising, has}
use Rattle.dep_closure.specs.Questions.{of_entry, of_nodes}
use Rattle.dep_closure.specs.Ways.{is_due}
use Rattle.dep_closure.proofs.Cuts.{flat_map-cut, on_err}
use Rattle.dep_closure.proofs.Left.{left, same-ids}
use Rattle.dep_closure.proofs.ways.ways_due.Goals as goal

pub returns-clause-due : goal.returns-clause-due
returns-clause-due g c = record {
  due = λ index knows way.
      ap (λ ids. has ids way) c.into_ids.ensures.ids ∙ c.from_vec.ensures.same way ∙ c.loop-entry.invariant.due index knows way
      ∙ ap (λ entries. is_due index entries way)
      (take_all c.loop-entry.entry-index c.entries-entries.result.now c.loop-entry-test.false ∙ c.entries-entries.ensures.entries);
  rising = (
    subst IsRising (sym c.into_ids.ensures.ids) c.into_ids.ensures.rise,
    same-ids c.loop-entry.ways.items c.into_ids.result
        (λ id. ap (λ ids. has ids id) c.into_ids.ensures.ids ∙ c.from_vec.ensures.same id) c.loop-entry.invariant.ids,
  );
}

pub returns-clause-others : goal.returns-clause-others
returns-clause-others g c objects is way not =
    left objects c.args.change.now way
    (ap (λ entries. is_due (index_of (folded_all objects c.args.change.now)) entries way)
    (sym (take_all c.loop-entry.entry-index c.entries-entries.result.now c.loop-entry-test.false ∙ c.entries-entries.ensures.entries))
    ∙ sym (c.loop-entry.invariant.due (index_of (folded_all objects c.args.change.now)) is way)
    ∙ sym (ap (λ ids. has ids way) c.into_ids.ensures.ids ∙ c.from_vec.ensures.same way)
    ∙ not)

pub returns-in_err-add_due-clause-asked_some : goal.returns-in_err-add_due-clause-asked_some
returns-in_err-add_due-clause-asked_some g c =
    let entries = c.entries-entries.result.now in
    let at = c.loop-entry.entry-index in
    let entry = c.entry-item.result in
    on_err c.from_residual.result _ (
      of_nodes (take at entries) ++ of_entry entry,
      of_nodes (drop (suc at) entries),
      ap of_nodes (sym c.entries-entries.ensures.entries) ∙ flat_map-cut of_entry entries at entry c.loop-entry-test.true c.entry-item.is,
      g.met.B.Back.asks_then c.args.back.now c.loop-entry.back c.add_due.new.back (of_nodes (take at entries))
          (of_entry entry) c.loop-entry.invariant.asks.asked c.add_due.ensures.asked,
    )
