use Rattle.std.proofs.Common.{rules, ◌≡◌, ℕ, List, sym, subst, take}
use Rattle.osm_base.specs.declared.values.object.Entry.{Entry}
use Rattle.osm_base.specs.map.Objects.{folded_all}
use Rattle.object_fold.specs.Change.{IsChange}
use Rattle.store_maps.specs.Step.{AreProperEntries, change_on, entry_on}
use Rattle.store_maps.proofs.ObjectMaps.{are_told, entries_stand}
use Rattle.update_step.specs.Touch.{MayTurnAll}
use Rattle.update_step.proofs.EntryLists.{change_proper, proper_at, proper_front}
use Rattle.update_step.proofs.KeyedLists.{fold-more}
use Rattle.update_step.proofs.Touching.{entry-new, entry-object, entry-old}
use Rattle.update_step.proofs.entries.apply_change.Goals as goal

pub apply_entry-requires-clause-proper : goal.apply_entry-requires-clause-proper
apply_entry-requires-clause-proper g c =
    let proper : AreProperEntries c.entries-entry-items.result.now
    = change_proper c.entries-entry-items.result.now
    (subst IsChange (sym c.entries-entry-items.ensures.entries) c.entries-entry-items.ensures.rise) in
    proper_at c.entries-entry-items.result.now c.loop-entry.entry-index c.entry-item.result proper c.loop-entry-test.true c.entry-item.is

pub returns-in_err-apply_entry-clause-allowed : goal.returns-in_err-apply_entry-clause-allowed
returns-in_err-apply_entry-clause-allowed g c under maps held reaches objects stands =
    let items : List Entry = c.entries-entry-items.result.now in
    let front : List Entry = take c.loop-entry.entry-index items in
    let proper : AreProperEntries items = change_proper items
    (subst IsChange (sym c.entries-entry-items.ensures.entries) c.entries-entry-items.ensures.rise) in
    let on = entries_stand reaches front maps objects stands (proper_front items c.loop-entry.entry-index proper) in
    let told = are_told reaches (change_on maps front) (folded_all objects front) on c.entry-item.result.key in
    let is = c.in_err-apply_entry.ensures.allowed under (change_on maps front) (c.loop-entry.invariant.holds under maps held) told in
    search (rules, is)

pub loop-entry-preserved : goal.loop-entry-preserved
loop-entry-preserved g c =
    record {
      holds = λ under maps held.
          let items : List Entry = c.entries-entry-items.result.now in
          subst (g.S.MapStore.holds c.apply_entry.new.store under)
          (sym (fold-more entry_on maps items c.loop-entry.entry-index c.entry-item.result c.loop-entry-test.true c.entry-item.is))
          (c.in_ok-apply_entry.ensures.holds under (change_on maps (take c.loop-entry.entry-index items))
          (c.loop-entry.invariant.holds under maps held));
      within = λ under maps held reaches objects stands may all before.
          let items : List Entry = c.entries-entry-items.result.now in
          let entries : items ≡ c.args.change.now = c.entries-entry-items.ensures.entries in
          let rise : IsChange items = subst IsChange (sym entries) c.entries-entry-items.ensures.rise in
          let each : MayTurnAll objects may items = subst (MayTurnAll objects may) (sym entries) all in
          let at : ℕ = c.loop-entry.entry-index in
          let entry : Entry = c.entry-item.result in
          let below = c.loop-entry-test.true in
          let is = c.entry-item.is in
          c.apply_entry.ensures.within under (change_on maps (take at items)) (c.loop-entry.invariant.holds under maps held) may
          (entry-object may reaches maps objects stands items rise at entry below is each)
          (entry-old may reaches maps objects stands items rise at entry below is each)
          (entry-new may reaches maps objects stands items rise at entry below is each)
          (c.loop-entry.invariant.within under maps held reaches objects stands may all before);
      sets = search rules;
    }

pub returns-in_err-apply_entry-clause-within : goal.returns-in_err-apply_entry-clause-within
returns-in_err-apply_entry-clause-within g c under maps held reaches objects stands may all before =
    let items : List Entry = c.entries-entry-items.result.now in
    let entries : items ≡ c.args.change.now = c.entries-entry-items.ensures.entries in
    let rise : IsChange items = subst IsChange (sym entries) c.entries-entry-items.ensures.rise in
    let each : MayTurnAll objects may items = subst (MayTurnAll objects may) (sym entries) all in
    let at : ℕ = c.loop-entry.entry-index in
    let entry : Entry = c.entry-item.result in
    let below = c.loop-entry-test.true in
    let is = c.entry-item.is in
    c.apply_entry.ensures.within under (change_on maps (take at items)) (c.loop-entry.invariant.holds under maps held) may
    (entry-object may reaches maps objects stands items rise at entry below is each)
    (entry-old may reaches maps objects stands items rise at entry below is each)
    (entry-new may reaches maps objects stands items rise at entry below is each)
    (c.loop-entry.invariant.within under maps held reaches objects stands may all before)
