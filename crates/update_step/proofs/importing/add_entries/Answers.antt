-- All lists, and then all objects, are what the entries say one after another.
use Rattle.std.proofs.Common.{rules, ℕ, List, sym, ap, subst, take, ◌∙◌}
use Rattle.std.proofs.lemmas.List.{take_all}
use Rattle.osm_base.specs.declared.values.object.Entry.{Entry}
use Rattle.object_fold.specs.Change.{IsChange}
use Rattle.store_maps.specs.Filling.{all_listed_on, all_objects_on, object_on}
use Rattle.store_maps.specs.Maps.{Maps, empty_maps}
use Rattle.store_maps.specs.Step.{change_on}
use Rattle.update_step.proofs.EntryLists.{change_proper, proper_at}
use Rattle.update_step.proofs.Filled.{filled, no_lists}
use Rattle.update_step.proofs.KeyedLists.{fold-more}
use Rattle.update_step.proofs.importing.add_entries.Goals as goal

pub set-requires-clause-proper : goal.set-requires-clause-proper
set-requires-clause-proper g c =
    let items : List Entry = c.entries-entries.result.now in
    proper_at items c.loop-entry.entry-index c.entry-item.result
    (change_proper items (subst IsChange (sym c.entries-entries.ensures.entries) c.entries-entries.ensures.rise))
    c.loop-entry-test.true c.entry-item.is

pub loop-entry-preserved : goal.loop-entry-preserved
loop-entry-preserved g c =
    let items : List Entry = c.entries-entries.result.now in
    let at : ℕ = c.loop-entry.entry-index in
    record {
      holds = λ under maps held.
          let step = c.in_ok-set.ensures.holds under (all_objects_on maps (take at items)) (c.loop-entry.invariant.holds under maps held) in
          subst (g.S.MapStore.holds c.set.new.self under)
          (sym (fold-more object_on maps items at c.entry-item.result c.loop-entry-test.true c.entry-item.is)) step;
      sets = search rules;
    }

pub returns-clause-holds : goal.returns-clause-holds
returns-clause-holds g c under held =
    let entries : List Entry = c.entries-entries.result.now in
    let rise : IsChange entries = subst IsChange (sym c.entries-entries.ensures.entries) c.entries-entries.ensures.rise in
    let listed : Maps = all_listed_on empty_maps entries in
    subst (g.S.MapStore.holds c.loop-entry.store under)
    (ap (all_objects_on listed) (take_all c.loop-entry.entry-index entries c.loop-entry-test.false)
    ∙ filled entries rise ∙ ap (change_on empty_maps) c.entries-entries.ensures.entries)
    (c.loop-entry.invariant.holds under listed (c.in_ok-list_all.ensures.holds under empty_maps held no_lists))

pub returns-in_err-set-clause-allowed : goal.returns-in_err-set-clause-allowed
returns-in_err-set-clause-allowed g c under held =
    let listed : Maps = all_listed_on empty_maps c.entries-entries.result.now in
    let is = c.in_err-set.ensures.allowed under (all_objects_on listed (take c.loop-entry.entry-index c.entries-entries.result.now))
    (c.loop-entry.invariant.holds under listed (c.in_ok-list_all.ensures.holds under empty_maps held no_lists)) in
    search (rules, is)
