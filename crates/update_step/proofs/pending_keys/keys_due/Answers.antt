use Rattle.std.proofs.Common.{◌≡◌, ℕ, false, List, sym, subst, ◌∙◌}
use Rattle.std.specs.List.{AllByRecursion}
use Rattle.osm_base.specs.declared.values.object.Entry.{Entry}
use Rattle.osm_base.specs.map.Known.{Index, Question}
use Rattle.osm_base.specs.map.Listers.{index_of}
use Rattle.osm_base.specs.map.Objects.{ObjectSet, folded_all}
use Rattle.row_rules.specs.Condition.{reaches_nodes}
use Rattle.dep_closure.specs.PendingSet.{AreTooMany, HasOldForms, IsPendingOf, OfKnown}
use Rattle.dep_closure.specs.Questions.{of_all}
use Rattle.store_maps.specs.Asked.{MayAnswer}
use Rattle.store_maps.specs.Maps.{Maps}
use Rattle.store_maps.specs.Stands.{StandsOn}
use Rattle.store_maps.proofs.IndexLaws.{index_is}
use Rattle.update_step.specs.Ends.{Ends}
use Rattle.update_step.proofs.Endings.{pending-ends}
use Rattle.update_step.proofs.Parts.{all-front}
use Rattle.update_step.proofs.Touching.{may-answer}
use Rattle.update_step.proofs.pending_keys.keys_due.Goals as goal

pub returns-in-Ok-clause-pending : goal.returns-in-Ok-clause-pending
returns-in-Ok-clause-pending g c objects forms under maps held on =
    let store = c.args.store.now in
    let after : ObjectSet = folded_all objects c.args.change.now in
    let knows : g.S.Back.knows store (index_of after) =
    subst (λ (index : Index). g.S.Back.knows store index) (index_is (reaches_nodes c.args.style.now) maps after on)
    (g.met.S.MapStore.tells store under maps held) in
    (c.in-Ok.ensures.pending objects forms knows, c.in-Ok.ensures.others objects forms knows)

pub returns-in-Err-clause-goes : goal.returns-in-Err-clause-goes
returns-in-Err-clause-goes g c =
    let old = c.args.store.now in
    let new = c.pending.new.back in
    let style = c.args.style.now in
    let change = c.args.change.now in
    let limit : ℕ = c.args.limits.now.pending in
    let asked = c.in-Err.ensures.asked_some.2 in
    let refused : g.row.S-Refusal.Denot → Type 0 =
    λ refusal. (first : g.row.S.Denot) → g.S.MapStore.looked first old → g.S.Back.bears new (g.S.Back.faults first) refusal in
    let many : ℕ → Type 0 = λ value. (objects : ObjectSet) → HasOldForms c.args.old.now objects change
    → (under : g.S.MapStore.Under) (maps : Maps) → g.S.MapStore.holds old under maps
    → StandsOn (reaches_nodes style) maps (folded_all objects change)
    → AreTooMany limit (λ set. IsPendingOf style objects change set) value in
    record {
      looked = λ first looked. g.met.S.MapStore.asked first old new asked.0 looked asked.3;
      spent = tt;
      ends = subst (Ends refused (g.S.Back.spent new ≡ false) many) (sym c.step_fault.ensures.same)
          (pending-ends (g.S.Back.bears new (g.S.Back.faults old)) refused (g.S.Back.spent new ≡ false)
          (AreTooMany limit (λ set. OfKnown (g.S.Back.knows old) c.args.old.now change (λ objects. IsPendingOf style objects change set)))
          many c.in-Err.why
          (λ refusal bears first looked. g.met.S.MapStore.asked_bears first old new asked.0 refusal looked asked.3 bears)
          (λ value most objects forms under maps held on.
          let after : ObjectSet = folded_all objects change in
          let knows : g.S.Back.knows old (index_of after) =
          subst (λ (index : Index). g.S.Back.knows old index) (index_is (reaches_nodes style) maps after on)
          (g.met.S.MapStore.tells old under maps held) in
          record { set = most.set; pending = most.pending objects forms knows; number = most.number; over = most.over })
          c.in-Err.ensures.asks.only.stopped c.in-Err.ensures.asks.only.unspent);
    }

pub returns-in-Ok-clause-within : goal.returns-in-Ok-clause-within
returns-in-Ok-clause-within g c under maps objects held on may touched before =
    let old = c.args.store.now in
    let new = c.pending.new.back in
    let style = c.args.style.now in
    let change : List Entry = c.args.change.now in
    let after : ObjectSet = folded_all objects change in
    let knows : g.S.Back.knows old (index_of after) =
    subst (λ (index : Index). g.S.Back.knows old index) (index_is (reaches_nodes style) maps after on)
    (g.met.S.MapStore.tells old under maps held) in
    let asked = c.in-Ok.ensures.asks.asked in
    g.met.S.MapStore.asked_within old new (of_all change asked.0) asked.2 under maps held may
    (may-answer style objects change may touched maps on asked.0 (λ way there. sym (asked.1.due (index_of after) knows way) ∙ there)) before

pub returns-in-Err-clause-within : goal.returns-in-Err-clause-within
returns-in-Err-clause-within g c under maps objects held on may touched before =
    let old = c.args.store.now in
    let new = c.pending.new.back in
    let style = c.args.style.now in
    let change : List Entry = c.args.change.now in
    let after : ObjectSet = folded_all objects change in
    let knows : g.S.Back.knows old (index_of after) =
    subst (λ (index : Index). g.S.Back.knows old index) (index_is (reaches_nodes style) maps after on)
    (g.met.S.MapStore.tells old under maps held) in
    let asked = c.in-Err.ensures.asked_some in
    let some = asked.2 in
    g.met.S.MapStore.asked_within old new some.0 some.3 under maps held may
    (all-front (MayAnswer may maps) some.0 some.1
    (subst (λ (questions : List Question). AllByRecursion (MayAnswer may maps) questions) some.2
    (may-answer style objects change may touched maps on asked.0 (λ way there. asked.1 (index_of after) knows way there)))) before
