use Rattle.std.proofs.Common.{rules, arith, ◌≡◌, [], ◌∷◌, ◌++◌, List, subst, sym}
use Rattle.std.proofs.lemmas.Grind.{common_steps}
use Rattle.osm_base.specs.declared.values.object.Entry.{Entry}
use Rattle.osm_base.specs.values.Key.{KeyOf}
use Rattle.row_rules.specs.Rows.{rows_in}
use Rattle.store_maps.specs.Asked.{May, MayObject}
use Rattle.update_step.specs.Lacking.{AreLacking}
use Rattle.update_step.specs.Touch.{MayEntries}
use Rattle.update_step.specs.Unknown.{AreUnplaced, IsUnplaced}
use Rattle.update_step.proofs.KeyedLists.{all_at}
use Rattle.update_step.proofs.Parts.{all-append}
use Rattle.update_step.proofs.lacking.keys_lacking.Goals as goal
use Rattle.update_step.proofs.lacking.keys_lacking.Goals.{then-lacks+in_ok-push, else-lacks}

pub loop-entry-preserved : goal.loop-entry-preserved
loop-entry-preserved g c =
    let within : (may : May) → MayEntries may c.args.change.now → g.S.MapStore.within may c.args.store.now
    → g.S.MapStore.within may c.lacks_rows.new.store = λ may all before.
    let items : List Entry = c.entries-entry-items.result.now in
    let each : MayEntries may items = subst (MayEntries may) (sym c.entries-entry-items.ensures.entries) all in
    let entry : Entry = c.entry-item.result in
    c.lacks_rows.ensures.within may (all_at (λ (own : Entry). MayObject may own.key) items c.loop-entry.entry-index entry entry each
    c.loop-entry-test.true c.entry-item.is)
    (c.loop-entry.invariant.within may all before) in
    elim c.if-lacks.branch [
      | then-lacks+in_ok-push w ↦
          record {
            lacking = λ under maps objects held on.
                let rows = rows_in c.args.style.now objects in
                let pushed : c.if-lacks.keys.items ≡ c.loop-entry.keys.items ++ c.entry-item.result.key ∷ [] =
                first_of (search rules, grind (arith, common_steps)) in
                subst (AreLacking rows) (sym pushed)
                (all-append (λ (own : KeyOf). rows own ≡ []) c.loop-entry.keys.items (c.entry-item.result.key ∷ [])
                (c.loop-entry.invariant.lacking under maps objects held on) (
                  c.in_ok-lacks.ensures.none under maps objects (c.loop-entry.invariant.looks.holds under maps held) on
                      w.if-lacks.true,
                  tt,
                ));
            unplaced = λ under maps held.
                let pushed : c.if-lacks.keys.items ≡ c.loop-entry.keys.items ++ c.entry-item.result.key ∷ [] =
                first_of (search rules, grind (arith, common_steps)) in
                subst (AreUnplaced maps) (sym pushed)
                (all-append (IsUnplaced maps) c.loop-entry.keys.items (c.entry-item.result.key ∷ [])
                (c.loop-entry.invariant.unplaced under maps held) (
                  c.in_ok-lacks.ensures.unplaced under maps (c.loop-entry.invariant.looks.holds under maps held) w.if-lacks.true,
                  tt,
                ));
            within = within;
            looks = search rules;
          }
      | else-lacks w ↦
          record {
            lacking = λ under maps objects held on.
                let same : c.if-lacks.keys.items ≡ c.loop-entry.keys.items = first_of (search rules, grind (arith, common_steps)) in
                subst (AreLacking (rows_in c.args.style.now objects)) (sym same)
                (c.loop-entry.invariant.lacking under maps objects held on);
            unplaced = λ under maps held.
                let same : c.if-lacks.keys.items ≡ c.loop-entry.keys.items = first_of (search rules, grind (arith, common_steps)) in
                subst (AreUnplaced maps) (sym same) (c.loop-entry.invariant.unplaced under maps held);
            within = within;
            looks = search rules;
          }
    ]

pub returns-in_err-lacks-clause-within : goal.returns-in_err-lacks-clause-within
returns-in_err-lacks-clause-within g c may all before =
    let items : List Entry = c.entries-entry-items.result.now in
    let each : MayEntries may items = subst (MayEntries may) (sym c.entries-entry-items.ensures.entries) all in
    let entry : Entry = c.entry-item.result in
    c.lacks_rows.ensures.within may (all_at
    (λ (own : Entry). MayObject may own.key) items c.loop-entry.entry-index entry entry each c.loop-entry-test.true c.entry-item.is)
    (c.loop-entry.invariant.within may all before)
