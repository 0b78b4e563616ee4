use Rattle.std.proofs.Common.{rules, arith, ◌≡◌, true, false, Bool, cond, List, Option, ap, subst, sym, ◌∙◌}
use Rattle.std.specs.FinMap as finite
use Rattle.std.proofs.lemmas.Grind.{common_steps}
use Rattle.osm_base.specs.declared.values.key.Kind.TheVariants as kinds
use Rattle.osm_base.specs.declared.values.object.Entry.{Entry}
use Rattle.osm_base.specs.declared.values.object.Object.{Object}
use Rattle.osm_base.specs.map.Listers.{is_kind}
use Rattle.osm_base.specs.map.Objects.{ObjectSet, with_object}
use Rattle.store_maps.specs.Asked.{MayObject}
use Rattle.store_maps.specs.Maps.{Maps, way_or_relation_in}
use Rattle.update_step.specs.Old.{with_old}
use Rattle.update_step.specs.Touch.{MayEntries}
use Rattle.update_step.proofs.KeyedLists.{all_at, fold-more}
use Rattle.update_step.proofs.entries.old_relations.Goals as goal
use Rattle.update_step.proofs.entries.old_relations.Goals.{then-is_of_kind+in_ok-object+in_ok-apply, else-is_of_kind}

-- the relation of an entry's key was put
replaced : (maps : Maps) (objects after : ObjectSet) (entry : Entry) (object : Option Object)
    → is_kind kinds.Relation entry.key.kind ≡ true → object ≡ way_or_relation_in maps entry.key.kind entry.key.id
    → after ≡ with_object objects entry.key object → after ≡ with_old maps objects entry
replaced maps objects after entry object of_kind found put =
    put ∙ ap (with_object objects entry.key) found
    ∙ sym (ap (λ (b : Bool). cond b (with_object objects entry.key (way_or_relation_in maps entry.key.kind entry.key.id)) objects)
    of_kind)

-- it is no relation's, and all is as it was
kept : (maps : Maps) (objects after : ObjectSet) (entry : Entry) → is_kind kinds.Relation entry.key.kind ≡ false → after ≡ objects
    → after ≡ with_old maps objects entry
kept maps objects after entry not_of_kind same =
    same
    ∙ sym (ap (λ (b : Bool). cond b (with_object objects entry.key (way_or_relation_in maps entry.key.kind entry.key.id)) objects)
    not_of_kind)

pub loop-entry-preserved : goal.loop-entry-preserved
loop-entry-preserved g c =
    let items : List Entry = c.entries-entry-items.result.now in
    let entry : Entry = c.entry-item.result in
    elim c.if-is_of_kind.branch [
      | then-is_of_kind+in_ok-object+in_ok-apply w ↦
          record {
            old = λ under maps held.
                let still = c.loop-entry.invariant.looks.holds under maps held in
                let found : w.in_ok-object.object ≡ way_or_relation_in maps entry.key.kind entry.key.id = search (rules, still) in
                let put : c.if-is_of_kind.objects ≡ with_object c.loop-entry.objects entry.key w.in_ok-object.object =
                first_of (search rules, grind (arith, common_steps)) in
                replaced maps c.loop-entry.objects c.if-is_of_kind.objects entry w.in_ok-object.object
                (sym c.is_of_kind.ensures.same ∙ w.if-is_of_kind.true) found put
                ∙ ap (λ (objects : ObjectSet). with_old maps objects entry) (c.loop-entry.invariant.old under maps held)
                ∙ sym (fold-more (with_old maps) finite.empty items c.loop-entry.entry-index entry c.loop-entry-test.true c.entry-item.is);
            within = λ may all before.
                let each : MayEntries may items = subst (MayEntries may) (sym c.entries-entry-items.ensures.entries) all in
                let asked = w.way_or_relation.ensures.within may (all_at (λ (own : Entry). MayObject may own.key) items
                c.loop-entry.entry-index entry entry each c.loop-entry-test.true c.entry-item.is)
                (c.loop-entry.invariant.within may all before) in
                subst (g.S.MapStore.within may) (sym w.store-is) asked;
            looks = search rules;
          }
      | else-is_of_kind w ↦
          record {
            old = λ under maps held.
                let same : c.if-is_of_kind.objects ≡ c.loop-entry.objects = first_of (search rules, grind (arith, common_steps)) in
                kept maps c.loop-entry.objects c.if-is_of_kind.objects entry (sym c.is_of_kind.ensures.same ∙ w.if-is_of_kind.false) same
                ∙ ap (λ (objects : ObjectSet). with_old maps objects entry) (c.loop-entry.invariant.old under maps held)
                ∙ sym (fold-more (with_old maps) finite.empty items c.loop-entry.entry-index entry c.loop-entry-test.true c.entry-item.is);
            within = λ may all before. subst (g.S.MapStore.within may) (sym w.store-is) (c.loop-entry.invariant.within may all before);
            looks = search rules;
          }
    ]

pub returns-in_err-object-clause-within : goal.returns-in_err-object-clause-within
returns-in_err-object-clause-within g c may all before =
    let items : List Entry = c.entries-entry-items.result.now in
    let each : MayEntries may items = subst (MayEntries may) (sym c.entries-entry-items.ensures.entries) all in
    let entry : Entry = c.entry-item.result in
    c.way_or_relation.ensures.within may (all_at (λ (own : Entry). MayObject may own.key) items c.loop-entry.entry-index entry entry each
    c.loop-entry-test.true c.entry-item.is)
    (c.loop-entry.invariant.within may all before)

pub returns-in_err-apply-clause-within : goal.returns-in_err-apply-clause-within
returns-in_err-apply-clause-within g c may all before =
    let items : List Entry = c.entries-entry-items.result.now in
    let each : MayEntries may items = subst (MayEntries may) (sym c.entries-entry-items.ensures.entries) all in
    let entry : Entry = c.entry-item.result in
    c.way_or_relation.ensures.within may (all_at (λ (own : Entry). MayObject may own.key) items c.loop-entry.entry-index entry entry each
    c.loop-entry-test.true c.entry-item.is)
    (c.loop-entry.invariant.within may all before)
