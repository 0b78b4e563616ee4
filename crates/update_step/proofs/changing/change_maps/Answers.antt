use Rattle.std.proofs.Common.{rules, ◌≡◌, ◌≤◌, ◌||◌, ℕ, Bool, List, fold, length, sym, subst, ap, ◌∙◌, arith}
use Rattle.std.specs.FinMap as finite
use Rattle.osm_base.specs.declared.values.object.Entry.{Entry}
use Rattle.style_read.specs.Style.{StyleOf}
use Rattle.dep_closure.specs.PendingSet.{HasOldForms}
use Rattle.store_maps.specs.Stands.{StandsOn}
use Rattle.store_maps.proofs.IndexLaws.{ways_are_there}
use Rattle.update_step.specs.Old.{with_old}
use Rattle.osm_base.specs.declared.values.row.RowChange.{RowChange}
use Rattle.osm_base.specs.map.Objects.{ObjectSet, folded_all}
use Rattle.row_rules.specs.Condition.{reaches_nodes}
use Rattle.row_rules.specs.Row.{tables}
use Rattle.row_rules.specs.Rows.{rows_in}
use Rattle.geom_workers.specs.Keys.{keys_of}
use Rattle.tile_cover.specs.Runs.{has}
use Rattle.store_maps.specs.Append.{appended}
use Rattle.store_maps.specs.Delta.{IsDelta}
use Rattle.store_maps.specs.Maps.{Maps, all_kept}
use Rattle.store_maps.specs.Step.{change_on}
use Rattle.store_maps.proofs.DeltaLaws.{delta-applied}
use Rattle.store_maps.proofs.ObjectMaps.{entries_stand}
use Rattle.store_maps.proofs.Standing.{appended_stands}
use Rattle.update_step.specs.Lacking.{AreLacking}
use Rattle.update_step.specs.Turned.{HadRows}
use Rattle.update_step.specs.Unknown.{AreUnplaced}
use Rattle.update_step.proofs.ByTables.{rows_in-by-table}
use Rattle.update_step.proofs.Endings.{ends-then, if_err-then, if_ok-then, on_ok-then}
use Rattle.update_step.proofs.EntryLists.{change_proper}
use Rattle.update_step.proofs.PendingKeys.{keys-size, old-forms, outside-rows, pending-rows, same-size}
use Rattle.update_step.proofs.RowsStill.{entries-keep}
use Rattle.update_step.proofs.Said.{change-known}
use Rattle.update_step.proofs.Touching.{may-entries, may-needs, may-rows, may-turn}
use Rattle.update_step.proofs.Unknown.{had-rows, is-left, stands-known}
use Rattle.update_step.proofs.Whole.{delta-is, due-is}
use Rattle.update_step.proofs.changing.change_maps.Goals as goal

-- the relations that the change replaces are those that were found
old_are : (style : StyleOf) (maps : Maps) (objects : ObjectSet) (change : List Entry) (old : ObjectSet)
    → StandsOn (reaches_nodes style) maps objects → old ≡ fold (with_old maps) finite.empty change → HasOldForms old objects change
old_are style maps objects change old on are = subst (λ (own : ObjectSet). HasOldForms own objects change) (sym are)
    (old-forms maps objects (reaches_nodes style) change on)

pub rebuild-requires-clause-style : goal.rebuild-requires-clause-style
rebuild-requires-clause-style g c _ _ =
    let first = c.args.store.now in
    g.met.S.MapStore.same_style first c.keys_due.new.store
    (c.keys_due.ensures.goes.looked first (c.apply_change.ensures.sets.looked first (c.old_relations.ensures.looks.looked first
    (c.keys_lacking.ensures.looks.looked first (g.met.S.MapStore.looked_none first)))))
    ∙ c.requires.style

pub invariant_of-pending : goal.invariant_of-pending
invariant_of-pending g c =
    let count = keys-size c.in-Ok.set in
    let few = c.in-Ok.ensures.few in
    let number = c.pending-most.ensures.number in
    let most = c.pending-most.ensures.most in
    omega (arith, count, few, number, most)

pub returns-in-Ok-clause-changes : goal.returns-in-Ok-clause-changes
returns-in-Ok-clause-changes g c under maps objects held stands =
    let style = c.args.style.now in
    let change = c.args.change.now in
    let set = c.in-Ok.set in
    let proper = change_proper change c.entries-entries.ensures.rise in
    let after : ObjectSet = folded_all objects change in
    let changed : Maps = change_on maps change in
    let on = entries_stand (reaches_nodes style) change maps objects stands.on proper in
    let first = c.in_ok-lacking.ensures.looks.holds under maps held in
    let forms = old_are style maps objects change c.in_ok-old.old stands.on (c.in_ok-old.ensures.old under maps first) in
    let still = c.in_ok-old.ensures.looks.holds under maps first in
    let applied : g.S.MapStore.holds c.apply_change.new.store under (change_on maps c.args.change.now) = search (rules, still) in
    let both = c.in-Ok.ensures.pending objects forms under changed applied on in
    let read = c.in-Ok.ensures.holds under changed applied in
    let kept = entries-keep maps change (rows_in style objects) stands.rows in
    let lacks : AreLacking (rows_in style objects) c.as_slice-lacking.result.now =
    subst (AreLacking (rows_in style objects)) (sym c.as_slice-lacking.ensures.value)
    (c.in_ok-lacking.ensures.lacking under maps objects held stands.on) in
    let had : HadRows (length style.tables) c.as_slice-lacking.result.now changed (rows_in style objects) =
    record { held = kept; none = lacks; by_table = rows_in-by-table style objects } in
    let built = pending-rows style maps objects change on set both.0 in
    let done = c.rebuild.ensures.replaces under changed (rows_in style objects) (rows_in style after) read had built
    (change-known maps change c.entries-entries.ensures.rise) in
    let delta = delta-is style objects change set both.0.rising both.1 in
    record {
      stands = on_ok-then c.rebuild.result done.holds (λ holds. (
        appended maps change (rows_in style after) (keys_of set),
        holds,
        appended_stands style maps objects change (keys_of set) stands proper (outside-rows style objects change set both.1),
      ));
      told = if_ok-then c.rebuild.result done.told (λ changes told.
          subst (λ (own : List RowChange). IsDelta (finite.get (tables style objects)) (finite.get (tables style after)) own)
          (sym told) delta);
      applied = if_ok-then c.rebuild.result done.told (λ changes told. delta-applied (tables style objects) (tables style after) changes
          (subst (λ (own : List RowChange). IsDelta (finite.get (tables style objects)) (finite.get (tables style after)) own)
          (sym told) delta));
      due = on_ok-then c.rebuild.result done.due (λ due zoom x y.
          due zoom x y ∙ ap (λ (b : Bool). has c.args.due.now zoom x y || b)
          (due-is style objects change set both.0.rising both.1 c.args.bounds.now zoom x y));
      few = on_ok-then c.rebuild.result done.holds (λ _ own pending.
          subst (λ (count : ℕ). count ≤ c.args.limits.now.pending)
          (same-size style objects change set own both.0 pending) c.in-Ok.ensures.few);
      allowed = c.rebuild.ensures.allowed under changed (rows_in style objects) read had;
    }

-- nodes whose tags nobody knows keep their rows, and all else is built anew
pub returns-in-Ok-clause-known : goal.returns-in-Ok-clause-known
returns-in-Ok-clause-known g c under maps objects held stands =
    let style = c.args.style.now in
    let change = c.args.change.now in
    let set = c.in-Ok.set in
    let proper = change_proper change c.entries-entries.ensures.rise in
    let after : ObjectSet = folded_all objects change in
    let changed : Maps = change_on maps change in
    let on = entries_stand (reaches_nodes style) change maps objects stands.on proper in
    let first = c.in_ok-lacking.ensures.looks.holds under maps held in
    let forms = old_are style maps objects change c.in_ok-old.old stands.on (c.in_ok-old.ensures.old under maps first) in
    let still = c.in_ok-old.ensures.looks.holds under maps first in
    let applied : g.S.MapStore.holds c.apply_change.new.store under (change_on maps c.args.change.now) = search (rules, still) in
    let both = c.in-Ok.ensures.pending objects forms under changed applied on in
    let read = c.in-Ok.ensures.holds under changed applied in
    let had : HadRows (length style.tables) c.as_slice-lacking.result.now changed (all_kept maps) =
    had-rows style maps objects stands change c.as_slice-lacking.result.now
    (subst (AreLacking (rows_in style objects)) (sym c.as_slice-lacking.ensures.value)
    (c.in_ok-lacking.ensures.lacking under maps objects held stands.on))
    (subst (AreUnplaced maps) (sym c.as_slice-lacking.ensures.value) (c.in_ok-lacking.ensures.unplaced under maps held)) in
    let built = pending-rows style maps objects change on set both.0 in
    let done = c.rebuild.ensures.replaces under changed (all_kept maps) (rows_in style after) read had built
    (change-known maps change c.entries-entries.ensures.rise) in
    record {
      stands = on_ok-then c.rebuild.result done.holds (λ holds. (
        appended maps change (rows_in style after) (keys_of set),
        holds,
        stands-known style maps objects change set stands proper both.0 both.1,
        is-left style maps objects change set stands proper both.0 both.1,
      ));
      few = on_ok-then c.rebuild.result done.holds (λ _ own pending.
          subst (λ (count : ℕ). count ≤ c.args.limits.now.pending)
          (same-size style objects change set own both.0 pending) c.in-Ok.ensures.few);
      allowed = c.rebuild.ensures.allowed under changed (all_kept maps) read had;
    }

pub returns-clause-known : goal.returns-clause-known
returns-clause-known g c under maps objects held stands =
    let style = c.args.style.now in
    let change = c.args.change.now in
    let on = entries_stand (reaches_nodes style) change maps objects stands.on (change_proper change c.entries-entries.ensures.rise) in
    let still = c.in_ok-old.ensures.looks.holds under maps (c.in_ok-lacking.ensures.looks.holds under maps held) in
    let applied : g.S.MapStore.holds c.apply_change.new.store under (change_on maps c.args.change.now) = search (rules, still) in
    record {
      stands = tt;
      few = tt;
      allowed = c.in-Err.ensures.allowed under (change_on maps change) applied
          (ways_are_there (reaches_nodes style) (change_on maps change) (folded_all objects change) on);
    }

pub returns-in-Ok-clause-goes : goal.returns-in-Ok-clause-goes
returns-in-Ok-clause-goes g c =
    record {
      looked = λ first looked. c.rebuild.ensures.goes.looked first
          (c.keys_due.ensures.goes.looked first (c.apply_change.ensures.sets.looked first (c.old_relations.ensures.looks.looked first
          (c.keys_lacking.ensures.looks.looked first looked))));
      spent = c.rebuild.ensures.goes.spent;
      ends = if_err-then c.rebuild.result c.rebuild.ensures.goes.ends (λ why ends.
          ends-then _ _ _ _ _ _ why (λ refusal bears first looked.
          bears first (c.keys_due.ensures.goes.looked first
          (c.apply_change.ensures.sets.looked first (c.old_relations.ensures.looks.looked first
          (c.keys_lacking.ensures.looks.looked first looked))))) (λ unspent. unspent)
          (λ value never. absurd never) ends);
    }

pub returns-clause-changes : goal.returns-clause-changes
returns-clause-changes g c under maps objects held stands =
    let style = c.args.style.now in
    let change = c.args.change.now in
    let on = entries_stand (reaches_nodes style) change maps objects stands.on (change_proper change c.entries-entries.ensures.rise) in
    let still = c.in_ok-old.ensures.looks.holds under maps (c.in_ok-lacking.ensures.looks.holds under maps held) in
    let applied : g.S.MapStore.holds c.apply_change.new.store under (change_on maps c.args.change.now) = search (rules, still) in
    record {
      stands = tt;
      told = tt;
      applied = tt;
      due = tt;
      few = tt;
      allowed = c.in-Err.ensures.allowed under (change_on maps change) applied
          (ways_are_there (reaches_nodes style) (change_on maps change) (folded_all objects change) on);
    }

pub returns-clause-goes : goal.returns-clause-goes
returns-clause-goes g c =
    record {
      looked = λ first looked. c.keys_due.ensures.goes.looked first
          (c.apply_change.ensures.sets.looked first (c.old_relations.ensures.looks.looked first
          (c.keys_lacking.ensures.looks.looked first looked)));
      spent = tt;
      ends = ends-then _ _ _ _ _ _ c.in-Err.why
          (λ refusal bears first looked. bears first (c.apply_change.ensures.sets.looked first (c.old_relations.ensures.looks.looked first
          (c.keys_lacking.ensures.looks.looked first looked))))
          (λ unspent. unspent)
          (λ value many under maps objects held before.
          let style = c.args.style.now in
          let change = c.args.change.now in
          let read = c.in_ok-lacking.ensures.looks.holds under maps held in
          let forms = old_are style maps objects change c.in_ok-old.old before (c.in_ok-old.ensures.old under maps read) in
          let on = entries_stand (reaches_nodes style) change maps objects before
          (change_proper change c.entries-entries.ensures.rise) in
          let still = c.in_ok-old.ensures.looks.holds under maps read in
          let applied : g.S.MapStore.holds c.apply_change.new.store under (change_on maps c.args.change.now) = search (rules, still) in
          many objects forms under (change_on maps change) applied on)
          c.in-Err.ensures.goes.ends;
    }

pub returns-in-Ok-clause-within : goal.returns-in-Ok-clause-within
returns-in-Ok-clause-within g c under maps objects held stands may touched before =
    let style = c.args.style.now in
    let change = c.args.change.now in
    let rise = c.entries-entries.ensures.rise in
    let lacking = c.keys_lacking.ensures.within may (may-entries style objects change may touched) before in
    let read = c.in_ok-lacking.ensures.looks.holds under maps held in
    let old = c.old_relations.ensures.within may (may-entries style objects change may touched) lacking in
    let still = c.in_ok-old.ensures.looks.holds under maps read in
    let applied = c.apply_change.ensures.within under maps still (reaches_nodes style) objects stands.on may
    (may-turn style objects change may touched rise) old in
    let on = entries_stand (reaches_nodes style) change maps objects stands.on (change_proper change rise) in
    let changed : g.S.MapStore.holds c.apply_change.new.store under (change_on maps c.args.change.now) = search (rules, still) in
    let due = c.keys_due.ensures.within under (change_on maps change) objects changed on may touched applied in
    let forms = old_are style maps objects change c.in_ok-old.old stands.on (c.in_ok-old.ensures.old under maps read) in
    let set = c.in-Ok.set in
    let pending = c.in-Ok.ensures.pending objects forms under (change_on maps change) changed on in
    c.rebuild.ensures.within under (change_on maps change) (c.in-Ok.ensures.holds under (change_on maps change) changed)
    (change-known maps change rise) may
    (may-needs style objects change may touched (change_on maps change) on set pending.0)
    (may-rows style objects change may touched (change_on maps change) on set pending.0) due

pub returns-clause-within : goal.returns-clause-within
returns-clause-within g c under maps objects held stands may touched before =
    let style = c.args.style.now in
    let change = c.args.change.now in
    let rise = c.entries-entries.ensures.rise in
    let lacking = c.keys_lacking.ensures.within may (may-entries style objects change may touched) before in
    let read = c.in_ok-lacking.ensures.looks.holds under maps held in
    let old = c.old_relations.ensures.within may (may-entries style objects change may touched) lacking in
    let still = c.in_ok-old.ensures.looks.holds under maps read in
    let applied = c.apply_change.ensures.within under maps still (reaches_nodes style) objects stands.on may
    (may-turn style objects change may touched rise) old in
    let on = entries_stand (reaches_nodes style) change maps objects stands.on (change_proper change rise) in
    let changed : g.S.MapStore.holds c.apply_change.new.store under (change_on maps c.args.change.now) = search (rules, still) in
    let due = c.keys_due.ensures.within under (change_on maps change) objects changed on may touched applied in
    due

pub returns-in_err-map_err-clause-within : goal.returns-in_err-map_err-clause-within
returns-in_err-map_err-clause-within g c under maps objects held stands may touched before =
    let style = c.args.style.now in
    let change = c.args.change.now in
    let rise = c.entries-entries.ensures.rise in
    let lacking = c.keys_lacking.ensures.within may (may-entries style objects change may touched) before in
    let read = c.in_ok-lacking.ensures.looks.holds under maps held in
    let old = c.old_relations.ensures.within may (may-entries style objects change may touched) lacking in
    let still = c.in_ok-old.ensures.looks.holds under maps read in
    let applied = c.apply_change.ensures.within under maps still (reaches_nodes style) objects stands.on may
    (may-turn style objects change may touched rise) old in
    applied

pub returns-in_err-old-clause-within : goal.returns-in_err-old-clause-within
returns-in_err-old-clause-within g c under maps objects held stands may touched before =
    let style = c.args.style.now in
    let change = c.args.change.now in
    let rise = c.entries-entries.ensures.rise in
    let lacking = c.keys_lacking.ensures.within may (may-entries style objects change may touched) before in
    let read = c.in_ok-lacking.ensures.looks.holds under maps held in
    let old = c.old_relations.ensures.within may (may-entries style objects change may touched) lacking in
    old

pub returns-in_err-lacking-clause-within : goal.returns-in_err-lacking-clause-within
returns-in_err-lacking-clause-within g c under maps objects held stands may touched before =
    let style = c.args.style.now in
    let change = c.args.change.now in
    let rise = c.entries-entries.ensures.rise in
    let lacking = c.keys_lacking.ensures.within may (may-entries style objects change may touched) before in
    lacking
