-- The maps are changed, and all is committed with the due tiles and the number of changes.
use Rattle.std.proofs.Common.{◌∙◌, List, Some, ap, arith, sym, subst}
use Rattle.osm_base.specs.map.Objects.{folded_all}
use Rattle.dep_closure.specs.PendingSet.{AreTooMany, IsPendingOf}
use Rattle.row_rules.specs.Row.{tables}
use Rattle.style_read.specs.Style.{StyleOf}
use Rattle.osm_base.specs.declared.values.object.Entry.{Entry}
use Rattle.tile_cover.specs.Runs.{IsTileSet}
use Rattle.tile_cover.specs.declared.runs.Run.{Run}
use Rattle.update_flow.specs.Ids.{AreIdEntries}
use Rattle.bucket_store.proofs.Holding.{looks_then, rests_under}
use Rattle.chain_store.specs.declared.root.Root.{Root}
use Rattle.bucket_store.specs.Buckets.{bucket_count}
use Rattle.bucket_store.specs.Transaction.{chains_of}
use Rattle.back_index.specs.Index.{is_spent}
use Rattle.update_flow.specs.maps.Calls.{buckets_of, stop_of, style_in}
use Rattle.update_flow.specs.maps.Held.{Beside}
use Rattle.update_flow.specs.maps.Laws.{later_same, over_going, over_none, over_whole}
use Rattle.update_flow.specs.Changes.{AreChanges}
use Rattle.update_flow.specs.SoundTurns.{TurnsSound}
use Rattle.update_flow.specs.State.{Append, imported}
use Rattle.update_flow.specs.Turning.{EndsIn, TurnsIn}
use Rattle.update_flow.specs.declared.fault.FlowFault.{FlowFault}
use Rattle.update_flow.proofs.Appended.{append_ends, append_turns, beside, has_maps, maps_stand}
use Rattle.update_flow.proofs.Changed.{not_zero, step_answers}
use Rattle.update_flow.proofs.Steps.{none_spent, step_ends}
use Rattle.update_flow.proofs.Needs.{sound_fits, step_fits}
use Rattle.update_flow.proofs.Turning.{ends_then, runs_ended, sound_answers, turns_refused}
use Rattle.update_flow.proofs.SoundChanged.{has_sound, sound_turns, stands_known}
use Rattle.update_flow.proofs.SoundSteps.{sound_refused}
use Rattle.update_flow.proofs.ReadLaws.{change_reads, none_loaded}
use Rattle.update_flow.proofs.appending.append.Goals as goal

pub change_maps-requires-clause-spent : goal.change_maps-requires-clause-spent
change_maps-requires-clause-spent g c =
    λ lifetimes within.
    over_none (stop_of c.args.maps.now) (is_spent c.load_due.new.buckets) c.requires.fresh
    (none_spent c.load_due.new.buckets c.in-Ok.ensures.goes.going (c.in-Ok.ensures.goes.runs.whole tt)
    (not_zero (bucket_count (chains_of c.load_due.new.buckets))
    (λ zero. c.if-root-eq0.false (ap (λ (r : Root). r.buckets) c.root.ensures ∙ zero))))

pub commit_due-requires : goal.commit_due-requires
commit_due-requires g c = record {
  ready = record {
    going = over_going c.change_maps.new.store c.in-Ok-change_maps.ensures.goes.spent;
    whole = over_whole c.change_maps.new.store c.in-Ok-change_maps.ensures.goes.spent;
  };
}

-- the due tiles are not read
pub returns-in-Err-clause-turns : goal.returns-in-Err-clause-turns
returns-in-Err-clause-turns g c held rest same was is style next =
    turns_refused c.args.limits.now (imported held) (Append c.args.bounds.now c.args.change.now) c.in-Err.fault rest
    (buckets_of c.args.maps.now) c.load_due.new.buckets
    (rests_under rest rest (buckets_of c.args.maps.now) was) is c.in-Err.ensures.goes.runs.looks
    (sound_answers c.args.limits.now c.in-Err.fault _ (c.in-Err.ensures.sound rest rest held was is))
    (sound_fits c.args.limits.now _ c.in-Err.fault (c.in-Err.ensures.sound rest rest held was is))

pub returns-in-Err-clause-ends : goal.returns-in-Err-clause-ends
returns-in-Err-clause-ends g c = runs_ended _ (buckets_of c.args.maps.now) c.load_due.new.buckets c.in-Err.ensures.goes.runs

-- the change is refused
pub returns-in-Err-change_maps-clause-turns : goal.returns-in-Err-change_maps-clause-turns
returns-in-Err-change_maps-clause-turns g c held rest same was is style next =
    let old = buckets_of c.args.maps.now in
    let mid = c.load_due.new.buckets in
    let last = c.change_maps.new.store in
    let change = c.args.change.now in
    let limits = c.args.limits.now in
    let later = c.change_maps.ensures.goes.looked _ (later_same _) in
    let under : Beside = beside rest in
    let keeps = has_maps held rest is c.args.style.now style (style_in c.args.maps.now) mid c.requires.style
    (c.in-Ok.ensures.has rest rest was) in
    let stand = maps_stand held rest is c.args.style.now style in
    let answers = step_answers limits held c.args.bounds.now change _ _ _ c.in-Err-change_maps.why c.in-Err-change_maps.ensures.goes.ends
    (c.in-Err-change_maps.ensures.changes under is.maps.maps held.objects keeps stand).allowed
    (λ value many. (
      (λ last. absurd (omega (arith, last, next, c.requires.counted))),
      subst (λ (s : StyleOf). AreTooMany limits.pending (λ set. IsPendingOf s held.objects change set) value) (sym style)
          (many under is.maps.maps held.objects keeps stand.on),
    )) in
    subst (λ (f : FlowFault). TurnsIn limits (imported held) (Append c.args.bounds.now change) (Some f) old (buckets_of last))
    (sym c.step_fault.ensures)
    (turns_refused limits (imported held) (Append c.args.bounds.now change) _ rest old (buckets_of last) (rests_under rest rest old was) is
    (looks_then old mid (buckets_of last) c.in-Ok.ensures.goes.runs.looks later.looks) answers
    (step_fits limits _ c.in-Err-change_maps.why
    (c.in-Err-change_maps.ensures.changes under is.maps.maps held.objects keeps stand).allowed))

pub returns-in-Err-change_maps-clause-ends : goal.returns-in-Err-change_maps-clause-ends
returns-in-Err-change_maps-clause-ends g c =
    let old = buckets_of c.args.maps.now in
    let mid = c.load_due.new.buckets in
    let last = c.change_maps.new.store in
    let later = c.change_maps.ensures.goes.looked _ (later_same _) in
    subst (λ (f : FlowFault). EndsIn (Some (Append c.args.bounds.now c.args.change.now)) (Some f) old (buckets_of last))
    (sym c.step_fault.ensures)
    (ends_then _ old mid (buckets_of last) c.in-Ok.ensures.goes.runs.looks
    (step_ends mid (buckets_of last) later.looks _ _ _ c.in-Err-change_maps.why c.in-Err-change_maps.ensures.goes.ends
    (λ fault refused. (refused _ (later_same _)).1) (λ fresh. over_whole last fresh) (Some (Append c.args.bounds.now c.args.change.now))
    (λ value many. tt)))

-- A sound store.

-- the due tiles are not read
pub returns-in-Err-clause-sound : goal.returns-in-Err-clause-sound
returns-in-Err-clause-sound g c held rest same was is style next =
    sound_refused c.args.limits.now (imported held) (Append c.args.bounds.now c.args.change.now) rest is c.in-Err.fault
    (buckets_of c.args.maps.now) c.load_due.new.buckets (rests_under rest rest (buckets_of c.args.maps.now) was)
    c.in-Err.ensures.goes.runs.looks
    (sound_answers c.args.limits.now c.in-Err.fault _ (c.in-Err.ensures.spelled rest rest held.due was is.due))

-- the change is refused
pub returns-in-Err-change_maps-clause-sound : goal.returns-in-Err-change_maps-clause-sound
returns-in-Err-change_maps-clause-sound g c held rest same was is style next =
    let old = buckets_of c.args.maps.now in
    let mid = c.load_due.new.buckets in
    let last = c.change_maps.new.store in
    let change = c.args.change.now in
    let limits = c.args.limits.now in
    let later = c.change_maps.ensures.goes.looked _ (later_same _) in
    let under : Beside = beside rest in
    let keeps = has_sound held rest is c.args.style.now style (style_in c.args.maps.now) mid c.requires.style
    (c.in-Ok.ensures.has rest rest was) in
    let stand = stands_known held rest is c.args.style.now style in
    let answers = step_answers limits held c.args.bounds.now change _ _ _ c.in-Err-change_maps.why c.in-Err-change_maps.ensures.goes.ends
    (c.in-Err-change_maps.ensures.known under is.maps.maps held.objects keeps stand).allowed
    (λ value many. (
      (λ last. absurd (omega (arith, last, next, c.requires.counted))),
      subst (λ (s : StyleOf). AreTooMany limits.pending (λ set. IsPendingOf s held.objects change set) value) (sym style)
          (many under is.maps.maps held.objects keeps stand.on),
    )) in
    subst (λ (f : FlowFault). TurnsSound limits (imported held) (Append c.args.bounds.now change) (Some f) old (buckets_of last))
    (sym c.step_fault.ensures)
    (sound_refused limits (imported held) (Append c.args.bounds.now change) rest is _ old (buckets_of last) (rests_under rest rest old was)
    (looks_then old mid (buckets_of last) c.in-Ok.ensures.goes.runs.looks later.looks) answers)

-- all is committed, or nothing
pub returns-in-Ok-commit_due-clause-sound : goal.returns-in-Ok-commit_due-clause-sound
returns-in-Ok-commit_due-clause-sound g c held rest same was is style next =
    let old = buckets_of c.args.maps.now in
    let mid = c.load_due.new.buckets in
    let last = c.change_maps.new.store in
    let later = c.change_maps.ensures.goes.looked _ (later_same _) in
    let under : Beside = beside rest in
    let keeps = has_sound held rest is c.args.style.now style (style_in c.args.maps.now) mid c.requires.style
    (c.in-Ok.ensures.has rest rest was) in
    let stand = stands_known held rest is c.args.style.now style in
    sound_turns held rest is c.args.style.now style c.args.limits.now c.args.bounds.now c.args.change.now c.args.number old mid
    (buckets_of last) c.commit_due.new.buckets c.in-Ok.ensures.goes.runs.looks later.looks c.change_maps.new.due _
    c.in-Ok-commit_due.ensures.commits
    (style_in last) _ (later.same_style ∙ c.requires.style) was same next c.requires.counted
    (subst (λ (l : List Run). IsTileSet l) c.as_slice-runs.ensures.runs c.as_slice-runs.ensures.tiles)
    (subst (λ (l : List Entry). AreIdEntries l) c.entries.ensures.entries c.known_ids.ensures)
    (c.in-Ok-change_maps.ensures.known under is.maps.maps held.objects keeps stand)

pub returns-clause-sound : goal.returns-clause-sound
returns-clause-sound g c held rest same was is style next =
    let old = buckets_of c.args.maps.now in
    let mid = c.load_due.new.buckets in
    let last = c.change_maps.new.store in
    let later = c.change_maps.ensures.goes.looked _ (later_same _) in
    let under : Beside = beside rest in
    let keeps = has_sound held rest is c.args.style.now style (style_in c.args.maps.now) mid c.requires.style
    (c.in-Ok.ensures.has rest rest was) in
    let stand = stands_known held rest is c.args.style.now style in
    sound_turns held rest is c.args.style.now style c.args.limits.now c.args.bounds.now c.args.change.now c.args.number old mid
    (buckets_of last) c.commit_due.new.buckets c.in-Ok.ensures.goes.runs.looks later.looks c.change_maps.new.due _
    c.in-Err-commit_due.ensures.commits
    (style_in last) _ (later.same_style ∙ c.requires.style) was same next c.requires.counted
    (subst (λ (l : List Run). IsTileSet l) c.as_slice-runs.ensures.runs c.as_slice-runs.ensures.tiles)
    (subst (λ (l : List Entry). AreIdEntries l) c.entries.ensures.entries c.known_ids.ensures)
    (c.in-Ok-change_maps.ensures.known under is.maps.maps held.objects keeps stand)

-- A store that stands for a state.

-- all is committed, or nothing
pub returns-in-Ok-commit_due-clause-changes : goal.returns-in-Ok-commit_due-clause-changes
returns-in-Ok-commit_due-clause-changes g c held rest was is style =
    let mid = c.load_due.new.buckets in
    let change = c.args.change.now in
    let under : Beside = beside rest in
    let keeps = has_maps held rest is c.args.style.now style (style_in c.args.maps.now) mid c.requires.style
    (c.in-Ok.ensures.has rest rest was) in
    let stand = maps_stand held rest is c.args.style.now style in
    let done = c.in-Ok-change_maps.ensures.changes under is.maps.maps held.objects keeps stand in
    let told = done.told in
    subst (λ (s : StyleOf). AreChanges (tables s held.objects) (tables s (folded_all held.objects change)) c.in-Ok-change_maps.told)
    (sym style)
    (record { each = told.each; all = told.all; applied = done.applied })

pub returns-in-Ok-commit_due-clause-turns : goal.returns-in-Ok-commit_due-clause-turns
returns-in-Ok-commit_due-clause-turns g c held rest same was is style next =
    let old = buckets_of c.args.maps.now in
    let mid = c.load_due.new.buckets in
    let last = c.change_maps.new.store in
    let later = c.change_maps.ensures.goes.looked _ (later_same _) in
    let under : Beside = beside rest in
    let keeps = has_maps held rest is c.args.style.now style (style_in c.args.maps.now) mid c.requires.style
    (c.in-Ok.ensures.has rest rest was) in
    let stand = maps_stand held rest is c.args.style.now style in
    append_turns held rest is c.args.style.now style c.args.limits.now c.args.bounds.now c.args.change.now c.args.number old mid
    (buckets_of last) c.commit_due.new.buckets c.in-Ok.ensures.goes.runs.looks later.looks c.change_maps.new.due _
    c.in-Ok-commit_due.ensures.commits
    (style_in last) _ _ (later.same_style ∙ c.requires.style) was same next c.requires.counted (c.in-Ok.ensures.due rest rest held was is)
    (subst (λ (l : List Run). IsTileSet l) c.as_slice-runs.ensures.runs c.as_slice-runs.ensures.tiles)
    (subst (λ (l : List Entry). AreIdEntries l) c.entries.ensures.entries c.known_ids.ensures)
    (c.in-Ok-change_maps.ensures.changes under is.maps.maps held.objects keeps stand)

pub returns-in-Ok-commit_due-clause-ends : goal.returns-in-Ok-commit_due-clause-ends
returns-in-Ok-commit_due-clause-ends g c =
    let later = c.change_maps.ensures.goes.looked _ (later_same _) in
    append_ends c.args.bounds.now c.args.change.now c.args.number (buckets_of c.args.maps.now) c.load_due.new.buckets
    (buckets_of c.change_maps.new.store) c.commit_due.new.buckets c.change_maps.new.due _ c.in-Ok.ensures.goes.runs.looks later.looks
    c.in-Ok-commit_due.ensures.commits

pub returns-clause-turns : goal.returns-clause-turns
returns-clause-turns g c held rest same was is style next =
    let old = buckets_of c.args.maps.now in
    let mid = c.load_due.new.buckets in
    let last = c.change_maps.new.store in
    let later = c.change_maps.ensures.goes.looked _ (later_same _) in
    let under : Beside = beside rest in
    let keeps = has_maps held rest is c.args.style.now style (style_in c.args.maps.now) mid c.requires.style
    (c.in-Ok.ensures.has rest rest was) in
    let stand = maps_stand held rest is c.args.style.now style in
    append_turns held rest is c.args.style.now style c.args.limits.now c.args.bounds.now c.args.change.now c.args.number old mid
    (buckets_of last) c.commit_due.new.buckets c.in-Ok.ensures.goes.runs.looks later.looks c.change_maps.new.due _
    c.in-Err-commit_due.ensures.commits
    (style_in last) _ _ (later.same_style ∙ c.requires.style) was same next c.requires.counted (c.in-Ok.ensures.due rest rest held was is)
    (subst (λ (l : List Run). IsTileSet l) c.as_slice-runs.ensures.runs c.as_slice-runs.ensures.tiles)
    (subst (λ (l : List Entry). AreIdEntries l) c.entries.ensures.entries c.known_ids.ensures)
    (c.in-Ok-change_maps.ensures.changes under is.maps.maps held.objects keeps stand)

-- no more was read than the change touches
pub returns-in-Ok-commit_due-clause-reads : goal.returns-in-Ok-commit_due-clause-reads
returns-in-Ok-commit_due-clause-reads g c held rest was is style unread may touched pages rests =
    let old = buckets_of c.args.maps.now in
    let mid = c.load_due.new.buckets in
    let last = c.change_maps.new.store in
    let later = c.change_maps.ensures.goes.looked _ (later_same _) in
    let done = c.in-Ok-change_maps.ensures in
    let under : Beside = beside rest in
    let keeps = has_maps held rest is c.args.style.now style (style_in c.args.maps.now) mid c.requires.style
    (c.in-Ok.ensures.has rest rest was) in
    let stand = maps_stand held rest is c.args.style.now style in
    let made = (done.changes under is.maps.maps held.objects keeps stand).stands.1 in
    let going = over_going last done.goes.spent in
    let loads = c.in-Ok.ensures.reads in
    let only = c.change_maps.ensures.within under is.maps.maps held.objects keeps stand may touched
    (none_loaded may old mid (buckets_of last) c.commit_due.new.buckets unread loads) in
    change_reads may old mid (buckets_of last) c.commit_due.new.buckets unread loads c.in-Ok.ensures.goes.runs.looks later.looks
    (later.reads going) only going
    (ap (λ (r : Root). r.buckets) (made.has.root ∙ made.root ∙ sym was.root))
    (c.in-Ok-commit_due.ensures.reads rest made.now made.has) pages rests

pub returns-clause-ends : goal.returns-clause-ends
returns-clause-ends g c =
    let later = c.change_maps.ensures.goes.looked _ (later_same _) in
    append_ends c.args.bounds.now c.args.change.now c.args.number (buckets_of c.args.maps.now) c.load_due.new.buckets
    (buckets_of c.change_maps.new.store) c.commit_due.new.buckets c.change_maps.new.due _ c.in-Ok.ensures.goes.runs.looks later.looks
    c.in-Err-commit_due.ensures.commits
