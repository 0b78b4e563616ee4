-- The text of no tiles is committed.
use Rattle.std.proofs.Common.{◌∙◌, List, [], refl, subst}
use Rattle.std.specs.Result.{result_err}
use Rattle.tile_cover.specs.declared.runs.Run.{Run}
use Rattle.due_tiles.specs.Spelling.{set_bytes}
use Rattle.bucket_store.specs.Image.{Has, with_text}
use Rattle.bucket_store.proofs.Holding.{rests_under}
use Rattle.update_flow.specs.State.{Clear, cleared, imported}
use Rattle.update_flow.specs.declared.fields.TheConstants.{DUE_TEXT}
use Rattle.update_flow.proofs.Becoming.{cleared_becomes}
use Rattle.update_flow.proofs.Needs.{sound_fits}
use Rattle.update_flow.proofs.SoundSteps.{cleared_sound, sound_committed, sound_refused}
use Rattle.update_flow.proofs.Turning.{ends_then, runs_ended, sound_answers, turns_committed, turns_refused}
use Rattle.update_flow.proofs.clearing.clear.Goals as goal

pub returns-in-Ok-clause-turns : goal.returns-in-Ok-clause-turns
returns-in-Ok-clause-turns g c limits held rest same has is =
    let looks = c.in-Ok.ensures.stores.runs.looks in
    let now = with_text DUE_TEXT (set_bytes []) rest in
    let mid : Has rest now c.store_due.new.buckets =
    subst (λ (runs : List Run). Has rest (with_text DUE_TEXT (set_bytes runs) rest) c.store_due.new.buckets) c.new-none.ensures.none
    (c.in-Ok.ensures.stores.stored rest rest has) in
    turns_committed limits (imported held) Clear
    (result_err c.finish.result) rest now c.args.buckets.now c.store_due.new.buckets c.finish.new.buckets
    (rests_under rest rest c.args.buckets.now has) is looks (cleared_becomes held rest is) refl
    (c.finish.ensures.commits.commits limits rest now (looks.looked.limit ∙ same) mid)

pub returns-in-Ok-clause-ends : goal.returns-in-Ok-clause-ends
returns-in-Ok-clause-ends g c =
    ends_then (result_err c.finish.result) c.args.buckets.now c.store_due.new.buckets c.finish.new.buckets c.in-Ok.ensures.stores.runs.looks
    (c.finish.ensures.commits.ends Clear)

pub returns-clause-turns : goal.returns-clause-turns
returns-clause-turns g c limits held rest same has is =
    turns_refused limits (imported held) Clear c.in-Err.fault rest c.args.buckets.now c.store_due.new.buckets
    (rests_under rest rest c.args.buckets.now has) is c.in-Err.ensures.stores.runs.looks
    (sound_answers limits c.in-Err.fault _ (c.in-Err.ensures.stores.sound rest rest has))
    (sound_fits limits _ c.in-Err.fault (c.in-Err.ensures.stores.sound rest rest has))

pub returns-clause-ends : goal.returns-clause-ends
returns-clause-ends g c = runs_ended _ c.args.buckets.now c.store_due.new.buckets c.in-Err.ensures.stores.runs

-- the same of a sound store
pub returns-in-Ok-clause-sound : goal.returns-in-Ok-clause-sound
returns-in-Ok-clause-sound g c limits held rest same has is =
    let looks = c.in-Ok.ensures.stores.runs.looks in
    let now = with_text DUE_TEXT (set_bytes []) rest in
    let mid : Has rest now c.store_due.new.buckets =
    subst (λ (runs : List Run). Has rest (with_text DUE_TEXT (set_bytes runs) rest) c.store_due.new.buckets) c.new-none.ensures.none
    (c.in-Ok.ensures.stores.stored rest rest has) in
    sound_committed limits (imported held) Clear rest is (result_err c.finish.result) now (imported (cleared held)) c.args.buckets.now
    c.store_due.new.buckets c.finish.new.buckets (rests_under rest rest c.args.buckets.now has) looks (cleared_sound held rest is) refl refl
    (c.finish.ensures.commits.commits limits rest now (looks.looked.limit ∙ same) mid)

pub returns-clause-sound : goal.returns-clause-sound
returns-clause-sound g c limits held rest same has is =
    sound_refused limits (imported held) Clear rest is c.in-Err.fault c.args.buckets.now c.store_due.new.buckets
    (rests_under rest rest c.args.buckets.now has) c.in-Err.ensures.stores.runs.looks
    (sound_answers limits c.in-Err.fault _ (c.in-Err.ensures.stores.sound rest rest has))
