-- There is room for the rows, they are put there, and all is committed with the style.
use Rattle.std.proofs.Common.{◌∙◌, Some, None, refl}
use Rattle.std.specs.Result.{result_err}
use Rattle.std.specs.FinMap as finite
use Rattle.bucket_store.proofs.Holding.{looks_then, rests_under}
use Rattle.delta_feed.specs.declared.block.Block.TheVariants as blocks
use Rattle.update_flow.specs.State.{Follow, following, formatted}
use Rattle.update_flow.proofs.Needs.{sound_fits}
use Rattle.update_flow.proofs.Running.{runs_then}
use Rattle.update_flow.proofs.Takings.{blank_becomes, held_becomes, rising_fit}
use Rattle.update_flow.proofs.Turning.{ends_then, runs_ended, sound_answers, turns_committed, turns_refused}
use Rattle.update_flow.proofs.following.take_whole.Goals as goal

pub take_rows-requires-clause-filled : goal.take_rows-requires-clause-filled
take_rows-requires-clause-filled g c = record {
  ready = record { going = c.in-Ok.ensures.goes.going; whole = c.in-Ok.ensures.goes.runs.whole tt };
  some = c.in-Ok.ensures.some;
}

pub take_rows-requires-clause-fit : goal.take_rows-requires-clause-fit
take_rows-requires-clause-fit g c = rising_fit c.args.style.now.tables None c.args.rows c.requires.block.rising

pub finish_whole-requires : goal.finish_whole-requires
finish_whole-requires g c = record {
  ready = record { going = c.in-Ok-take_rows.ensures.goes.going; whole = c.in-Ok-take_rows.ensures.goes.runs.whole tt };
}

pub returns-in-Ok-take_rows-clause-begun : goal.returns-in-Ok-take_rows-clause-begun
returns-in-Ok-take_rows-clause-begun g c limits rest same has blank =
    let old = c.args.buckets.now in
    let style = c.args.style.now in
    let step = Follow (blocks.Full c.args.version c.args.style_bytes style c.args.rows) in
    let room = c.in-Ok.ensures.room rest rest has in
    let made = c.in-Ok-take_rows.ensures.taken rest room.0 finite.empty room.1 (room.2.none style.tables) in
    let looks = looks_then old c.make_room.new.buckets c.take_rows.new.buckets c.in-Ok.ensures.goes.runs.looks
    c.in-Ok-take_rows.ensures.goes.runs.looks in
    turns_committed limits formatted step (result_err c.finish_whole.result) rest _ old c.take_rows.new.buckets c.finish_whole.new.buckets
    (rests_under rest rest old has) blank looks
    (blank_becomes c.args.version c.args.style_bytes style c.args.rows rest room.0 made.later c.requires.block room.2 made.beside made.holds
    blank has.none) refl
    (c.finish_whole.ensures.commits.commits limits rest made.later (looks.looked.limit ∙ same) made.has)

pub returns-in-Ok-take_rows-clause-turns : goal.returns-in-Ok-take_rows-clause-turns
returns-in-Ok-take_rows-clause-turns g c limits held rest same has is newer =
    let old = c.args.buckets.now in
    let style = c.args.style.now in
    let step = Follow (blocks.Full c.args.version c.args.style_bytes style c.args.rows) in
    let room = c.in-Ok.ensures.room rest rest has in
    let made = c.in-Ok-take_rows.ensures.taken rest room.0 finite.empty room.1 (room.2.none style.tables) in
    let looks = looks_then old c.make_room.new.buckets c.take_rows.new.buckets c.in-Ok.ensures.goes.runs.looks
    c.in-Ok-take_rows.ensures.goes.runs.looks in
    turns_committed limits (following held) step (result_err c.finish_whole.result) rest _ old c.take_rows.new.buckets
    c.finish_whole.new.buckets (rests_under rest rest old has) is looks
    (held_becomes c.args.version c.args.style_bytes style c.args.rows rest room.0 made.later c.requires.block room.2 made.beside made.holds
    held is newer) refl
    (c.finish_whole.ensures.commits.commits limits rest made.later (looks.looked.limit ∙ same) made.has)

pub returns-in-Ok-take_rows-clause-ends : goal.returns-in-Ok-take_rows-clause-ends
returns-in-Ok-take_rows-clause-ends g c =
    let old = c.args.buckets.now in
    ends_then (result_err c.finish_whole.result) old c.take_rows.new.buckets c.finish_whole.new.buckets
    (looks_then old c.make_room.new.buckets c.take_rows.new.buckets c.in-Ok.ensures.goes.runs.looks
    c.in-Ok-take_rows.ensures.goes.runs.looks)
    (c.finish_whole.ensures.commits.ends (Follow (blocks.Full c.args.version c.args.style_bytes c.args.style.now c.args.rows)))

-- a row was refused
pub returns-in-Err-take_rows-clause-begun : goal.returns-in-Err-take_rows-clause-begun
returns-in-Err-take_rows-clause-begun g c limits rest same has blank =
    let old = c.args.buckets.now in
    let style = c.args.style.now in
    let fault = c.in-Err-take_rows.fault in
    let room = c.in-Ok.ensures.room rest rest has in
    let sound = c.in-Err-take_rows.ensures.sound rest room.0 finite.empty room.1 (room.2.none style.tables) in
    turns_refused limits formatted (Follow (blocks.Full c.args.version c.args.style_bytes style c.args.rows)) fault rest old
    c.take_rows.new.buckets (rests_under rest rest old has) blank
    (looks_then old c.make_room.new.buckets c.take_rows.new.buckets c.in-Ok.ensures.goes.runs.looks
    c.in-Err-take_rows.ensures.goes.runs.looks)
    (sound_answers limits fault _ sound) (sound_fits limits _ fault sound)

pub returns-in-Err-take_rows-clause-turns : goal.returns-in-Err-take_rows-clause-turns
returns-in-Err-take_rows-clause-turns g c limits held rest same has is newer =
    let old = c.args.buckets.now in
    let style = c.args.style.now in
    let fault = c.in-Err-take_rows.fault in
    let room = c.in-Ok.ensures.room rest rest has in
    let sound = c.in-Err-take_rows.ensures.sound rest room.0 finite.empty room.1 (room.2.none style.tables) in
    turns_refused limits (following held) (Follow (blocks.Full c.args.version c.args.style_bytes style c.args.rows)) fault rest old
    c.take_rows.new.buckets (rests_under rest rest old has) is
    (looks_then old c.make_room.new.buckets c.take_rows.new.buckets c.in-Ok.ensures.goes.runs.looks
    c.in-Err-take_rows.ensures.goes.runs.looks)
    (sound_answers limits fault _ sound) (sound_fits limits _ fault sound)

pub returns-in-Err-take_rows-clause-ends : goal.returns-in-Err-take_rows-clause-ends
returns-in-Err-take_rows-clause-ends g c =
    let old = c.args.buckets.now in
    runs_ended _ old c.take_rows.new.buckets
    (runs_then old c.make_room.new.buckets c.take_rows.new.buckets (Some c.in-Err-take_rows.fault) c.in-Ok.ensures.goes.runs
    c.in-Err-take_rows.ensures.goes.runs)

-- or what was to make room
pub returns-in-Err-clause-begun : goal.returns-in-Err-clause-begun
returns-in-Err-clause-begun g c limits rest same has blank =
    let fault = c.in-Err.fault in
    let sound = c.in-Err.ensures.sound rest rest has in
    turns_refused limits formatted (Follow (blocks.Full c.args.version c.args.style_bytes c.args.style.now c.args.rows)) fault rest
    c.args.buckets.now c.make_room.new.buckets (rests_under rest rest c.args.buckets.now has) blank c.in-Err.ensures.goes.runs.looks
    (sound_answers limits fault _ sound) (sound_fits limits _ fault sound)

pub returns-in-Err-clause-turns : goal.returns-in-Err-clause-turns
returns-in-Err-clause-turns g c limits held rest same has is newer =
    let fault = c.in-Err.fault in
    let sound = c.in-Err.ensures.sound rest rest has in
    turns_refused limits (following held) (Follow (blocks.Full c.args.version c.args.style_bytes c.args.style.now c.args.rows)) fault rest
    c.args.buckets.now c.make_room.new.buckets (rests_under rest rest c.args.buckets.now has) is c.in-Err.ensures.goes.runs.looks
    (sound_answers limits fault _ sound) (sound_fits limits _ fault sound)

pub returns-in-Err-clause-ends : goal.returns-in-Err-clause-ends
returns-in-Err-clause-ends g c = runs_ended _ c.args.buckets.now c.make_room.new.buckets c.in-Err.ensures.goes.runs
