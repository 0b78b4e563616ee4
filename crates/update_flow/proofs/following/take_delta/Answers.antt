-- The changes are made, and all is committed with the version.
use Rattle.std.proofs.Common.{◌∙◌, None, ap, refl, subst, sym, arith}
use Rattle.std.specs.Result.{result_err}
use Rattle.chain_store.specs.declared.root.Root.{Root}
use Rattle.bucket_store.proofs.Holding.{rests_under}
use Rattle.osm_base.specs.map.Spots.{changed_all}
use Rattle.style_read.specs.Style.{StyleOf}
use Rattle.row_store.specs.Tables.{HoldsTables}
use Rattle.delta_feed.specs.declared.block.Block.TheVariants as blocks
use Rattle.update_flow.specs.State.{Follow, Following, following}
use Rattle.update_flow.specs.Stands.{IsFollowing}
use Rattle.update_flow.specs.Taking.{versioned}
use Rattle.update_flow.proofs.Needs.{sound_fits}
use Rattle.update_flow.proofs.Running.{runs_unfit}
use Rattle.update_flow.proofs.Takings.{delta_becomes, delta_new, rising_fit}
use Rattle.update_flow.proofs.Turning.{ends_then, runs_ended, sound_answers, turns_committed, turns_refused}
use Rattle.update_flow.proofs.following.take_delta.Goals as goal

pub returns-then-root-eq0-clause-turns : goal.returns-then-root-eq0-clause-turns
returns-then-root-eq0-clause-turns g c limits held rest same has is styled next =
    absurd (omega (arith, is.some, ap (λ (r : Root). r.buckets) (c.root.ensures ∙ has.root ∙ is.root), c.if-root-eq0.true))

pub returns-then-root-eq0-clause-ends : goal.returns-then-root-eq0-clause-ends
returns-then-root-eq0-clause-ends g c = runs_ended _ c.args.buckets.now c.args.buckets.now
    (runs_unfit c.args.buckets.now 1 c.requires.ready.whole)

pub take_rows-requires-clause-filled : goal.take_rows-requires-clause-filled
take_rows-requires-clause-filled g c = record {
  ready = c.requires.ready;
  some = omega (arith, c.if-root-eq0.false, ap (λ (r : Root). r.buckets) c.root.ensures);
}

pub take_rows-requires-clause-fit : goal.take_rows-requires-clause-fit
take_rows-requires-clause-fit g c = rising_fit c.args.style.now.tables None c.args.delta.changes c.requires.block.rising

pub finish_delta-requires : goal.finish_delta-requires
finish_delta-requires g c = record {
  ready = record { going = c.in-Ok.ensures.goes.going; whole = c.in-Ok.ensures.goes.runs.whole tt };
}

pub returns-in-Ok-clause-turns : goal.returns-in-Ok-clause-turns
returns-in-Ok-clause-turns g c limits held rest same has is styled next =
    let old = c.args.buckets.now in
    let mid = c.take_rows.new.buckets in
    let delta = c.args.delta in
    let all = changed_all held.tables delta.changes in
    let made = c.in-Ok.ensures.taken rest rest held.tables has
    (subst (λ (s : StyleOf). HoldsTables s.tables rest.maps held.tables) styled is.tables) in
    let holds : HoldsTables held.style.tables made.later.maps all =
    subst (λ (s : StyleOf). HoldsTables s.tables made.later.maps all) (sym styled) made.holds in
    let looks = c.in-Ok.ensures.goes.runs.looks in
    turns_committed limits (following held) (Follow (blocks.Delta delta)) (result_err c.finish_delta.result) rest _ old mid
    c.finish_delta.new.buckets (rests_under rest rest old has) is looks
    (subst (λ (h : Following). IsFollowing h (versioned delta.version made.later))
    (delta_new held (record held { tables = all; version = delta.version }) delta.version next)
    (delta_becomes delta.version held delta.changes rest made.later is c.requires.block.version_fits made.beside holds)) refl
    (c.finish_delta.ensures.commits.commits limits rest made.later (looks.looked.limit ∙ same) made.has)

pub returns-in-Ok-clause-ends : goal.returns-in-Ok-clause-ends
returns-in-Ok-clause-ends g c =
    ends_then (result_err c.finish_delta.result) c.args.buckets.now c.take_rows.new.buckets c.finish_delta.new.buckets
    c.in-Ok.ensures.goes.runs.looks (c.finish_delta.ensures.commits.ends (Follow (blocks.Delta c.args.delta)))

pub returns-in-Err-clause-turns : goal.returns-in-Err-clause-turns
returns-in-Err-clause-turns g c limits held rest same has is styled next =
    let old = c.args.buckets.now in
    let fault = c.in-Err.fault in
    let sound = c.in-Err.ensures.sound rest rest held.tables has
    (subst (λ (s : StyleOf). HoldsTables s.tables rest.maps held.tables) styled is.tables) in
    turns_refused limits (following held) (Follow (blocks.Delta c.args.delta)) fault rest old c.take_rows.new.buckets
    (rests_under rest rest old has) is c.in-Err.ensures.goes.runs.looks (sound_answers limits fault _ sound)
    (sound_fits limits _ fault sound)

pub returns-in-Err-clause-ends : goal.returns-in-Err-clause-ends
returns-in-Err-clause-ends g c = runs_ended _ c.args.buckets.now c.take_rows.new.buckets c.in-Err.ensures.goes.runs
