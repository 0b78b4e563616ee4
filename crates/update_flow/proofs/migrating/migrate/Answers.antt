-- The nodes are written anew, and all is committed in the format of today.
use Rattle.std.proofs.Common.{◌∙◌, Some, ap, refl, rules, subst, sym, arith}
use Rattle.std.specs.Result.{result_err}
use Rattle.chain_store.specs.declared.root.Root.{Root}
use Rattle.bucket_store.proofs.Holding.{rests_under}
use Rattle.update_flow.specs.maps.Held.{Beside, HasMaps, HasOldMaps}
use Rattle.update_flow.specs.State.{Migrate, outdated}
use Rattle.update_flow.specs.Turning.{EndsIn, TurnsIn}
use Rattle.update_flow.specs.declared.fault.FlowFault.{FlowFault}
use Rattle.update_flow.proofs.Needs.{sound_fits}
use Rattle.update_flow.proofs.Renewed.{migrated_becomes}
use Rattle.update_flow.proofs.Openings.{sound_store}
use Rattle.update_flow.proofs.Running.{runs_done, runs_refused, runs_unfit}
use Rattle.update_flow.proofs.Turning.{ends_then, runs_ended, sound_answers, turns_committed, turns_refused}
use Rattle.update_flow.proofs.migrating.migrate.Goals as goal

pub returns-then-root-eq0-clause-turns : goal.returns-then-root-eq0-clause-turns
returns-then-root-eq0-clause-turns g c limits held rest same has is =
    absurd (omega (arith, is.some, ap (λ (r : Root). r.buckets) (c.root.ensures ∙ has.root ∙ is.root), c.if-root-eq0.true))

pub returns-then-root-eq0-clause-ends : goal.returns-then-root-eq0-clause-ends
returns-then-root-eq0-clause-ends g c = runs_ended _ c.args.buckets.now c.args.buckets.now
    (runs_unfit c.args.buckets.now 1 c.requires.ready.whole)

pub returns-in-Ok-clause-turns : goal.returns-in-Ok-clause-turns
returns-in-Ok-clause-turns g c limits held rest same has is =
    let old = c.args.buckets.now in
    let mid = c.migrate_nodes.new.buckets in
    let under : Beside = record { rest = rest; root = rest.root; texts = rest.texts } in
    let had : HasOldMaps held.style.tables under is.maps.maps old =
    record { now = rest; has = has; root = refl; texts = λ n below. refl; kept = is.maps.kept } in
    let made : HasMaps held.style.tables under is.maps.maps mid = c.in-Ok.ensures.becomes held.style.tables under is.maps.maps had in
    let looks = c.migrate_nodes.ensures.once.looks.same in
    turns_committed limits (outdated held) Migrate (result_err c.finish_migrated.result) rest _ old mid c.finish_migrated.new.buckets
    (rests_under rest rest old has) is looks (migrated_becomes held rest made.now is made.root made.texts made.kept) refl
    (c.finish_migrated.ensures.commits.commits limits rest made.now (looks.looked.limit ∙ same) made.has)

pub returns-in-Ok-clause-ends : goal.returns-in-Ok-clause-ends
returns-in-Ok-clause-ends g c =
    ends_then (result_err c.finish_migrated.result) c.args.buckets.now c.migrate_nodes.new.buckets c.finish_migrated.new.buckets
    c.migrate_nodes.ensures.once.looks.same (c.finish_migrated.ensures.commits.ends Migrate)

pub returns-in-Err-clause-turns : goal.returns-in-Err-clause-turns
returns-in-Err-clause-turns g c limits held rest same has is =
    let old = c.args.buckets.now in
    let new = c.migrate_nodes.new.buckets in
    let under : Beside = record { rest = rest; root = rest.root; texts = rest.texts } in
    let had : HasOldMaps held.style.tables under is.maps.maps old =
    record { now = rest; has = has; root = refl; texts = λ n below. refl; kept = is.maps.kept } in
    subst (λ (f : FlowFault). TurnsIn limits (outdated held) Migrate (Some f) old new) (sym c.store_fault.ensures)
    (turns_refused limits (outdated held) Migrate _ rest old new (rests_under rest rest old has) is c.migrate_nodes.ensures.once.looks.same
    (sound_answers limits _ _ (sound_store (Unit {0}) c.in-Err.fault (c.in-Err.ensures.sound held.style.tables under is.maps.maps had)))
    (sound_fits limits _ _ (sound_store (Unit {0}) c.in-Err.fault (c.in-Err.ensures.sound held.style.tables under is.maps.maps had))))

pub returns-in-Err-clause-ends : goal.returns-in-Err-clause-ends
returns-in-Err-clause-ends g c =
    let old = c.args.buckets.now in
    let new = c.migrate_nodes.new.buckets in
    subst (λ (f : FlowFault). EndsIn (Some Migrate) (Some f) old new) (sym c.store_fault.ensures)
    (runs_ended _ old new (runs_refused old new c.migrate_nodes.ensures.once.looks.same c.requires.ready.whole (Unit {0}) c.in-Err.fault
    c.in-Err.ensures.once.looks.alone c.in-Err.ensures.once.looks.broken c.in-Err.ensures.once.looks.cause))

pub finish_migrated-requires : goal.finish_migrated-requires
finish_migrated-requires g c = record {
  ready = record {
    going = search rules;
    whole = (runs_done c.args.buckets.now c.migrate_nodes.new.buckets c.migrate_nodes.ensures.once.looks.same c.requires.ready.whole
        c.in-Ok.ensures.once.looks.broken).whole tt;
  };
}
