-- The store had no buckets, or its rows are taken out.
use Rattle.std.proofs.Common.{◌∙◌, Some, ap, rules, sym, subst, arith}
use Rattle.chain_store.specs.declared.root.Root.{Root}
use Rattle.bucket_store.specs.Image.{with_buckets, with_root}
use Rattle.row_store.specs.Clearing.{without_rows}
use Rattle.update_flow.specs.State.{follower_buckets}
use Rattle.update_flow.specs.Within.{IsSound, RunsWithin}
use Rattle.update_flow.specs.declared.fault.FlowFault.{FlowFault}
use Rattle.update_flow.proofs.Openings.{sound_store}
use Rattle.update_flow.proofs.Running.{runs_done, runs_refused}
use Rattle.update_flow.proofs.Takings.{cleared_room, follower_power, given_room}
use Rattle.update_flow.proofs.following.make_room.Goals as goal

pub set_buckets-requires-clause-power : goal.set_buckets-requires-clause-power
set_buckets-requires-clause-power g c = follower_power

pub returns-then-root-eq0-clause-room : goal.returns-then-root-eq0-clause-room
returns-then-root-eq0-clause-room g c rest now has = (
  with_root (with_buckets follower_buckets now.root) now,
  c.set_buckets.ensures.has rest now has,
  given_room now (ap (λ (r : Root). r.buckets) (sym (c.root.ensures ∙ has.root)) ∙ c.if-root-eq0.true) has.none,
)

pub returns-in-Ok-clause-room : goal.returns-in-Ok-clause-room
returns-in-Ok-clause-room g c rest now has = (
  without_rows now,
  c.in-Ok.ensures.cleared rest now has,
  cleared_room now (λ none. c.if-root-eq0.false (ap (λ (r : Root). r.buckets) (c.root.ensures ∙ has.root) ∙ none)),
)

pub returns-in-Err-clause-sound : goal.returns-in-Err-clause-sound
returns-in-Err-clause-sound g c rest now has =
    subst (λ (f : FlowFault). IsSound (Some f)) (sym c.store_fault.ensures)
    (sound_store (Unit {0}) c.in-Err.fault (c.in-Err.ensures.sound rest now has))

pub returns-in-Ok-clause-goes : goal.returns-in-Ok-clause-goes
returns-in-Ok-clause-goes g c = record {
  going = search rules;
  runs = runs_done c.args.buckets.now c.clear.new.buckets c.in-Ok.ensures.looks.same c.requires.ready.whole c.in-Ok.ensures.looks.broken;
}

pub returns-in-Err-clause-goes : goal.returns-in-Err-clause-goes
returns-in-Err-clause-goes g c =
    let looks = c.in-Err.ensures.looks in
    record {
      going = search rules;
      runs = subst (λ (f : FlowFault). RunsWithin c.args.buckets.now c.clear.new.buckets (Some f)) (sym c.store_fault.ensures)
          (runs_refused c.args.buckets.now c.clear.new.buckets looks.same c.requires.ready.whole (Unit {0}) c.in-Err.fault looks.alone
          looks.broken looks.cause);
    }

pub returns-in-Ok-clause-some : goal.returns-in-Ok-clause-some
returns-in-Ok-clause-some g c =
    omega (arith, c.if-root-eq0.false, ap (λ (r : Root). r.buckets) c.root.ensures, ap (λ (r : Root). r.buckets) c.in-Ok.ensures.looks.stays.root)
