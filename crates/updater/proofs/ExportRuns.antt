-- A table of an open store that follows another one is asked for.
use Rattle.std.proofs.Common.{◌≡◌, ◌∙◌, ℕ, false, Option, Some, None, Err, List, sym, ap, subst}
use Rattle.std.proofs.lemmas.Option.{same_Some}
use Rattle.outside.specs.Inputs.{FilesView}
use Rattle.outside.specs.Sink.{SinkView}
use Rattle.outside.specs.declared.disk.Disk.{Ghosts}
use Rattle.style_read.specs.Style.{StyleOf, table_of}
use Rattle.update_flow.specs.AtRest.{HasFlowCause}
use Rattle.update_flow.specs.Follower.{StaysFollower, handle_of}
use Rattle.update_flow.specs.Handle.{Handle, IsOpen, Looks, TellsAs, is_follower, is_whole, limits_of, style_of, view_of}
use Rattle.update_flow.specs.Refusals.{MayTell}
use Rattle.update_flow.specs.State.{Following, State, following}
use Rattle.update_flow.specs.declared.fault.FlowFault.{FlowFault}
use Rattle.update_flow.specs.declared.fault.FlowFault.TheVariants as flow
use Rattle.update_flow.specs.declared.follower.Follower.{Follower}
use Rattle.run_promise.specs.declared.fault.Fault.{Fault}
use Rattle.run_promise.specs.declared.fault.Fault.TheVariants as faults
use Rattle.run_promise.specs.Course.{Course, looks}
use Rattle.run_promise.specs.Courses.{exports_followed}
use Rattle.run_promise.specs.Faults.{flow_fault}
use Rattle.run_promise.specs.Progress.{Progress}
use Rattle.run_promise.specs.World.{Before, World, world}
use Rattle.updater.specs.Heads.{GoesOn, IsHead}
use Rattle.updater.proofs.HeadLaws.{refuses_here}
use Rattle.updater.proofs.StoreDeeds.{IsRefusedSo, looked_at, shows_here, unlooked}
use Rattle.updater.proofs.StoreRuns.{tells_still}

-- a look at a follower's store was refused so
pub look_refused_so : {T D : Type 0} {g : Ghosts D} {old new : Follower D g} {fault : FlowFault} → StaysFollower {T = T} None old new (Err fault)
    → (fault ≡ flow.NotImported → is_follower (handle_of old) ≡ false) → IsRefusedSo None fault (handle_of old) (handle_of new)
look_refused_so stays unbegun = record {
  alone = stays.alone;
  told = stays.told;
  broken = λ is. stays.broken (ap Err is);
  not_old = λ is. absurd (stays.today (ap Err is));
  unbegun = unbegun;
  begun = λ is. absurd (subst (MayTell None) is stays.told);
  cause = stays.cause;
}

-- the store is looked at
module _ (start done : Progress) (held : Following) (next : ℕ) (old : Before) (files : FilesView) (before now : Handle) (output : SinkView)
    (head : IsHead start done (following held) next old files before output) where
  pub see_refused : (fault : FlowFault) → ((own : State) → IsOpen own before → Looks own (Some fault) before now)
      → IsRefusedSo None fault before now → (rest : Course)
      → GoesOn (looks rest) start done (Some (flow_fault fault)) old (world files (view_of now) output)
  see_refused fault looked so rest = unlooked start done (following held) next old files before now output head tt fault looked so rest

  pub see_done : ((own : State) → IsOpen own before → Looks own None before now) → TellsAs before now → is_whole now ≡ is_whole before
      → limits_of now ≡ limits_of before → HasFlowCause None (view_of before) (view_of now)
      → IsHead start done (following held) next old files now output
  see_done looked tells sound same cause = looked_at start done (following held) next old files before now output head looked
      (tells_still (following held) before now tells) sound same cause

-- the table that is asked for, by the style that the store tells
module _ (start done : Progress) (held : Following) (next : ℕ) (old : Before) (files : FilesView) (updater : Handle) (output : SinkView)
    (head : IsHead start done (following held) next old files updater output) where
  own_style : Some held.style ≡ style_of updater
  own_style = sym (shows_here done.store done.cut (following held) updater head.here).style_is

  pub always_styled : (P : Type 0) → None ≡ style_of updater → P
  always_styled P is = absurd (let none : Some held.style ≡ None = own_style ∙ sym is in cc)

  pub seen_style : (style : StyleOf) → Some style ≡ style_of updater → style ≡ held.style
  seen_style style is = same_Some style held.style (is ∙ sym own_style)

  pub seen_table : (style : StyleOf) (table : List ℕ) (found : Option ℕ) → Some style ≡ style_of updater
      → found ≡ table_of style.tables table → found ≡ table_of held.style.tables table
  seen_table style table found is named = named ∙ ap (λ (own : StyleOf). table_of own.tables table) (seen_style style is)

  pub exports_seen : (table : List ℕ) (found : Option ℕ) → found ≡ table_of held.style.tables table → (fault : Option Fault) (new : World)
      → GoesOn (exports_followed held found) start done fault old new
      → GoesOn (exports_followed held (table_of held.style.tables table)) start done fault old new
  exports_seen table found is fault new goes = subst (λ (own : Option ℕ). GoesOn (exports_followed held own) start done fault old new) is goes

  pub unseen_table : (table : List ℕ) → None ≡ table_of held.style.tables table
      → GoesOn (exports_followed held (table_of held.style.tables table)) start done (Some faults.UnknownTable) old
      (world files (view_of updater) output)
  unseen_table table is = exports_seen table None is (Some faults.UnknownTable) (world files (view_of updater) output)
      (refuses_here start done (following held) next old files updater output head faults.UnknownTable tt)
