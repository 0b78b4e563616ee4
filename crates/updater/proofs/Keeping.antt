-- An open store is kept from call to call.
use Rattle.std.proofs.Common.{◌≡◌, ◌∙◌, ℕ, List, Option, Some, None, Result, IfErr, refl}
use Rattle.std.specs.Result.{result_err}
use Rattle.outside.specs.Inputs.{FilesView}
use Rattle.outside.specs.declared.disk.Disk.{Ghosts}
use Rattle.delta_feed.specs.declared.fault.FeedWrite.{FeedWrite}
use Rattle.delta_feed.specs.declared.fault.FeedWrite.TheVariants as writing
use Rattle.update_flow.specs.Refusals.{IsCallFault}
use Rattle.update_flow.specs.SoundTurns.{IsOpenSound, LooksSound, TakesSound}
use Rattle.update_flow.specs.State.{State, Step}
use Rattle.update_flow.specs.Updater.{StaysOver, handle_of}
use Rattle.update_flow.specs.declared.fault.FlowFault.{FlowFault}
use Rattle.update_flow.specs.declared.updater.Updater.{Updater}
use Rattle.run_promise.specs.declared.fault.Fault.{Fault}
use Rattle.run_promise.specs.declared.fault.Fault.TheVariants as faults
use Rattle.run_promise.specs.Faults.{flow_fault}
use Rattle.updater.specs.Feeding.{feed_fault}
use Rattle.updater.specs.FileReads.{IsUnread}
use Rattle.updater.specs.Works.{KeepsOpen}
use Rattle.updater.proofs.InitRuns.{never_untold}
use Rattle.updater.proofs.NoStoreFaults.{call_never, unread_never}
use Rattle.updater.proofs.SoundRuns.{ends_well, look_goes, look_stops, step_goes, step_stops, told_ends, unread_ends}

module _ {D : Type 0} {g : Ghosts D} where
  -- nothing was done
  pub keeps_none : (store : Updater D g) → KeepsOpen None store store
  keeps_none store = record {
    stays = record { same_disk = refl; same_limits = refl };
    formatted = λ is. absurd (cc (is));
    sound = λ opened. ends_well (handle_of store) opened;
  }

  -- a file was not read
  pub keeps_unread : {A : Type 0} (Reads : List ℕ → Result A Fault → Type 0) (file : ℕ) (fault : Fault) (old new : FilesView)
      (store : Updater D g) → IsUnread Reads file fault old new → KeepsOpen (Some fault) store store
  keeps_unread Reads file fault old new store unread = record {
    stays = record { same_disk = refl; same_limits = refl };
    formatted = unread_never Reads file fault old new unread;
    sound = λ opened. unread_ends Reads file fault old new (handle_of store) unread;
  }

  module _ (first second : Updater D g) where
    -- one call after another
    pub keeps_then : (fault : Option Fault) (third : Updater D g) → KeepsOpen None first second → KeepsOpen fault second third
        → KeepsOpen fault first third
    keeps_then fault third before after = record {
      stays = record {
        same_disk = after.stays.same_disk ∙ before.stays.same_disk;
        same_limits = after.stays.same_limits ∙ before.stays.same_limits;
      };
      formatted = after.formatted;
      sound = λ opened. after.sound ((before.sound opened).stays refl);
    }

    -- a call that looks
    pub keeps_look : StaysOver first second
        → ((state : State) → IsOpenSound state (handle_of first) → LooksSound state None (handle_of second)) → KeepsOpen None first second
    keeps_look stays looks = record {
      stays = stays;
      formatted = λ is. absurd (cc (is));
      sound = λ opened. ends_well (handle_of second) (look_goes (handle_of first) (handle_of second) looks opened);
    }

    pub keeps_unlooked : (fault : FlowFault) → StaysOver first second → IsCallFault fault
        → ((state : State) → IsOpenSound state (handle_of first) → LooksSound state (Some fault) (handle_of second))
        → KeepsOpen (Some (flow_fault fault)) first second
    keeps_unlooked fault stays alone looks = record {
      stays = stays;
      formatted = call_never fault alone;
      sound = λ opened. look_stops fault (handle_of first) opened (handle_of second) (handle_of second) looks;
    }

    -- a call that makes a step
    pub keeps_step : (step : Step) → StaysOver first second
        → ((state : State) → IsOpenSound state (handle_of first) → TakesSound state step None (handle_of first) (handle_of second))
        → KeepsOpen None first second
    keeps_step step stays takes = record {
      stays = stays;
      formatted = λ is. absurd (cc (is));
      sound = λ opened. ends_well (handle_of second) (step_goes step (handle_of first) (handle_of second) takes opened);
    }

    pub keeps_unstepped : (fault : FlowFault) (step : Step) → StaysOver first second → IsCallFault fault
        → ((state : State) → IsOpenSound state (handle_of first) → TakesSound state step (Some fault) (handle_of first) (handle_of second))
        → KeepsOpen (Some (flow_fault fault)) first second
    keeps_unstepped fault step stays alone takes = record {
      stays = stays;
      formatted = call_never fault alone;
      sound = λ opened. step_stops fault (handle_of first) opened (handle_of second) step (handle_of second) takes;
    }

    module _ (kept : KeepsOpen None first second) where
      -- behind it the run ends by a fault that is not the store's
      pub keeps_ends : (fault : Fault) → (Some fault ≡ Some faults.NotFormatted → ⊥)
          → ((page : ℕ) → Some fault ≡ Some (faults.BadStore page) → ⊥) → KeepsOpen (Some fault) first second
      keeps_ends fault formatted never = record {
        stays = kept.stays;
        formatted = formatted;
        sound = λ opened. record { never = never; stays = λ none. absurd (cc (none)) };
      }

      pub keeps_short : KeepsOpen (Some faults.OutOfMemory) first second
      keeps_short = keeps_ends faults.OutOfMemory (λ is. absurd (cc (is))) (λ page is. absurd (cc (is)))

      pub keeps_unimported : KeepsOpen (Some faults.NotImported) first second
      keeps_unimported = keeps_ends faults.NotImported (λ is. absurd (cc (is))) (λ page is. absurd (cc (is)))

      -- behind it a text is told
      pub keeps_told : (result : Result (Unit {0}) Fault) → IfErr result (λ fault. fault ≡ faults.WriteFault)
          → KeepsOpen (result_err result) first second
      keeps_told result alone = record {
        stays = kept.stays;
        formatted = λ is. never_untold result _ alone is;
        sound = λ opened. told_ends result (handle_of second) alone ((kept.sound opened).stays refl);
      }

      -- behind it a block is not
      pub keeps_untold : (fault : FeedWrite) → KeepsOpen (Some (feed_fault fault)) first second
      keeps_untold writing.WriteFault = keeps_ends faults.WriteFault (λ is. absurd (cc (is))) (λ page is. absurd (cc (is)))
      keeps_untold writing.OutOfMemory = keeps_short
