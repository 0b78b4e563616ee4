-- An open store that follows another one is kept from call to call.
use Rattle.std.proofs.Common.{◌≡◌, ◌∙◌, ℕ, Option, Some, None, Result, IfErr, refl, subst}
use Rattle.std.specs.Result.{result_err}
use Rattle.outside.specs.declared.disk.Disk.{Ghosts}
use Rattle.update_flow.specs.Follower.{StaysOver, handle_of}
use Rattle.update_flow.specs.Handle.{IsOpen, Looks}
use Rattle.update_flow.specs.Refusals.{IsCallFault, MayLook}
use Rattle.update_flow.specs.State.{State}
use Rattle.update_flow.specs.declared.fault.FlowFault.{FlowFault}
use Rattle.update_flow.specs.declared.follower.Follower.{Follower}
use Rattle.run_promise.specs.declared.fault.Fault.{Fault}
use Rattle.run_promise.specs.declared.fault.Fault.TheVariants as faults
use Rattle.run_promise.specs.Faults.{flow_fault}
use Rattle.updater.specs.Following.{KeepsFollower}
use Rattle.updater.proofs.CheckRuns.{bad_says}
use Rattle.updater.proofs.FollowBlocks.{told_never, told_standing}
use Rattle.updater.proofs.NoStoreFaults.{call_never}
use Rattle.updater.proofs.SoundRuns.{look_bad}

module _ {D : Type 0} {g : Ghosts D} where
  -- nothing was done
  pub keeps_none : (store : Follower D g) → KeepsFollower None store store
  keeps_none store = record {
    stays = record { same_disk = refl; same_limits = refl };
    formatted = λ is. absurd (cc (is));
    stands = λ opened. record { never = λ page is. absurd (cc (is)); stays = λ none. opened };
  }

  module _ (first second : Follower D g) where
    -- one call after another
    pub keeps_then : (fault : Option Fault) (third : Follower D g) → KeepsFollower None first second → KeepsFollower fault second third
        → KeepsFollower fault first third
    keeps_then fault third before after = record {
      stays = record {
        same_disk = after.stays.same_disk ∙ before.stays.same_disk;
        same_limits = after.stays.same_limits ∙ before.stays.same_limits;
      };
      formatted = after.formatted;
      stands = λ opened. after.stands ((before.stands opened).stays refl);
    }

    -- a call that looks
    pub keeps_look : StaysOver first second
        → ((state : State) → IsOpen state (handle_of first) → Looks state None (handle_of first) (handle_of second))
        → KeepsFollower None first second
    keeps_look stays looks = record {
      stays = stays;
      formatted = λ is. absurd (cc (is));
      stands = λ opened. record {
        never = λ page is. absurd (cc (is));
        stays = λ none. (opened.0, (looks opened.0 opened.1).stays tt);
      };
    }

    pub keeps_unlooked : (fault : FlowFault) → StaysOver first second → IsCallFault fault
        → ((state : State) → IsOpen state (handle_of first) → Looks state (Some fault) (handle_of first) (handle_of second))
        → KeepsFollower (Some (flow_fault fault)) first second
    keeps_unlooked fault stays alone looks = record {
      stays = stays;
      formatted = call_never fault alone;
      stands = λ opened. record {
        never = λ page is. look_bad opened.0 page
            (subst (λ (own : FlowFault). MayLook opened.0 (Some own)) (bad_says fault page is) (looks opened.0 opened.1).answer);
        stays = λ none. absurd (cc (none));
      };
    }

    module _ (kept : KeepsFollower None first second) where
      -- behind it the run ends by a fault that is not the store's
      pub keeps_ends : (fault : Fault) → (Some fault ≡ Some faults.NotFormatted → ⊥)
          → ((page : ℕ) → Some fault ≡ Some (faults.BadStore page) → ⊥) → KeepsFollower (Some fault) first second
      keeps_ends fault formatted never = record {
        stays = kept.stays;
        formatted = formatted;
        stands = λ opened. record { never = never; stays = λ none. absurd (cc (none)) };
      }

      -- behind it a text is told
      pub keeps_told : (result : Result (Unit {0}) Fault) → IfErr result (λ fault. fault ≡ faults.WriteFault)
          → KeepsFollower (result_err result) first second
      keeps_told result alone = record {
        stays = kept.stays;
        formatted = told_never result alone;
        stands = λ opened. told_standing result (handle_of second) alone ((kept.stands opened).stays refl);
      }
