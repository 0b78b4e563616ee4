-- What is done within buckets is done on the disk under them.
use Rattle.std.proofs.Common.{◌≡◌, true, not, Option, Some, None, Result, Ok, Err, refl, sym, ap, subst, ◌∙◌}
use Rattle.std.specs.Prelude.{IfOk, IfSome, is_some}
use Rattle.outside.specs.declared.disk.Disk.{Ghosts}
use Rattle.osm_base.specs.declared.bounds.limits.LimitNumbers.{LimitNumbers}
use Rattle.page_journal.specs.Journal.{is_broken}
use Rattle.page_journal.specs.Journal.{disk_of as disk_under}
use Rattle.chain_store.specs.Chains.{journal_of}
use Rattle.bucket_store.specs.Image.{Image, RestsAt}
use Rattle.bucket_store.specs.Opening.{Fits}
use Rattle.bucket_store.specs.Transaction.{chains_of}
use Rattle.bucket_store.specs.declared.buckets.Buckets.{Buckets}
use Rattle.bucket_store.specs.declared.resting.Resting.{Resting}
use Rattle.bucket_store.proofs.Reopened.{holds_under}
use Rattle.update_flow.specs.Refusals.{IsNoDiskFault}
use Rattle.update_flow.specs.State.{State, Step, after}
use Rattle.update_flow.specs.Turning.{EndsIn, EndsOn, IsKept, LooksIn, LooksOn, RestsIn, TurnsIn, TurnsOn, view_in}
use Rattle.update_flow.specs.Within.{is_whole_store}
use Rattle.update_flow.specs.declared.fault.FlowFault.{FlowFault}

pub no_fault : (fault : Option FlowFault) → fault ≡ None → IsNoDiskFault fault
no_fault fault is = subst (λ (f : Option FlowFault). IsNoDiskFault f) (sym is) tt

-- what is so of an answer, if there is one
pub ok_then : {T E : Type 0} (r : Result T E) (P Q : T → Type 0) → ((t : T) → P t → Q t) → IfOk r P → IfOk r Q
ok_then (Ok t) P Q then had = then t had
ok_then (Err e) P Q then had = tt

-- what was handed back of buckets
abbrev pub IsBackOf : {D : Type 0} {g : Ghosts D} → Buckets D g → Option Resting → Type 0
IsBackOf buckets kept = (is_some kept ≡ not (is_broken (journal_of (chains_of buckets))))
    × IfSome kept (λ opened. (image : Image) → RestsAt image buckets → Fits opened (view_in buckets))

module _ {D : Type 0} {g : Ghosts D} where
  pub whole_kept : (buckets : Buckets D g) (kept : Option Resting) → IsBackOf buckets kept → is_whole_store buckets → is_some kept ≡ true
  whole_kept buckets kept back whole = back.0 ∙ ap not whole

  kept_back : (state : State) (buckets : Buckets D g) (kept : Option Resting) → IsBackOf buckets kept → is_whole_store buckets
      → RestsIn state buckets
      → IsKept state (view_in buckets) kept
  kept_back state buckets None back whole rests = absurd (cc (whole_kept buckets None back whole))
  kept_back state buckets (Some opened) back whole rests = record {
    holds = record { image = rests.image; holds = holds_under rests.image buckets rests.at_rest; means = rests.means };
    fits = (opened, refl, back.1 rests.image rests.at_rest);
  }

  module _ {call : Option Step} (fault : Option FlowFault) (old new : Buckets D g) (kept : Option Resting) (back : IsBackOf new kept)
      (ends : EndsIn call fault old new) where
    turns_here : (limits : LimitNumbers) (state : State) (step : Step) → TurnsIn limits state step fault old new
        → TurnsOn limits state step fault (view_in old) (view_in new) kept
    turns_here limits state step turns = record {
      answer = turns.answer;
      needs = turns.needs;
      done = λ is. kept_back (after state step) new kept back (ends.whole (no_fault fault is)) (turns.done is);
      grown = turns.grown;
      refused = λ not no. let stays = turns.refused not no in (kept_back state new kept back (ends.whole no) stays.0, stays.1);
      moments = turns.moments;
    }

    looks_here : (state : State) → LooksIn state fault old new → LooksOn state fault (view_in old) (view_in new) kept
    looks_here state looks = record {
      answer = looks.answer;
      only = looks.only;
      stays = λ no. kept_back state new kept back (ends.whole no) (looks.stays no);
      moments = looks.moments;
    }

    ends_here : EndsOn call fault (view_in old) (view_in new) kept
    ends_here = record {
      alone = ends.alone;
      whole = λ no. whole_kept new kept back (ends.whole no);
      cause = record { later = ends.later; failed = ends.failed };
    }

    -- so on the disk, whatever it is called
    pub turns_on : (limits : LimitNumbers) (state : State) (step : Step) → TurnsIn limits state step fault old new → (one other : D)
        → disk_under (journal_of (chains_of old)) ≡ one → disk_under (journal_of (chains_of new)) ≡ other
        → TurnsOn limits state step fault (g.view one) (g.view other) kept
    turns_on limits state step turns one other first last =
        subst (λ (d : D). TurnsOn limits state step fault (g.view one) (g.view d) kept) last
        (subst (λ (d : D). TurnsOn limits state step fault (g.view d) (view_in new) kept) first (turns_here limits state step turns))

    pub looks_on : (state : State) → LooksIn state fault old new → (one other : D)
        → disk_under (journal_of (chains_of old)) ≡ one → disk_under (journal_of (chains_of new)) ≡ other
        → LooksOn state fault (g.view one) (g.view other) kept
    looks_on state looks one other first last =
        subst (λ (d : D). LooksOn state fault (g.view one) (g.view d) kept) last
        (subst (λ (d : D). LooksOn state fault (g.view d) (view_in new) kept) first (looks_here state looks))

    pub ends_on : (one other : D) → disk_under (journal_of (chains_of old)) ≡ one → disk_under (journal_of (chains_of new)) ≡ other
        → EndsOn call fault (g.view one) (g.view other) kept
    ends_on one other first last =
        subst (λ (d : D). EndsOn call fault (g.view one) (g.view d) kept) last
        (subst (λ (d : D). EndsOn call fault (g.view d) (view_in new) kept) first ends_here)
