-- What holds of checks of stores that keep a history, by their course.
use Rattle.std.proofs.Common.{◌≡◌, ◌≤◌, ℕ, Option, Some, None, List, inl, inr, refl, sym, ◌∙◌, ap}
use Rattle.update_flow.specs.History.{state_after}
use Rattle.update_flow.specs.State.{State, formatted, imported, outdated, following}
use Rattle.run_promise.specs.declared.fault.Fault.{Fault}
use Rattle.run_promise.specs.declared.fault.Fault.TheVariants as faults
use Rattle.run_promise.specs.Comes.{Comes}
use Rattle.run_promise.specs.CommandOf.{check_of}
use Rattle.run_promise.specs.Course.{ends, looks, tells}
use Rattle.run_promise.specs.Courses.{checks, course_of, sound_line}
use Rattle.run_promise.specs.EndsWell.{IsFoundSound}
use Rattle.run_promise.specs.Keeps.{Kept, first}
use Rattle.run_promise.specs.Progress.{keeps, Progress, Ending, at, at_text, begun, opened, plus}
use Rattle.run_promise.specs.World.{Before}

module _ (old : Before) (kept : Kept) (ending : Ending) where
  abbrev Start : Progress
  Start = begun (keeps kept) kept.least

  -- the fault of an ending is that of the run
  same_fault : (own : Ending) (fault wanted : Option Fault) → ending ≡ own → own.fault ≡ fault → ending.fault ≡ wanted → fault ≡ wanted
  same_fault own fault wanted is has end = sym has ∙ ap (λ (one : Ending). one.fault) (sym is) ∙ end

  -- a run that ends so tells no page
  module _ (page : ℕ) (bad : ending.fault ≡ Some (faults.BadStore page)) where
    no_page : (own : Ending) (fault : Option Fault) → ending ≡ own → own.fault ≡ fault → fault ≡ Some (faults.BadStore page)
    no_page own fault is has = same_fault own fault (Some (faults.BadStore page)) is has bad

    looked_bad : (cut : ℕ) → Comes old (looks (tells sound_line ends)) (opened kept cut Start) ending → ⊥
    looked_bad cut (inl (inl is)) = absurd (let two : Some faults.DiskFault ≡ Some (faults.BadStore page) =
        no_page (at (opened kept cut Start) (Some faults.DiskFault)) (Some faults.DiskFault) is refl in cc)
    looked_bad cut (inl (inr is)) = absurd (let two : Some faults.OutOfMemory ≡ Some (faults.BadStore page) =
        no_page (at (opened kept cut Start) (Some faults.OutOfMemory)) (Some faults.OutOfMemory) is refl in cc)
    looked_bad cut (inr (inl unknown)) = absurd unknown
    looked_bad cut (inr (inr (inl is))) = absurd (let two : Some faults.WriteFault ≡ Some (faults.BadStore page) =
        no_page (at_text sound_line (opened kept cut Start) faults.WriteFault) (Some faults.WriteFault) is refl in cc)
    looked_bad cut (inr (inr (inr is))) = absurd (let two : None ≡ Some (faults.BadStore page) =
        no_page (at (plus sound_line (opened kept cut Start)) None) None is refl in cc)

    checked_bad : (cut : ℕ) (state : State) → Comes old (checks state) (opened kept cut Start) ending → ⊥
    checked_bad cut formatted comes = looked_bad cut comes
    checked_bad cut (imported held) comes = looked_bad cut comes
    checked_bad cut (outdated held) is = absurd (let two : Some faults.OldFormat ≡ Some (faults.BadStore page) =
        no_page (at (opened kept cut Start) (Some faults.OldFormat)) (Some faults.OldFormat) is refl in cc)
    checked_bad cut (following held) is = absurd (let two : Some faults.Follower ≡ Some (faults.BadStore page) =
        no_page (at (opened kept cut Start) (Some faults.Follower)) (Some faults.Follower) is refl in cc)

    pub tells_no_page : (store : List ℕ) → Comes old (course_of (check_of store)) Start ending → ⊥
    tells_no_page store (inl (inl is)) = absurd (let two : Some faults.DiskFault ≡ Some (faults.BadStore page) =
        no_page (at Start (Some faults.DiskFault)) (Some faults.DiskFault) is refl in cc)
    tells_no_page store (inl (inr is)) = absurd (let two : Some faults.OutOfMemory ≡ Some (faults.BadStore page) =
        no_page (at Start (Some faults.OutOfMemory)) (Some faults.OutOfMemory) is refl in cc)
    tells_no_page store (inr (cut, low, high, comes)) = checked_bad cut (state_after (first cut kept.history)) comes

  -- and one that ends well has told its line
  module _ (well : ending.fault ≡ None) where
    faulty : (own : Ending) (fault : Fault) → ending ≡ own → own.fault ≡ Some fault → IsFoundSound kept ending
    faulty own fault is has = absurd (let two : Some fault ≡ None = same_fault own (Some fault) None is has well in cc)

    module _ (cut : ℕ) (low : kept.least ≤ cut) (high : cut ≤ kept.most) where
      abbrev Done : Progress
      Done = opened kept cut Start

      looked_well : Comes old (looks (tells sound_line ends)) Done ending → IsFoundSound kept ending
      looked_well (inl (inl is)) = faulty (at Done (Some faults.DiskFault)) faults.DiskFault is refl
      looked_well (inl (inr is)) = faulty (at Done (Some faults.OutOfMemory)) faults.OutOfMemory is refl
      looked_well (inr (inl unknown)) = absurd unknown
      looked_well (inr (inr (inl is))) = faulty (at_text sound_line Done faults.WriteFault) faults.WriteFault is refl
      looked_well (inr (inr (inr is))) = record {
        cut = cut;
        stood = record { from = low; to = high };
        kept = ap (λ (one : Ending). one.done.store) is;
        told = ap (λ (one : Ending). one.done.written) is;
      }

      checked_so : (state : State) → Comes old (checks state) Done ending → IsFoundSound kept ending
      checked_so formatted comes = looked_well comes
      checked_so (imported held) comes = looked_well comes
      checked_so (outdated held) is = faulty (at Done (Some faults.OldFormat)) faults.OldFormat is refl
      checked_so (following held) is = faulty (at Done (Some faults.Follower)) faults.Follower is refl

    pub checked_well : (store : List ℕ) → Comes old (course_of (check_of store)) Start ending → IsFoundSound kept ending
    checked_well store (inl (inl is)) = faulty (at Start (Some faults.DiskFault)) faults.DiskFault is refl
    checked_well store (inl (inr is)) = faulty (at Start (Some faults.OutOfMemory)) faults.OutOfMemory is refl
    checked_well store (inr (cut, low, high, comes)) = checked_so cut low high (state_after (first cut kept.history)) comes
