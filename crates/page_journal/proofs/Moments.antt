-- How a run of disk calls goes on.
use Rattle.std.proofs.Common.{◌≡◌, ◌≤◌, inl, inr, ⊎_elim, ℕ, List, Option, Some, option_map, ap, ◌∙◌, arith}
use Rattle.outside.specs.Disk.{Crashes, DiskView, Elapses, NoneNew, Goes, Stays, Within}
use Rattle.page_journal.specs.Crash.{IsSettled}

-- before the first call
pub started : (P : List ℕ → Type 0) (old : Crashes) → Within P old → Goes P old old
started P old here = record { later = omega arith; each = λ since left le before. inl before; now = here }

-- one call more, after which a crash leaves what has P
pub goes_on : (P : List ℕ → Type 0) (old mid new : Crashes) → Goes P old mid → Elapses mid new → Within P new → Goes P old new
goes_on P old mid new so_far time here = record {
  later = omega (arith, so_far.later, time.later);
  each = λ since left le now.
      ⊎_elim (so_far.each since left le) (λ last. inr (here left last)) (time.each since left (omega (arith, le, so_far.later)) now);
  now = here;
}

-- one call more, that adds no outcome
pub goes_quiet : (P : List ℕ → Type 0) (old mid new : Crashes) → Goes P old mid → Elapses mid new → NoneNew mid new → Goes P old new
goes_quiet P old mid new so_far time none = goes_on P old mid new so_far time (λ left now. so_far.now left (none left now))

-- a call that adds no outcome, and then another
pub elapses_quiet : (old mid new : Crashes)
    → ((since : ℕ) (left : List ℕ) → since ≤ old.moment → old.outcomes left → old.outcomes_since since left)
    → NoneNew old mid → Elapses old mid → Elapses mid new → Elapses old new
elapses_quiet old mid new counts none first second = record {
  later = omega (arith, first.later, second.later);
  each = λ since left le now.
      ⊎_elim (λ before. ⊎_elim (λ last. inl last) (λ here. inl (counts since left le (none left here))) (first.each since left le before))
      (λ here. inr here)
      (second.each since left (omega (arith, le, first.later)) now);
  keeps = λ since left le before. second.keeps since left (omega (arith, le, first.later)) (first.keeps since left le before);
}

-- a run after a run
pub goes_then : (P : List ℕ → Type 0) (old mid new : Crashes) → Goes P old mid → Goes P mid new → Goes P old new
goes_then P old mid new first second = record {
  later = omega (arith, first.later, second.later);
  each = λ since left le now.
      ⊎_elim (first.each since left le) (λ last. inr last) (second.each since left (omega (arith, le, first.later)) now);
  now = second.now;
}

-- what has P has Q
pub goes_weaker : (P Q : List ℕ → Type 0) (old new : Crashes) → Goes P old new → ((left : List ℕ) → P left → Q left) → Goes Q old new
goes_weaker P Q old new run weaker = record {
  later = run.later;
  each = λ since left le now. ⊎_elim (λ before. inl before) (λ has. inr (weaker left has)) (run.each since left le now);
  now = λ left now. weaker left (run.now left now);
}

-- what a read gives after a write
pub told_written : (f : List ℕ → List ℕ) (old new : Option (List ℕ)) (bytes : List ℕ) → old ≡ Some bytes → new ≡ option_map f old
    → new ≡ Some (f bytes)
told_written f old new bytes told written = written ∙ ap (λ (known : Option (List ℕ)). option_map f known) told

-- no look at all
pub stays_same : (view : DiskView) → Stays view view
stays_same view = record { content = λ i. view.content; runs = started view.crashes.outcomes view.crashes (λ left now. now) }

-- looks, one after another
pub stays_call : (old new : DiskView) → new.content ≡ old.content → NoneNew old.crashes new.crashes → Elapses old.crashes new.crashes
    → Stays old new
stays_call old new same none time = record {
  content = same;
  runs = goes_quiet old.crashes.outcomes old.crashes old.crashes new.crashes
      (started old.crashes.outcomes old.crashes (λ left now. now)) time none;
}

pub stays_then : (old mid new : DiskView) → Stays old mid → Stays mid new → Stays old new
stays_then old mid new first second = record {
  content = second.content ∙ first.content;
  runs = goes_then old.crashes.outcomes old.crashes mid.crashes new.crashes first.runs
      (goes_weaker mid.crashes.outcomes old.crashes.outcomes mid.crashes new.crashes second.runs first.runs.now);
}

-- looks leave a run as it is
pub goes_stays : (P : List ℕ → Type 0) (old : Crashes) (mid new : DiskView) → Goes P old mid.crashes → Stays mid new
    → Goes P old new.crashes
goes_stays P old mid new so_far stays =
    goes_then P old mid.crashes new.crashes so_far (goes_weaker mid.crashes.outcomes P mid.crashes new.crashes stays.runs so_far.now)

-- and a store at rest stays so
pub settled_stays : (pages : List (List ℕ)) (bytes : List ℕ) (old new : DiskView) → IsSettled pages bytes old → Stays old new
    → IsSettled pages bytes new
settled_stays pages bytes old new settled stays = record {
  told = stays.content ∙ settled.told;
  only = λ left now. settled.only left (stays.runs.now left now);
  shut = settled.shut;
  home = settled.home;
}

pub ruleset looks = (stays_call, stays_then)
