-- What a store keeps through a course, and how many of its steps are told then.
use Rattle.std.proofs.Common.{◌≡◌, ◌≢◌, ◌≤◌, ◌+◌, ◌-◌, ◌⊎◌, ℕ, Option, Some, None, List, [], ◌∷◌, ◌++◌, length, Result, ⊎_elim, inl, inr}
use Rattle.std.proofs.Common.{refl, sym, ◌∙◌, ap, subst, arith}
use Rattle.std.proofs.lemmas.List.{append-nil, length-take-le}
use Rattle.update_flow.specs.History.{History, state_after}
use Rattle.delta_feed.specs.declared.block.Block.{Block}
use Rattle.update_flow.specs.State.{State, Step, Follow, after, changes_in}
use Rattle.run_promise.specs.declared.fault.Fault.{Fault}
use Rattle.run_promise.specs.declared.fault.Fault.TheVariants as faults
use Rattle.run_promise.specs.Comes.{Breaks, BreaksIn, BreaksWithin, Comes, FollowsTo, HoldsBytes, IsRefusal, IsRefusedFor, IsRefusedWithin}
use Rattle.run_promise.specs.Comes.{IsStepFault, MayTake, TakesWithin, TellsWithin, refused, short, unread}
use Rattle.run_promise.specs.Course.{Course, ends, refuses, reads, wants_empty, formats, opens, looks, commits, tells, writes, feeds}
use Rattle.run_promise.specs.Course.{follows}
use Rattle.run_promise.specs.Courses.{version_line}
use Rattle.run_promise.specs.Followed.{FeedEnd, over as no_more, stopped, unseen}
use Rattle.run_promise.specs.Keeps.{Kept, IsFit, blank, first, perhaps, whole, with_steps}
use Rattle.run_promise.specs.Making.{reading_alone}
use Rattle.run_promise.specs.Progress.{unused, unknown, keeps, half_made, Progress, Ending, at, at_file, at_text, begun, past, plus}
use Rattle.run_promise.specs.Progress.{with_store, made, opened, committed, in_doubt, within_file}
use Rattle.run_promise.specs.FeedBlocks.{lines_in}
use Rattle.run_promise.specs.World.{Before}
use Rattle.run_promise.proofs.HistoryLaws.{append_more, length_more}
use Rattle.run_promise.proofs.CourseLaws.{of_store, of_unknown, three}
use Rattle.run_promise.proofs.LineCounts.{lines-append, one_line}

-- a course over an open store that tells each step in a line, before it goes on: so many steps are not told yet, and so many are still
-- to be taken before it writes anything else
abbrev pub Counts : Course → (untold left : ℕ) → Type 0
Counts ends untold left = Unit {0}
Counts (refuses fault) untold left = untold ≡ 0
Counts (reads {A} file Reads rest) untold left = (untold ≡ 0) × ((found : A) → Counts (rest found) untold left)
Counts (wants_empty rest) untold left = ⊥
Counts (formats rest) untold left = ⊥
Counts (opens rest) untold left = ⊥
Counts (looks rest) untold left = (untold ≡ 0) × Counts rest untold left
Counts (commits step rest) untold left = (untold ≡ 0) × Counts rest 1 (left - 1)
Counts (tells text rest) untold left = ((left ≡ 0) ⊎ (lines_in text ≤ untold)) × Counts rest (untold - lines_in text) left
Counts (writes Fits rest) untold left = (untold ≡ 0) × (left ≡ 0) × Counts rest untold left
-- what a feed tells is counted by blocks
Counts (feeds Fits rest) untold left = ⊥
-- each line that is told of a feed tells its step, however many there are
Counts (follows file state rest) untold left = (untold ≡ 0) × ((next : State) (left : ℕ) → Counts (rest next) 0 left)

-- it opens the store first
abbrev pub CountsOpen : (total : ℕ) → Course → Type 0
CountsOpen total (opens rest) = (state : State) → Counts (rest state) 0 total
CountsOpen total _ = ⊥

-- or it makes one
abbrev pub CountsMade : (total : ℕ) → Course → Type 0
CountsMade total (reads {A} file Reads rest) = (found : A) → CountsMade total (rest found)
CountsMade total (wants_empty rest) = CountsMade total rest
CountsMade total (formats rest) = Counts rest 0 total
CountsMade total _ = ⊥

-- the store keeps the first steps of the history that it had, and others behind them, of which so many were told
pub record IsAfter (total : ℕ) (before : Kept) (count untold left : ℕ) (done : Progress) : Type 0 where
  pub now : History
  pub is : done.store ≡ keeps (whole now)
  pub from : before.least ≤ done.cut
  pub to : done.cut ≤ before.most
  pub steps : List Step
  pub extends : now ≡ with_steps steps (first done.cut before.history)
  pub sure : (told : ℕ) → told ≤ total → told ≤ count + untold → done.cut + told ≤ length now.steps
  pub near : done.cut + total ≤ length now.steps + left
  pub owed : length steps ≤ count + untold
  pub one : untold ≤ 1

-- The same at an end, where the last step may be in doubt and the store may not have been opened. In the middle of a text a part of it may
-- tell some more; after late faults the last step may be untold.
pub record Reaches (total : ℕ) (Late : Option Fault → Type 0) (before : Kept) (count half : ℕ) (ending : Ending) : Type 0 where
  pub now : Kept
  pub is : ending.done.store ≡ keeps now
  pub from : before.least ≤ ending.done.cut
  pub to : ending.done.cut ≤ before.most
  pub steps : List Step
  pub behind : ((now ≡ before) × (steps ≡ [])) ⊎ (now.history ≡ with_steps steps (first ending.done.cut before.history))
  pub fit : IsFit now
  pub all : ending.fault ≡ None → now.least ≡ length now.history.steps
  pub sure : (told : ℕ) → told ≤ total → told ≤ count + half → ending.done.cut + told ≤ now.least
  pub only : ending.fault ≢ None → ¬ Late ending.fault → ending.fault ≢ Some faults.DiskFault → length steps ≤ count
  pub last : Late ending.fault → length steps ≤ count + 1

-- no store was made, or none that is whole
pub record IsUnmadeAt (ending : Ending) : Type 0 where
  pub some : ending.fault ≢ None
  pub disk : (ending.fault ≡ Some faults.DiskFault) ⊎ (ending.done.store ≡ unused)
  pub unwritten : ending.done.written ≡ []
  pub unwriting : ending.writing ≡ []

more_steps : (before : Kept) (cut : ℕ) (steps : List Step) (step : Step) (now : History) → now ≡ with_steps steps (first cut before.history)
    → with_steps (step ∷ []) now ≡ with_steps (steps ++ step ∷ []) (first cut before.history)
more_steps before cut steps step now is =
    ap (with_steps (step ∷ [])) is ∙ ap (λ (own : List Step). record { base = before.history.base; steps = own })
    (append_more (first cut before.history).steps steps (step ∷ []))

-- whatever it is that tells a step
module _ (total : ℕ) (Late : Option Fault → Type 0) (before : Kept) (count : ℕ) where
  -- with all steps done, and all told
  pub reached : (left : ℕ) (done : Progress) (reading : Option ℕ) (fault : Option Fault) → IsAfter total before count 0 left done
      → Reaches total Late before count 0 (record { done = done; reading = reading; writing = []; fault = fault })
  reached left done reading fault after = record {
    now = whole after.now;
    is = after.is;
    from = after.from;
    to = after.to;
    steps = after.steps;
    behind = inr after.extends;
    fit = record { order = omega arith; last = refl; one = omega arith };
    all = λ _. refl;
    sure = λ told most few. after.sure told most few;
    only = λ _ _ _. let owed = after.owed in omega (arith, owed);
    last = λ _. let owed = after.owed in omega (arith, owed);
  }

  -- at the end of the course the last one may go untold
  pub ended : (untold left : ℕ) (done : Progress) → IsAfter total before count untold left done
      → Reaches total Late before count 0 (at done None)
  ended untold left done after = record {
    now = whole after.now;
    is = after.is;
    from = after.from;
    to = after.to;
    steps = after.steps;
    behind = inr after.extends;
    fit = record { order = omega arith; last = refl; one = omega arith };
    all = λ _. refl;
    sure = λ told most few. after.sure told most (omega (arith, few));
    only = λ some _ _. absurd (some refl);
    last = λ _. let owed = after.owed in let one = after.one in omega (arith, owed, one);
  }

  -- in the middle of a text, which tells no more than there is to be told
  pub telling : (half untold left : ℕ) (text : List ℕ) (done : Progress) (fault : Fault) → Late (Some fault)
      → (left ≡ 0) ⊎ (half ≤ untold) → IsAfter total before count untold left done
      → Reaches total Late before count half (record { done = done; reading = None; writing = text; fault = Some fault })
  telling half untold left text done fault late counts after = record {
    now = whole after.now;
    is = after.is;
    from = after.from;
    to = after.to;
    steps = after.steps;
    behind = inr after.extends;
    fit = record { order = omega arith; last = refl; one = omega arith };
    all = λ e. absurd (cc);
    sure = λ told most few. ⊎_elim (λ (none : left ≡ 0). let near = after.near in omega (arith, near, none, most))
        (λ (own : half ≤ untold). after.sure told most (omega (arith, own, few))) counts;
    only = λ _ not _. absurd (not late);
    last = λ _. let owed = after.owed in let one = after.one in omega (arith, owed, one);
  }

  -- and with one step in doubt
  pub doubted : (left : ℕ) (step : Step) (kept : Kept) (done : Progress) (after : IsAfter total before count 0 left done)
      → done.store ≡ keeps kept
      → Reaches total Late before count 0 (at (in_doubt step kept done) (Some faults.DiskFault))
  doubted left step kept done after is =
      let same : kept ≡ whole after.now = (let two : keeps kept ≡ keeps (whole after.now) = sym is ∙ after.is in cc) in
      let long : length kept.history.steps ≡ length after.now.steps = ap (λ (own : Kept). length own.history.steps) same in
      record {
        now = perhaps step kept;
        is = refl;
        from = after.from;
        to = after.to;
        steps = after.steps ++ step ∷ [];
        behind = inr (ap (λ (own : Kept). with_steps (step ∷ []) own.history) same
            ∙ more_steps before done.cut after.steps step after.now after.extends);
        fit = record {
          order = omega arith;
          last = sym (length_more kept.history.steps step);
          one = omega arith;
        };
        all = λ e. absurd (cc);
        sure = λ told most few. let own = after.sure told most few in omega (arith, own, long);
        only = λ _ _ not. absurd (not refl);
        last = λ _. let owed = after.owed in let own = length_more after.steps step in omega (arith, own, owed);
      }

  -- the same in the middle of a file
  pub within : (half file : ℕ) (ending : Ending) → Reaches total Late before count half ending
      → Reaches total Late before count half (within_file file ending)
  within half file ending there = record {
    now = there.now;
    is = there.is;
    from = there.from;
    to = there.to;
    steps = there.steps;
    behind = there.behind;
    fit = there.fit;
    all = there.all;
    sure = there.sure;
    only = there.only;
    last = there.last;
  }

  -- before the store was opened
  pub unopened : IsFit before → count ≡ 0 → (fault : Fault)
      → Reaches total Late before count 0 (at (begun (keeps before) before.least) (Some fault))
  unopened fit none fault = record {
    now = before;
    is = refl;
    from = omega arith;
    to = fit.order;
    steps = [];
    behind = inl (refl, refl);
    fit = fit;
    all = λ e. absurd (cc);
    sure = λ told most few. omega (arith, few, none);
    only = λ _ _ _. omega arith;
    last = λ _. omega arith;
  }

module _ (total : ℕ) (before : Kept) (count : ℕ) where
  -- as it was opened
  pub just_opened : (cut : ℕ) → before.least ≤ cut → cut ≤ before.most → IsFit before → count ≡ 0
      → IsAfter total before count 0 total (opened before cut (begun (keeps before) before.least))
  just_opened cut low high fit none =
      let last = fit.last in
      let long : length (first cut before.history).steps ≡ cut = length-take-le cut before.history.steps (omega (arith, high, last)) in
      record {
        now = first cut before.history;
        is = refl;
        from = low;
        to = high;
        steps = [];
        extends = ap (λ (own : List Step). record { base = before.history.base; steps = own })
            (sym (append-nil (first cut before.history).steps));
        sure = λ told most few. omega (arith, few, long, none);
        near = omega (arith, long);
        owed = omega arith;
        one = omega arith;
      }

  -- with one more step done
  pub stepped : (left : ℕ) (step : Step) (kept : Kept) (done : Progress) (after : IsAfter total before count 0 left done)
      → done.store ≡ keeps kept
      → IsAfter total before count 1 (left - 1) (committed step kept done)
  stepped left step kept done after is =
      let same : kept ≡ whole after.now = (let two : keeps kept ≡ keeps (whole after.now) = sym is ∙ after.is in cc) in
      let long : length kept.history.steps ≡ length after.now.steps = ap (λ (own : Kept). length own.history.steps) same in
      let more = length_more kept.history.steps step in
      let near = after.near in
      let owed = after.owed in
      record {
        now = with_steps (step ∷ []) kept.history;
        is = refl;
        from = after.from;
        to = after.to;
        steps = after.steps ++ step ∷ [];
        extends = ap (λ (own : Kept). with_steps (step ∷ []) own.history) same
            ∙ more_steps before done.cut after.steps step after.now after.extends;
        sure = λ told most few. let own = after.sure (told - 1) (omega (arith, most)) (omega (arith, few)) in
            omega (arith, own, long, more);
        near = omega (arith, near, long, more);
        owed = let own = length_more after.steps step in omega (arith, own, owed);
        one = omega arith;
      }

  -- with another file read
  pub went_past : (left file : ℕ) (done : Progress) → IsAfter total before count 0 left done
      → IsAfter total before count 0 left (past file done)
  went_past left file done after = record {
    now = after.now;
    is = after.is;
    from = after.from;
    to = after.to;
    steps = after.steps;
    extends = after.extends;
    sure = after.sure;
    near = after.near;
    owed = after.owed;
    one = after.one;
  }

  -- with a text told, which tells so many
  pub wrote : (more untold left : ℕ) (text : List ℕ) (done : Progress) → (left ≡ 0) ⊎ (more ≤ untold)
      → IsAfter total before count untold left done → IsAfter total before (count + more) (untold - more) left (plus text done)
  wrote more untold left text done counts after =
      let near = after.near in
      let owed = after.owed in
      let one = after.one in
      record {
        now = after.now;
        is = after.is;
        from = after.from;
        to = after.to;
        steps = after.steps;
        extends = after.extends;
        sure = λ told most few. ⊎_elim (λ (none : left ≡ 0). omega (arith, near, none, most))
            (λ (own : more ≤ untold). after.sure told most (omega (arith, own, few))) counts;
        near = near;
        owed = omega (arith, owed);
        one = omega (arith, one);
      }

-- a line tells a step; where the output failed, the last one may go untold
abbrev pub IsUnwritten : Option Fault → Type 0
IsUnwritten fault = fault ≡ Some faults.WriteFault

abbrev pub ReachesLines : (total : ℕ) (before : Kept) → Ending → Type 0
ReachesLines total before ending =
    Reaches total IsUnwritten before (lines_in ending.done.written) (lines_in ending.writing) ending

module _ (total : ℕ) (before : Kept) where
  abbrev After : (untold left : ℕ) → Progress → Type 0
  After untold left done = IsAfter total before (lines_in done.written) untold left done

  reaches : (ending own : Ending) → ending ≡ own → ReachesLines total before own → ReachesLines total before ending
  reaches ending own is there = subst (ReachesLines total before) (sym is) there

  all_told : (left : ℕ) (done : Progress) (reading : Option ℕ) (fault : Option Fault) → After 0 left done
      → ReachesLines total before (record { done = done; reading = reading; writing = []; fault = fault })
  all_told left done reading fault after = reached total IsUnwritten before (lines_in done.written) left done reading fault after

  told_lines : (untold left : ℕ) (text : List ℕ) (done : Progress) → (left ≡ 0) ⊎ (lines_in text ≤ untold) → After untold left done
      → After (untold - lines_in text) left (plus text done)
  told_lines untold left text done counts after =
      subst (λ (count : ℕ). IsAfter total before count (untold - lines_in text) left (plus text done))
      (sym (lines-append done.written text))
      (wrote total before (lines_in done.written) (lines_in text) untold left text done counts after)

  module _ (old : Before) where
    breaks_safe : (left : ℕ) (done : Progress) (ending : Ending) → After 0 left done → Breaks done ending
        → ReachesLines total before ending
    breaks_safe left done ending after (inl is) = reaches ending _ is (all_told left done None (Some faults.DiskFault) after)
    breaks_safe left done ending after (inr is) = reaches ending _ is (all_told left done None (Some faults.OutOfMemory) after)

    file_safe : (A : Type 0) (file : ℕ) (told : Option (List ℕ)) (Reads : List ℕ → Result A Fault → Type 0) (left : ℕ) (done : Progress)
        (ending : Ending) → After 0 left done
        → BreaksIn A file told Reads done ending → ReachesLines total before ending
    file_safe A file told Reads left done ending after (unread is) =
        reaches ending _ is (all_told left done (Some file) (Some (faults.ReadFault file)) after)
    file_safe A file told Reads left done ending after (short is) =
        reaches ending _ is (all_told left done (Some file) (Some faults.OutOfMemory) after)
    file_safe A file told Reads left done ending after (refused fault own told_so is) =
        reaches ending _ is (all_told left done (Some file) (Some fault) after)

    -- in the middle of a file of a feed
    broken_safe : (file left : ℕ) (done : Progress) (ending : Ending) → After 0 left done → BreaksWithin file done ending
        → ReachesLines total before ending
    broken_safe file left done ending after (inl is) =
        reaches ending _ is (all_told left done (Some file) (Some (faults.ReadFault file)) after)
    broken_safe file left done ending after (inr is) = reaches ending _ is (all_told left done (Some file) (Some faults.OutOfMemory) after)

    -- a block that is taken
    taken_safe : (file : ℕ) (block : Block) (left : ℕ) (done : Progress) (ending : Ending) (Goes : Progress → Type 0) → After 0 left done
        → ((taken : Progress) → After 1 (left - 1) taken → Goes taken → ReachesLines total before ending)
        → TakesWithin old file block done ending Goes → ReachesLines total before ending
    taken_safe file block left done ending Goes after go (inl breaks) = broken_safe file left done ending after breaks
    taken_safe file block left done ending Goes after go (inr (inl is)) =
        reaches ending _ is (all_told left done (Some file) (Some faults.DiskFault) after)
    taken_safe file block left done ending Goes after go (inr (inr c)) = let step = Follow block in of_store done.store
        (λ kept. (ending ≡ at_file file (in_doubt step kept done) faults.DiskFault)
        ⊎ IsRefusedWithin file (IsRefusal old (state_after kept.history) step) done ending
        ⊎ (MayTake old (state_after kept.history) step × Goes (committed step kept done)))
        (IsRefusedWithin file (IsStepFault (Some step)) done ending ⊎ Goes done) (ReachesLines total before ending)
        (λ kept is h. three (λ (doubt : ending ≡ at_file file (in_doubt step kept done) faults.DiskFault).
        reaches ending _ doubt (within total IsUnwritten before (lines_in done.written) 0 file (at (in_doubt step kept done)
        (Some faults.DiskFault)) (doubted total IsUnwritten before (lines_in done.written) left step kept done after is)))
        (λ (why : IsRefusedWithin file (IsRefusal old (state_after kept.history) step) done ending).
        reaches ending _ why.2 (all_told left done (Some file) _ after))
        (λ (c : MayTake old (state_after kept.history) step × Goes (committed step kept done)).
        go (committed step kept done) (stepped total before (lines_in done.written) left step kept done after is) c.1) h)
        (λ un h. absurd (let two : unknown ≡ keeps (whole after.now) = sym un ∙ after.is in cc)) c

    -- and blocks, each told in its line
    followed_safe : (file : ℕ) (told : List Block) (end : FeedEnd) (state : State) (left : ℕ) (done : Progress) (ending : Ending)
        (Goes : State → Progress → Type 0) → After 0 left done
        → ((next : State) (left : ℕ) (further : Progress) → After 0 left further → Goes next further → ReachesLines total before ending)
        → FollowsTo old file told end state done ending Goes → ReachesLines total before ending
    followed_safe file [] no_more state left done ending Goes after go (inl breaks) = broken_safe file left done ending after breaks
    followed_safe file [] no_more state left done ending Goes after go (inr goes) =
        go state left (past file done) (went_past total before (lines_in done.written) left file done after) goes
    followed_safe file [] (stopped fault) state left done ending Goes after go (inl breaks) =
        broken_safe file left done ending after breaks
    followed_safe file [] (stopped fault) state left done ending Goes after go (inr (of_feed, is)) =
        reaches ending _ is (all_told left done (Some file) (Some fault) after)
    followed_safe file [] unseen state left done ending Goes after go breaks = broken_safe file left done ending after breaks
    followed_safe file (block ∷ later) end state left done ending Goes after_done go takes =
        let next = after state (Follow block) in
        let text = version_line (changes_in next) in
        let line = one_line (changes_in next) in
        let none : 1 - lines_in text ≡ 0 = omega (arith, line) in
        taken_safe file block left done ending
        (λ taken. TellsWithin file text taken ending (λ told. FollowsTo old file later end next told ending Goes)) after_done
        (λ taken own tells. ⊎_elim (λ (is : ending ≡ within_file file (at_text text taken faults.WriteFault)).
        reaches ending _ is (within total IsUnwritten before (lines_in taken.written) (lines_in text) file (at_text text taken
        faults.WriteFault) (telling total IsUnwritten before (lines_in taken.written) (lines_in text) 1 (left - 1) text taken
        faults.WriteFault refl (inr (omega (arith, line))) own)))
        (λ (c : FollowsTo old file later end next (plus text taken) ending Goes).
        followed_safe file later end next (left - 1) (plus text taken) ending Goes
        (subst (λ (untold : ℕ). After untold (left - 1) (plus text taken)) none
        (told_lines 1 (left - 1) text taken (inr (omega (arith, line))) own)) go c) tells) takes

    -- each end of a course behind the opening
    comes_safe : (course : Course) (untold left : ℕ) (done : Progress) (ending : Ending) → Counts course untold left
        → After untold left done → Comes old course done ending → ReachesLines total before ending
    comes_safe ends untold left done ending counts after is =
        reaches ending _ is (ended total IsUnwritten before (lines_in done.written) untold left done after)
    comes_safe (refuses fault) untold left done ending counts after is =
        reaches ending _ is (all_told left done None (Some fault)
        (subst (λ (untold : ℕ). After untold left done) counts after))
    comes_safe (reads {A} file Reads rest) untold left done ending (none, counts) after (inl breaks) =
        file_safe A file (old.left file) Reads left done ending
        (subst (λ (untold : ℕ). After untold left done) none after) breaks
    comes_safe (reads {A} file Reads rest) untold left done ending (none, counts) after (inr (found, told, c)) =
        comes_safe (rest found) 0 left (past file done) ending (subst (λ (untold : ℕ). Counts (rest found) untold left) none (counts found))
        (went_past total before (lines_in done.written) left file done (subst (λ (untold : ℕ). After untold left done) none after)) c
    comes_safe (wants_empty rest) untold left done ending counts after c = absurd counts
    comes_safe (formats rest) untold left done ending counts after c = absurd counts
    comes_safe (opens rest) untold left done ending counts after c = absurd counts
    comes_safe (looks rest) untold left done ending (none, counts) after (inl breaks) =
        breaks_safe left done ending (subst (λ (untold : ℕ). After untold left done) none after) breaks
    comes_safe (looks rest) untold left done ending (none, counts) after (inr (inl why)) =
        absurd (let two : unknown ≡ keeps (whole after.now) =
        sym (of_unknown done.store (IsRefusedFor (IsStepFault None) done ending) why).0 ∙ after.is in cc)
    comes_safe (looks rest) untold left done ending (none, counts) after (inr (inr c)) =
        comes_safe rest untold left done ending counts after c
    comes_safe (commits step rest) untold left done ending (none, counts) after (inl breaks) =
        breaks_safe left done ending (subst (λ (untold : ℕ). After untold left done) none after) breaks
    comes_safe (commits step rest) untold left done ending (none, counts) after (inr c) =
        let own = subst (λ (untold : ℕ). After untold left done) none after in
        of_store done.store
        (λ kept. (ending ≡ at (in_doubt step kept done) (Some faults.DiskFault))
        ⊎ IsRefusedFor (IsRefusal old (state_after kept.history) step) done ending
        ⊎ (MayTake old (state_after kept.history) step × Comes old rest (committed step kept done) ending))
        (IsRefusedFor (IsStepFault (Some step)) done ending ⊎ Comes old rest done ending) (ReachesLines total before ending)
        (λ kept is h. three (λ (doubt : ending ≡ at (in_doubt step kept done) (Some faults.DiskFault)).
        reaches ending _ doubt (doubted total IsUnwritten before (lines_in done.written) left step kept done own is))
        (λ (why : IsRefusedFor (IsRefusal old (state_after kept.history) step) done ending).
        reaches ending _ why.2 (all_told left done None _ own))
        (λ (c : MayTake old (state_after kept.history) step × Comes old rest (committed step kept done) ending).
        comes_safe rest 1 (left - 1) (committed step kept done) ending counts
        (stepped total before (lines_in done.written) left step kept done own is) c.1) h)
        (λ un h. absurd (let two : unknown ≡ keeps (whole after.now) = sym un ∙ after.is in cc)) c
    comes_safe (tells text rest) untold left done ending (counts, later) after (inl is) =
        reaches ending _ is (telling total IsUnwritten before (lines_in done.written) (lines_in text) untold left text done
        faults.WriteFault refl counts after)
    comes_safe (tells text rest) untold left done ending (counts, later) after (inr c) =
        comes_safe rest (untold - lines_in text) left (plus text done) ending later (told_lines untold left text done counts after) c
    comes_safe (writes Fits rest) untold left done ending (none, over, later) after (inl is) =
        reaches ending _ is (all_told left done None (Some faults.OutOfMemory)
        (subst (λ (untold : ℕ). After untold left done) none after))
    comes_safe (writes Fits rest) untold left done ending (none, over, later) after (inr (own, told, inl is)) =
        reaches ending _ is (telling total IsUnwritten before (lines_in done.written) (lines_in own) untold left own done
        faults.WriteFault refl (inl over) after)
    comes_safe (writes Fits rest) untold left done ending (none, over, later) after (inr (own, told, inr c)) =
        comes_safe rest 0 left (plus own done) ending (subst (λ (untold : ℕ). Counts rest untold left) none later)
        (let zero : untold - lines_in own ≡ 0 = omega (arith, none) in
        subst (λ (untold : ℕ). After untold left (plus own done)) zero (told_lines untold left own done (inl over) after)) c
    comes_safe (feeds Fits rest) untold left done ending counts after c = absurd counts
    comes_safe (follows file state rest) untold left done ending (none, counts) after (told, end, is, c) =
        followed_safe file told end state left done ending (λ next further. Comes old (rest next) further ending)
        (subst (λ (untold : ℕ). After untold left done) none after)
        (λ next left further own goes. comes_safe (rest next) 0 left further ending (counts next left) own goes) c

    -- each end of a course that begins with the opening
    pub opens_safe : (course : Course) (ending : Ending) → CountsOpen total course → IsFit before
        → Comes old course (begun (keeps before) before.least) ending → ReachesLines total before ending
    opens_safe (opens rest) ending counts fit (inl (inl is)) =
        reaches ending _ is (unopened total IsUnwritten before 0 fit refl faults.DiskFault)
    opens_safe (opens rest) ending counts fit (inl (inr is)) =
        reaches ending _ is (unopened total IsUnwritten before 0 fit refl faults.OutOfMemory)
    opens_safe (opens rest) ending counts fit (inr (cut, low, high, c)) =
        comes_safe (rest (state_after (first cut before.history))) 0 total (opened before cut (begun (keeps before) before.least)) ending
        (counts (state_after (first cut before.history))) (just_opened total before 0 cut low high fit refl) c
    opens_safe ends ending counts fit c = absurd counts
    opens_safe (refuses fault) ending counts fit c = absurd counts
    opens_safe (reads {A} file Reads rest) ending counts fit c = absurd counts
    opens_safe (wants_empty rest) ending counts fit c = absurd counts
    opens_safe (formats rest) ending counts fit c = absurd counts
    opens_safe (looks rest) ending counts fit c = absurd counts
    opens_safe (commits step rest) ending counts fit c = absurd counts
    opens_safe (tells text rest) ending counts fit c = absurd counts
    opens_safe (writes Fits rest) ending counts fit c = absurd counts
    opens_safe (feeds Fits rest) ending counts fit c = absurd counts
    opens_safe (follows file state rest) ending counts fit c = absurd counts

module _ (total : ℕ) (old : Before) (bytes : List ℕ) (is : old.content ≡ Some bytes) where
  abbrev MadeAt : Ending → Type 0
  MadeAt ending = IsUnmadeAt ending ⊎ ReachesLines total (whole blank) ending

  unmade : (ending own : Ending) → ending ≡ own → IsUnmadeAt own → MadeAt ending
  unmade ending own same there = inl (subst IsUnmadeAt (sym same) there)

  before_made : (read : List ℕ) (reading : Option ℕ) (fault : Fault)
      → IsUnmadeAt (record { done = reading_alone read; reading = reading; writing = []; fault = Some fault })
  before_made read reading fault = record { some = λ e. absurd (cc); disk = inr refl; unwritten = refl; unwriting = refl }

  file_unmade : (A : Type 0) (file : ℕ) (told : Option (List ℕ)) (Reads : List ℕ → Result A Fault → Type 0) (read : List ℕ)
      (ending : Ending)
      → BreaksIn A file told Reads (reading_alone read) ending → MadeAt ending
  file_unmade A file told Reads read ending (unread same) = unmade ending _ same (before_made read (Some file) (faults.ReadFault file))
  file_unmade A file told Reads read ending (short same) = unmade ending _ same (before_made read (Some file) faults.OutOfMemory)
  file_unmade A file told Reads read ending (refused fault own told_so same) = unmade ending _ same (before_made read (Some file) fault)

  -- a store that was just made
  just_made : (read : List ℕ) → IsAfter total (whole blank) 0 0 total (with_store (keeps (whole blank)) (reading_alone read))
  just_made read = record {
    now = blank;
    is = refl;
    from = omega arith;
    to = omega arith;
    steps = [];
    extends = refl;
    sure = λ told most few. omega (arith, few);
    near = omega arith;
    owed = omega arith;
    one = omega arith;
  }

  -- each end of a course that makes its store on an empty disk
  pub makes_safe : (course : Course) (read : List ℕ) (ending : Ending) → CountsMade total course
      → Comes old course (reading_alone read) ending → MadeAt ending
  makes_safe (reads {A} file Reads rest) read ending counts (inl breaks) = file_unmade A file (old.left file) Reads read ending breaks
  makes_safe (reads {A} file Reads rest) read ending counts (inr (found, told, c)) =
      makes_safe (rest found) (file ∷ read) ending (counts found) c
  makes_safe (wants_empty rest) read ending counts (inl same) = unmade ending _ same (before_made read None faults.DiskFault)
  makes_safe (wants_empty rest) read ending counts (inr (inl full)) = unmade ending _ full.1 (before_made read None faults.NotEmpty)
  makes_safe (wants_empty rest) read ending counts (inr (inr (told, c))) = makes_safe rest read ending counts c
  makes_safe (formats rest) read ending counts c = three
      (λ (full : HoldsBytes old (reading_alone read) ending). unmade ending _ full.1 (before_made read None faults.NotEmpty))
      (λ (same : ending ≡ at (with_store half_made (reading_alone read)) (Some faults.DiskFault)).
      unmade ending _ same (record { some = λ e. absurd (cc); disk = inl refl; unwritten = refl; unwriting = refl }))
      (λ (c : Comes old rest (with_store (made old.content) (reading_alone read)) ending).
      inr (comes_safe total (whole blank) old rest 0 total (with_store (keeps (whole blank)) (reading_alone read)) ending counts
      (just_made read)
      (subst (λ (told : Option (List ℕ)). Comes old rest (with_store (made told) (reading_alone read)) ending) is c))) c
  makes_safe ends read ending counts c = absurd counts
  makes_safe (refuses fault) read ending counts c = absurd counts
  makes_safe (opens rest) read ending counts c = absurd counts
  makes_safe (looks rest) read ending counts c = absurd counts
  makes_safe (commits step rest) read ending counts c = absurd counts
  makes_safe (tells text rest) read ending counts c = absurd counts
  makes_safe (writes Fits rest) read ending counts c = absurd counts
  makes_safe (feeds Fits rest) read ending counts c = absurd counts
  makes_safe (follows file state rest) read ending counts c = absurd counts
