-- What a store keeps through a run, by its course.
use Rattle.std.proofs.Common.{◌≡◌, ◌+◌, ◌-◌, ◌⊎◌, ℕ, zero, suc, Bool, true, false, Option, Some, None, List, [], ◌∷◌, ◌++◌, ⊎_elim, inl}
use Rattle.std.proofs.Common.{inr, refl, sym, ◌∙◌, ap, subst, arith}
use Rattle.std.proofs.lemmas.List.{append-nil}
use Rattle.outside.specs.Bytes.{BothKnown}
use Rattle.style_read.specs.Style.{table_of}
use Rattle.map_query.specs.declared.query.Query.{Query}
use Rattle.tile_cover.specs.Table.{BoundsOf}
use Rattle.demo_map.specs.Demo.{demo_first, demo_input, demo_second}
use Rattle.demo_map.specs.Style.{DEMO_STYLE, demo_bounds, demo_style}
use Rattle.update_flow.specs.State.{Following, Holding, State, Step, formatted, imported, outdated, following, changed, fresh}
use Rattle.run_promise.specs.declared.fault.Fault.{Fault}
use Rattle.run_promise.specs.declared.fault.Fault.TheVariants as faults
use Rattle.run_promise.specs.declared.files.Files.{Files}
use Rattle.outside.specs.Inputs.{FilesView}
use Rattle.run_promise.specs.CommandOf.{CommandOf, points_of, lines_of, init_of, import_of, append_of, export_of, tiles_of, query_of}
use Rattle.run_promise.specs.CommandOf.{feed_of, follow_of, serve_of, replay_of, migrate_of, check_of, demo_of, Use, new_store, old_store}
use Rattle.run_promise.specs.CommandOf.{use_of}
use Rattle.run_promise.specs.Comes.{Comes}
use Rattle.run_promise.specs.Course.{Course, tells}
use Rattle.run_promise.specs.Courses.{Onward, growing, telling, summing, append_to, appends, clears, course_of, export_from, exports}
use Rattle.run_promise.specs.Courses.{exports_followed, finished, follow_to, follows_files, import_into}
use Rattle.run_promise.specs.Courses.{checks, migrates, onward, query_from, serve_to, serves, tiles_of_store, version_line}
use Rattle.run_promise.specs.Keeps.{Kept, IsFit, IsOneOf, blank, whole}
use Rattle.run_promise.specs.Leaves.{IsPast, Leaves, StandsOn}
use Rattle.run_promise.specs.Progress.{Standing, unused, keeps, Progress, Ending, begun}
use Rattle.run_promise.specs.Runs.{Begins, GoesBy, Runs}
use Rattle.run_promise.specs.FeedBlocks.{lines_in}
use Rattle.run_promise.specs.Safety.{Acknowledges, AcknowledgesBy, Extends, IsSafe, IsUnmade, Preserves, steps_told}
use Rattle.run_promise.specs.World.{GrewBy, World, remembered, with_files}
use Rattle.run_promise.proofs.CourseKeeps.{Counts, CountsMade, CountsOpen, IsUnmadeAt, IsUnwritten, Reaches, ReachesLines, makes_safe}
use Rattle.run_promise.proofs.CourseKeeps.{opens_safe}
use Rattle.run_promise.proofs.FeedKeeps.{IsLate, feed_safe, takes_blocks, told_in}
use Rattle.run_promise.proofs.LineCounts.{lines-grew, one_line}

-- every command but the feed tells so many steps in lines at most, and a follower as many as there are
abbrev IsFeed : CommandOf → Type 0
IsFeed (feed_of store files full workers) = Unit {0}
IsFeed (follow_of store files) = Unit {0}
IsFeed _ = ⊥

by_command : (P : CommandOf → Type 0)
    → ((store : List ℕ) (files : Files) (full : Bool) (workers : ℕ) → P (feed_of store files full workers))
    → ((store : List ℕ) (files : Files) → P (follow_of store files))
    → ((command : CommandOf) → ¬ IsFeed command → P command) → (command : CommandOf) → P command
by_command P feed follow lines (feed_of store files full workers) = feed store files full workers
by_command P feed follow lines (follow_of store files) = follow store files
by_command P feed follow lines (points_of key files) = lines (points_of key files) (λ no_feed. no_feed)
by_command P feed follow lines (lines_of key files) = lines (lines_of key files) (λ no_feed. no_feed)
by_command P feed follow lines (init_of store) = lines (init_of store) (λ no_feed. no_feed)
by_command P feed follow lines (import_of store files buckets workers) = lines (import_of store files buckets workers) (λ no_feed. no_feed)
by_command P feed follow lines (append_of store files ahead workers) = lines (append_of store files ahead workers) (λ no_feed. no_feed)
by_command P feed follow lines (export_of store table) = lines (export_of store table) (λ no_feed. no_feed)
by_command P feed follow lines (tiles_of store least clear) = lines (tiles_of store least clear) (λ no_feed. no_feed)
by_command P feed follow lines (query_of store files) = lines (query_of store files) (λ no_feed. no_feed)
by_command P feed follow lines (serve_of store files workers readers) = lines (serve_of store files workers readers) (λ no_feed. no_feed)
by_command P feed follow lines (replay_of store files workers) = lines (replay_of store files workers) (λ no_feed. no_feed)
by_command P feed follow lines (migrate_of store) = lines (migrate_of store) (λ no_feed. no_feed)
by_command P feed follow lines (check_of store) = lines (check_of store) (λ no_feed. no_feed)
by_command P feed follow lines (demo_of count store workers) = lines (demo_of count store workers) (λ no_feed. no_feed)

module _ (now : Kept) (cut : ℕ) (steps : List Step) (fault : Option Fault) (earlier later : List ℕ) where
  abbrev InLines : CommandOf → Type 0
  InLines command = Acknowledges (steps_told command) now cut steps fault (lines_in later - lines_in earlier)

  by_lines : (command : CommandOf) → ¬ IsFeed command → InLines command → AcknowledgesBy command now cut steps fault earlier later
  by_lines (feed_of store files full workers) not told = absurd (not tt)
  by_lines (follow_of store files) not told = absurd (not tt)
  by_lines (points_of key files) not told = told
  by_lines (lines_of key files) not told = told
  by_lines (init_of store) not told = told
  by_lines (import_of store files buckets workers) not told = told
  by_lines (append_of store files ahead workers) not told = told
  by_lines (export_of store table) not told = told
  by_lines (tiles_of store least clear) not told = told
  by_lines (query_of store files) not told = told
  by_lines (serve_of store files workers readers) not told = told
  by_lines (replay_of store files workers) not told = told
  by_lines (migrate_of store) not told = told
  by_lines (check_of store) not told = told
  by_lines (demo_of count store workers) not told = told

-- what the output took then
acknowledges : (command : CommandOf) (before : Kept) (ending : Ending) → ¬ IsFeed command
    → (there : ReachesLines (steps_told command) before ending)
    → (earlier later : List ℕ) → GrewBy ending.done.written ending.writing earlier later
    → AcknowledgesBy command there.now ending.done.cut there.steps ending.fault earlier later
acknowledges command before ending not there earlier later grew =
    let own = lines-grew ending.done.written ending.writing earlier later grew in
    let all = own.1 in
    let half = own.2 in
    by_lines there.now ending.done.cut there.steps ending.fault earlier later command not (record {
      kept = λ told most few. there.sure told most (omega (arith, few, all, half));
      only = λ some write disk. let owed = there.only some write disk in omega (arith, owed, all);
      last = λ is. let owed = there.last is in omega (arith, owed, all);
    })

-- of a follower each line that was written may tell a step
takes_lines : (store : List ℕ) (files : Files) (before : Kept) (ending : Ending)
    → (there : ReachesLines (lines_in ending.done.written + lines_in ending.writing) before ending)
    → (earlier later : List ℕ) → GrewBy ending.done.written ending.writing earlier later
    → AcknowledgesBy (follow_of store files) there.now ending.done.cut there.steps ending.fault earlier later
takes_lines store files before ending there earlier later grew =
    let own = lines-grew ending.done.written ending.writing earlier later grew in
    let all = own.1 in
    let half = own.2 in
    record {
      kept = λ told most few. there.sure told (omega (arith, few, all, half)) (omega (arith, few, all, half));
      only = λ some write disk. let owed = there.only some write disk in omega (arith, owed, all);
      last = λ is. let owed = there.last is in omega (arith, owed, all);
    }

module _ (total : ℕ) (Late : Option Fault → Type 0) (command : CommandOf) (before : Kept) (count half : ℕ) (ending : Ending)
    (there : Reaches total Late before count half ending)
    (acknowledged : (earlier later : List ℕ) → GrewBy ending.done.written ending.writing earlier later
    → AcknowledgesBy command there.now ending.done.cut there.steps ending.fault earlier later) where
  took : (earlier later : Option (List ℕ)) → BothKnown earlier later (GrewBy ending.done.written ending.writing)
      → BothKnown earlier later (λ earlier later.
      AcknowledgesBy command there.now ending.done.cut there.steps ending.fault earlier later)
  took None later grew = tt
  took (Some earlier) None grew = grew
  took (Some earlier) (Some later) grew = acknowledged earlier later grew

  -- what the run makes of the history
  abbrev extends : (start : Progress) (old new : World) (seen : FilesView) → Comes (remembered old) (course_of command) start ending
      → Leaves start ending (remembered old) (with_files seen new) → Extends command start before old new ending.fault
  extends start old new seen comes leaves =
      let stands : StandsOn ending.fault (keeps there.now) (remembered old) new.disk =
      subst (λ (own : Standing). StandsOn ending.fault own (remembered old) new.disk) there.is leaves.store in
      record {
        now = there.now;
        cut = ending.done.cut;
        steps = there.steps;
        from = there.from;
        to = there.to;
        behind = there.behind;
        comes = (ending, refl, comes, there.is, refl);
        at_end = record {
          keeps = stands.0;
          fit = there.fit;
          all = there.all;
          told = stands.1;
        };
        acknowledged = took old.output.taken new.output.taken leaves.output;
      }

  preserves : (old new : World) (seen : FilesView)
      → Comes (remembered old) (course_of command) (begun (keeps before) before.least) ending
      → Leaves (begun (keeps before) before.least) ending (remembered old) (with_files seen new)
      → Preserves command before old new ending.fault
  preserves old new seen comes leaves = record {
    run = extends (begun (keeps before) before.least) old new seen comes leaves;
    moments = λ left out. ⊎_elim (λ (own : IsOneOf before left). inl own)
        (λ (own : IsPast ending.done.cut ending.done.store left).
        inr (subst (λ (store : Standing). IsPast ending.done.cut store left) there.is own)) (leaves.moments.each left out);
  }

-- what a disk kept, it keeps
goes_safe : (command : CommandOf) → ¬ IsFeed command → (before : Kept) (fault : Option Fault) (old new : World) (seen : FilesView)
    → CountsOpen (steps_told command) (course_of command) → IsFit before
    → GoesBy (course_of command) (begun (keeps before) before.least) fault old (with_files seen new)
    → Preserves command before old new fault
goes_safe command not before fault old new seen counts fit (ending, same, comes, leaves) =
    let there = opens_safe (steps_told command) before (remembered old) (course_of command) ending counts fit comes in
    subst (λ (fault : Option Fault). Preserves command before old new fault) same
    (preserves (steps_told command) IsUnwritten command before (lines_in ending.done.written) (lines_in ending.writing) ending there
    (acknowledges command before ending not there) old new seen comes leaves)

goes_fed : (store : List ℕ) (files : Files) (full : Bool) (workers : ℕ) (before : Kept) (fault : Option Fault) (old new : World)
    (seen : FilesView) → IsFit before
    → GoesBy (course_of (feed_of store files full workers)) (begun (keeps before) before.least) fault old (with_files seen new)
    → Preserves (feed_of store files full workers) before old new fault
goes_fed store files full workers before fault old new seen fit (ending, same, comes, leaves) =
    let so = feed_safe before (remembered old) ending store files full workers fit comes in
    subst (λ (fault : Option Fault). Preserves (feed_of store files full workers) before old new fault) same
    (preserves so.total IsLate (feed_of store files full workers) before (told_in full so.blocks) so.half ending so.there
    (takes_blocks full before ending so) old new seen comes leaves)

-- files of a feed that are followed
files_count : (file count : ℕ) (state : State) (left : ℕ) → Counts (follows_files file count state) 0 left
unfolding follows_files
files_count file zero state left = tt
files_count file (suc count) state left = (refl, λ next left. files_count (file + 1) count next left)

follow_counts : (total : ℕ) (files : Files) (state : State) → Counts (follow_to files state) 0 total
follow_counts total files formatted = files_count files.first files.count formatted total
follow_counts total files (imported held) = refl
follow_counts total files (outdated held) = refl
follow_counts total files (following held) = files_count files.first files.count (following held) total

goes_followed : (store : List ℕ) (files : Files) (before : Kept) (fault : Option Fault) (old new : World) (seen : FilesView) → IsFit before
    → GoesBy (course_of (follow_of store files)) (begun (keeps before) before.least) fault old (with_files seen new)
    → Preserves (follow_of store files) before old new fault
goes_followed store files before fault old new seen fit (ending, same, comes, leaves) =
    let total = lines_in ending.done.written + lines_in ending.writing in
    let there = opens_safe total before (remembered old) (course_of (follow_of store files)) ending (follow_counts total files) fit comes in
    subst (λ (fault : Option Fault). Preserves (follow_of store files) before old new fault) same
    (preserves total IsUnwritten (follow_of store files) before (lines_in ending.done.written) (lines_in ending.writing) ending there
    (takes_lines store files before ending there) old new seen comes leaves)

nothing : (earlier later : Option (List ℕ)) → BothKnown earlier later (GrewBy [] [])
    → BothKnown earlier later (λ earlier later. later ≡ earlier)
nothing None later grew = tt
nothing (Some earlier) None grew = grew
nothing (Some earlier) (Some later) grew = same earlier later grew
  where
    empty : (front rest : List ℕ) → [] ≡ front ++ rest → front ≡ []
    empty [] rest is = refl
    empty (one ∷ front) rest is = absurd (cc)

    same : (earlier later : List ℕ) → GrewBy [] [] earlier later → later ≡ earlier
    same earlier later grew = grew.grown ∙ ap (λ (own : List ℕ). (earlier ++ []) ++ own) (empty grew.front grew.rest grew.cut)
        ∙ append-nil (earlier ++ []) ∙ append-nil earlier

-- no store was made
stays_unmade : (ending : Ending) (start : Progress) (old new : World) (seen : FilesView) → IsUnmadeAt ending
    → Leaves start ending (remembered old) (with_files seen new) → IsUnmade old new ending.fault
stays_unmade ending start old new seen there leaves = record {
  refused = there.some;
  disk = ⊎_elim (λ (failed : ending.fault ≡ Some faults.DiskFault). inl failed)
      (λ (is : ending.done.store ≡ unused). inr
      (subst (λ (own : Standing). StandsOn ending.fault own (remembered old) new.disk) is leaves.store)) there.disk;
  silent = nothing old.output.taken new.output.taken
      (subst (λ (half : List ℕ). BothKnown old.output.taken new.output.taken (GrewBy [] half)) there.unwriting
      (subst (λ (whole : List ℕ). BothKnown old.output.taken new.output.taken (GrewBy whole ending.writing)) there.unwritten
      leaves.output));
}

-- what a run makes on an empty disk
goes_made : (command : CommandOf) → ¬ IsFeed command → (fault : Option Fault) (old new : World) (seen : FilesView)
    → CountsMade (steps_told command) (course_of command) → old.disk.content ≡ Some []
    → GoesBy (course_of command) (begun unused 0) fault old (with_files seen new)
    → IsUnmade old new fault ⊎ Extends command (begun unused 0) (whole blank) old new fault
goes_made command not fault old new seen counts is (ending, same, comes, leaves) =
    subst (λ (fault : Option Fault). IsUnmade old new fault ⊎ Extends command (begun unused 0) (whole blank) old new fault) same
    (⊎_elim (λ (there : IsUnmadeAt ending). inl (stays_unmade ending (begun unused 0) old new seen there leaves))
    (λ (there : ReachesLines (steps_told command) (whole blank) ending).
    inr (extends (steps_told command) IsUnwritten command (whole blank) (lines_in ending.done.written) (lines_in ending.writing) ending
    there (acknowledges command (whole blank) ending not there) (begun unused 0) old new seen comes leaves))
    (makes_safe (steps_told command) (remembered old) [] is (course_of command) [] ending counts comes))

-- change files that are appended, and what comes behind them
appends_count : (bounds : BoundsOf) (last : Onward) → ((held : Holding) → Counts (onward last held) 0 0) → (held : Holding) (file count : ℕ)
    → Counts (appends bounds held file count (onward last)) 0 count
unfolding appends
appends_count bounds last behind held file zero = behind held
appends_count bounds last behind held file (suc count) =
    let line = one_line (held.changes + 1) in
    let told : 0 ≡ 1 - lines_in (version_line (held.changes + 1)) = omega (arith, line) in
    let taken : count ≡ suc count - 1 = omega arith in (
      refl,
      λ change. (
        refl,
        (
          inr (omega (arith, line)),
          subst (λ (untold : ℕ). Counts (appends bounds (changed bounds change held) (file + 1) count (onward last)) untold (suc count - 1))
              told
              (subst (λ (left : ℕ). Counts (appends bounds (changed bounds change held) (file + 1) count (onward last)) 0 left) taken
              (appends_count bounds last behind (changed bounds change held) (file + 1) count)),
        ),
      ),
    )

-- change files that are appended and shown to readers
serves_count : (bounds : BoundsOf) (queries : List Query) (readers : ℕ) (shown : List Holding) (held : Holding) (file count : ℕ)
    → Counts (serves bounds queries readers shown held file count) 0 count
unfolding serves
serves_count bounds queries readers shown held file zero = (refl, refl, tt)
serves_count bounds queries readers shown held file (suc count) =
    let line = one_line (held.changes + 1) in
    let told : 0 ≡ 1 - lines_in (version_line (held.changes + 1)) = omega (arith, line) in
    let taken : count ≡ suc count - 1 = omega arith in (
      refl,
      λ change. (
        refl,
        (
          inr (omega (arith, line)),
          subst (λ (untold : ℕ). Counts (serves bounds queries readers (shown ++ held ∷ []) (changed bounds change held) (file + 1) count)
              untold (suc count - 1)) told
              (subst (λ (left : ℕ). Counts (serves bounds queries readers (shown ++ held ∷ []) (changed bounds change held)
              (file + 1) count) 0 left) taken
              (serves_count bounds queries readers (shown ++ held ∷ []) (changed bounds change held) (file + 1) count)),
        ),
      ),
    )

-- the courses over a store that is there open it first
opens_first : (command : CommandOf) → ¬ IsFeed command → use_of command ≡ old_store → CountsOpen (steps_told command) (course_of command)
opens_first (points_of key files) not is = absurd (cc)
opens_first (lines_of key files) not is = absurd (cc)
opens_first (init_of store) not is = absurd (cc)
opens_first (import_of store files buckets workers) not is = into
  where
    into : (state : State) → Counts (import_into files buckets state) 0 1
    into formatted = let line = one_line 0 in (refl, λ style. (refl, λ entries. (refl, (inr (omega (arith, line)), tt))))
    into (imported held) = refl
    into (outdated held) = refl
    into (following held) = refl
opens_first (append_of store files ahead workers) not is = into
  where
    into : (state : State) → Counts (append_to files state) 0 (files.count - 1)
    into formatted = refl
    into (imported held) = (refl, λ bounds. appends_count bounds finished (λ _. tt) held (files.first + 1) (files.count - 1))
    into (outdated held) = refl
    into (following held) = refl
opens_first (feed_of store files full workers) not is = absurd (not tt)
opens_first (follow_of store files) not is = absurd (not tt)
opens_first (export_of store table) not is = into
  where
    from : (held : Holding) (found : Option ℕ) → Counts (exports held found) 0 0
    from held None = refl
    from held (Some number) = (refl, (refl, refl, tt))

    followed : (held : Following) (found : Option ℕ) → Counts (exports_followed held found) 0 0
    followed held None = refl
    followed held (Some number) = (refl, (refl, refl, tt))

    into : (state : State) → Counts (export_from table state) 0 0
    into formatted = refl
    into (imported held) = from held (table_of held.style.tables table)
    into (outdated held) = refl
    into (following held) = followed held (table_of held.style.tables table)
opens_first (tiles_of store least clear) not is = into
  where
    behind : (clear : Bool) → Counts (clears clear) 0 0
    behind false = tt
    behind true = (refl, tt)

    into : (state : State) → Counts (tiles_of_store least clear state) 0 0
    into formatted = refl
    into (imported held) = (refl, (refl, refl, behind clear))
    into (outdated held) = refl
    into (following held) = refl
opens_first (query_of store files) not is = into
  where
    into : (state : State) → Counts (query_from files state) 0 0
    into formatted = refl
    into (imported held) = (refl, λ queries. (refl, (refl, refl, tt)))
    into (outdated held) = refl
    into (following held) = refl
opens_first (serve_of store files workers readers) not is = into
  where
    into : (state : State) → Counts (serve_to files readers state) 0 (files.count - 2)
    into formatted = refl
    into (imported held) = (
      refl,
      λ bounds. (
        refl,
        λ queries. (refl, serves_count bounds queries readers [] held (files.first + 2) (files.count - 2)),
      ),
    )
    into (outdated held) = refl
    into (following held) = refl
opens_first (replay_of store files workers) not is = absurd (cc)
opens_first (migrate_of store) not is = into
  where
    into : (state : State) → Counts (migrates state) 0 0
    into formatted = refl
    into (imported held) = (inl refl, tt)
    into (outdated held) = (refl, (inl refl, tt))
    into (following held) = refl
opens_first (check_of store) not is = into
  where
    into : (state : State) → Counts (checks state) 0 0
    into formatted = (refl, (inl refl, tt))
    into (imported held) = (refl, (inl refl, tt))
    into (outdated held) = refl
    into (following held) = refl
opens_first (demo_of count store workers) not is = absurd (cc)

-- a step is told in its line, and so much is left
told_count : (changes left : ℕ) (rest : Course) → Counts rest 0 left → Counts (tells (version_line changes) rest) 1 left
told_count changes left rest behind =
    let line = one_line changes in
    let told : 0 ≡ 1 - lines_in (version_line changes) = omega (arith, line) in
    (inr (omega (arith, line)), subst (λ (untold : ℕ). Counts rest untold left) told behind)

-- and the others make it
makes_first : (command : CommandOf) → use_of command ≡ new_store → CountsMade (steps_told command) (course_of command)
makes_first (points_of key files) is = absurd (cc)
makes_first (lines_of key files) is = absurd (cc)
makes_first (init_of store) is = (inl refl, tt)
makes_first (import_of store files buckets workers) is = absurd (cc)
makes_first (append_of store files ahead workers) is = absurd (cc)
makes_first (feed_of store files full workers) is = absurd (cc)
makes_first (follow_of store files) is = absurd (cc)
makes_first (export_of store table) is = absurd (cc)
makes_first (tiles_of store least clear) is = absurd (cc)
makes_first (query_of store files) is = absurd (cc)
makes_first (serve_of store files workers readers) is = absurd (cc)
makes_first (migrate_of store) is = absurd (cc)
makes_first (check_of store) is = absurd (cc)
makes_first (demo_of count store workers) is =
    let first = fresh demo_style DEMO_STYLE 1024 (demo_input count) in
    let second = changed demo_bounds (demo_first count) first in
    let third = changed demo_bounds (demo_second count) second in (
      refl,
      (
        refl,
        told_count 0 2 (onward (growing demo_bounds (demo_first count) (growing demo_bounds (demo_second count) summing)) first) (
          refl,
          told_count (first.changes + 1) 1 (onward (growing demo_bounds (demo_second count) summing) second) (
            refl,
            told_count (second.changes + 1) 0 (onward summing third) (refl, (refl, refl, tt)),
          ),
        ),
      ),
    )
makes_first (replay_of store files workers) is = λ style bounds.
    let line = one_line 0 in
    let told : 0 ≡ 1 - lines_in (version_line 0) = omega (arith, line) in
    let taken : files.count - 3 ≡ files.count - 2 - 1 = omega arith in (
      refl,
      (
        refl,
        λ entries. (
          refl,
          (
            inr (omega (arith, line)),
            subst (λ (untold : ℕ). Counts (appends bounds (fresh style.0 style.1 1024 entries) (files.first + 2 + 1) (files.count - 3)
                (onward (telling bounds.zoom))) untold (files.count - 2 - 1)) told
                (subst (λ (left : ℕ). Counts (appends bounds (fresh style.0 style.1 1024 entries) (files.first + 2 + 1) (files.count - 3)
                (onward (telling bounds.zoom))) 0 left) taken
                (appends_count bounds (telling bounds.zoom) (λ held. (refl, (refl, refl, tt))) (fresh style.0 style.1 1024 entries)
                (files.first + 2 + 1) (files.count - 3))),
          ),
        ),
      ),
    )

-- a run of each command over a store that is there
abbrev KeepsBy : World → World → Option Fault → FilesView → CommandOf → Type 0
KeepsBy old new fault seen command = use_of command ≡ old_store → (before : Kept) → IsFit before
    → GoesBy (course_of command) (begun (keeps before) before.least) fault old (with_files seen new)
    → Preserves command before old new fault

keeps_by : (old new : World) (fault : Option Fault) (seen : FilesView) (command : CommandOf) → KeepsBy old new fault seen command
keeps_by old new fault seen = by_command (KeepsBy old new fault seen)
    (λ store files full workers is before fit goes. goes_fed store files full workers before fault old new seen fit goes)
    (λ store files is before fit goes. goes_followed store files before fault old new seen fit goes)
    (λ command not is before fit goes. goes_safe command not before fault old new seen (opens_first command not is) fit goes)

-- and of one that makes it
abbrev MakesBy : World → World → Option Fault → FilesView → CommandOf → Type 0
MakesBy old new fault seen command = use_of command ≡ new_store → old.disk.content ≡ Some []
    → GoesBy (course_of command) (begun unused 0) fault old (with_files seen new)
    → IsUnmade old new fault ⊎ Extends command (begun unused 0) (whole blank) old new fault

makes_by : (old new : World) (fault : Option Fault) (seen : FilesView) (command : CommandOf) → MakesBy old new fault seen command
makes_by old new fault seen = by_command (MakesBy old new fault seen)
    (λ store files full workers is. absurd (cc))
    (λ store files is. absurd (cc))
    (λ command not is empty goes. goes_made command not fault old new seen (makes_first command is) empty goes)

pub runs_safe : (command : CommandOf) (asks : List ℕ → Type 0) (old new : World) (fault : Option Fault) → Runs command asks old new fault
    → IsSafe command old new fault
runs_safe command asks old new fault runs = record {
  kept = λ is before kept. keeps_by old new fault runs.seen command is before kept.fit
      (runs.course (begun (keeps before) before.least)
      (subst (λ (way : Use). Begins way old (begun (keeps before) before.least)) (sym is) (inr (before, kept, refl))));
  made = λ is empty. makes_by old new fault runs.seen command is empty
      (runs.course (begun unused 0) (subst (λ (way : Use). Begins way old (begun unused 0)) (sym is) refl));
}
