-- What holds of stores of the old format, by the courses of the commands.
use Rattle.std.proofs.Common.{◌≡◌, ◌≤◌, ℕ, Some, None, List, [], ◌∷◌, ◌++◌, inl, inr, refl, sym, ◌∙◌, ap}
use Rattle.update_flow.specs.History.{History, state_after}
use Rattle.update_flow.specs.State.{Holding, State, formatted, imported, outdated, following, Migrate, after}
use Rattle.run_promise.specs.declared.fault.Fault.{Fault}
use Rattle.run_promise.specs.declared.fault.Fault.TheVariants as faults
use Rattle.run_promise.specs.Causes.{WantsNewFormat}
use Rattle.run_promise.specs.Comes.{Comes}
use Rattle.run_promise.specs.CommandOf.{CommandOf, points_of, lines_of, init_of, import_of, append_of, export_of, tiles_of, query_of}
use Rattle.run_promise.specs.CommandOf.{feed_of, follow_of, serve_of, replay_of, migrate_of, check_of, demo_of}
use Rattle.run_promise.specs.Course.{Course, opens, tells, ends}
use Rattle.run_promise.specs.Courses.{append_to, checks, course_of, export_from, feed_to, follow_to, format_line, import_into, migrates}
use Rattle.run_promise.specs.Courses.{query_from, serve_to, tiles_of_store}
use Rattle.run_promise.specs.Faults.{flow_fault}
use Rattle.run_promise.specs.Keeps.{Kept, first, whole, with_steps}
use Rattle.run_promise.specs.Migrating.{IfOld, IsMigrated, IsMigratedFrom, LeavesOld, had, got, old_fault}
use Rattle.run_promise.specs.Progress.{keeps, Progress, Ending, at, at_text, begun, committed, in_doubt, opened}
use Rattle.run_promise.specs.World.{Before}
use Rattle.run_promise.proofs.HistoryLaws.{state-more}

if_old : (state : State) (P : Type 0) (C : State → Type 0) → ((held : Holding) → C (outdated held) → P) → C state → IfOld state P
if_old formatted P C old comes = tt
if_old (imported held) P C old comes = tt
if_old (following held) P C old comes = tt
if_old (outdated held) P C old comes = old held comes

-- a run that opens its store and goes on so, which refuses the old format at once
opened_left : (command : CommandOf) (rest : State → Course) (old : Before) (kept : Kept) (ending : Ending)
    → ((held : Holding) (done : Progress) → Comes old (rest (outdated held)) done ending → ending ≡ at done (Some (old_fault command)))
    → Comes old (opens rest) (begun (keeps kept) kept.least) ending → LeavesOld command kept ending
opened_left command rest old kept ending refused (inl breaks) = inl breaks
opened_left command rest old kept ending refused (inr (cut, low, high, comes)) =
    let done = opened kept cut (begun (keeps kept) kept.least) in
    inr (
      cut,
      low,
      high,
      if_old (state_after (first cut kept.history)) (ending ≡ at done (Some (old_fault command)))
          (λ state. Comes old (rest state) done ending) (λ held is. refused held done is) comes,
    )

-- each command that opens its store goes so, but for the one that migrates it
pub leaves_old : (command : CommandOf) (old : Before) (kept : Kept) (ending : Ending) → WantsNewFormat command
    → Comes old (course_of command) (begun (keeps kept) kept.least) ending → LeavesOld command kept ending
leaves_old (points_of key files) old kept ending wants comes = absurd (cc)
leaves_old (lines_of key files) old kept ending wants comes = absurd (cc)
leaves_old (init_of store) old kept ending wants comes = absurd (cc)
leaves_old (import_of store files buckets workers) old kept ending wants comes =
    opened_left (import_of store files buckets workers) (import_into files buckets) old kept ending (λ held done is. is) comes
leaves_old (append_of store files ahead workers) old kept ending wants comes =
    opened_left (append_of store files ahead workers) (append_to files) old kept ending (λ held done is. is) comes
leaves_old (feed_of store files full workers) old kept ending wants comes =
    opened_left (feed_of store files full workers) (feed_to files full) old kept ending (λ held done is. is) comes
leaves_old (follow_of store files) old kept ending wants comes =
    opened_left (follow_of store files) (follow_to files) old kept ending (λ held done is. is) comes
leaves_old (export_of store table) old kept ending wants comes =
    opened_left (export_of store table) (export_from table) old kept ending (λ held done is. is) comes
leaves_old (tiles_of store least clear) old kept ending wants comes =
    opened_left (tiles_of store least clear) (tiles_of_store least clear) old kept ending (λ held done is. is) comes
leaves_old (query_of store files) old kept ending wants comes =
    opened_left (query_of store files) (query_from files) old kept ending (λ held done is. is) comes
leaves_old (serve_of store files workers readers) old kept ending wants comes =
    opened_left (serve_of store files workers readers) (serve_to files readers) old kept ending (λ held done is. is) comes
leaves_old (replay_of store files workers) old kept ending wants comes = absurd (cc)
leaves_old (migrate_of store) old kept ending wants comes = absurd wants
leaves_old (check_of store) old kept ending wants comes =
    opened_left (check_of store) checks old kept ending (λ held done is. is) comes
leaves_old (demo_of count store workers) old kept ending wants comes = absurd (cc)

-- a run that ended well ended otherwise than so
module _ (kept : Kept) (ending : Ending) (well : ending.fault ≡ None) where
  faulty : (own : Ending) (fault : Fault) → ending ≡ own → own.fault ≡ Some fault → IsMigrated kept ending
  faulty own fault is has = absurd (let two : Some fault ≡ None = sym has ∙ ap (λ (end : Ending). end.fault) (sym is) ∙ well in cc)

  module _ (old : Before) (cut : ℕ) (low : kept.least ≤ cut) (high : cut ≤ kept.most) where
    abbrev stood : History
    stood = first cut kept.history

    abbrev done : Progress
    done = opened kept cut (begun (keeps kept) kept.least)

    -- the line was told over a store that holds this
    told : (held : Holding) (now : History) (further : Progress) → IsMigratedFrom stood now held → state_after now ≡ imported held
        → further.store ≡ keeps (whole now) → further.written ≡ []
        → Comes old (tells format_line ends) further ending → IsMigrated kept ending
    told held now further from holds stands unwritten (inl is) =
        faulty (at_text format_line further faults.WriteFault) faults.WriteFault is refl
    told held now further from holds stands unwritten (inr is) = record {
      cut = cut;
      from = low;
      to = high;
      held = held;
      now = now;
      migrated = from;
      kept = ap (λ (end : Ending). end.done.store) is ∙ stands;
      holds = holds;
      told = ap (λ (end : Ending). end.done.written) is ∙ ap (λ (own : List ℕ). own ++ format_line) unwritten;
    }

    -- by the state at which the store was opened
    migrated_by : (state : State) → state_after stood ≡ state → Comes old (migrates state) done ending → IsMigrated kept ending
    migrated_by formatted was is = faulty (at done (Some faults.NotImported)) faults.NotImported is refl
    migrated_by (following held) was is = faulty (at done (Some faults.Follower)) faults.Follower is refl
    migrated_by (imported held) was comes = told held stood done (had was refl) was refl refl comes
    migrated_by (outdated held) was (inl (inl is)) = faulty (at done (Some faults.DiskFault)) faults.DiskFault is refl
    migrated_by (outdated held) was (inl (inr is)) = faulty (at done (Some faults.OutOfMemory)) faults.OutOfMemory is refl
    migrated_by (outdated held) was (inr (inl is)) =
        faulty (at (in_doubt Migrate (whole stood) done) (Some faults.DiskFault)) faults.DiskFault is refl
    migrated_by (outdated held) was (inr (inr (inl (fault, why, is)))) =
        faulty (at done (Some (flow_fault fault))) (flow_fault fault) is refl
    migrated_by (outdated held) was (inr (inr (inr (so, comes)))) =
        told held (with_steps (Migrate ∷ []) stood) (committed Migrate (whole stood) done) (got was refl)
        (state-more Migrate stood ∙ ap (λ (own : State). after own Migrate) was) refl refl comes

-- a migration that ended well
pub migrated_well : (old : Before) (store : List ℕ) (kept : Kept) (ending : Ending)
    → Comes old (course_of (migrate_of store)) (begun (keeps kept) kept.least) ending → ending.fault ≡ None → IsMigrated kept ending
migrated_well old store kept ending (inl (inl is)) well =
    faulty kept ending well (at (begun (keeps kept) kept.least) (Some faults.DiskFault)) faults.DiskFault is refl
migrated_well old store kept ending (inl (inr is)) well =
    faulty kept ending well (at (begun (keeps kept) kept.least) (Some faults.OutOfMemory)) faults.OutOfMemory is refl
migrated_well old store kept ending (inr (cut, low, high, comes)) well =
    migrated_by kept ending well old cut low high (state_after (first cut kept.history)) refl comes
