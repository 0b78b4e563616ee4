-- A fault that names a file names the one whose turn it was, and has its cause.
use Rattle.std.proofs.Common.{◌≡◌, ◌≢◌, ◌≤◌, ◌<◌, ◌+◌, ◌-◌, ℕ, zero, suc, Bool, true, false, Option, Some, None, List, [], ◌∷◌, ◌++◌}
use Rattle.std.proofs.Common.{Result, Ok, Err, inl, inr, refl, sym, ◌∙◌, subst, arith}
use Rattle.std.specs.Prelude.{IsOk}
use Rattle.osm_base.specs.declared.values.object.Entry.{Entry}
use Rattle.run_promise.specs.declared.fault.Fault.{Fault}
use Rattle.run_promise.specs.declared.fault.Fault.TheVariants as faults
use Rattle.run_promise.specs.declared.files.Files.{Files}
use Rattle.run_promise.specs.Causes.{Cause, HasStore, MakesStore, OpensStore, WantsNewFormat}
use Rattle.run_promise.specs.Comes.{Comes}
use Rattle.run_promise.specs.CommandOf.{CommandOf, points_of, lines_of, init_of, import_of, append_of, export_of, tiles_of, query_of}
use Rattle.run_promise.specs.CommandOf.{feed_of, follow_of, serve_of, replay_of, migrate_of, check_of, demo_of, files_of, Use}
use Rattle.run_promise.specs.CommandOf.{no_store, new_store, old_store, use_of}
use Rattle.style_read.specs.Style.{table_of}
use Rattle.map_query.specs.declared.query.Query.{Query}
use Rattle.tile_cover.specs.Table.{BoundsOf}
use Rattle.delta_feed.specs.declared.block.Block.{Block}
use Rattle.update_flow.specs.State.{Holding, State, formatted, imported, outdated, following, changed, fresh}
use Rattle.run_promise.specs.Course.{Course}
use Rattle.run_promise.specs.Courses.{append_to, appends, checks, course_of, export_from, exports, exports_followed, feed_to, feeds_changes}
use Rattle.run_promise.specs.Courses.{feeds_full, follow_to, follows_files}
use Rattle.run_promise.specs.Courses.{finished, import_into, migrates, onward, query_from, replay_course, serve_to, serves, telling}
use Rattle.run_promise.specs.Courses.{tiles_of_store}
use Rattle.run_promise.specs.Files.{IsChange}
use Rattle.run_promise.specs.Followed.{IsFeed, over as no_more, stopped}
use Rattle.run_promise.specs.InTurn.{FaultNames, IsInTurn}
use Rattle.run_promise.specs.Leaves.{HasCause}
use Rattle.run_promise.specs.Progress.{Standing, unused, unknown, Progress, Ending, begun}
use Rattle.run_promise.specs.Reading.{Accepts, HasFault, HasItsFiles, ReadsFirst}
use Rattle.run_promise.specs.Runs.{MayBegin}
use Rattle.run_promise.specs.World.{Before, World}
use Rattle.run_promise.proofs.BlameLaws.{Blame, IsUpTo, KeepsTo, Tells, Terms, comes_told, gathers_to}

-- what makes a store has one
pub owns_made : (way : Use) → way ≡ new_store → way ≢ no_store
owns_made way makes none = absurd (let two : new_store ≡ no_store = sym makes ∙ none in cc)

begins_with : (way : Use) (start : Progress) → MayBegin way start
    → (store : Standing) × (cut : ℕ) × (start ≡ begun store cut) × (store ≡ unknown → way ≡ old_store)
begins_with no_store start is = (unused, 0, is, λ e. absurd (cc))
begins_with new_store start is = (unused, 0, is, λ e. absurd (cc))
begins_with old_store start (store, cut, is) = (store, cut, is, λ _. refl)

-- the terms of a command
abbrev pub terms_of : CommandOf → Terms
terms_of command = record {
  from = (files_of command).first;
  end = (files_of command).first + (files_of command).count;
  accepts = Accepts command;
  faulty = HasFault command;
  early = ReadsFirst command;
  store = HasStore command;
  makes = MakesStore command;
  opening = OpensStore command;
  uses = WantsNewFormat command;
  owns = owns_made (use_of command);
}

is_ok : (A E : Type 0) (result : Result A E) (found : A) → result ≡ Ok found → IsOk result
is_ok A E result found is = subst (λ (own : Result A E). IsOk own) (sym is) refl

-- what a file of changes is read as, or its fault, is that of the command's file
record IsChanges (terms : Terms) (file : ℕ) : Type 0 where
  faulty : (bytes : List ℕ) (fault : Fault) → IsChange file bytes (Err fault) → terms.faulty file bytes fault
  accepts : (bytes : List ℕ) (found : List Entry) → IsChange file bytes (Ok found) → terms.accepts file bytes

-- change files one after another, each appended and told
module _ (terms : Terms) (least : ℕ) (change : (file : ℕ) → least ≤ file → file < terms.end → IsChanges terms file) (late : terms.early → ⊥)
    (store : terms.store) where
  appends_to : (bounds : BoundsOf) (held : Holding) (file count : ℕ) (quiet : Type 0) (rest : Holding → Course) → least ≤ file
      → file + count ≤ terms.end
      → ((held : Holding) (quiet : Type 0) → KeepsTo terms (file + count) quiet (rest held))
      → KeepsTo terms file quiet (appends bounds held file count rest)
  unfolding appends
  appends_to bounds held file zero quiet rest low high later = let here : file + 0 ≡ file = omega arith in
      subst (λ (at : ℕ). KeepsTo terms at quiet (rest held)) here (later held quiet)
  appends_to bounds held file (suc count) quiet rest low high later =
      let own = change file low (omega (arith, high)) in (
        refl,
        omega (arith, high),
        (λ e. absurd (late e)),
        own.faulty,
        own.accepts,
        λ found. (
          store,
          appends_to bounds (changed bounds found held) (file + 1) count ⊥ rest (omega (arith, low)) (omega (arith, high))
              (λ held quiet. let same : file + suc count ≡ file + 1 + count = omega arith in
              subst (λ (at : ℕ). KeepsTo terms at quiet (rest held)) same (later held quiet)),
        ),
      )

  serves_to : (bounds : BoundsOf) (queries : List Query) (readers : ℕ) (shown : List Holding) (held : Holding) (file count : ℕ)
      (quiet : Type 0) → least ≤ file → file + count ≤ terms.end
      → KeepsTo terms file quiet (serves bounds queries readers shown held file count)
  unfolding serves
  serves_to bounds queries readers shown held file zero quiet low high = tt
  serves_to bounds queries readers shown held file (suc count) quiet low high =
      let own = change file low (omega (arith, high)) in (
        refl,
        omega (arith, high),
        (λ e. absurd (late e)),
        own.faulty,
        own.accepts,
        λ found. (
          store,
          serves_to bounds queries readers (shown ++ held ∷ []) (changed bounds found held) (file + 1) count ⊥
              (omega (arith, low)) (omega (arith, high)),
        ),
      )

  feeds_to : (bounds : BoundsOf) (held : Holding) (file count : ℕ) (quiet : Type 0) → least ≤ file → file + count ≤ terms.end
      → KeepsTo terms file quiet (feeds_changes bounds held file count)
  unfolding feeds_changes
  feeds_to bounds held file zero quiet low high = tt
  feeds_to bounds held file (suc count) quiet low high =
      let own = change file low (omega (arith, high)) in (
        refl,
        omega (arith, high),
        (λ e. absurd (late e)),
        own.faulty,
        own.accepts,
        λ found. (store, feeds_to bounds (changed bounds found held) (file + 1) count ⊥ (omega (arith, low)) (omega (arith, high))),
      )

-- files of a feed that are followed, one after another
module _ (terms : Terms) (late : terms.early → ⊥) (store : terms.store)
    (faulty : (file : ℕ) (state : State) (bytes : List ℕ) (told : List Block) (fault : Fault) → IsFeed file state bytes told (stopped fault)
    → terms.faulty file bytes fault)
    (accepts : (file : ℕ) (state : State) (bytes : List ℕ) (told : List Block) → IsFeed file state bytes told no_more
    → terms.accepts file bytes) where
  follows_to : (file count : ℕ) (quiet : Type 0) (state : State) → file + count ≤ terms.end
      → KeepsTo terms file quiet (follows_files file count state)
  unfolding follows_files
  follows_to file zero quiet state high = tt
  follows_to file (suc count) quiet state high = (
    refl,
    omega (arith, high),
    late,
    store,
    faulty file state,
    accepts file state,
    λ next. follows_to (file + 1) count ⊥ next (omega (arith, high)),
  )

-- a command over a store that is there
has_store : old_store ≢ no_store
has_store = λ e. absurd (cc)

import_to : (store : List ℕ) (files : Files) (buckets workers : ℕ) (state : State) → files.count ≡ 2
    → KeepsTo (terms_of (import_of store files buckets workers)) files.first (Unit {0}) (import_into files buckets state)
import_to store files buckets workers (imported held) two = has_store
import_to store files buckets workers (outdated held) two = refl
import_to store files buckets workers (following held) two = refl
import_to store files buckets workers formatted two = (
  refl,
  omega (arith, two),
  (λ _. tt),
  (λ bytes fault is. inl (refl, is)),
  (λ bytes found is. inl (refl, (found, is))),
  λ style. (
    refl,
    omega (arith, two),
    (λ _. tt),
    (λ bytes fault is. inr (omega arith, is)),
    (λ bytes found is. inr (omega arith, is_ok (List Entry) Fault _ found is)),
    λ entries. (has_store, tt),
  ),
)

append_to_store : (store : List ℕ) (files : Files) (ahead workers : ℕ) (state : State) → 2 ≤ files.count
    → KeepsTo (terms_of (append_of store files ahead workers)) files.first (Unit {0}) (append_to files state)
append_to_store store files ahead workers formatted two = has_store
append_to_store store files ahead workers (outdated held) two = refl
append_to_store store files ahead workers (following held) two = refl
append_to_store store files ahead workers (imported held) two = (
  refl,
  omega (arith, two),
  (λ e. absurd e),
  (λ bytes fault is. inl (refl, is)),
  (λ bytes found is. inl (refl, (found, is))),
  λ bounds.
      appends_to (terms_of (append_of store files ahead workers)) (files.first + 1)
      (λ file low high. record {
        faulty = λ bytes fault is. inr (low, is);
        accepts =
            λ bytes found is. inr (low, is_ok (List Entry) Fault _ found is);
      }) (λ e. e) has_store
      bounds held (files.first + 1) (files.count - 1) (Unit {0}) (onward finished) (omega arith) (omega (arith, two)) (λ held quiet. tt),
)

feed_to_store : (store : List ℕ) (files : Files) (full : Bool) (workers : ℕ) (state : State) → 1 ≤ files.count
    → KeepsTo (terms_of (feed_of store files full workers)) files.first (Unit {0}) (feed_to files full state)
feed_to_store store files full workers formatted one = has_store
feed_to_store store files full workers (outdated held) one = refl
feed_to_store store files full workers (following held) one = refl
feed_to_store store files full workers (imported held) one = (
  refl,
  omega (arith, one),
  (λ e. absurd e),
  (λ bytes fault is. inl (refl, is)),
  (λ bytes found is. inl (refl, (found, is))),
  λ bounds. behind full (feeds_changes bounds held (files.first + 1) (files.count - 1)) (λ quiet.
      feeds_to (terms_of (feed_of store files full workers)) (files.first + 1)
      (λ file low high. record {
        faulty = λ bytes fault is. inr (low, is);
        accepts =
            λ bytes found is. inr (low, is_ok (List Entry) Fault _ found is);
      }) (λ e. e) has_store
      bounds held (files.first + 1) (files.count - 1) quiet (omega arith) (omega (arith, one))),
)
  where
    behind : (own : Bool) (rest : Course)
        → ((quiet : Type 0) → KeepsTo (terms_of (feed_of store files full workers)) (files.first + 1) quiet rest)
        → KeepsTo (terms_of (feed_of store files full workers)) (files.first + 1) (Unit {0}) (feeds_full own held rest)
    behind false rest later = later (Unit {0})
    behind true rest later = (has_store, later ⊥)

all_followed : (store : List ℕ) (files : Files) (state : State)
    → KeepsTo (terms_of (follow_of store files)) files.first (Unit {0}) (follows_files files.first files.count state)
all_followed store files state =
    follows_to (terms_of (follow_of store files)) (λ e. e) has_store (λ file state bytes told fault is. (state, told, is))
    (λ file state bytes told is. (state, told, is)) files.first files.count (Unit {0}) state (omega arith)

follow_to_store : (store : List ℕ) (files : Files) (state : State)
    → KeepsTo (terms_of (follow_of store files)) files.first (Unit {0}) (follow_to files state)
follow_to_store store files formatted = all_followed store files formatted
follow_to_store store files (imported held) = has_store
follow_to_store store files (outdated held) = has_store
follow_to_store store files (following held) = all_followed store files (following held)

export_to : (store table : List ℕ) (state : State) → KeepsTo (terms_of (export_of store table)) 0 (Unit {0}) (export_from table state)
export_to store table formatted = has_store
export_to store table (outdated held) = refl
export_to store table (following held) = followed_to (table_of held.style.tables table)
  where
    followed_to : (found : Option ℕ) → KeepsTo (terms_of (export_of store table)) 0 (Unit {0}) (exports_followed held found)
    followed_to None = refl
    followed_to (Some number) = (has_store, tt)
export_to store table (imported held) = exports_to (table_of held.style.tables table)
  where
    exports_to : (found : Option ℕ) → KeepsTo (terms_of (export_of store table)) 0 (Unit {0}) (exports held found)
    exports_to None = refl
    exports_to (Some number) = (has_store, tt)

tiles_to : (store : List ℕ) (least : ℕ) (clear : Bool) (state : State)
    → KeepsTo (terms_of (tiles_of store least clear)) 0 (Unit {0}) (tiles_of_store least clear state)
tiles_to store least clear formatted = has_store
tiles_to store least clear (outdated held) = refl
tiles_to store least clear (following held) = refl
tiles_to store least false (imported held) = (has_store, tt)
tiles_to store least true (imported held) = (has_store, (has_store, tt))

makes_store : new_store ≢ no_store
makes_store = λ e. absurd (cc)

query_to : (store : List ℕ) (files : Files) (state : State) → files.count ≡ 1
    → KeepsTo (terms_of (query_of store files)) files.first (Unit {0}) (query_from files state)
query_to store files formatted one = has_store
query_to store files (outdated held) one = refl
query_to store files (following held) one = refl
query_to store files (imported held) one = (
  refl,
  omega (arith, one),
  (λ _. tt),
  (λ bytes fault is. (held.style, is)),
  (λ bytes found is. (held.style, found, is)),
  λ found. (has_store, tt),
)

serve_to_store : (store : List ℕ) (files : Files) (workers readers : ℕ) (state : State) → 2 ≤ files.count
    → KeepsTo (terms_of (serve_of store files workers readers)) files.first (Unit {0}) (serve_to files readers state)
serve_to_store store files workers readers formatted two = has_store
serve_to_store store files workers readers (outdated held) two = refl
serve_to_store store files workers readers (following held) two = refl
serve_to_store store files workers readers (imported held) two = (
  refl,
  omega (arith, two),
  (λ e. absurd e),
  (λ bytes fault is. inl (refl, is)),
  (λ bytes found is. inl (refl, (found, is))),
  λ bounds. (
    refl,
    omega (arith, two),
    (λ e. absurd e),
    (λ bytes fault is. inr (inl (refl, (held.style, is)))),
    (λ bytes found is. inr (inl (refl, (held.style, found, is)))),
    λ queries. (
      has_store,
      (
          let here : files.first + 2 ≡ files.first + 1 + 1 = omega arith in
          subst (λ (at : ℕ). KeepsTo (terms_of (serve_of store files workers readers)) at (Unit {0})
          (serves bounds queries readers [] held (files.first + 2) (files.count - 2))) here
          (serves_to (terms_of (serve_of store files workers readers)) (files.first + 2)
          (λ file low high. record {
            faulty = λ bytes fault is. inr (inr (low, is));
            accepts =
                λ bytes found is. inr (inr (low, is_ok (List Entry) Fault _ found is));
          }) (λ e. e) has_store
          bounds queries readers [] held (files.first + 2) (files.count - 2) (Unit {0}) (omega arith) (omega (arith, two)))
          ),
    ),
  ),
)

migrate_to : (store : List ℕ) (state : State) → KeepsTo (terms_of (migrate_of store)) 0 (Unit {0}) (migrates state)
migrate_to store formatted = has_store
migrate_to store (imported held) = tt
migrate_to store (outdated held) = (has_store, tt)
migrate_to store (following held) = refl

check_to : (store : List ℕ) (state : State) → KeepsTo (terms_of (check_of store)) 0 (Unit {0}) (checks state)
check_to store formatted = (has_store, tt)
check_to store (imported held) = (has_store, tt)
check_to store (outdated held) = refl
check_to store (following held) = refl

-- a command that makes its store
makes_new : new_store ≢ no_store
makes_new = λ e. absurd (cc)

replay_to : (store : List ℕ) (files : Files) (workers : ℕ) → 3 ≤ files.count
    → KeepsTo (terms_of (replay_of store files workers)) files.first (Unit {0}) (replay_course files)
replay_to store files workers three = (
  refl,
  (
    refl,
    omega (arith, three),
    (λ e. absurd e),
    (λ bytes fault is. inl (refl, is)),
    (λ bytes found is. inl (refl, (found, is))),
    λ style. (
      refl,
      omega (arith, three),
      (λ e. absurd e),
      (λ bytes fault is. inr (inl (refl, is))),
      (λ bytes found is. inr (inl (refl, (found, is)))),
      λ bounds. (
        refl,
        makes_new,
        (
          makes_new,
          (
            omega arith,
            omega (arith, three),
            (λ e. absurd e),
            (λ bytes fault is. inr (inr (omega arith, is))),
            (λ bytes found is. inr (inr (omega arith, is_ok (List Entry) Fault _ found is))),
            λ entries. (
              makes_new,
              (
                  let here : files.first + 2 + 1 ≡ files.first + 1 + 1 + 1 = omega arith in
                  subst (λ (at : ℕ). KeepsTo (terms_of (replay_of store files workers)) at ⊥
                  (appends bounds (fresh style.0 style.1 1024 entries) (files.first + 2 + 1) (files.count - 3)
                  (onward (telling bounds.zoom)))) here
                  (appends_to (terms_of (replay_of store files workers)) (files.first + 2)
                  (λ file low high. record {
                    faulty = λ bytes fault is. inr (inr (low, is));
                    accepts =
                        λ bytes found is. inr (inr (low, is_ok (List Entry) Fault _ found is));
                  }) (λ e. e) makes_new
                  bounds (fresh style.0 style.1 1024 entries) (files.first + 2 + 1) (files.count - 3) ⊥ (onward (telling bounds.zoom))
                  (omega arith) (omega (arith, three)) (λ held quiet. (makes_new, tt)))
                  ),
            ),
          ),
        ),
      ),
    ),
  ),
)

-- each file of these commands holds changes
points_change : (key : List ℕ) (files : Files) (file : ℕ)
    → ((bytes : List ℕ) (fault : Fault) → IsChange file bytes (Err fault) → HasFault (points_of key files) file bytes fault)
    × ((bytes : List ℕ) (found : List Entry) → IsChange file bytes (Ok found) → Accepts (points_of key files) file bytes)
points_change key files file = (λ bytes fault is. is, λ bytes found is. is_ok (List Entry) Fault _ found is)

lines_change : (key : List ℕ) (files : Files) (file : ℕ)
    → ((bytes : List ℕ) (fault : Fault) → IsChange file bytes (Err fault) → HasFault (lines_of key files) file bytes fault)
    × ((bytes : List ℕ) (found : List Entry) → IsChange file bytes (Ok found) → Accepts (lines_of key files) file bytes)
lines_change key files file = (λ bytes fault is. is, λ bytes found is. is_ok (List Entry) Fault _ found is)

-- each command reads its files in turn
keeps_to : (command : CommandOf) → HasItsFiles command → KeepsTo (terms_of command) (files_of command).first (Unit {0}) (course_of command)
keeps_to (points_of key files) its =
    gathers_to (terms_of (points_of key files)) (λ file low high. points_change key files file) files.first files.count (Unit {0}) [] _
    (omega arith) refl (λ early. tt) (λ entries. tt)
keeps_to (lines_of key files) its =
    gathers_to (terms_of (lines_of key files)) (λ file low high. lines_change key files file) files.first files.count (Unit {0}) [] _
    (omega arith) refl (λ early. tt) (λ entries. tt)
keeps_to (init_of store) its = (refl, (refl, makes_store, tt))
keeps_to (import_of store files buckets workers) its = (refl, has_store, λ state. import_to store files buckets workers state its)
keeps_to (append_of store files ahead workers) its = (refl, has_store, λ state. append_to_store store files ahead workers state its)
keeps_to (feed_of store files full workers) its = (refl, has_store, λ state. feed_to_store store files full workers state its)
keeps_to (follow_of store files) its = (refl, has_store, λ state. follow_to_store store files state)
keeps_to (export_of store table) its = (refl, has_store, λ state. export_to store table state)
keeps_to (tiles_of store least clear) its = (refl, has_store, λ state. tiles_to store least clear state)
keeps_to (query_of store files) its = (refl, has_store, λ state. query_to store files state its)
keeps_to (serve_of store files workers readers) its = (refl, has_store, λ state. serve_to_store store files workers readers state its)
keeps_to (replay_of store files workers) its = replay_to store files workers its
keeps_to (migrate_of store) its = (refl, has_store, λ state. migrate_to store state)
keeps_to (check_of store) its = (refl, has_store, λ state. check_to store state)
keeps_to (demo_of count store workers) its =
    (refl, (refl, makes_new, (makes_new, (makes_new, (makes_new, (makes_new, (makes_new, tt)))))))

-- before anything is done
none_done : (command : CommandOf) (old : Before) (store : Standing) (cut : ℕ) → (store ≡ unknown → OpensStore command)
    → IsUpTo (terms_of command) old (files_of command).first (Unit {0}) (begun store cut)
none_done command old store cut opening = record {
  low = omega arith;
  high = omega arith;
  read = λ other from less. absurd (omega (arith, from, less));
  accepted = λ other from less. absurd (omega (arith, from, less));
  only = λ other read. absurd read;
  unwritten = λ _. refl;
  vague = λ un bytes told. opening un;
}

-- what the end of a command tells
pub told_of : (command : CommandOf) (old : Before) (store : Standing) (cut : ℕ) (ending : Ending) → HasItsFiles command
    → (store ≡ unknown → OpensStore command) → Comes old (course_of command) (begun store cut) ending
    → Tells (terms_of command) old ending
told_of command old store cut ending its opening comes =
    comes_told (terms_of command) old (course_of command) (files_of command).first (Unit {0}) (begun store cut) ending
    (keeps_to command its) (none_done command old store cut opening) comes

-- the file that is named is the one that comes next
pub in_turn : (command : CommandOf) (old : Before) (store : Standing) (cut : ℕ) (ending : Ending) (file : ℕ) → HasItsFiles command
    → (store ≡ unknown → OpensStore command) → Comes old (course_of command) (begun store cut) ending
    → FaultNames ending.fault file → IsInTurn command old ending file
in_turn command old store cut ending file its opening comes names =
    let told = told_of command old store cut ending its opening comes in
    let reading = told.names file names in
    let next = told.reading file (sym reading) in
    record {
      named = (omega (arith, next.same, told.up_to.low), omega (arith, next.same, next.within));
      reading = reading;
      read = λ other own less. told.up_to.read other own.0 (omega (arith, next.same, less));
      accepted = λ other own less. told.up_to.accepted other own.0 (omega (arith, next.same, less));
      untouched = λ other above read. omega (arith, next.same, above, (told.up_to.only other read).1);
      unwritten = next.unwritten;
      unbegun = next.unbegun (λ is. subst (λ (fault : Option Fault). FaultNames fault file) is names);
    }

-- whatever the beginning of the command
pub in_turn_from : (command : CommandOf) (old : Before) (start : Progress) (ending : Ending) (file : ℕ) → HasItsFiles command
    → MayBegin (use_of command) start → Comes old (course_of command) start ending
    → FaultNames ending.fault file → IsInTurn command old ending file
in_turn_from command old start ending file its begins comes names =
    let from = begins_with (use_of command) start begins in
    in_turn command old from.0 from.1 ending file its from.3
    (subst (λ (own : Progress). Comes old (course_of command) own ending) from.2 comes) names

-- the cause of a fault, by what the words and bytes show and the call that failed
pub cause_of : (command : CommandOf) (old : Before) (new : World) (own : Fault) → Blame (terms_of command) old (Some own)
    → HasCause old new (Some own) → Cause command old new own
cause_of command old new faults.Usage blame failed = blame
cause_of command old new (faults.Malformed file line why) blame failed = ((blame.0, blame.1), blame.2)
cause_of command old new (faults.BadStyle file why part) blame failed = ((blame.0, blame.1), blame.2)
cause_of command old new (faults.BadBounds file line) blame failed = ((blame.0, blame.1), blame.2)
cause_of command old new (faults.BadQuery file line why) blame failed = ((blame.0, blame.1), blame.2)
cause_of command old new (faults.BadFeed file line why) blame failed = ((blame.0, blame.1), blame.2)
cause_of command old new (faults.Gap file have got) blame failed = ((blame.0, blame.1), blame.2)
cause_of command old new (faults.Limit which value) (inl over) failed = inl over
cause_of command old new (faults.Limit which value) (inr (file, (low, high, told))) failed = inr (file, ((low, high), told))
cause_of command old new (faults.ReadFault file) blame failed = (blame, failed)
cause_of command old new faults.NotFormatted blame failed = blame
cause_of command old new faults.NotEmpty blame failed = blame
cause_of command old new faults.NotImported blame failed = blame
cause_of command old new faults.AlreadyImported blame failed = blame
cause_of command old new faults.OldFormat blame failed = blame
cause_of command old new faults.Follower blame failed = blame
cause_of command old new faults.UnknownTable blame failed = blame
cause_of command old new (faults.BadStore page) blame failed = blame
cause_of command old new faults.WriteFault blame failed = failed
cause_of command old new faults.DiskFault blame failed = (blame, failed)
cause_of command old new faults.OutOfMemory blame failed = tt
