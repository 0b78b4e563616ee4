-- What holds of stores of followers, by the courses of the commands.
use Rattle.std.proofs.Common.{◌≡◌, true, Some, inl, inr}
use Rattle.update_flow.specs.History.{state_after}
use Rattle.update_flow.specs.State.{Following, State, following, follows, formatted, imported, outdated}
use Rattle.run_promise.specs.declared.fault.Fault.TheVariants as faults
use Rattle.run_promise.specs.Comes.{Comes}
use Rattle.run_promise.specs.CommandOf.{CommandOf, points_of, lines_of, init_of, import_of, append_of, export_of, tiles_of, query_of}
use Rattle.run_promise.specs.CommandOf.{feed_of, follow_of, serve_of, replay_of, migrate_of, check_of, demo_of}
use Rattle.run_promise.specs.Course.{Course, opens}
use Rattle.run_promise.specs.Courses.{append_to, checks, course_of, feed_to, import_into, migrates, query_from, serve_to}
use Rattle.run_promise.specs.Courses.{tiles_of_store}
use Rattle.run_promise.specs.Followers.{LeavesFollower, RefusesFollowers}
use Rattle.run_promise.specs.Keeps.{Kept, first}
use Rattle.run_promise.specs.Progress.{keeps, Progress, Ending, at, begun, opened}
use Rattle.run_promise.specs.World.{Before}

if_follower : (state : State) (P : Type 0) (C : State → Type 0) → ((held : Following) → C (following held) → P) → C state
    → follows state ≡ true → P
if_follower formatted P C own comes is = absurd (cc (is))
if_follower (imported held) P C own comes is = absurd (cc (is))
if_follower (outdated held) P C own comes is = absurd (cc (is))
if_follower (following held) P C own comes is = own held comes

-- a run that opens its store and goes on so, which refuses a follower's at once
opened_left : (rest : State → Course) (old : Before) (kept : Kept) (ending : Ending)
    → ((held : Following) (done : Progress) → Comes old (rest (following held)) done ending → ending ≡ at done (Some faults.Follower))
    → Comes old (opens rest) (begun (keeps kept) kept.least) ending → LeavesFollower kept ending
opened_left rest old kept ending refused (inl breaks) = inl breaks
opened_left rest old kept ending refused (inr (cut, low, high, comes)) =
    let done = opened kept cut (begun (keeps kept) kept.least) in
    inr (
      cut,
      low,
      high,
      if_follower (state_after (first cut kept.history)) (ending ≡ at done (Some faults.Follower))
          (λ state. Comes old (rest state) done ending) (λ held is. refused held done is) comes,
    )

-- each command that opens its store goes so, but for the two that want one of a follower
pub leaves_follower : (command : CommandOf) (old : Before) (kept : Kept) (ending : Ending) → RefusesFollowers command
    → Comes old (course_of command) (begun (keeps kept) kept.least) ending → LeavesFollower kept ending
leaves_follower (points_of key files) old kept ending is comes = absurd (cc)
leaves_follower (lines_of key files) old kept ending is comes = absurd (cc)
leaves_follower (init_of store) old kept ending is comes = absurd (cc)
leaves_follower (import_of store files buckets workers) old kept ending is comes =
    opened_left (import_into files buckets) old kept ending (λ held done is. is) comes
leaves_follower (append_of store files ahead workers) old kept ending is comes =
    opened_left (append_to files) old kept ending (λ held done is. is) comes
leaves_follower (feed_of store files full workers) old kept ending is comes =
    opened_left (feed_to files full) old kept ending (λ held done is. is) comes
leaves_follower (follow_of store files) old kept ending is comes = absurd is
leaves_follower (export_of store table) old kept ending is comes = absurd is
leaves_follower (tiles_of store least clear) old kept ending is comes =
    opened_left (tiles_of_store least clear) old kept ending (λ held done is. is) comes
leaves_follower (query_of store files) old kept ending is comes =
    opened_left (query_from files) old kept ending (λ held done is. is) comes
leaves_follower (serve_of store files workers readers) old kept ending is comes =
    opened_left (serve_to files readers) old kept ending (λ held done is. is) comes
leaves_follower (replay_of store files workers) old kept ending is comes = absurd (cc)
leaves_follower (migrate_of store) old kept ending is comes = opened_left migrates old kept ending (λ held done is. is) comes
leaves_follower (check_of store) old kept ending is comes = opened_left checks old kept ending (λ held done is. is) comes
leaves_follower (demo_of count store workers) old kept ending is comes = absurd (cc)
