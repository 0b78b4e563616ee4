-- Stores of followers: each command that opens one refuses it, but for `follow` and `export`.
use Rattle.std.specs.Prelude.{◌≡◌, ◌⊎◌, ◌≤◌, ℕ, true, Some}
use Rattle.update_flow.specs.History.{state_after}
use Rattle.update_flow.specs.State.{follows}
use Rattle.run_promise.specs.declared.fault.Fault.TheVariants.{Follower}
use Rattle.run_promise.specs.Causes.{OpensStore}
use Rattle.run_promise.specs.Comes.{Breaks}
use Rattle.run_promise.specs.CommandOf.{CommandOf, export_of, follow_of}
use Rattle.run_promise.specs.Keeps.{Kept, first}
use Rattle.run_promise.specs.Progress.{Ending, at, begun, keeps, opened}

-- it opens its store, and neither follows nor exports
abbrev pub RefusesFollowers : CommandOf → Type 0
RefusesFollowers (follow_of store files) = ⊥
RefusesFollowers (export_of store table) = ⊥
RefusesFollowers command = OpensStore command

-- the disk failed at the opening, or memory ran out; or the store was opened, and the run ended at once where it is a follower's
abbrev pub LeavesFollower : Kept → Ending → Type 0
LeavesFollower kept ending = Breaks (begun (keeps kept) kept.least) ending ⊎ ((cut : ℕ) × (kept.least ≤ cut) × (cut ≤ kept.most)
    × (follows (state_after (first cut kept.history)) ≡ true
    → ending ≡ at (opened kept cut (begun (keeps kept) kept.least)) (Some Follower)))
