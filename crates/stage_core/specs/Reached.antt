-- What holds of each worker in every state that events reach, and of the sums over all workers.
use Rattle.std.specs.Prelude.{◌≡◌, ℕ, ◌+◌, ◌≤◌, Bool, true, List, All, if◌then◌else◌, length, min, sum_by}
use Rattle.pending_book.specs.Once.{once_below, times}
use Rattle.stage_core.specs.Core.{Core, WorkerOf}

-- a draw that gave no ticket
abbrev pub missed : WorkerOf → ℕ
missed worker = if worker.dry then 1 else 0

-- A worker that is dry drew a number past the last ticket. One that ended is dry, and has built all that it drew.
pub record IsSound (tickets next : ℕ) (worker : WorkerOf) : Type 0 where
  pub built : worker.built ≤ length worker.tickets
  pub dry : worker.dry ≡ true → tickets ≤ next
  pub ended : worker.ended ≡ true → (worker.dry ≡ true) × (worker.built ≡ length worker.tickets)

-- the next number is the number of tickets drawn and of draws that gave none
pub record IsReached (core : Core) : Type 0 where
  pub once : (x : ℕ) → sum_by (λ worker. times x worker.tickets) core.workers ≡ once_below x (min core.next core.tickets)
  pub next : sum_by missed core.workers + min core.next core.tickets ≡ core.next
  pub workers : All (IsSound core.tickets core.next) core.workers
  pub seen : All (λ version. version ≤ core.published) core.seen
  pub published : core.published ≤ core.committed
  pub acked : core.acked ≤ core.committed
  pub owed : core.committed ≤ 9223372036854775808
