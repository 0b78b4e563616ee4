-- What holds after every list of events.
use Rattle.std.specs.Prelude.{◌≡◌, ℕ, ◌+◌, ◌<◌, ◌≤◌, true, List, All, flat_map, length, min, sum_by, take, if◌then◌else◌, slice_index_or}
use Rattle.pending_book.specs.Once.{IsOnce, once_below, times}
use Rattle.stage_core.specs.Core.{Core, WorkerOf, all_ended}

-- the tickets of all workers, and those that are built
abbrev pub all_tickets : Core → List ℕ
all_tickets core = flat_map (λ worker. worker.tickets) core.workers

abbrev pub all_built : Core → List ℕ
all_built core = flat_map (λ worker. take worker.built worker.tickets) core.workers

-- Each number below the lesser of the next number and the number of tickets is a ticket of one worker, once. Where all
-- workers have ended, and there is one, each ticket is built once. What readers saw is published, and what is published
-- or told is committed.
pub record Promise (core : Core) : Type 0 where
  pub drawn : IsOnce (all_tickets core) (min core.next core.tickets)
  pub built : 0 < length core.workers → all_ended core.workers ≡ true → IsOnce (all_built core) core.tickets
  pub seen : All (λ version. version ≤ core.published) core.seen
  pub published : core.published ≤ core.committed
  pub acked : core.acked ≤ core.committed

-- no count falls, and no reader sees an older version than before
pub record Grows (old new : Core) : Type 0 where
  pub committed : old.committed ≤ new.committed
  pub published : old.published ≤ new.published
  pub acked : old.acked ≤ new.acked
  pub readers : length new.seen ≡ length old.seen
  pub seen : (reader : ℕ) → slice_index_or old.seen reader 0 ≤ slice_index_or new.seen reader 0
