-- The machine of a run's stages: its states, which events are possible in each, and what each event makes of a state.
-- An event that is not possible leaves the state.
use Rattle.std.specs.Prelude.{ℕ, ◌+◌, ◌^◌, Bool, true, false, not, ◌&&◌, ◌==◌, List, [], ◌∷◌, ◌++◌, nat_lt, if◌then◌else◌, fold, length}
use Rattle.std.specs.Prelude.{replicate, slice_get, slice_index_or, slice_set, Option, None, Some}
use Rattle.std.specs.List.{list_all}
use Rattle.stage_core.specs.declared.event.Event.{Event}
use Rattle.stage_core.specs.declared.event.Event.TheVariants.{Draw, Build, End, Commit, Publish, Ack, Enter, Crash}

-- a worker: its tickets in the order of drawing, how many of them are built, whether it found no ticket more, and whether it ended
pub record WorkerOf : Type 0 where
  pub tickets : List ℕ
  pub built : ℕ
  pub dry : Bool
  pub ended : Bool

-- a state: how many tickets there are and the next number, the workers, how often there was a commit, how many lines were
-- taken and versions published, whether a line is owed, and the version that each reader saw last
pub record Core : Type 0 where
  pub tickets : ℕ
  pub next : ℕ
  pub workers : List WorkerOf
  pub committed : ℕ
  pub acked : ℕ
  pub published : ℕ
  pub owed : Bool
  pub seen : List ℕ

abbrev pub new_worker : WorkerOf
new_worker = record { tickets = []; built = 0; dry = false; ended = false }

-- the first state
abbrev pub begun : ℕ → ℕ → ℕ → Core
begun tickets workers readers =
    record {
      tickets = tickets;
      next = 0;
      workers = replicate workers new_worker;
      committed = 0;
      acked = 0;
      published = 0;
      owed = false;
      seen = replicate readers 0;
    }

-- a worker, and a list with another one in its place
abbrev pub worker_at : List WorkerOf → ℕ → WorkerOf
worker_at workers number = slice_index_or workers number new_worker

-- a worker draws a number: below the number of tickets it is its ticket, and else there is none more
abbrev pub drawn : ℕ → ℕ → WorkerOf → WorkerOf
drawn tickets next worker = if nat_lt next tickets then record worker { tickets = worker.tickets ++ next ∷ [] }
    else record worker { dry = true }

-- all workers ended
abbrev pub all_ended : List WorkerOf → Bool
all_ended workers = list_all (λ worker. worker.ended) workers

-- which of these is so of the worker with a number, where there is one
abbrev pub is_so : (WorkerOf → Bool) → List WorkerOf → ℕ → Bool
is_so test workers number = nat_lt number (length workers) && test (worker_at workers number)

-- whether an event is possible
abbrev pub is_possible : Core → Event → Bool
is_possible core (Draw worker) = is_so (λ w. not w.dry) core.workers worker
is_possible core (Build worker) = is_so (λ w. nat_lt w.built (length w.tickets)) core.workers worker
is_possible core (End worker) = is_so (λ w. w.dry && (w.built == length w.tickets) && not w.ended) core.workers worker
is_possible core Commit = all_ended core.workers && not core.owed && nat_lt core.committed (2 ^ 63)
is_possible core Publish = not core.owed && nat_lt core.published core.committed
is_possible core Ack = core.owed
is_possible core (Enter reader) = nat_lt reader (length core.seen)
is_possible core Crash = true

-- the state with another worker at a number
abbrev pub with_worker : Core → ℕ → WorkerOf → Core
with_worker core number worker = record core { workers = slice_set core.workers number worker }

-- a new round: no ticket is drawn
abbrev pub new_round : Core → Core
new_round core = record core { next = 0; workers = replicate (length core.workers) new_worker }

-- what a possible event makes of a state
abbrev pub changed : Core → Event → Core
changed core (Draw worker) = record (with_worker core worker (drawn core.tickets core.next (worker_at core.workers worker))) {
  next =
      core.next + 1;
}
changed core (Build worker) = (let w = worker_at core.workers worker in with_worker core worker (record w { built = w.built + 1 }))
changed core (End worker) = with_worker core worker (record (worker_at core.workers worker) { ended = true })
changed core Commit = record (new_round core) { committed = core.committed + 1; owed = true }
changed core Publish = record core { published = core.published + 1 }
changed core Ack = record core { acked = core.committed; owed = false }
changed core (Enter reader) = record core { seen = slice_set core.seen reader core.published }
changed core Crash = record (new_round core) {
  owed = false;
  published = core.committed;
  seen =
      replicate (length core.seen) core.committed;
}

-- the state after an event, and after a list of events, one after another
abbrev pub after : Core → Event → Core
after core event = if is_possible core event then changed core event else core

abbrev pub after_all : Core → List Event → Core
after_all core events = fold after core events
