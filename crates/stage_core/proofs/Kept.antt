-- Each event keeps what holds of all states that events reach, and lets no count fall.
use Rattle.std.proofs.Common.{◌≡◌, ℕ, zero, suc, ◌+◌, ◌*◌, ◌<◌, ◌≤◌, List, [], ◌∷◌, ◌++◌, Bool, true, false, not, ◌&&◌, cond, eqb, ltb}
use Rattle.std.proofs.Common.{get_or, length, length-append, length-set, min, replicate, set, refl, ap, sym, subst, lt_of_not-le, arith}
use Rattle.std.specs.Prelude.{All, OnErr, OnOk, Result, Ok, Err, sum_by}
use Rattle.osm_base.specs.declared.bounds.memory.OutOfMemory.{OutOfMemory}
use native.Mathlib.Decide.{dec_le}
use Rattle.std.proofs.lemmas.List.{length-replicate}
use Rattle.std.proofs.lemmas.Bool.{lt-ltb, le-ltb, ltb-true, eqb-true}
use Rattle.std.proofs.lemmas.Bool.Decides.{nat_tests}
use Rattle.std.proofs.lemmas.List.Elements.{All-replicate, All-set, All-weaker, All-get_or}
use Rattle.std.proofs.lemmas.List.Folds.{sum_by-replicate}
use Rattle.std.proofs.lemmas.List.Sums.{sum_by-set, sum_by-le}
use Rattle.pending_book.specs.Once.{times, once_below}
use Rattle.pending_book.proofs.Counts.{times_push, once_more}
use Rattle.stage_core.specs.Core.{Core, WorkerOf, after, all_ended, begun, changed, drawn, is_possible, is_so, new_worker, worker_at}
use Rattle.stage_core.specs.Promise.{Grows}
use Rattle.stage_core.specs.Reached.{IsReached, IsSound, missed}
use Rattle.stage_core.specs.declared.event.Event.{Event}
use Rattle.stage_core.specs.declared.event.Event.TheVariants.{Draw, Build, End, Commit, Publish, Ack, Enter, Crash}
use Rattle.stage_core.proofs.Rises.{set_rises, replicate_rises}

-- what two tests say that are met both
both : (a b : Bool) → (a && b) ≡ true → (a ≡ true) × (b ≡ true)
both true b e = (refl, e)
both false b e = absurd (cc)

isn't : (a : Bool) → not a ≡ true → a ≡ false
isn't true e = absurd (cc)
isn't false e = refl

-- whatever an event is, the state stays, or it was possible
either : (P : Core → Type 0) (possible : Bool) (x y : Core) → (possible ≡ true → P x) → P y → P (cond possible x y)
either P true x y f g = f refl
either P false x y f g = g

-- below nothing there is no number
none_below : (x n : ℕ) → once_below x (min 0 n) ≡ 0
none_below x n = let z : min 0 n ≡ 0 = omega arith in rw z (rw (le-ltb x 0 (omega arith)) refl)

record Here (core : Core) (number : ℕ) : Type 0 where
  pub there : number < length core.workers
  pub sound : IsSound core.tickets core.next (worker_at core.workers number)

here : (core : Core) (number : ℕ) → IsReached core → ltb number (length core.workers) ≡ true → Here core number
here core number reached e =
    let less = ltb-true number (length core.workers) e in
    record { there = less; sound = All-get_or (IsSound core.tickets core.next) core.workers number new_worker less reached.workers }

-- a worker that has no later number than it needs
later : (tickets next : ℕ) (worker : WorkerOf) → IsSound tickets next worker → IsSound tickets (next + 1) worker
later tickets next worker sound = record { built = sound.built; dry = λ e. let d = sound.dry e in omega arith; ended = sound.ended }

-- a draw of a ticket
takes : (core : Core) (number : ℕ) → IsReached core → Here core number → (worker_at core.workers number).dry ≡ false
    → core.next < core.tickets
    → IsReached (record core {
      next = core.next + 1;
      workers =
          set core.workers number (record (worker_at core.workers number) {
            tickets =
                (worker_at core.workers number).tickets ++ core.next ∷ [];
          });
    })
takes core number reached at wet less =
    let old = worker_at core.workers number in
    let new : WorkerOf = record old { tickets = old.tickets ++ core.next ∷ [] } in
    let m : min core.next core.tickets ≡ core.next = omega arith in
    let n : min (core.next + 1) core.tickets ≡ core.next + 1 = omega arith in
    record {
      once = λ x. (
          let s = sum_by-set (λ (w : WorkerOf). times x w.tickets) core.workers number new new_worker at.there in
          let push = times_push x core.next old.tickets in
          let more = once_more x core.next in
          let all : sum_by (λ w. times x w.tickets) core.workers ≡ once_below x core.next = rw m at (reached.once x) in
          rw n (omega arith));
      next = (let s = sum_by-set missed core.workers number new new_worker at.there in let all = reached.next in omega arith);
      workers = All-set (IsSound core.tickets (core.next + 1)) core.workers number new
          (record {
            built = (let b = at.sound.built in omega (arith, length-append old.tickets (core.next ∷ [])));
            dry = λ e. absurd (cc);
            ended = λ e. let d = (at.sound.ended e).0 in absurd (cc);
          })
          (All-weaker (IsSound core.tickets core.next) (IsSound core.tickets (core.next + 1))
          (later core.tickets core.next) core.workers reached.workers);
      seen = reached.seen;
      published = reached.published;
      acked = reached.acked;
      owed = reached.owed;
    }

-- a draw that gives none
misses : (core : Core) (number : ℕ) → IsReached core → Here core number → (worker_at core.workers number).dry ≡ false
    → core.tickets ≤ core.next
    → IsReached (record core {
      next = core.next + 1;
      workers =
          set core.workers number (record (worker_at core.workers number) { dry = true });
    })
misses core number reached at wet more =
    let old = worker_at core.workers number in
    let new : WorkerOf = record old { dry = true } in
    let m : min core.next core.tickets ≡ core.tickets = omega arith in
    let n : min (core.next + 1) core.tickets ≡ core.tickets = omega arith in
    record {
      once = λ x. (
          let s = sum_by-set (λ (w : WorkerOf). times x w.tickets) core.workers number new new_worker at.there in
          let all : sum_by (λ w. times x w.tickets) core.workers ≡ once_below x core.tickets = rw m at (reached.once x) in
          rw n (omega arith));
      next = (
          let s = sum_by-set missed core.workers number new new_worker at.there in
          let none : missed old ≡ 0 = rw wet refl in
          let all = reached.next in
          omega arith);
      workers = All-set (IsSound core.tickets (core.next + 1)) core.workers number new
          (record { built = at.sound.built; dry = λ e. omega arith; ended = λ e. (refl, (at.sound.ended e).1) })
          (All-weaker (IsSound core.tickets core.next) (IsSound core.tickets (core.next + 1))
          (later core.tickets core.next) core.workers reached.workers);
      seen = reached.seen;
      published = reached.published;
      acked = reached.acked;
      owed = reached.owed;
    }

draws_by : (core : Core) (number : ℕ) → IsReached core → Here core number → (worker_at core.workers number).dry ≡ false
    → Dec (core.tickets ≤ core.next)
    → IsReached (changed core (Draw number))
draws_by core number reached at wet (yes more) = rw (le-ltb core.next core.tickets more) (misses core number reached at wet more)
draws_by core number reached at wet (no less) = let low : core.next < core.tickets = lt_of_not-le less in
    rw (lt-ltb core.next core.tickets low) (takes core number reached at wet low)

draws : (core : Core) (number : ℕ) → IsReached core → is_possible core (Draw number) ≡ true → IsReached (changed core (Draw number))
draws core number reached possible =
    let two = both (ltb number (length core.workers)) (not (worker_at core.workers number).dry) possible in
    let at = here core number reached two.0 in
    let wet = isn't (worker_at core.workers number).dry two.1 in
    draws_by core number reached at wet (dec_le core.tickets core.next)

-- a worker with the same tickets and the same draws
same_draws : (core : Core) (number : ℕ) (new : WorkerOf) → IsReached core → Here core number
    → new.tickets ≡ (worker_at core.workers number).tickets
    → new.dry ≡ (worker_at core.workers number).dry → IsSound core.tickets core.next new
    → IsReached (record core { workers = set core.workers number new })
same_draws core number new reached at tickets dry sound = record {
  once = λ x. (
      let s = sum_by-set (λ (w : WorkerOf). times x w.tickets) core.workers number new new_worker at.there in
      let t = ap (times x) tickets in
      let all = reached.once x in
      omega arith);
  next = (
      let s = sum_by-set missed core.workers number new new_worker at.there in
      let t : missed new ≡ missed (worker_at core.workers number) = ap (λ (b : Bool). cond b 1 0) dry in
      let all = reached.next in
      omega arith);
  workers = All-set (IsSound core.tickets core.next) core.workers number new sound reached.workers;
  seen = reached.seen;
  published = reached.published;
  acked = reached.acked;
  owed = reached.owed;
}

builds : (core : Core) (number : ℕ) → IsReached core → is_possible core (Build number) ≡ true → IsReached (changed core (Build number))
builds core number reached possible =
    let old = worker_at core.workers number in
    let two = both (ltb number (length core.workers)) (ltb old.built (length old.tickets)) possible in
    let at = here core number reached two.0 in
    let less = ltb-true old.built (length old.tickets) two.1 in
    same_draws core number (record old { built = old.built + 1 }) reached at refl refl
    (record { built = omega arith; dry = at.sound.dry; ended = λ e. let all = (at.sound.ended e).1 in absurd (omega arith) })

ends : (core : Core) (number : ℕ) → IsReached core → is_possible core (End number) ≡ true → IsReached (changed core (End number))
ends core number reached possible =
    let old = worker_at core.workers number in
    let two = both (ltb number (length core.workers)) ((old.dry && eqb old.built (length old.tickets)) && not old.ended) possible in
    let at = here core number reached two.0 in
    let three = both (old.dry && eqb old.built (length old.tickets)) (not old.ended) two.1 in
    let all = both old.dry (eqb old.built (length old.tickets)) three.0 in
    let same : old.built ≡ length old.tickets = eqb-true old.built (length old.tickets) all.1 in
    same_draws core number (record old { ended = true }) reached at refl refl
    (record { built = at.sound.built; dry = at.sound.dry; ended = λ e. (all.0, same) })

-- a new round, with other counts
rounds : (core : Core) (committed acked published : ℕ) (owed : Bool) (seen : List ℕ) → IsReached core
    → All (λ version. version ≤ published) seen → published ≤ committed
    → acked ≤ committed → committed ≤ 9223372036854775808
    → IsReached record {
      tickets = core.tickets;
      next = 0;
      workers = replicate (length core.workers) new_worker;
      committed = committed;
      acked = acked;
      published = published;
      owed = owed;
      seen = seen;
    }
rounds core committed acked published owed seen reached below shown told most = record {
  once = λ x. (let s = sum_by-replicate (λ (w : WorkerOf). times x w.tickets) (length core.workers) new_worker in let none =
      none_below x core.tickets in omega arith);
  next = (let s = sum_by-replicate missed (length core.workers) new_worker in omega arith);
  workers = All-replicate (IsSound core.tickets 0) (length core.workers) new_worker
      (record { built = omega arith; dry = λ e. absurd (cc); ended = λ e. absurd (cc) });
  seen = below;
  published = shown;
  acked = told;
  owed = most;
}

pub kept : (core : Core) (event : Event) → IsReached core → IsReached (after core event)
kept core (Draw number) reached = either IsReached (is_possible core (Draw number)) (changed core (Draw number)) core
    (draws core number reached) reached
kept core (Build number) reached = either IsReached (is_possible core (Build number)) (changed core (Build number)) core
    (builds core number reached) reached
kept core (End number) reached = either IsReached (is_possible core (End number)) (changed core (End number)) core
    (ends core number reached) reached
kept core Commit reached = either IsReached (is_possible core Commit) (changed core Commit) core
    (λ possible.
    let published = reached.published in
    let acked = reached.acked in
    let less = ltb-true core.committed 9223372036854775808
    (both (all_ended core.workers && not core.owed) (ltb core.committed 9223372036854775808) possible).1 in
    rounds core (core.committed + 1) core.acked core.published true core.seen reached reached.seen (omega arith) (omega arith)
    (omega arith))
    reached
kept core Publish reached = either IsReached (is_possible core Publish) (changed core Publish) core
    (λ possible.
    let less = ltb-true core.published core.committed (both (not core.owed) (ltb core.published core.committed) possible).1 in
    record {
      once = reached.once;
      next = reached.next;
      workers = reached.workers;
      seen = All-weaker (λ version. version ≤ core.published) (λ version. version ≤ core.published + 1)
          (λ version le. omega arith) core.seen reached.seen;
      published = omega arith;
      acked = reached.acked;
      owed = reached.owed;
    })
    reached
kept core Ack reached = either IsReached (is_possible core Ack) (changed core Ack) core
    (λ possible. record {
      once = reached.once;
      next = reached.next;
      workers = reached.workers;
      seen = reached.seen;
      published = reached.published;
      acked = omega arith;
      owed = reached.owed;
    })
    reached
kept core (Enter reader) reached = either IsReached (is_possible core (Enter reader)) (changed core (Enter reader)) core
    (λ possible. record {
      once = reached.once;
      next = reached.next;
      workers = reached.workers;
      seen = All-set (λ version. version ≤ core.published) core.seen reader core.published (omega arith) reached.seen;
      published = reached.published;
      acked = reached.acked;
      owed = reached.owed;
    })
    reached
kept core Crash reached =
    rounds core core.committed core.acked core.committed false (replicate (length core.seen) core.committed) reached
    (All-replicate (λ version. version ≤ core.committed) (length core.seen) core.committed (omega arith))
    (omega arith) reached.acked reached.owed

-- a state grows into itself
pub grows_same : (core : Core) → Grows core core
grows_same core = record {
  committed = omega arith;
  published = omega arith;
  acked = omega arith;
  readers = refl;
  seen =
      λ reader. omega arith;
}

pub grows_then : (a b c : Core) → Grows a b → Grows b c → Grows a c
grows_then a b c p q = record {
  committed = (let x = p.committed in let y = q.committed in omega arith);
  published = (let x = p.published in let y = q.published in omega arith);
  acked = (let x = p.acked in let y = q.acked in omega arith);
  readers = (let x = p.readers in let y = q.readers in omega arith);
  seen = λ reader. let x = p.seen reader in let y = q.seen reader in omega arith;
}

pub grows : (core : Core) (event : Event) → IsReached core → Grows core (after core event)
grows core (Draw number) reached = either (Grows core) (is_possible core (Draw number)) (changed core (Draw number)) core
    (λ possible. record {
      committed = omega arith;
      published = omega arith;
      acked = omega arith;
      readers = refl;
      seen =
          λ reader. omega arith;
    }) (grows_same core)
grows core (Build number) reached = either (Grows core) (is_possible core (Build number)) (changed core (Build number)) core
    (λ possible. record {
      committed = omega arith;
      published = omega arith;
      acked = omega arith;
      readers = refl;
      seen =
          λ reader. omega arith;
    }) (grows_same core)
grows core (End number) reached = either (Grows core) (is_possible core (End number)) (changed core (End number)) core
    (λ possible. record {
      committed = omega arith;
      published = omega arith;
      acked = omega arith;
      readers = refl;
      seen =
          λ reader. omega arith;
    }) (grows_same core)
grows core Commit reached = either (Grows core) (is_possible core Commit) (changed core Commit) core
    (λ possible. record {
      committed = omega arith;
      published = omega arith;
      acked = omega arith;
      readers = refl;
      seen =
          λ reader. omega arith;
    }) (grows_same core)
grows core Publish reached = either (Grows core) (is_possible core Publish) (changed core Publish) core
    (λ possible. record {
      committed = omega arith;
      published = omega arith;
      acked = omega arith;
      readers = refl;
      seen =
          λ reader. omega arith;
    }) (grows_same core)
grows core Ack reached = either (Grows core) (is_possible core Ack) (changed core Ack) core
    (λ possible. let acked = reached.acked in
    record { committed = omega arith; published = omega arith; acked = omega arith; readers = refl; seen = λ reader. omega arith })
    (grows_same core)
grows core (Enter reader) reached = either (Grows core) (is_possible core (Enter reader)) (changed core (Enter reader)) core
    (λ possible. record {
      committed = omega arith;
      published = omega arith;
      acked = omega arith;
      readers =
          length-set core.seen reader core.published;
      seen = set_rises core.seen reader core.published reached.seen;
    })
    (grows_same core)
grows core Crash reached =
    let shown = reached.published in
    record {
      committed = omega arith;
      published = omega arith;
      acked = omega arith;
      readers = length-replicate (length core.seen) core.committed;
      seen = replicate_rises core.seen core.committed
          (All-weaker (λ version. version ≤ core.published) (λ version. version ≤ core.committed)
          (λ version le. omega arith) core.seen reached.seen);
    }

cond_le : (b : Bool) → cond b 1 0 ≤ 1
cond_le true = omega arith
cond_le false = omega arith

missed_le : (worker : WorkerOf) → missed worker ≤ 1
missed_le worker = cond_le worker.dry

-- the first state
pub begins : (tickets workers readers : ℕ) → IsReached (begun tickets workers readers)
begins tickets workers readers = record {
  once = λ x. (let s = sum_by-replicate (λ (w : WorkerOf). times x w.tickets) workers new_worker in let none = none_below x tickets in
      omega arith);
  next = (let s = sum_by-replicate missed workers new_worker in omega arith);
  workers = All-replicate (IsSound tickets 0) workers new_worker
      (record { built = omega arith; dry = λ e. absurd (cc); ended = λ e. absurd (cc) });
  seen = All-replicate (λ version. version ≤ 0) readers 0 (omega arith);
  published = omega arith;
  acked = omega arith;
  owed = omega arith;
}

-- the next number is at most the number of tickets and workers
pub next_small : (core : Core) → IsReached core → core.next ≤ core.tickets + length core.workers
next_small core reached =
    let le = sum_by-le missed 1 core.workers (λ i d less. missed_le (get_or core.workers i d)) in
    let all = reached.next in
    omega arith

-- after a step that was taken, or was not for want of memory
pub stepped : (P : Core → Type 0) (result : Result Bool OutOfMemory) (old new next : Core) → OnOk result (new ≡ next)
    → OnErr result (new ≡ old) → P next → P old → P new
stepped P (Ok done) old new next ok err p q = subst P (sym ok) p
stepped P (Err fault) old new next ok err p q = subst P (sym err) q
