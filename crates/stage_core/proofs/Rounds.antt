-- What is promised of every state that events reach, and of every list of events.
use Rattle.std.proofs.Common.{◌≡◌, ℕ, zero, suc, ◌+◌, ◌<◌, ◌≤◌, List, [], ◌∷◌, ◌++◌, Bool, true, length, min, take, refl, ap, sym, arith}
use Rattle.std.specs.Prelude.{All, flat_map, fold, get_or, sum_by}
use Rattle.std.proofs.lemmas.List.Concat.{flat_map-cons}
use Rattle.std.proofs.lemmas.List.Elements.{All-head, All-tail, All-get_or}
use Rattle.std.proofs.lemmas.List.Sums.{AllPass-from_list_all, fold-append, sum_by-cons}
use Rattle.pending_book.specs.Once.{once_below, times}
use Rattle.pending_book.proofs.Counts.{times-append}
use Rattle.stage_core.specs.Core.{Core, WorkerOf, after, after_all, all_ended, begun, new_worker}
use Rattle.stage_core.specs.Promise.{Grows, Promise, all_built}
use Rattle.stage_core.specs.Reached.{IsReached, IsSound}
use Rattle.stage_core.specs.declared.event.Event.{Event}
use Rattle.stage_core.proofs.Kept.{begins, grows, grows_same, grows_then, kept}

-- how often a number stands in lists one after another
times-flat_map : (x : ℕ) (f : WorkerOf → List ℕ) (workers : List WorkerOf)
    → times x (flat_map f workers) ≡ sum_by (λ w. times x (f w)) workers
times-flat_map x f [] = refl
times-flat_map x f (w ∷ ws) =
    let rest = times-flat_map x f ws in
    let split = ap (times x) (flat_map-cons f w ws) in
    omega (arith, times-append x (f w) (flat_map f ws), sum_by-cons (λ (v : WorkerOf). times x (f v)) w ws)

same_sums : (f g : WorkerOf → ℕ) (workers : List WorkerOf) → All (λ w. f w ≡ g w) workers → sum_by f workers ≡ sum_by g workers
same_sums f g [] all = refl
same_sums f g (w ∷ ws) all =
    let first = All-head (λ v. f v ≡ g v) w ws all in
    let rest = same_sums f g ws (All-tail (λ v. f v ≡ g v) w ws all) in
    omega (arith, sum_by-cons f w ws, sum_by-cons g w ws)

take_all : (xs : List ℕ) → take (length xs) xs ≡ xs
take_all [] = refl
take_all (x ∷ xs) = λ k. x ∷ take_all xs k

take_length : (n : ℕ) (xs : List ℕ) → n ≡ length xs → take n xs ≡ xs
take_length n xs e = rw e (take_all xs)

-- where all workers have ended, each ticket is built once
built : (core : Core) → IsReached core → 0 < length core.workers → all_ended core.workers ≡ true → (x : ℕ)
    → times x (all_built core) ≡ once_below x core.tickets
built core reached some ended x =
    let each = AllPass-from_list_all (λ (w : WorkerOf). w.ended) core.workers ended in
    let first = All-get_or (IsSound core.tickets core.next) core.workers 0 new_worker some reached.workers in
    let dry = first.dry (first.ended (each 0 new_worker some)).0 in
    let m : min core.next core.tickets ≡ core.tickets = omega arith in
    let whole : All (λ w. times x (take w.built w.tickets) ≡ times x w.tickets) core.workers = λ i d less.
    (let e = ((reached.workers i d less).ended (each i d less)).1 in ap (times x) (take_length _ _ e)) in
    let sums = same_sums (λ w. times x (take w.built w.tickets)) (λ w. times x w.tickets) core.workers whole in
    let all : sum_by (λ w. times x w.tickets) core.workers ≡ once_below x core.tickets = rw m at (reached.once x) in
    let flat = times-flat_map x (λ w. take w.built w.tickets) core.workers in
    omega arith

pub promised : (core : Core) → IsReached core → Promise core
promised core reached = record {
  drawn = λ x. (let flat = times-flat_map x (λ w. w.tickets) core.workers in let all = reached.once x in omega arith);
  built = built core reached;
  seen = reached.seen;
  published = reached.published;
  acked = reached.acked;
}

reached_all : (core : Core) (events : List Event) → IsReached core → IsReached (after_all core events)
reached_all core [] reached = reached
reached_all core (event ∷ events) reached = reached_all (after core event) events (kept core event reached)

grows_all : (core : Core) (events : List Event) → IsReached core → Grows core (after_all core events)
grows_all core [] reached = grows_same core
grows_all core (event ∷ events) reached =
    grows_then core (after core event) (after_all (after core event) events) (grows core event reached)
    (grows_all (after core event) events (kept core event reached))

pub promised_all : (n workers readers : ℕ) (events : List Event) → Promise (after_all (begun n workers readers) events)
promised_all n workers readers events = promised _ (reached_all (begun n workers readers) events (begins n workers readers))

pub grows_from : (n workers readers : ℕ) (earlier later : List Event)
    → Grows (after_all (begun n workers readers) earlier) (after_all (begun n workers readers) (earlier ++ later))
grows_from n workers readers earlier later =
    let first = after_all (begun n workers readers) earlier in
    rw (fold-append after (begun n workers readers) earlier later)
    (grows_all first later (reached_all (begun n workers readers) earlier (begins n workers readers)))
