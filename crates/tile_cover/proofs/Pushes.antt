-- Runs with one more at their end, as sets of tiles.
use Rattle.std.proofs.Common.{◌≡◌, ℕ, ◌+◌, ◌*◌, ◌<◌, ◌≤◌, ◌^◌, ◌==◌, max, nat_le, suc, zero, refl, ap, sym, arith, Bool, true, false, cond}
use Rattle.std.proofs.Common.{◌&&◌, ◌||◌, List, [], ◌∷◌, ◌++◌, length, get_or, set}
use Rattle.std.proofs.Math.Nat.{pow-le-pow_right}
use Rattle.std.specs.List.{AllByRecursion}
use Rattle.std.proofs.lemmas.Bool.Decides.{nat_tests}
use Rattle.tile_cover.specs.declared.runs.Run.{Run}
use Rattle.tile_cover.specs.Runs.{IsRun, IsTileSet, AreApart, BeginsLater, Follows, Adds, start_of, holds, has, joins, joined_runs, pushed}

-- what two runs that join, or do not, say of each other
tells_joins : (p q r : Bool) → (p && (q && r)) ≡ true → (p ≡ true) × (q ≡ true) × (r ≡ true)
tells_joins true true true e = (refl, refl, refl)
tells_joins true true false e = absurd (cc)
tells_joins true false r e = absurd (cc)
tells_joins false q r e = absurd (cc)

pub record Join (run next : Run) : Type 0 where
  pub same_zoom : next.zoom ≡ run.zoom
  pub same_row : next.y ≡ run.y
  pub touch : next.first ≤ run.last + 1

pub joins-true : (run next : Run) → joins run next ≡ true → Join run next
joins-true run next e =
    let t = tells_joins (run.zoom == next.zoom) (run.y == next.y) (nat_le next.first (run.last + 1)) e in
    record {
      same_zoom = grind (arith, nat_tests, t.0);
      same_row = grind (arith, nat_tests, t.1);
      touch = grind (arith, nat_tests, t.2);
    }

pub columns_fit : (run : Run) → IsRun run → run.last < 65536 × run.y < 65536
columns_fit run this =
    let bound : 2 ^ run.zoom ≤ 2 ^ 16 = pow-le-pow_right {n = 2} (omega arith) this.shallow in
    let column = this.column in
    let row = this.row in
    (omega arith, omega arith)

-- two runs that join have together the tiles of one
columns_joined : (p q : Bool) (a b c d x : ℕ) → a ≤ b → c ≤ d → a ≤ c → c ≤ b + 1
    → (p && (q && (nat_le a x && nat_le x (max b d))))
    ≡ ((p && (q && (nat_le a x && nat_le x b))) || (p && (q && (nat_le c x && nat_le x d))))
columns_joined true true a b c d x e f g h = grind (arith, nat_tests)
columns_joined true false a b c d x e f g h = refl
columns_joined false q a b c d x e f g h = refl

pub holds-joined_runs : (run next : Run) (zoom x y : ℕ) → IsRun run → IsRun next → start_of run ≤ start_of next → joins run next ≡ true
    → holds zoom x y (joined_runs run next) ≡ (holds zoom x y run || holds zoom x y next)
holds-joined_runs run next zoom x y this that later e =
    let j = joins-true run next e in
    rw (j.same_zoom, j.same_row)
    (columns_joined (run.zoom == zoom) (run.y == y) run.first run.last next.first next.last x this.ordered that.ordered
    (omega arith) j.touch)

pub IsRun-joined_runs : (run next : Run) → IsRun run → IsRun next → joins run next ≡ true → IsRun (joined_runs run next)
IsRun-joined_runs run next this that e =
    let j = joins-true run next e in
    let column : next.last < 2 ^ run.zoom = rw (← j.same_zoom) that.column in
    record {
      shallow = this.shallow;
      row = this.row;
      ordered = let o = this.ordered in omega arith;
      column = let o = this.column in
          omega arith;
    }

-- runs that do not join are apart
not_joined : (p q r : Bool) (a b c d e f g : ℕ) → p ≡ (a == b) → q ≡ (c == d) → r ≡ nat_le g (f + 1) → (p && (q && r)) ≡ false
    → c < 65536 → d < 65536 → f < 65536 → g < 65536 → (a * 65536 + c) * 131072 + e ≤ (b * 65536 + d) * 131072 + g
    → (a * 65536 + c) * 131072 + f + 1 < (b * 65536 + d) * 131072 + g
not_joined false q r a b c d e f g p_is q_is r_is none h1 h2 h3 h4 h5 =
    let differ : (a ≡ b) → ⊥ = grind (arith, nat_tests) in
    let below : a < b = omega arith in
    omega arith
not_joined true false r a b c d e f g p_is q_is r_is none h1 h2 h3 h4 h5 =
    let s : a ≡ b = grind (arith, nat_tests) in
    let differ : (c ≡ d) → ⊥ = grind (arith, nat_tests) in
    let below : c < d = omega arith in
    omega arith
not_joined true true false a b c d e f g p_is q_is r_is none h1 h2 h3 h4 h5 =
    let s : a ≡ b = grind (arith, nat_tests) in
    let t : c ≡ d = grind (arith, nat_tests) in
    let u : f + 1 < g = grind (arith, nat_tests) in
    omega arith
not_joined true true true a b c d e f g p_is q_is r_is none h1 h2 h3 h4 h5 = absurd (cc)

pub follows : (run next : Run) → IsRun run → IsRun next → start_of run ≤ start_of next → joins run next ≡ false → Follows run next
follows run next this that later e =
    let one = columns_fit run this in
    let other = columns_fit next that in
    let first : next.first < 65536 = let o = that.ordered in omega (arith, other.0) in
    not_joined (run.zoom == next.zoom) (run.y == next.y)
    (nat_le next.first (run.last + 1)) run.zoom next.zoom run.y next.y run.first run.last next.first
    refl refl refl e one.1 other.1 one.0 first later

-- a run that follows another one, and what begins no earlier, in its row or behind it
pub follows_later : (run next other : Run) → Follows run next → next.first ≤ next.last → start_of next ≤ start_of other → Follows run other
follows_later run next other e f g = omega arith

-- the last run of a list gives way to the two of it and the next one joined
pub set-pushed : (runs : List Run) (i : ℕ) (run next : Run) → i + 1 ≡ length runs → run ≡ get_or runs i run → joins run next ≡ true
    → set runs i (joined_runs run next) ≡ pushed runs next
set-pushed [] i run next e f g = absurd (omega arith)
set-pushed (one ∷ []) zero run next e f g =
    let same : run ≡ one = f in
    rw (← same) (rw g refl)
set-pushed (one ∷ []) (suc i) run next e f g = absurd (omega arith)
set-pushed (one ∷ other ∷ runs) zero run next e f g = absurd (omega arith)
set-pushed (one ∷ other ∷ runs) (suc i) run next e f g = ap (λ rest. one ∷ rest) (set-pushed (other ∷ runs) i run next (omega arith) f g)

pub append-pushed : (runs : List Run) (i : ℕ) (run next : Run) → i + 1 ≡ length runs → run ≡ get_or runs i run → joins run next ≡ false
    → runs ++ next ∷ [] ≡ pushed runs next
append-pushed [] i run next e f g = absurd (omega arith)
append-pushed (one ∷ []) zero run next e f g =
    let same : run ≡ one = f in
    rw (← same) (rw g refl)
append-pushed (one ∷ []) (suc i) run next e f g = absurd (omega arith)
append-pushed (one ∷ other ∷ runs) zero run next e f g = absurd (omega arith)
append-pushed (one ∷ other ∷ runs) (suc i) run next e f g =
    ap (λ rest. one ∷ rest) (append-pushed (other ∷ runs) i run next (omega arith) f g)

-- the tiles of runs with one more
or_again : (a b c : Bool) → (a || (b || c)) ≡ ((a || b) || c)
or_again true b c = refl
or_again false b c = refl

or_false : (a : Bool) → (a || false) ≡ a
or_false true = refl
or_false false = refl

last_or : (a b : Bool) → ((a || b) || false) ≡ ((a || false) || b)
last_or true b = refl
last_or false true = refl
last_or false false = refl

one_has : (run next : Run) (zoom x y : ℕ) (join : Bool) → IsRun run → IsRun next → start_of run ≤ start_of next → join ≡ joins run next
    → has (cond join (joined_runs run next ∷ []) (run ∷ next ∷ [])) zoom x y ≡ (has (run ∷ []) zoom x y || holds zoom x y next)
one_has run next zoom x y true this that later e =
    rw (holds-joined_runs run next zoom x y this that later (sym e)) (last_or (holds zoom x y run) (holds zoom x y next))
one_has run next zoom x y false this that later e =
    rw (or_false (holds zoom x y next)) (or_again (holds zoom x y run) false (holds zoom x y next))

pub has-pushed : (runs : List Run) (next : Run) (zoom x y : ℕ) → AllByRecursion IsRun runs → IsRun next → BeginsLater runs next
    → has (pushed runs next) zoom x y ≡ (has runs zoom x y || holds zoom x y next)
has-pushed [] next zoom x y each that later = or_false (holds zoom x y next)
has-pushed (run ∷ []) next zoom x y each that later = one_has run next zoom x y (joins run next) each.0 that later.0 refl
has-pushed (run ∷ other ∷ runs) next zoom x y each that later =
    rw (has-pushed (other ∷ runs) next zoom x y each.1 that later.1)
    (or_again (holds zoom x y run) (has (other ∷ runs) zoom x y) (holds zoom x y next))

-- and they stay the runs of a set
one_each : (run next : Run) (join : Bool) → IsRun run → IsRun next → join ≡ joins run next
    → AllByRecursion IsRun (cond join (joined_runs run next ∷ []) (run ∷ next ∷ []))
one_each run next true this that e = (IsRun-joined_runs run next this that (sym e), tt)
one_each run next false this that e = (this, (that, tt))

each_pushed : (runs : List Run) (next : Run) → AllByRecursion IsRun runs → IsRun next → AllByRecursion IsRun (pushed runs next)
each_pushed [] next each that = (that, tt)
each_pushed (run ∷ []) next each that = one_each run next (joins run next) each.0 that refl
each_pushed (run ∷ other ∷ runs) next each that = (each.0, each_pushed (other ∷ runs) next each.1 that)

one_follows : (before run next : Run) (join : Bool) → Follows before run → run.first ≤ run.last → start_of run ≤ start_of next
    → AllByRecursion (Follows before) (cond join (joined_runs run next ∷ []) (run ∷ next ∷ []))
one_follows before run next true e f g = (e, tt)
one_follows before run next false e f g = (e, (follows_later before run next e f g, tt))

all_follow : (before : Run) (runs : List Run) (next : Run) → AllByRecursion IsRun runs → AllByRecursion (Follows before) runs
    → BeginsLater runs next
    → Follows before next → AllByRecursion (Follows before) (pushed runs next)
all_follow before [] next each e f g = (g, tt)
all_follow before (run ∷ []) next each e f g = one_follows before run next (joins run next) e.0 each.0.ordered f.0
all_follow before (run ∷ other ∷ runs) next each e f g = (e.0, all_follow before (other ∷ runs) next each.1 e.1 f.1 g)

one_apart : (run next : Run) (join : Bool) → IsRun run → IsRun next → start_of run ≤ start_of next → join ≡ joins run next
    → AreApart (cond join (joined_runs run next ∷ []) (run ∷ next ∷ []))
one_apart run next true this that later e = (tt, tt)
one_apart run next false this that later e = ((follows run next this that later (sym e), tt), (tt, tt))

apart_pushed : (runs : List Run) (next : Run) → AllByRecursion IsRun runs → AreApart runs → IsRun next → BeginsLater runs next
    → AreApart (pushed runs next)
apart_pushed [] next each e that later = (tt, tt)
apart_pushed (run ∷ []) next each e that later = one_apart run next (joins run next) each.0 that later.0 refl
apart_pushed (run ∷ other ∷ runs) next each e that later = (
  all_follow run (other ∷ runs) next each.1 e.0 later.1 (follows_later run other next e.0.0 each.1.0.ordered later.1.0),
  apart_pushed (other ∷ runs) next each.1 e.1 that later.1,
)

pub IsTileSet-pushed : (runs : List Run) (next : Run) → IsTileSet runs → IsRun next → BeginsLater runs next → IsTileSet (pushed runs next)
IsTileSet-pushed runs next set that later =
    record { each = each_pushed runs next set.each that; apart = apart_pushed runs next set.each set.apart that later }

one_later : (run next other : Run) (join : Bool) → start_of run ≤ start_of other → start_of next ≤ start_of other
    → BeginsLater (cond join (joined_runs run next ∷ []) (run ∷ next ∷ [])) other
one_later run next other true e f = (e, tt)
one_later run next other false e f = (e, (f, tt))

later_pushed : (runs : List Run) (next other : Run) → BeginsLater runs other → start_of next ≤ start_of other
    → BeginsLater (pushed runs next) other
later_pushed [] next other e f = (f, tt)
later_pushed (run ∷ []) next other e f = one_later run next other (joins run next) e.0 f
later_pushed (run ∷ other_run ∷ runs) next other e f = (e.0, later_pushed (other_run ∷ runs) next other e.1 f)

pub IsTileSet-Adds : (old new : List Run) (run : Run) → new ≡ pushed old run → IsTileSet old → IsRun run → BeginsLater old run
    → IsTileSet new × Adds old new run
IsTileSet-Adds old new run e set this later =
    rw e (
      IsTileSet-pushed old run set this later,
      record { tiles = λ zoom x y. has-pushed old run zoom x y set.each this later; later = λ next f g. later_pushed old run next f g },
    )

pub alone-pushed : (runs : List Run) (next : Run) → length runs ≤ 0 → runs ++ next ∷ [] ≡ pushed runs next
alone-pushed [] next e = refl
alone-pushed (run ∷ runs) next e = absurd (omega arith)

-- a run apart from all before it
each_more : (runs : List Run) (next : Run) → AllByRecursion IsRun runs → IsRun next → AllByRecursion IsRun (runs ++ next ∷ [])
each_more [] next each that = (that, tt)
each_more (run ∷ runs) next each that = (each.0, each_more runs next each.1 that)

all_more : (before : Run) (runs : List Run) (next : Run) → AllByRecursion (Follows before) runs → Follows before next
    → AllByRecursion (Follows before) (runs ++ next ∷ [])
all_more before [] next e f = (f, tt)
all_more before (run ∷ runs) next e f = (e.0, all_more before runs next e.1 f)

apart_more : (runs : List Run) (next : Run) → AreApart runs → AllByRecursion (λ before. Follows before next) runs
    → AreApart (runs ++ next ∷ [])
apart_more [] next e f = (tt, tt)
apart_more (run ∷ runs) next e f = (all_more run runs next e.0 f.0, apart_more runs next e.1 f.1)

pub IsTileSet-append : (runs : List Run) (next : Run) → IsTileSet runs → IsRun next → AllByRecursion (λ before. Follows before next) runs
    → IsTileSet (runs ++ next ∷ [])
IsTileSet-append runs next set that apart =
    record { each = each_more runs next set.each that; apart = apart_more runs next set.apart apart }
