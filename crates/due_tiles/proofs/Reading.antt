-- Runs read one after another, each behind those before it.
use Rattle.std.proofs.Common.{◌≡◌, ℕ, ◌+◌, ◌<◌, ◌≤◌, ◌^◌, suc, zero, Bool, true, nat_lt, take, get_or, List, [], ◌∷◌, ◌++◌, length, refl}
use Rattle.std.proofs.Common.{sym, ap, subst, ◌∙◌, arith, append_assoc, length-append}
use Rattle.std.proofs.Math.Nat.{pow-le-pow_right}
use Rattle.std.proofs.lemmas.List.{append-nil, take_more}
use Rattle.std.proofs.lemmas.Bool.Decides.{nat_tests}
use Rattle.std.specs.List.{AllByRecursion}
use Rattle.tile_cover.specs.declared.runs.Run.{Run}
use Rattle.tile_cover.specs.Runs.{IsRun, IsTileSet, AreApart, Follows, start_of, end_of}
use Rattle.value_bytes.specs.Forms.{Begins, IsFront, IsFrontless, IsNoValue, Spells}
use Rattle.value_bytes.specs.Numbers.{number_bytes, IsNumber}
use Rattle.value_bytes.proofs.ListLaws.{all_bytes-append}
use Rattle.value_bytes.proofs.NumberLaws.{length-number_bytes}
use Rattle.due_tiles.specs.declared.fault.DueFault.{DueFault}
use Rattle.due_tiles.specs.declared.fault.DueFault.TheVariants.{NotSpelled, OutOfMemory}
use Rattle.due_tiles.specs.Spelling.{NeedsFor, Four, four_bytes, IsFour, numbers_of, NumbersOf, run_bytes, set_bytes, TakesRun, IsRead}
use Rattle.due_tiles.specs.Spelling.{HasRead}

-- the bytes of a run

below_power : (zoom n : ℕ) → zoom ≤ 16 → n < 2 ^ zoom → IsNumber n
below_power zoom n shallow below = let bound : 2 ^ zoom ≤ 2 ^ 16 = pow-le-pow_right {n = 2} (omega arith) shallow in omega arith

is_four : (run : Run) → IsRun run → IsFour (numbers_of run)
is_four run is =
    let ordered = is.ordered in
    let last = below_power run.zoom run.last is.shallow is.column in
    let shallow = is.shallow in
    (omega arith, (below_power run.zoom run.y is.shallow is.row, (omega arith, last)))

same_run : (other run : Run) → numbers_of other ≡ numbers_of run → other ≡ run
same_run other run e = λ i. record { zoom = (e i).0; y = (e i).1.0; first = (e i).1.1.0; last = (e i).1.1.1 }

four_begins : (bytes : List ℕ) (run : Run) (rest : List ℕ) → Begins run_bytes IsRun bytes run rest
    → Begins four_bytes IsFour bytes (numbers_of run) rest
unfolding run_bytes
four_begins bytes run rest begins = record { is = is_four run begins.is; bytes_are = begins.bytes_are }

pub run_front : (bytes : List ℕ) (four : Four) (rest : List ℕ) (run : Run) → IsFront four_bytes IsFour bytes four rest → IsRun run
    → NumbersOf run four → IsFront run_bytes IsRun bytes run rest
unfolding run_bytes
run_front bytes four rest run front is numbers = record {
  begins = record { is = is; bytes_are = front.begins.bytes_are ∙ ap (λ own. four_bytes own ++ rest) (sym numbers) };
  alone = λ other behind begins.
      let same = front.alone (numbers_of other) behind (four_begins bytes other behind begins) in
      (same_run other run (same.0 ∙ sym numbers), same.1);
}

pub run_frontless : (bytes : List ℕ) → IsFrontless four_bytes IsFour bytes → IsFrontless run_bytes IsRun bytes
run_frontless bytes none run rest begins = none (numbers_of run) rest (four_begins bytes run rest begins)

pub run_off : (bytes : List ℕ) (four : Four) (rest : List ℕ) → IsFront four_bytes IsFour bytes four rest
    → ((run : Run) → IsRun run → NumbersOf run four → ⊥) → IsFrontless run_bytes IsRun bytes
run_off bytes four rest front none run behind begins =
    none run begins.is (front.alone (numbers_of run) behind (four_begins bytes run behind begins)).0

length-run_bytes : (run : Run) → 8 ≤ length (run_bytes run)
unfolding run_bytes
length-run_bytes run =
    let rest = number_bytes run.y ++ (number_bytes run.first ++ number_bytes run.last) in
    omega (arith, length-append (number_bytes run.zoom) rest, length-number_bytes run.zoom)

-- a set with these bytes, and what follows of its parts

each_at : (runs : List Run) (run : Run) (later : List Run) → AllByRecursion IsRun (runs ++ run ∷ later) → IsRun run
each_at [] run later all = all.0
each_at (first ∷ runs) run later all = each_at runs run later all.1

first_of : (first : Run) (runs : List Run) (run : Run) (later : List Run) → AllByRecursion (Follows first) (runs ++ run ∷ later)
    → Follows first run
first_of first [] run later all = all.0
first_of first (next ∷ runs) run later all = first_of first runs run later all.1

apart_front : (runs : List Run) (run : Run) (later : List Run) → AreApart (runs ++ run ∷ later)
    → AllByRecursion (λ before. Follows before run) runs
apart_front [] run later apart = tt
apart_front (first ∷ runs) run later apart = (first_of first runs run later apart.0, apart_front runs run later apart.1)

pub no_run : (runs : List Run) (bytes : List ℕ) → IsFrontless run_bytes IsRun bytes → IsRead runs bytes
no_run runs bytes none run later set e = none run (set_bytes later) (record { is = each_at runs run later set.each; bytes_are = e })

pub not_behind : (runs : List Run) (bytes : List ℕ) (run : Run) (rest : List ℕ) → IsFront run_bytes IsRun bytes run rest
    → (AllByRecursion (λ before. Follows before run) runs → ⊥) → IsRead runs bytes
not_behind runs bytes run rest front not other later set e =
    let same = front.alone other (set_bytes later) (record { is = each_at runs other later set.each; bytes_are = e }) in
    not (subst (λ (own : Run). AllByRecursion (λ before. Follows before own) runs) same.0 (apart_front runs other later set.apart))

pub takes_run : (old new : List Run) (bytes rest : List ℕ) (run : Run) → IsFront run_bytes IsRun bytes run rest → new ≡ old ++ run ∷ []
    → TakesRun old new bytes rest
takes_run old new bytes rest run front pushed =
    record { run = run; pushed = pushed; bytes_are = front.begins.bytes_are; alone = front.alone }

-- all runs read so far

pub read_none : (bytes : List ℕ) (runs : List Run) → runs ≡ [] → HasRead bytes runs bytes
read_none bytes runs none = subst (λ own. HasRead bytes own bytes) (sym none)
    (record { bytes_are = refl; goes_on = λ all is e. (all, refl, e) })

-- bytes that are left are those of a run and of more
more_left : (rest : List ℕ) (later : List Run) → 0 < length rest → rest ≡ set_bytes later
    → (run : Run) × (more : List Run) × (later ≡ run ∷ more)
more_left rest [] some e = absurd (omega (arith, some, ap length e))
more_left rest (run ∷ more) some e = (run, more, refl)

each_later : (runs later : List Run) → AllByRecursion IsRun (runs ++ later) → AllByRecursion IsRun later
each_later [] later all = all
each_later (run ∷ runs) later all = each_later runs later all.1

pub read_more : (bytes : List ℕ) (runs : List Run) (rest : List ℕ) (new : List Run) (behind : List ℕ) → HasRead bytes runs rest
    → 0 < length rest → TakesRun runs new rest behind → HasRead bytes new behind
read_more bytes runs rest new behind before some takes = subst (λ own. HasRead bytes own behind) (sym takes.pushed) (record {
  bytes_are = before.bytes_are
      ∙ ap (λ own. set_bytes runs ++ own) takes.bytes_are
      ∙ sym (append_assoc (set_bytes runs) (run_bytes takes.run) behind)
      ∙ ap (λ own. (set_bytes runs ++ own) ++ behind) (sym (append-nil (run_bytes takes.run)))
      ∙ ap (λ own. own ++ behind) (sym (all_bytes-append run_bytes runs (takes.run ∷ [])));
  goes_on = λ all is e.
      let (later, split, left) = before.goes_on all is e in
      let (first, more, parts) = more_left rest later some left in
      let set : IsTileSet (runs ++ first ∷ more) = subst IsTileSet (split ∙ ap (λ own. runs ++ own) parts) is in
      let same = takes.alone first (set_bytes more)
      (record { is = each_at runs first more set.each; bytes_are = left ∙ ap set_bytes parts }) in (
        more,
        split ∙ ap (λ own. runs ++ own) (parts ∙ ap (λ own. own ∷ more) same.0) ∙ sym (append_assoc runs (takes.run ∷ []) more),
        sym same.1,
      );
})

pub read_refused : (bytes : List ℕ) (runs : List Run) (rest : List ℕ) → HasRead bytes runs rest → 0 < length rest → IsRead runs rest
    → IsNoValue set_bytes IsTileSet bytes
read_refused bytes runs rest before some none all is e =
    let (later, split, left) = before.goes_on all is e in
    let (first, more, parts) = more_left rest later some left in
    none first more (subst IsTileSet (split ∙ ap (λ own. runs ++ own) parts) is) (left ∙ ap set_bytes parts)

nothing_left : (rest : List ℕ) (later : List Run) → length rest ≤ 0 → rest ≡ set_bytes later → later ≡ []
nothing_left rest [] none e = refl
nothing_left rest (run ∷ later) none e =
    absurd (omega (arith, none, ap length e, length-append (run_bytes run) (set_bytes later), length-run_bytes run))

empty : (rest : List ℕ) → length rest ≤ 0 → rest ≡ []
empty [] none = refl
empty (byte ∷ rest) none = absurd (omega (arith, none))

pub read_all : (bytes : List ℕ) (runs : List Run) (rest : List ℕ) → HasRead bytes runs rest → length rest ≤ 0 → IsTileSet runs
    → Spells set_bytes IsTileSet bytes runs
read_all bytes runs rest before none set = record {
  is = set;
  bytes_are = before.bytes_are ∙ ap (λ own. set_bytes runs ++ own) (empty rest none) ∙ append-nil (set_bytes runs);
  alone = λ other is e.
      let (later, split, left) = before.goes_on other is e in
      split ∙ ap (λ own. runs ++ own) (nothing_left rest later none left) ∙ append-nil runs;
}

pub needs_more : {One Two : Type 0} (fault : DueFault) → (One → Two) → NeedsFor One fault → NeedsFor Two fault
needs_more NotSpelled then needs = then needs
needs_more OutOfMemory then needs = tt

-- a run that follows the last one follows all
follows_all : (before run next : Run) → IsRun run → Follows before run → Follows run next → Follows before next
follows_all before run next is one other = let ordered = is.ordered in omega (arith, one, other)

pub behind_all : (runs : List Run) (next : Run) (at : ℕ) (default : Run) → at + 1 ≡ length runs → IsTileSet runs
    → Follows (get_or runs at default) next → AllByRecursion (λ before. Follows before next) runs
behind_all [] next at default last set follows = absurd (omega (arith, last))
behind_all (run ∷ []) next zero default last set follows = (follows, tt)
behind_all (run ∷ []) next (suc at) default last set follows = absurd (omega (arith, last))
behind_all (run ∷ other ∷ runs) next zero default last set follows = absurd (omega (arith, last))
behind_all (run ∷ other ∷ runs) next (suc at) default last set follows =
    let rest = behind_all (other ∷ runs) next at default (omega (arith, last))
    (record { each = set.each.1; apart = set.apart.1 }) follows in
    (follows_all run other next set.each.1.0 set.apart.0.0 rest.0, rest)

pub all_at : (P : Run → Type 0) (runs : List Run) (at : ℕ) (default : Run) → AllByRecursion P runs → at < length runs
    → P (get_or runs at default)
all_at P [] at default all within = absurd (omega (arith, within))
all_at P (run ∷ runs) zero default all within = all.0
all_at P (run ∷ runs) (suc at) default all within = all_at P runs at default all.1 (omega (arith, within))

test_true : (found : Bool) (a b : ℕ) → found ≡ nat_lt a b → found ≡ true → a < b
test_true found a b is e = grind (arith, nat_tests)

test_of : (found : Bool) (a b : ℕ) → found ≡ nat_lt a b → a < b → found ≡ true
test_of found a b is less = grind (arith, nat_tests)

pub behind_is : (runs : List Run) (next : Run) (at : ℕ) (default : Run) (found : Bool) → IsTileSet runs → at + 1 ≡ length runs
    → found ≡ nat_lt (end_of (get_or runs at default) + 1) (start_of next)
    → (found ≡ true → AllByRecursion (λ before. Follows before next) runs)
    × (AllByRecursion (λ before. Follows before next) runs → found ≡ true)
behind_is runs next at default found set last is = (
  λ e. behind_all runs next at default last set (test_true found (end_of (get_or runs at default) + 1) (start_of next) is e),
  λ all. test_of found (end_of (get_or runs at default) + 1) (start_of next) is
      (all_at (λ before. Follows before next) runs at default all (omega (arith, last))),
)

pub takes_less : (old new : List Run) (bytes rest : List ℕ) → TakesRun old new bytes rest → length rest < length bytes
takes_less old new bytes rest takes = omega
    (arith, ap length takes.bytes_are, length-append (run_bytes takes.run) rest, length-run_bytes takes.run)

pub set_bytes-more : (runs : List Run) (at : ℕ) (default : Run) → at < length runs
    → set_bytes (take (at + 1) runs) ≡ set_bytes (take at runs) ++ run_bytes (get_or runs at default)
set_bytes-more runs at default within =
    ap set_bytes (take_more runs at default within)
    ∙ all_bytes-append run_bytes (take at runs) (get_or runs at default ∷ [])
    ∙ ap (λ own. set_bytes (take at runs) ++ own) (append-nil (run_bytes (get_or runs at default)))
