-- A walk over rising events tells what they tell.
use Rattle.std.proofs.Common.{◌≡◌, ℕ, ◌+◌, ◌*◌, ◌<◌, ◌≤◌, ◌^◌, ◌%◌, ◌==◌, zero, suc, refl, sym, ◌∙◌, ap, arith, nat_lt, nat_le, max, Bool}
use Rattle.std.proofs.Common.{true, false, cond, subst, not, ◌&&◌, ◌||◌, List, [], ◌∷◌, length, get_or, drop, ◌⊎◌, inl, inr, count_by}
use Rattle.std.specs.List.{AllByRecursion, list_any}
use Rattle.std.proofs.lemmas.Bool.Decides.{nat_tests}
use Rattle.std.proofs.lemmas.List.Sums.{sum_by-cons}
use Rattle.tile_cover.specs.declared.events.Event.{Event}
use Rattle.tile_cover.specs.declared.sweep.Cursor.{Cursor}
use Rattle.tile_cover.specs.Span.{covers}
use Rattle.tile_cover.specs.Events.{is_at, is_beyond, IsEvent, Gains}
use Rattle.tile_cover.specs.Sweep.{AreRising, position_of, is_told, goes_through, is_odd_row, is_open, from_of, edge_after}
use Rattle.std.specs.List.Sorted.{IsNonDecreasingBy, IsPermutation}
use Rattle.std.proofs.lemmas.List.Elements.{All-from_recursion, recursion_from_All}
use Rattle.std.proofs.lemmas.List.Sorted.{sum_by-IsPermutation, All-permutation}
use Rattle.lanes_geo.specs.Crossing.{Segment, crosses}
use Rattle.osm_base.specs.declared.values.row.Geometry.{Geometry}
use Rattle.style_read.specs.declared.style.Mode.{Mode}
use Rattle.tile_cover.specs.Table.{BoundsOf}
use Rattle.tile_cover.specs.Tile.{segments_of, counts_filled, meets_box, is_covered, tile_box, north_west}
use Rattle.tile_cover.proofs.Gained.{row_cases, itself, turned_test}

-- whether a count is odd
odd_more : (n : ℕ) → ((1 + n) % 2 == 1) ≡ not (n % 2 == 1)
odd_more n = grind (arith, nat_tests)

pub flip : (b : Bool) (n : ℕ) → ((cond b 1 0 + n) % 2 == 1) ≡ cond b (not (n % 2 == 1)) (n % 2 == 1)
flip true n = odd_more n
flip false n = ap (λ m. m % 2 == 1) (nothing n)
  where
    nothing : (n : ℕ) → 0 + n ≡ n
    nothing n = omega arith

pub odd_cons : (row : ℕ) (event : Event) (events : List Event)
    → is_odd_row row (event ∷ events) ≡ cond (goes_through row event) (not (is_odd_row row events)) (is_odd_row row events)
odd_cons row event events = rw sum_by-cons (flip (goes_through row event) (count_by (goes_through row) events))

-- rows of rising events
row_up : (event other : Event) → IsEvent 65536 event → IsEvent 65536 other → position_of event ≤ position_of other → event.row ≤ other.row
row_up event other e f g = let h = f.within in let i = f.ordered in omega arith

all_up : (row : ℕ) (event : Event) (events : List Event) → row ≤ event.row → IsEvent 65536 event → AllByRecursion (IsEvent 65536) events
    → AllByRecursion (λ other. position_of event ≤ position_of other) events → AllByRecursion (λ other. row ≤ other.row) events
all_up row event [] e f g h = tt
all_up row event (other ∷ events) e f g h = (let i = row_up event other f g.0 h.0 in omega arith, all_up row event events e f g.1 h.1)

pub rows_up : (row : ℕ) (event : Event) (events : List Event) → row ≤ event.row → AllByRecursion (IsEvent 65536) (event ∷ events)
    → AreRising (event ∷ events)
    → AllByRecursion (λ other. row ≤ other.row) (event ∷ events)
rows_up row event events e f g = (e, all_up row event events e f.0 f.1 g.0)

pub rising_drop : (events : List Event) (i : ℕ) → AreRising events → AreRising (drop i events)
rising_drop [] zero e = e
rising_drop [] (suc i) e = e
rising_drop (event ∷ events) zero e = e
rising_drop (event ∷ events) (suc i) e = rising_drop events i e.1

pub all_drop : {A : Type 0} (P : A → Type 0) (xs : List A) (i : ℕ) → AllByRecursion P xs → AllByRecursion P (drop i xs)
all_drop P [] zero e = e
all_drop P [] (suc i) e = e
all_drop P (x ∷ xs) zero e = e
all_drop P (x ∷ xs) (suc i) e = all_drop P xs i e.1

-- no event of a row that is north of all
not_row : (row other : ℕ) → row < other → (other == row) ≡ false
not_row row other e = grind (arith, nat_tests)

pub none_odd : (row : ℕ) (events : List Event) → AllByRecursion (λ event. row + 1 ≤ event.row) events → is_odd_row row events ≡ false
none_odd row events e = rw (none_through events e) refl
  where
    none_through : (events : List Event) → AllByRecursion (λ event. row + 1 ≤ event.row) events → count_by (goes_through row) events ≡ 0
    none_through [] e = refl
    none_through (event ∷ events) e = rw (sum_by-cons, not_row row event.row (omega (arith, e.0)), none_through events e.1) refl

pub none_told : (filled : Bool) (row x : ℕ) (events : List Event) → AllByRecursion (λ event. row + 1 ≤ event.row) events
    → is_told filled events row x ≡ false
none_told filled row x events e = rw (none_at events e, none_beyond events e) (never filled)
  where
    never : (filled : Bool) → (filled && false) ≡ false
    never true = refl
    never false = refl

    none_at : (events : List Event) → AllByRecursion (λ event. row + 1 ≤ event.row) events → list_any (is_at row x) events ≡ false
    none_at [] e = refl
    none_at (event ∷ events) e = rw (not_row row event.row (omega (arith, e.0)), none_at events e.1) refl

    none_beyond : (events : List Event) → AllByRecursion (λ event. row + 1 ≤ event.row) events → count_by (is_beyond row x) events ≡ 0
    none_beyond [] e = refl
    none_beyond (event ∷ events) e = rw (sum_by-cons, not_row row event.row (omega (arith, e.0)), none_beyond events e.1) refl

-- west of an event of a row no later one has a tile, and all that go through go through further east
west_of : (event other : Event) (x : ℕ) → position_of event ≤ position_of other → x < event.span.first → event.row ≡ other.row
    → x < other.span.first
west_of event other x e f g = omega arith

pub none_west : (event : Event) (events : List Event) (x : ℕ) → x < event.span.first
    → AllByRecursion (λ other. position_of event ≤ position_of other) events
    → list_any (is_at event.row x) events ≡ false
none_west event [] x e f = refl
none_west event (other ∷ events) x e f = rw (one (row_cases other.row event.row), none_west event events x e f.1) refl
  where
    not_covered : (a b x : ℕ) → x < a → (nat_le a x && nat_le x b) ≡ false
    not_covered a b x e = grind (arith, nat_tests)

    one : (other.row ≡ event.row) ⊎ ((other.row == event.row) ≡ false) → ((other.row == event.row) && covers x other.span) ≡ false
    one (inl same) = rw (same, not_covered other.span.first other.span.last x (west_of event other x f.0 e (sym same)), itself event.row)
        refl
    one (inr differ) = rw differ refl

pub all_beyond : (event : Event) (events : List Event) (x : ℕ) → x < event.span.first
    → AllByRecursion (λ other. position_of event ≤ position_of other) events
    → count_by (is_beyond event.row x) events ≡ count_by (goes_through event.row) events
all_beyond event [] x e f = refl
all_beyond event (other ∷ events) x e f =
    rw (sum_by-cons, sum_by-cons, one (row_cases other.row event.row), all_beyond event events x e f.1) refl
  where
    west : (a x : ℕ) → x < a → nat_lt x a ≡ true
    west a x e = grind (arith, nat_tests)

    whole : (a : Bool) → (a && true) ≡ a
    whole true = refl
    whole false = refl

    one : (other.row ≡ event.row) ⊎ ((other.row == event.row) ≡ false) → is_beyond event.row x other ≡ goes_through event.row other
    one (inl same) = rw (west other.span.first x (west_of event other x f.0 e (sym same)), whole other.span.straddles) refl
    one (inr differ) = rw differ refl

pub rows_first : (event : Event) (events : List Event) → 0 < length events → event ≡ get_or events 0 event
    → AllByRecursion (IsEvent 65536) events → AreRising events
    → AllByRecursion (λ other. event.row ≤ other.row) events
rows_first event [] h e f g = absurd (omega arith)
rows_first event (first ∷ events) h e f g =
    rows_up event.row first events (let same : event.row ≡ first.row = ap (λ (other : Event). other.row) e in omega arith) f g

-- one event of the walk: what is told from the cursor on is its run, and what the others tell from there on
lt_or : (m n : ℕ) → (m < n) ⊎ (n ≤ m)
lt_or m zero = inr (omega arith)
lt_or zero (suc n) = inl (omega arith)
lt_or (suc m) (suc n) = elim (lt_or m n) [ inl f ↦ inl (omega arith) | inr f ↦ inr (omega arith) ]

le_yes : (a b : ℕ) → a ≤ b → nat_le a b ≡ true
le_yes a b e = grind (arith, nat_tests)

le_no : (a b : ℕ) → b < a → nat_le a b ≡ false
le_no a b e = grind (arith, nat_tests)

lt_no : (a b : ℕ) → b ≤ a → nat_lt a b ≡ false
lt_no a b e = grind (arith, nat_tests)

abbrev run_from : Bool → Bool → ℕ → ℕ → ℕ
run_from filled odd edge first = cond (filled && odd) edge (max edge first)

from_up : (filled odd : Bool) (edge first : ℕ) → edge ≤ run_from filled odd edge first
from_up true true edge first = omega arith
from_up true false edge first = omega arith
from_up false odd edge first = omega arith

from_most : (filled odd : Bool) (edge first x : ℕ) → edge ≤ x → first ≤ x → run_from filled odd edge first ≤ x
from_most true true edge first x e f = omega arith
from_most true false edge first x e f = omega arith
from_most false odd edge first x e f = omega arith

abbrev next_edge : ℕ → ℕ → ℕ → ℕ
next_edge from last edge = cond (nat_le from last) (last + 1) edge

-- west of the cursor
step_west : (edge from last x : ℕ) (told rest : Bool) → edge ≤ from → x < edge
    → (nat_le edge x && told) ≡ ((nat_le from x && nat_le x last) || (nat_le (next_edge from last edge) x && rest))
step_west edge from last x told rest e f =
    rw (le_no edge x f, le_no from x (omega arith), le_no (next_edge from last edge) x (further (lt_or last from))) refl
  where
    further : (last < from) ⊎ (from ≤ last) → x < next_edge from last edge
    further (inl g) = rw (le_no from last g) f
    further (inr g) = rw (le_yes from last g) (omega arith)

-- east of the event
step_east : (edge from first last x : ℕ) (a b filled : Bool) → first ≤ last → edge ≤ x → last < x
    → (nat_le edge x && (((nat_le first x && nat_le x last) || a) || (filled && b)))
    ≡ ((nat_le from x && nat_le x last) || (nat_le (next_edge from last edge) x && (a || (filled && b))))
step_east edge from first last x a b filled e f g =
    rw (le_yes edge x f, le_yes first x (omega arith), le_no x last g, le_yes (next_edge from last edge) x (near (lt_or last from)))
    (no_more (nat_le from x) (a || (filled && b)))
  where
    near : (last < from) ⊎ (from ≤ last) → next_edge from last edge ≤ x
    near (inl h) = rw (le_no from last h) f
    near (inr h) = rw (le_yes from last h) (omega arith)

    no_more : (p q : Bool) → q ≡ ((p && false) || q)
    no_more true q = refl
    no_more false q = refl

-- within it
step_within : (edge from first last x : ℕ) (a b : Bool) → edge ≤ x → from ≤ x → first ≤ x → x ≤ last
    → (nat_le edge x && (((nat_le first x && nat_le x last) || a) || b))
    ≡ ((nat_le from x && nat_le x last) || (nat_le (next_edge from last edge) x && (a || b)))
step_within edge from first last x a b e f g h = rw (le_yes edge x e, le_yes first x g, le_yes from x f, le_yes x last h) refl

-- and between the cursor and it
step_between : (edge first last x : ℕ) (filled odd b : Bool) → first ≤ last → edge ≤ x → x < first
    → (nat_le edge x && (((nat_le first x && nat_le x last) || false) || (filled && odd)))
    ≡ ((nat_le (run_from filled odd edge first) x && nat_le x last) ||
    (nat_le (next_edge (run_from filled odd edge first) last edge) x && (false || (filled && b))))
step_between edge first last x true true b e f g =
    rw (le_yes edge x f, le_no first x g, le_yes x last (omega arith)) refl
step_between edge first last x true false b e f g =
    rw (
      le_yes edge x f,
      le_no first x g,
      le_no (max edge first) x (omega arith),
      le_no (next_edge (max edge first) last edge) x (beyond (lt_or last (max edge first))),
    ) refl
  where
    beyond : (last < max edge first) ⊎ (max edge first ≤ last) → x < next_edge (max edge first) last edge
    beyond (inl h) = absurd (omega arith)
    beyond (inr h) = rw (le_yes (max edge first) last h) (omega arith)
step_between edge first last x false odd b e f g =
    rw (
      le_yes edge x f,
      le_no first x g,
      le_no (max edge first) x (omega arith),
      le_no (next_edge (max edge first) last edge) x (beyond (lt_or last (max edge first))),
    ) refl
  where
    beyond : (last < max edge first) ⊎ (max edge first ≤ last) → x < next_edge (max edge first) last edge
    beyond (inl h) = absurd (omega arith)
    beyond (inr h) = rw (le_yes (max edge first) last h) (omega arith)

pub early_odd : (row i : ℕ) (d : Event) (events : List Event) → i < length events → ((get_or events i d).row ≡ row → ⊥)
    → AllByRecursion (λ event. row ≤ event.row) events
    → AllByRecursion (IsEvent 65536) events → AreRising events → is_odd_row row (drop i events) ≡ false
early_odd row i d [] h other e f g = absurd (omega arith)
early_odd row zero d (event ∷ events) h other e f g =
    none_odd row (event ∷ events) (rows_up (row + 1) event events (above row event.row other e.0) f g)
  where
    above : (m n : ℕ) → (n ≡ m → ⊥) → m ≤ n → m + 1 ≤ n
    above m n e f = omega arith
early_odd row (suc i) d (event ∷ events) h other e f g = early_odd row i d events (omega arith) other e.1 f.1 g.1

pub told_odd : (odd rest all : Bool) → cond odd (not rest) rest ≡ all → rest ≡ false → odd ≡ all
told_odd true rest all e f = (rw f at e)
told_odd false rest all e f = (rw f at e)

pub stands_from : (filled : Bool) (cursor : Cursor) (event : Event) (mark : ℕ) → mark + cursor.edge ≤ mark + from_of filled cursor event
stands_from filled cursor event mark = let f = from_up filled cursor.odd cursor.edge event.span.first in omega arith

-- the walk goes to the row of the next event
pub told_at : (filled : Bool) (cursor here : Cursor) (event : Event) (events : List Event) (y x : ℕ) → here.row ≡ event.row
    → here.edge ≡ cond (event.row == cursor.row) cursor.edge 0 → AllByRecursion (λ other. cursor.row ≤ other.row) (event ∷ events)
    → AllByRecursion (IsEvent 65536) (event ∷ events) → AreRising (event ∷ events)
    → (is_open cursor y x && is_told filled (event ∷ events) y x) ≡ (is_open here y x && is_told filled (event ∷ events) y x)
told_at filled cursor here event events y x row edge up fit rising = elim (row_cases event.row cursor.row) [
  | inl same ↦ rw (row, edge, same, itself cursor.row) refl
  | inr differ ↦ rw (row, edge, differ) (moved differ (row_cases cursor.row y) (row_cases event.row y))
]
  where
    above : (m n : ℕ) → (n == m) ≡ false → m ≤ n → m + 1 ≤ n
    above m n e f = grind (arith, nat_tests)

    nothing_open : (p q : Bool) → (p && false) ≡ (q && false)
    nothing_open true true = refl
    nothing_open true false = refl
    nothing_open false true = refl
    nothing_open false false = refl

    moved : (event.row == cursor.row) ≡ false → (cursor.row ≡ y) ⊎ ((cursor.row == y) ≡ false)
        → (event.row ≡ y) ⊎ ((event.row == y) ≡ false)
        → (cond (cursor.row == y) (nat_le cursor.edge x) true && is_told filled (event ∷ events) y x)
        ≡ (cond (event.row == y) (nat_le 0 x) true && is_told filled (event ∷ events) y x)
    moved differ (inl here) other =
        let further : cursor.row + 1 ≤ event.row = above cursor.row event.row differ up.0 in
        let north : y + 1 ≤ event.row = omega arith in
        let none = none_told filled y x (event ∷ events) (rows_up (y + 1) event events north fit rising) in
        rw none (nothing_open (cond (cursor.row == y) (nat_le cursor.edge x) true) (cond (event.row == y) (nat_le 0 x) true))
    moved differ (inr gone) (inl there) = rw (gone, there, itself y, le_yes 0 x (omega arith)) refl
    moved differ (inr gone) (inr neither) = rw (gone, neither) refl

pub stands_at : (zoom row there edge edge_there mark : ℕ) → row ≤ there → edge ≤ 65536 → edge_there ≡ cond (there == row) edge 0
    → (zoom * 65536 + there) * 131072 + edge_there ≤ mark → (zoom * 65536 + row) * 131072 + edge ≤ mark
stands_at zoom row there edge edge_there mark e f g h = elim (row_cases there row) [
  | inl same ↦ (let i : edge_there ≡ edge = rw (same, itself row) at g in omega arith)
  | inr differ ↦ (let i : row + 1 ≤ there = above row there differ e in omega arith)
]
  where
    above : (m n : ℕ) → (n == m) ≡ false → m ≤ n → m + 1 ≤ n
    above m n e f = grind (arith, nat_tests)

-- one event of the walk
pub told_step : (filled : Bool) (here next : Cursor) (event : Event) (events : List Event) (y x : ℕ) → here.row ≡ event.row
    → here.odd ≡ is_odd_row event.row (event ∷ events)
    → next.row ≡ here.row → next.edge ≡ edge_after filled here event → IsEvent 65536 event
    → AllByRecursion (λ other. position_of event ≤ position_of other) events
    → (is_open here y x && is_told filled (event ∷ events) y x)
    ≡ (((here.row == y) && (nat_le (from_of filled here event) x && nat_le x event.span.last)) ||
    (is_open next y x && is_told filled events y x))
told_step filled here next event events y x row odd next_row edge fit up = elim (row_cases event.row y) [
  | inl same ↦ subst (λ (z : ℕ). (is_open here z x && is_told filled (event ∷ events) z x)
      ≡ (((here.row == z) && (nat_le (from_of filled here event) x && nat_le x event.span.last)) ||
      (is_open next z x && is_told filled events z x))) same own
  | inr differ ↦ rw (next_row, row, differ) refl
]
  where
    nothing : (n : ℕ) → 0 + n ≡ n
    nothing n = omega arith

    never : (straddles : Bool) → (straddles && false) ≡ false
    never true = refl
    never false = refl

    open_here : is_open here event.row x ≡ nat_le here.edge x
    open_here = rw (row, itself event.row) refl

    open_next : is_open next event.row x ≡ nat_le (edge_after filled here event) x
    open_next = rw (next_row, row, itself event.row, edge) refl

    is_row : (here.row == event.row) ≡ true
    is_row = rw row (itself event.row)

    between : here.edge ≤ x → x < event.span.first
        → (nat_le here.edge x && is_told filled (event ∷ events) event.row x)
        ≡ ((nat_le (from_of filled here event) x && nat_le x event.span.last) ||
        (nat_le (edge_after filled here event) x && is_told filled events event.row x))
    between ahead before =
        let counts : (count_by (is_beyond event.row x) (event ∷ events) % 2 == 1) ≡ here.odd =
        rw (all_beyond event (event ∷ events) x before (le_self (position_of event), up)) (sym odd) in
        rw (counts, itself event.row, none_west event events x before up)
        (step_between here.edge event.span.first event.span.last x filled here.odd
        (count_by (is_beyond event.row x) events % 2 == 1) fit.ordered ahead before)
      where
        le_self : (n : ℕ) → n ≤ n
        le_self n = omega arith

    in_row : (x < here.edge) ⊎ (here.edge ≤ x)
        → (nat_le here.edge x && is_told filled (event ∷ events) event.row x)
        ≡ ((nat_le (from_of filled here event) x && nat_le x event.span.last) ||
        (nat_le (edge_after filled here event) x && is_told filled events event.row x))
    in_row (inl west) = step_west here.edge (from_of filled here event) event.span.last x _ _
        (from_up filled here.odd here.edge event.span.first) west
    in_row (inr ahead) = elim (lt_or x event.span.first) [
      | inl before ↦ between ahead before
      | inr behind ↦ (
          let counts : (count_by (is_beyond event.row x) (event ∷ events) % 2 == 1) ≡ (count_by (is_beyond event.row x) events % 2 == 1) =
          rw (itself event.row, lt_no x event.span.first behind, never event.span.straddles) refl in
          elim (lt_or event.span.last x) [
            | inl past ↦ rw (counts, itself event.row)
                (step_east here.edge (from_of filled here event) event.span.first event.span.last x (list_any (is_at event.row x) events)
                (count_by (is_beyond event.row x) events % 2 == 1) filled
                fit.ordered ahead past)
            | inr within ↦ rw (counts, itself event.row)
                (step_within here.edge (from_of filled here event) event.span.first event.span.last x (list_any (is_at event.row x) events)
                (filled && (count_by (is_beyond event.row x) events % 2 == 1)) ahead
                (from_most filled here.odd here.edge event.span.first x ahead behind) behind within)
          ])
    ]

    own : (is_open here event.row x && is_told filled (event ∷ events) event.row x)
        ≡ (((here.row == event.row) && (nat_le (from_of filled here event) x && nat_le x event.span.last)) ||
        (is_open next event.row x && is_told filled events event.row x))
    own = rw (open_here, open_next, is_row) (in_row (lt_or x here.edge))

-- the walk goes on
gone_on : (has_old q r u t : Bool) → (has_old || (q && (r || u))) ≡ t → ((has_old || (q && r)) || (q && u)) ≡ t
gone_on true q r u t e = e
gone_on false true true u t e = e
gone_on false true false u t e = e
gone_on false false r u t e = e

pub told_on : (has_old has_new q r u opened here told_rest t : Bool) → has_new ≡ (has_old || (q && r))
    → (opened && told_rest) ≡ (here && told_rest) → (here && told_rest) ≡ (r || u)
    → (has_old || (q && (opened && told_rest))) ≡ t → (has_new || (q && u)) ≡ t
told_on has_old has_new q r u opened here told_rest t e f g h = rw e (gone_on has_old q r u t (rw (f, g) at h))

again : (a b c : Bool) → a ≡ cond b (not c) c → cond b (not a) a ≡ c
again a true true e = rw e refl
again a true false e = rw e refl
again a false c e = e

pub odd_on : (straddles odd_here odd_next : Bool) (event : Event) (events : List Event) → straddles ≡ event.span.straddles
    → odd_here ≡ is_odd_row event.row (event ∷ events)
    → odd_next ≡ cond straddles (not odd_here) odd_here → odd_next ≡ is_odd_row event.row events
odd_on straddles odd_here odd_next event events e f g =
    let h : odd_here ≡ cond straddles (not (is_odd_row event.row events)) (is_odd_row event.row events) =
    rw e (f ∙ odd_cons event.row event events ∙ rw (itself event.row) refl) in
    g ∙ again odd_here straddles (is_odd_row event.row events) h

pub rows_on : (row next_row : ℕ) (event : Event) (events : List Event) → next_row ≡ row → row ≡ event.row
    → AllByRecursion (IsEvent 65536) (event ∷ events) → AreRising (event ∷ events)
    → AllByRecursion (λ other. next_row ≤ other.row) events
rows_on row next_row event events e f g h = (rows_up next_row event events (omega arith) g h).1

pub edge_on : (filled : Bool) (here : Cursor) (event : Event) → here.edge ≤ 65536 → IsEvent 65536 event
    → edge_after filled here event ≤ 65536
edge_on filled here event e f = go (nat_le (from_of filled here event) event.span.last)
  where
    go : (test : Bool) → cond test (event.span.last + 1) here.edge ≤ 65536
    go true = let g = f.within in omega arith
    go false = e

pub edge_at : (row there edge edge_there : ℕ) → edge ≤ 65536 → edge_there ≡ cond (there == row) edge 0 → edge_there ≤ 65536
edge_at row there edge edge_there e f = go (there == row) f
  where
    go : (test : Bool) → edge_there ≡ cond test edge 0 → edge_there ≤ 65536
    go true g = omega arith
    go false g = omega arith

-- events of a zoom are events of the deepest one
pub events_fit : (columns : ℕ) (events : List Event) → columns ≤ 65536 → AllByRecursion (IsEvent columns) events
    → AllByRecursion (IsEvent 65536) events
events_fit columns [] e f = tt
events_fit columns (event ∷ events) e f = (
  let one = f.0 in record { row = let h = one.row in omega arith; ordered = one.ordered; within = let h = one.within in omega arith },
  events_fit columns events e f.1,
)

pub nothing_before : (events : List Event) → AllByRecursion (λ event. 0 ≤ event.row) events
nothing_before [] = tt
nothing_before (event ∷ events) = (omega arith, nothing_before events)

pub open_at_first : (y x : ℕ) (odd told_all : Bool) → ((cond (0 == y) (nat_le 0 x) true) && told_all) ≡ told_all
open_at_first y x odd told_all = rw (le_yes 0 x (omega arith)) (go (0 == y))
  where
    go : (test : Bool) → (cond test true true && told_all) ≡ told_all
    go true = refl
    go false = refl

pub next_at : {A : Type 0} (xs : List A) (i : ℕ) (d : A) → i < length xs → drop i xs ≡ get_or xs i d ∷ drop (i + 1) xs
next_at [] i d h = absurd (omega arith)
next_at (x ∷ xs) zero d h = refl
next_at (x ∷ xs) (suc i) d h = rw (more i) (next_at xs i d (omega arith))
  where
    more : (i : ℕ) → suc i + 1 ≡ suc (i + 1)
    more i = omega arith

-- rising events, by a sort
pub rising_from : (events : List Event) → IsNonDecreasingBy position_of events → AreRising events
rising_from [] e = tt
rising_from (event ∷ events) e = (
  recursion_from_All (λ other. position_of event ≤ position_of other) events (λ k d h. e 0 (suc k) d (omega arith) (omega arith)),
  rising_from events (λ i j d h k. e (suc i) (suc j) d (omega arith) (omega arith)),
)

pub any_count : {A : Type 0} (p : A → Bool) (xs : List A) → list_any p xs ≡ nat_lt 0 (count_by p xs)
any_count p [] = refl
any_count p (x ∷ xs) = rw (sum_by-cons, any_count p xs) (go (p x) (count_by p xs))
  where
    go : (b : Bool) (n : ℕ) → (b || nat_lt 0 n) ≡ nat_lt 0 (cond b 1 0 + n)
    go true n = grind (arith, nat_tests)
    go false n = grind (arith, nat_tests)

pub count_permuted : {A : Type 0} (p : A → Bool) (xs ys : List A) → IsPermutation xs ys → count_by p ys ≡ count_by p xs
count_permuted p xs ys h = sum_by-IsPermutation (λ x. cond (p x) 1 0) xs ys h

pub any_permuted : {A : Type 0} (p : A → Bool) (xs ys : List A) → IsPermutation xs ys → list_any p ys ≡ list_any p xs
any_permuted p xs ys h = any_count p ys ∙ ap (λ n. nat_lt 0 n) (count_permuted p xs ys h) ∙ sym (any_count p xs)

pub gains_permuted : (table : BoundsOf) (all : List Segment) (old new sorted : List Event) → IsPermutation new sorted
    → Gains table all old new → Gains table all old sorted
gains_permuted table all old new sorted h e = record {
  any = λ x y i j. any_permuted (is_at y x) new sorted h ∙ e.any x y i j;
  count = λ x y i j none. count_permuted (is_beyond y x) new sorted h
      ∙ e.count x y i j (sym (any_permuted (is_at y x) new sorted h) ∙ none);
}

pub each_permuted : (columns : ℕ) (events sorted : List Event) → IsPermutation events sorted → AllByRecursion (IsEvent columns) events
    → AllByRecursion (IsEvent columns) sorted
each_permuted columns events sorted h e =
    recursion_from_All (IsEvent columns) sorted
    (All-permutation (IsEvent columns) events sorted h (All-from_recursion (IsEvent columns) events e))

-- what is told is what is met
none_outside : (columns y x : ℕ) (events : List Event) → AllByRecursion (IsEvent columns) events → (columns ≤ x) ⊎ (columns ≤ y)
    → (list_any (is_at y x) events ≡ false) × (count_by (is_beyond y x) events ≡ 0)
none_outside columns y x [] e out = (refl, refl)
none_outside columns y x (event ∷ events) e out =
    let rest = none_outside columns y x events e.1 out in
    let one = apart out in
    (rw (one.0, rest.0) refl, rw (sum_by-cons, one.1, rest.1) refl)
  where
    second : (b : Bool) → (b && false) ≡ false
    second true = refl
    second false = refl

    apart : (columns ≤ x) ⊎ (columns ≤ y) → (is_at y x event ≡ false) × (is_beyond y x event ≡ false)
    apart (inl h) =
        let far : nat_le x event.span.last ≡ false = le_no x event.span.last (let i = e.0.within in omega arith) in
        let past : nat_lt x event.span.first ≡ false =
        lt_no x event.span.first (let i = e.0.within in let j = e.0.ordered in omega arith) in (
          rw (far, second (nat_le event.span.first x)) (second (event.row == y)),
          rw (past, second event.span.straddles) (second (event.row == y)),
        )
    apart (inr h) = rw (south event.row y (let i = e.0.row in omega arith)) (refl, refl)
      where
        south : (a b : ℕ) → a < b → (a == b) ≡ false
        south a b e = grind (arith, nat_tests)

pub told_met : (table : BoundsOf) (filled : Bool) (all : List Segment) (events : List Event) → Gains table all [] events
    → AllByRecursion (IsEvent (2 ^ table.zoom)) events
    → (x y : ℕ) → is_told filled events y x ≡
    ((nat_lt x (2 ^ table.zoom) && nat_lt y (2 ^ table.zoom)) && meets_box filled (tile_box table x y) all)
told_met table filled all events gains each x y = elim (lt_or x (2 ^ table.zoom)) [
  | inr out ↦ rw (
    (none_outside (2 ^ table.zoom) y x events each (inl out)).0,
    (none_outside (2 ^ table.zoom) y x events each (inl out)).1,
    lt_no x (2 ^ table.zoom) out,
  ) (never filled)
  | inl h ↦ elim (lt_or y (2 ^ table.zoom)) [
    | inr out ↦ rw (
      (none_outside (2 ^ table.zoom) y x events each (inr out)).0,
      (none_outside (2 ^ table.zoom) y x events each (inr out)).1,
      lt_no y (2 ^ table.zoom) out,
    )
        (never filled ∙ sym (never_both (nat_lt x (2 ^ table.zoom)) _))
    | inl i ↦ rw (lt_yes x (2 ^ table.zoom) h, lt_yes y (2 ^ table.zoom) i) (inside h i (list_any (is_at y x) events) refl)
  ]
]
  where
    never : (filled : Bool) → (filled && false) ≡ false
    never true = refl
    never false = refl

    never_both : (p q : Bool) → ((p && false) && q) ≡ false
    never_both true q = refl
    never_both false q = refl

    lt_yes : (a b : ℕ) → a < b → nat_lt a b ≡ true
    lt_yes a b e = grind (arith, nat_tests)

    inside : x < 2 ^ table.zoom → y < 2 ^ table.zoom → (any : Bool) → any ≡ list_any (is_at y x) events
        → is_told filled events y x ≡ meets_box filled (tile_box table x y) all
    inside h i true e = rw (← gains.any x y h i, ← e) refl
    inside h i false e = rw (gains.count x y h i (sym e), ← gains.any x y h i)
        (ap (λ n. list_any (is_at y x) events || (filled && (n % 2 == 1)))
        (nothing (count_by (crosses (north_west (tile_box table x y))) all)))
      where
        nothing : (n : ℕ) → 0 + n ≡ n
        nothing n = omega arith

pub covered : (table : BoundsOf) (geometry : Geometry) (mode : Mode) (filled : Bool) (events : List Event)
    → filled ≡ counts_filled geometry mode
    → Gains table (segments_of (2 ^ table.zoom) geometry) [] events → AllByRecursion (IsEvent (2 ^ table.zoom)) events
    → (zoom x y : ℕ) → ((table.zoom == zoom) && is_told filled events y x) ≡ is_covered table geometry mode zoom x y
covered table geometry mode filled events is gains each zoom x y =
    rw (told_met table filled (segments_of (2 ^ table.zoom) geometry) events gains each x y, is, turned_test table.zoom zoom) refl
