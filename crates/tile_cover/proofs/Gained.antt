-- Events gain what segments meet.
use Rattle.std.proofs.Common.{◌≡◌, ℕ, ◌+◌, ◌*◌, ◌<◌, ◌≤◌, ◌^◌, ◌==◌, refl, sym, ◌∙◌, ap, arith, nat_lt, nat_le, ℤ, pos, ◌+ℤ◌, unsigned_abs}
use Rattle.std.proofs.Common.{int_le, Bool, true, false, cond, ◌&&◌, ◌||◌, List, [], ◌∷◌, ◌++◌, ◌⊎◌, inl, inr, Some, None, count_by}
use Rattle.std.specs.List.{list_any}
use Rattle.std.proofs.lemmas.Int.{ints}
use Rattle.std.proofs.lemmas.Bool.Decides.{nat_tests}
use Rattle.std.proofs.lemmas.List.Sums.{sum_by-append}
use Rattle.std.proofs.lemmas.List.Folds.{list_any-append}
use Rattle.lanes_geo.specs.Crossing.{Segment, crosses}
use Rattle.tile_cover.specs.declared.climb.Climb.{Climb}
use Rattle.tile_cover.specs.declared.events.Event.{Event}
use Rattle.tile_cover.specs.declared.span.Span.{Span}
use Rattle.tile_cover.specs.Table.{BoundsOf, IsTable, IsLatitude, boundary}
use Rattle.tile_cover.specs.Tile.{touches, north_west, tile_box}
use Rattle.tile_cover.specs.Span.{IsSame, Tells, covers, is_further, is_reached, lat_of, segment_of}
use Rattle.tile_cover.specs.Events.{is_at, is_beyond, Gains, GainsIn}
use Rattle.tile_cover.proofs.Touches.{touches_none}
use Rattle.tile_cover.proofs.Crossed.{crosses_none}
use Rattle.tile_cover.proofs.Rows.{all_at, falls, ordered}
use Rattle.tile_cover.proofs.Spans.{told, told_box}

-- tests and counts of lists put together
or_none : (a : Bool) → (a || false) ≡ a
or_none true = refl
or_none false = refl

pub any_push : {A : Type 0} (p : A → Bool) (xs : List A) (y : A) → list_any p (xs ++ y ∷ []) ≡ (list_any p xs || p y)
any_push p xs y = list_any-append p xs (y ∷ []) ∙ ap (λ b. list_any p xs || b) (or_none (p y))

pub count_push : {A : Type 0} (p : A → Bool) (xs : List A) (y : A) → count_by p (xs ++ y ∷ []) ≡ count_by p xs + cond (p y) 1 0
count_push p xs y = sum_by-append (λ x. cond (p x) 1 0) xs (y ∷ []) ∙ ap (λ n. count_by p xs + n) (nothing_more (cond (p y) 1 0))
  where
    nothing_more : (n : ℕ) → 0 + n ≡ n
    nothing_more n = omega arith

pub neither : (a b : Bool) → (a || b) ≡ false → (a ≡ false) × (b ≡ false)
neither true b e = absurd (cc)
neither false b e = (refl, e)

-- one row
pub row_cases : (m n : ℕ) → (m ≡ n) ⊎ ((m == n) ≡ false)
row_cases m n = go (m == n) refl
  where
    go : (test : Bool) → test ≡ (m == n) → (m ≡ n) ⊎ ((m == n) ≡ false)
    go true e = inl (grind (arith, nat_tests))
    go false e = inr (sym e)

pub itself : (n : ℕ) → (n == n) ≡ true
itself n = grind (arith, nat_tests)

pub turned_test : (m n : ℕ) → (m == n) ≡ (n == m)
turned_test m n = grind (arith, nat_tests)

one_any : (table : BoundsOf) (row y x : ℕ) (s : Segment) (span : Span) → touches (tile_box table x row) s ≡ covers x span
    → ((row == y) && covers x span) ≡ ((y == row) && touches (tile_box table x y) s)
one_any table row y x s span e = elim (row_cases y row) [
  | inl same ↦ rw (same, e) refl
  | inr other ↦ rw (turned_test row y, other) refl
]

one_count : (table : BoundsOf) (row y x : ℕ) (s : Segment) (span : Span) → Tells (tile_box table x row) x s (Some span)
    → ((row == y) && covers x span) ≡ false
    → cond ((row == y) && is_further x span) 1 0 ≡ cond {A = ℕ} ((y == row) && crosses (north_west (tile_box table x y)) s) 1 0
one_count table row y x s span e none = elim (row_cases y row) [
  | inl same ↦ (let f : ((row == row) && covers x span) ≡ false = rw same at none in
      let g : covers x span ≡ false = rw itself at f in
      rw (same, e.1 (e.0 ∙ g)) refl)
  | inr other ↦ rw (turned_test row y, other) refl
]

pub gained : (table : BoundsOf) (row : ℕ) (s : Segment) (old : List Event) (span : Span)
    → ((x : ℕ) → x < 2 ^ table.zoom → Tells (tile_box table x row) x s (Some span))
    → GainsIn table (λ other. other == row) s old (old ++ record { row = row; span = span } ∷ [])
gained table row s old span e =
    let event : Event = record { row = row; span = span } in
    record {
      any = λ x y h i. any_push (is_at y x) old event ∙ ap (λ b. list_any (is_at y x) old || b) (one_any table row y x s span (e x h).0);
      count = λ x y h i none.
          let parts = neither (list_any (is_at y x) old) (is_at y x event) (sym (any_push (is_at y x) old event) ∙ none) in
          count_push (is_beyond y x) old event ∙ ap (λ n. count_by (is_beyond y x) old + n)
          (one_count table row y x s span (e x h) parts.1);
    }

pub gained_none : (table : BoundsOf) (row : ℕ) (s : Segment) (old : List Event)
    → ((x : ℕ) → x < 2 ^ table.zoom → Tells (tile_box table x row) x s None)
    → GainsIn table (λ other. other == row) s old old
gained_none table row s old e = record {
  any = λ x y h i. sym (ap (λ b. list_any (is_at y x) old || b) (none_any x y h) ∙ or_none _);
  count = λ x y h i none. rw (none_count x y h) (omega arith);
}
  where
    none_any : (x y : ℕ) → x < 2 ^ table.zoom → ((y == row) && touches (tile_box table x y) s) ≡ false
    none_any x y h = elim (row_cases y row) [
      | inl same ↦ rw (same, (e x h).0, itself row) refl
      | inr other ↦ rw other refl
    ]

    none_count : (x y : ℕ) → x < 2 ^ table.zoom → ((y == row) && crosses (north_west (tile_box table x y)) s) ≡ false
    none_count x y h = elim (row_cases y row) [
      | inl same ↦ rw (same, (e x h).1, itself row) refl
      | inr other ↦ rw other refl
    ]

-- rows after one another
in_none : (from y : ℕ) → (nat_le from y && nat_lt y from) ≡ false
in_none from y = grind (arith, nat_tests)

pub gains_in_empty : (table : BoundsOf) (from : ℕ) (s : Segment) (old : List Event)
    → GainsIn table (λ y. nat_le from y && nat_lt y from) s old old
gains_in_empty table from s old = record {
  any = λ x y h i. sym (ap (λ b. list_any (is_at y x) old || (b && touches (tile_box table x y) s)) (in_none from y) ∙ or_none _);
  count = λ x y h i none. rw (in_none from y) (omega arith);
}

more_any : (from row y : ℕ) (a b : Bool) → from ≤ row
    → ((a || ((nat_le from y && nat_lt y row) && b)) || ((y == row) && b)) ≡ (a || ((nat_le from y && nat_lt y (row + 1)) && b))
more_any from row y true b e = refl
more_any from row y false true e = grind (arith, nat_tests)
more_any from row y false false e = grind (arith, nat_tests)

more_count : (from row y n : ℕ) (b : Bool) → from ≤ row
    → (n + cond ((nat_le from y && nat_lt y row) && b) 1 0) + cond ((y == row) && b) 1 0 ≡ n
    + cond ((nat_le from y && nat_lt y (row + 1)) && b) 1 0
more_count from row y n true e = grind (arith, nat_tests)
more_count from row y n false e = grind (arith, nat_tests)

pub gains_in_more : (table : BoundsOf) (from row : ℕ) (s : Segment) (old mid new : List Event) → from ≤ row
    → GainsIn table (λ y. nat_le from y && nat_lt y row) s old mid → GainsIn table (λ y. y == row) s mid new
    → GainsIn table (λ y. nat_le from y && nat_lt y (row + 1)) s old new
gains_in_more table from row s old mid new e f g = record {
  any = λ x y h i. g.any x y h i ∙ rw (f.any x y h i) (more_any from row y (list_any (is_at y x) old) (touches (tile_box table x y) s) e);
  count = λ x y h i none.
      let before = (neither _ _ (sym (g.any x y h i) ∙ none)).0 in
      g.count x y h i none ∙ rw (f.count x y h i before)
      (more_count from row y (count_by (is_beyond y x) old) (crosses (north_west (tile_box table x y)) s) e);
}

-- all rows that a segment reaches
pub shifted : (z : ℤ) → IsLatitude z → lat_of (unsigned_abs (z +ℤ pos 900000000)) ≡ z
shifted z e = let f = e.south in grind (arith, ints)

pub record Sides (table : BoundsOf) (row : ℕ) : Type 0 where
  pub south : ℕ
  pub north : ℕ
  pub south_is : lat_of south ≡ boundary table (row + 1)
  pub north_is : lat_of north ≡ boundary table row
  pub high : south ≤ north

pub sides_of : (table : BoundsOf) (row : ℕ) → IsTable table → row < 2 ^ table.zoom → Sides table row
sides_of table row t h =
    let long = t.whole in
    let south = shifted (boundary table (row + 1)) (all_at IsLatitude table.lats (row + 1) (pos 0) t.latitudes (omega arith)) in
    let north = shifted (boundary table row) (all_at IsLatitude table.lats row (pos 0) t.latitudes (omega arith)) in
    record {
      south = unsigned_abs (boundary table (row + 1) +ℤ pos 900000000);
      north = unsigned_abs (boundary table row +ℤ pos 900000000);
      south_is = south;
      north_is = north;
      high = ordered _ _ _ _ south north (falls table.lats row (pos 0) t.falling (omega arith));
    }

lat_order : (a b : ℕ) → int_le (lat_of a) (lat_of b) ≡ nat_le a b
lat_order a b = grind (arith, ints)

not_reached : (south north a b : ℕ) → (int_le (lat_of south) (lat_of b) && int_le (lat_of a) (lat_of north)) ≡ false
    → (b < south) ⊎ (north < a)
not_reached south north a b e = go (nat_le south b) (nat_le a north) refl refl (rw (lat_order south b, lat_order a north) at e)
  where
    go : (p q : Bool) → p ≡ nat_le south b → q ≡ nat_le a north → (p && q) ≡ false → (b < south) ⊎ (north < a)
    go false q f g h = inl (grind (arith, nat_tests))
    go true false f g h = inr (grind (arith, nat_tests))
    go true true f g h = absurd (cc)

pub reach_none : (table : BoundsOf) (row x : ℕ) (climb : Climb) → IsTable table → row < 2 ^ table.zoom → climb.south ≤ climb.north
    → is_reached table climb row ≡ false
    → (touches (tile_box table x row) (segment_of climb) ≡ false) × (crosses (north_west (tile_box table x row)) (segment_of climb) ≡ false)
reach_none table row x climb t h up none =
    let sides = sides_of table row t h in
    let outside = not_reached sides.south sides.north climb.south climb.north (rw (sides.south_is, sides.north_is) none) in
    rw (← sides.south_is, ← sides.north_is) (
      touches_none (segment_of climb) _ climb.start climb.south climb.end climb.north (x * 3600000000)
          ((x + 1) * 3600000000) sides.south sides.north (told climb) (told_box sides.south sides.north x sides.high) up outside,
      crosses_none (segment_of climb) _ climb.start climb.south climb.end climb.north (x * 3600000000) sides.north (told climb)
          (record { lon = refl; lat = refl }) up
          (elim outside [ inl f ↦ inl (let g = sides.high in omega arith) | inr f ↦ inr f ]),
    )

pub gains_in_all : (table : BoundsOf) (from to : ℕ) (s : Segment) (climb : Climb) (old new : List Event) → IsTable table
    → climb.south ≤ climb.north → IsSame s climb
    → ((row : ℕ) → row < 2 ^ table.zoom → (nat_le from row && nat_lt row to) ≡ is_reached table climb row)
    → GainsIn table (λ y. nat_le from y && nat_lt y to) (segment_of climb) old new → Gains table (s ∷ []) old new
gains_in_all table from to s climb old new t up same reached gains = record {
  any = λ x y h i. gains.any x y h i ∙ ap (λ b. list_any (is_at y x) old || b) (whole_any x y i);
  count = λ x y h i none. gains.count x y h i none ∙ ap (λ n. count_by (is_beyond y x) old + n) (whole_count x y i);
}
  where
    touch_same : (x y : ℕ) → y < 2 ^ table.zoom → touches (tile_box table x y) s ≡ touches (tile_box table x y) (segment_of climb)
    touch_same x y i = let sides = sides_of table y t i in
        rw (← sides.south_is, ← sides.north_is) (same.touch sides.south sides.north x sides.high)

    cross_same : (x y : ℕ) → y < 2 ^ table.zoom
        → crosses (north_west (tile_box table x y)) s ≡ crosses (north_west (tile_box table x y)) (segment_of climb)
    cross_same x y i = let sides = sides_of table y t i in rw (← sides.north_is) (same.cross sides.south sides.north x)

    whole_any : (x y : ℕ) → y < 2 ^ table.zoom
        → ((nat_le from y && nat_lt y to) && touches (tile_box table x y) (segment_of climb))
        ≡ list_any (touches (tile_box table x y)) (s ∷ [])
    whole_any x y i = rw (reached y i, touch_same x y i) (picked (is_reached table climb y) refl)
      where
        picked : (test : Bool) → test ≡ is_reached table climb y
            → (test && touches (tile_box table x y) (segment_of climb)) ≡ (touches (tile_box table x y) (segment_of climb) || false)
        picked true e = sym (or_none _)
        picked false e = rw (reach_none table y x climb t i up (sym e)).0 refl

    whole_count : (x y : ℕ) → y < 2 ^ table.zoom
        → cond {A = ℕ} ((nat_le from y && nat_lt y to) && crosses (north_west (tile_box table x y)) (segment_of climb)) 1 0
        ≡ count_by (crosses (north_west (tile_box table x y))) (s ∷ [])
    whole_count x y i = rw (reached y i, cross_same x y i) (picked (is_reached table climb y) refl)
      where
        picked : (test : Bool) → test ≡ is_reached table climb y
            → cond {A = ℕ} (test && crosses (north_west (tile_box table x y)) (segment_of climb)) 1 0 ≡ 0
            + cond (crosses (north_west (tile_box table x y)) (segment_of climb)) 1 0
        picked true e = omega arith
        picked false e = rw (reach_none table y x climb t i up (sym e)).1 refl
