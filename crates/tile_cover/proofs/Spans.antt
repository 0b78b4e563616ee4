-- What the columns of a segment in a row tell of each tile of the row.
use Rattle.std.proofs.Common.{◌≡◌, ℕ, ◌+◌, ◌*◌, ◌<◌, ◌≤◌, refl, sym, ◌∙◌, ap, arith, nat_lt, nat_le, min, max, Bool, true, false, ◌&&◌, inl}
use Rattle.std.proofs.Common.{Some}
use Rattle.std.proofs.lemmas.Bool.Decides.{nat_tests}
use Rattle.std.proofs.lemmas.Nat.{mul-le}
use Rattle.osm_base.specs.declared.values.place.GeoBox.{GeoBox}
use Rattle.lanes_geo.specs.Crossing.{Segment, crosses}
use Rattle.tile_cover.specs.declared.climb.Climb.{Climb}
use Rattle.tile_cover.specs.declared.span.Span.{Span}
use Rattle.tile_cover.specs.Tile.{touches, north_west, box_between}
use Rattle.tile_cover.specs.Span.{IsSame, Tells, is_further, lat_of, segment_of}
use Rattle.tile_cover.proofs.Sides.{IsTold}
use Rattle.tile_cover.proofs.Parts.{IsPart, at_west, west_at}
use Rattle.tile_cover.proofs.Touches.{IsToldBox, same_tests, true_lt, lt_true, true_le, at_most, touches_part, north_west_told}
use Rattle.tile_cover.proofs.Touches.{west_of_test, test_of_west}
use Rattle.tile_cover.proofs.Crossed.{crosses_none, crosses_through}
use Rattle.tile_cover.proofs.Turned.{turned, touches_turned, crosses_turned}

pub told : (climb : Climb) → IsTold (segment_of climb) climb.start climb.south climb.end climb.north
told climb = record { start_lon = refl; start_lat = refl; end_lon = refl; end_lat = refl }

pub told_box : (l h x : ℕ) → l ≤ h → IsToldBox (box_between (lat_of l) (lat_of h) x) (x * 3600000000) ((x + 1) * 3600000000) l h
told_box l h x e = record { west = refl; east = refl; south = refl; north = refl; wide = omega arith; high = e }

-- a segment from its end to its start
pub same_climb : (s : Segment) (climb : Climb) → segment_of climb ≡ s → IsSame s climb
same_climb s climb e = rw (← e) (record { touch = λ south north x f. refl; cross = λ south north x. refl })

pub turned_climb : (s : Segment) (climb : Climb) → segment_of climb ≡ turned s → IsSame s climb
turned_climb s climb e =
    let f : s ≡ turned (segment_of climb) = ap turned (sym e) in
    rw f (record {
      touch = λ south north x g. touches_turned (segment_of climb) _ climb.start climb.south climb.end climb.north _ _ south north
          (told climb) (told_box south north x g);
      cross = λ south north x. crosses_turned (segment_of climb) _ climb.start climb.south climb.end climb.north (x * 3600000000) north
          (told climb) (record { lon = refl; lat = refl });
    })

not_le : (x y : ℕ) → nat_le x y ≡ false → y < x
not_le x y e = grind (arith, nat_tests)

le_not : (x y : ℕ) → y < x → nat_le x y ≡ false
le_not x y e = grind (arith, nat_tests)

mul_up : (P Q H : ℕ) → P ≤ Q → P * H ≤ Q * H
mul_up P Q H e = mul-le P H Q H e (omega arith)

-- a row whose northern side a segment goes through
pub further : (s : Segment) (box : GeoBox) (A a B b P Q l h n o H C D first x : ℕ) → IsTold s A a B b → IsToldBox box P Q l h → a ≤ h
    → h < b
    → h ≡ a + n → b ≡ (a + n) + o → n + o ≡ H → D ≡ n * B + o * A
    → touches box s ≡ (nat_le (min C D) (Q * H) && nat_le (P * H) (max C D)) → nat_le first x ≡ nat_le (min C D) (Q * H)
    → touches box s ≡ false → crosses (north_west box) s ≡ nat_lt x first
further s box A a B b P Q l h n o H C D first x e t south north up down sum d_is touch first_is none =
    let corner = north_west_told box P Q l h t in
    let product : P * H ≤ Q * H = mul_up P Q H t.wide in
    crosses_through s (north_west box) A a B b P h e corner south north ∙ same_tests _ _
    (λ f. let west = west_of_test s (north_west box) A a B b P h e corner f in
    let below : P * H < D = rw (d_is, ← sum) (west_at A a B b P h n o up down west) in
    let high : nat_le (P * H) (max C D) ≡ true = true_le _ _ (omega arith) in
    let low : nat_le (min C D) (Q * H) ≡ false = second (nat_le (min C D) (Q * H)) (nat_le (P * H) (max C D)) high (sym touch ∙ none) in
    true_lt x first (not_le first x (first_is ∙ low)))
    (λ f. let below : x < first = lt_true x first f in
    let low : Q * H < min C D = not_le _ _ (sym first_is ∙ le_not first x below) in
    let under : P * H < D = omega arith in
    test_of_west s (north_west box) A a B b P h e corner (at_west A a B b P h n o up down (rw (sum, ← d_is) under)))
  where
    second : (p q : Bool) → q ≡ true → (p && q) ≡ false → p ≡ false
    second true q f g = sym f ∙ g
    second false q f g = refl

pub tells_part : (climb : Climb) (span : Span) (l h x lo hi k m n o H : ℕ) → l ≤ h → IsPart climb.south climb.north l h lo hi k m n o
    → k + m ≡ H → n + o ≡ H
    → nat_le span.first x ≡ nat_le (min (k * climb.end + m * climb.start) (n * climb.end + o * climb.start)) (((x + 1) * 3600000000) * H)
    → nat_le x span.last ≡ nat_le ((x * 3600000000) * H) (max (k * climb.end + m * climb.start) (n * climb.end + o * climb.start))
    → span.straddles ≡ nat_lt h climb.north
    → Tells (box_between (lat_of l) (lat_of h) x) x (segment_of climb) (Some span)
tells_part climb span l h x lo hi k m n o H row p one other first last through =
    let s = segment_of climb in
    let box = box_between (lat_of l) (lat_of h) x in
    let t = told_box l h x row in
    let touch = touches_part s box climb.start climb.south climb.end climb.north (x * 3600000000) ((x + 1) * 3600000000) l h lo hi k m n o H
    (told climb) t p one other in
    (touch ∙ rw (first, last) refl, λ none. crossed (nat_lt h climb.north) refl touch none)
  where
    crossed : (test : Bool) → test ≡ nat_lt h climb.north
        → touches (box_between (lat_of l) (lat_of h) x) (segment_of climb)
        ≡ (nat_le (min (k * climb.end + m * climb.start) (n * climb.end + o * climb.start)) (((x + 1) * 3600000000) * H)
        && nat_le ((x * 3600000000) * H) (max (k * climb.end + m * climb.start) (n * climb.end + o * climb.start)))
        → touches (box_between (lat_of l) (lat_of h) x) (segment_of climb) ≡ false
        → crosses (north_west (box_between (lat_of l) (lat_of h) x)) (segment_of climb) ≡ is_further x span
    crossed true is touch none =
        let up : h < climb.north = lt_true h climb.north (sym is) in
        let hi_is : hi ≡ h = let i = p.hi_is in omega arith in
        rw (through, ← is) (further (segment_of climb) (box_between (lat_of l) (lat_of h) x) climb.start climb.south climb.end climb.north
        (x * 3600000000) ((x + 1) * 3600000000) l h n o H
        (k * climb.end + m * climb.start) (n * climb.end + o * climb.start) span.first x (told climb) (told_box l h x row) p.from_north up
        (sym hi_is ∙ p.hi_up) p.hi_down other refl touch first none)
    crossed false is touch none =
        let down : climb.north ≤ h = at_most _ _ (λ g. let f = true_lt _ _ g in cc) in
        let climbs : climb.south ≤ climb.north = let c = p.climbs in omega arith in
        rw (through, ← is) (crosses_none (segment_of climb)
        (north_west (box_between (lat_of l) (lat_of h) x)) climb.start climb.south climb.end climb.north (x * 3600000000) h
        (told climb) (record { lon = refl; lat = refl }) climbs (inl down))

-- the longitude of a part is one of the world
pub within_world : (A B M k m H : ℕ) → A ≤ M → B ≤ M → k + m ≡ H → k * B + m * A ≤ M * H
within_world A B M k m H e f sum =
    let g : k * B ≤ k * M = mul-le k B k M (omega arith) f in
    let h : m * A ≤ m * M = mul-le m A m M (omega arith) e in
    rw (← sum) (joined_runs k m M (k * B) (m * A) g h)
  where
    joined_runs : (k m M x y : ℕ) → x ≤ k * M → y ≤ m * M → x + y ≤ M * (k + m)
    joined_runs k m M x y e f = omega arith
