-- On which side of a segment that goes north places lie, as their longitude and latitude change.
use Rattle.std.proofs.Common.{◌≡◌, ℕ, ◌+◌, ◌*◌, ◌<◌, ◌≤◌, ◌-◌, zero, suc, arith, min, max, ◌⊎◌, inl, inr}
use Rattle.tile_cover.proofs.Sides.{one_sum, other_sum}

-- a segment from (A, a) to (B, b), a place (X, v), and whether it lies strictly west of the segment's line, or east
pub record IsWest (A a B b X v : ℕ) : Type 0 where
  pub sums : one_sum A a B b X v < other_sum A a B b X v

pub record IsEast (A a B b X v : ℕ) : Type 0 where
  pub sums : other_sum A a B b X v < one_sum A a B b X v

-- the greater with the greater is the most
rearranged : (A B v w : ℕ) → A ≤ B → v ≤ w → B * v + A * w ≤ B * w + A * v
rearranged A B v w e f =
    let g : B ≡ A + (B - A) = omega arith in
    let h : w ≡ v + (w - v) = omega arith in
    rw (g, h) (spread A (B - A) v (w - v))
  where
    spread : (A d v j : ℕ) → (A + d) * v + A * (v + j) ≤ (A + d) * (v + j) + A * v
    spread A d v j = omega arith

-- where the line leans east, and where it leans west
pub west_north : (A a B b X v w : ℕ) → A ≤ B → v ≤ w → IsWest A a B b X v → IsWest A a B b X w
west_north A a B b X v w e f g = let r = rearranged A B v w e f in let s = g.sums in record { sums = omega arith }

pub west_south : (A a B b X v w : ℕ) → B ≤ A → v ≤ w → IsWest A a B b X w → IsWest A a B b X v
west_south A a B b X v w e f g = let r = rearranged B A v w e f in let s = g.sums in record { sums = omega arith }

pub east_south : (A a B b X v w : ℕ) → A ≤ B → v ≤ w → IsEast A a B b X w → IsEast A a B b X v
east_south A a B b X v w e f g = let r = rearranged A B v w e f in let s = g.sums in record { sums = omega arith }

pub east_north : (A a B b X v w : ℕ) → B ≤ A → v ≤ w → IsEast A a B b X v → IsEast A a B b X w
east_north A a B b X v w e f g = let r = rearranged B A v w e f in let s = g.sums in record { sums = omega arith }

-- further west is west, and further east is east
pub west_west : (A a B b X Y v : ℕ) → a ≤ b → X ≤ Y → IsWest A a B b Y v → IsWest A a B b X v
west_west A a B b X Y v e f g = let r = rearranged X Y a b f e in let s = g.sums in record { sums = omega arith }

pub east_east : (A a B b X Y v : ℕ) → a ≤ b → X ≤ Y → IsEast A a B b X v → IsEast A a B b Y v
east_east A a B b X Y v e f g = let r = rearranged X Y a b f e in let s = g.sums in record { sums = omega arith }

-- the same of the ends
strictly : (X A a b : ℕ) → a < b → X < A → X * b + A * a < X * a + A * b
strictly X A a b e f =
    let g : A ≡ X + suc (A - suc X) = omega arith in
    let h : b ≡ a + suc (b - suc a) = omega arith in
    rw (g, h) (spread X (A - suc X) a (b - suc a))
  where
    spread : (X d a j : ℕ) → X * (a + suc j) + (X + suc d) * a < X * a + (X + suc d) * (a + suc j)
    spread X d a j = omega arith

pub west_start : (A a B b X : ℕ) → a < b → X < A → IsWest A a B b X a
west_start A a B b X e f = let r = strictly X A a b e f in record { sums = omega arith }

pub west_end : (A a B b X : ℕ) → a < b → X < B → IsWest A a B b X b
west_end A a B b X e f = let r = strictly X B a b e f in record { sums = omega arith }

pub east_start : (A a B b X : ℕ) → a < b → A < X → IsEast A a B b X a
east_start A a B b X e f = let r = strictly A X a b e f in record { sums = omega arith }

pub east_end : (A a B b X : ℕ) → a < b → B < X → IsEast A a B b X b
east_end A a B b X e f = let r = strictly B X a b e f in record { sums = omega arith }

pub start_west : (A a B b X : ℕ) → a ≤ b → IsWest A a B b X a → X < A
start_west A a B b X e f = below X A (λ g. let r = rearranged A X a b g e in let s = f.sums in omega arith)
  where
    below : (X A : ℕ) → (A ≤ X → ⊥) → X < A
    below X A g = omega arith

pub end_west : (A a B b X : ℕ) → a ≤ b → IsWest A a B b X b → X < B
end_west A a B b X e f = below X B (λ g. let r = rearranged B X a b g e in let s = f.sums in omega arith)
  where
    below : (X A : ℕ) → (A ≤ X → ⊥) → X < A
    below X A g = omega arith

pub start_east : (A a B b X : ℕ) → a ≤ b → IsEast A a B b X a → A < X
start_east A a B b X e f = below A X (λ g. let r = rearranged X A a b g e in let s = f.sums in omega arith)
  where
    below : (X A : ℕ) → (A ≤ X → ⊥) → X < A
    below X A g = omega arith

pub end_east : (A a B b X : ℕ) → a ≤ b → IsEast A a B b X b → B < X
end_east A a B b X e f = below B X (λ g. let r = rearranged X B a b g e in let s = f.sums in omega arith)
  where
    below : (X A : ℕ) → (A ≤ X → ⊥) → X < A
    below X A g = omega arith

-- at a latitude k above the start and m below the end, the line has the longitude (k * B + m * A) / (k + m)
west_sums : (A a B X k m : ℕ) → X * ((a + k) + m) + (B * a + A * (a + k)) < (X * a + A * ((a + k) + m)) + B * (a + k)
    → X * (k + m) < k * B + m * A
west_sums A a B X k m g = omega arith

sums_west : (A a B X k m : ℕ) → X * (k + m) < k * B + m * A
    → X * ((a + k) + m) + (B * a + A * (a + k)) < (X * a + A * ((a + k) + m)) + B * (a + k)
sums_west A a B X k m g = omega arith

east_sums : (A a B X k m : ℕ) → (X * a + A * ((a + k) + m)) + B * (a + k) < X * ((a + k) + m) + (B * a + A * (a + k))
    → k * B + m * A < X * (k + m)
east_sums A a B X k m g = omega arith

sums_east : (A a B X k m : ℕ) → k * B + m * A < X * (k + m)
    → (X * a + A * ((a + k) + m)) + B * (a + k) < X * ((a + k) + m) + (B * a + A * (a + k))
sums_east A a B X k m g = omega arith

pub west_at : (A a B b X v k m : ℕ) → v ≡ a + k → b ≡ (a + k) + m → IsWest A a B b X v → X * (k + m) < k * B + m * A
west_at A a B b X v k m e f g = west_sums A a B X k m (rw (e, f) at g.sums)

pub at_west : (A a B b X v k m : ℕ) → v ≡ a + k → b ≡ (a + k) + m → X * (k + m) < k * B + m * A → IsWest A a B b X v
at_west A a B b X v k m e f g = record { sums = rw (e, f) (sums_west A a B X k m g) }

pub east_at : (A a B b X v k m : ℕ) → v ≡ a + k → b ≡ (a + k) + m → IsEast A a B b X v → k * B + m * A < X * (k + m)
east_at A a B b X v k m e f g = east_sums A a B X k m (rw (e, f) at g.sums)

pub at_east : (A a B b X v k m : ℕ) → v ≡ a + k → b ≡ (a + k) + m → k * B + m * A < X * (k + m) → IsEast A a B b X v
at_east A a B b X v k m e f g = record { sums = rw (e, f) (sums_east A a B X k m g) }

-- a row from l to h that a segment from a to b reaches, and the part of the segment within it: from lo to hi
pub record IsPart (a b l h lo hi k m n o : ℕ) : Type 0 where
  pub climbs : a < b
  pub row : l ≤ h
  pub from_south : l ≤ b
  pub from_north : a ≤ h
  pub lo_is : lo ≡ max a l
  pub hi_is : hi ≡ min b h
  pub lo_up : lo ≡ a + k
  pub lo_down : b ≡ (a + k) + m
  pub hi_up : hi ≡ a + n
  pub hi_down : b ≡ (a + n) + o

pub le_or : (a l : ℕ) → (a ≤ l) ⊎ (l ≤ a)
le_or zero l = inl (omega arith)
le_or (suc a) zero = inr (omega arith)
le_or (suc a) (suc l) = elim (le_or a l) [ inl f ↦ inl (omega arith) | inr f ↦ inr (omega arith) ]

lo_cases : (a l lo : ℕ) → lo ≡ max a l → ((lo ≡ a) × (l ≤ a)) ⊎ ((lo ≡ l) × (a ≤ l))
lo_cases a l lo e = elim (le_or a l) [ inl f ↦ inr (omega arith, f) | inr f ↦ inl (omega arith, f) ]

hi_cases : (b h hi : ℕ) → hi ≡ min b h → ((hi ≡ b) × (b ≤ h)) ⊎ ((hi ≡ h) × (h ≤ b))
hi_cases b h hi e = elim (le_or b h) [ inl f ↦ inl (omega arith, f) | inr f ↦ inr (omega arith, f) ]

-- all of a tile's corners are west of a segment, or the tile is west of its ends, where its eastern side is west of the part
west_up : (A a B b l h lo Q : ℕ) → A ≤ B → a ≤ b → l ≤ h → ((lo ≡ a) × (l ≤ a)) ⊎ ((lo ≡ l) × (a ≤ l)) → IsWest A a B b Q lo
    → ((Q < A) × (Q < B)) ⊎ (IsWest A a B b Q l × IsWest A a B b Q h)
west_up A a B b l h lo Q e f g (inl (is, _)) w = let s = start_west A a B b Q f (rw is at w) in inl (s, omega arith)
west_up A a B b l h lo Q e f g (inr (is, _)) w = let s : IsWest A a B b Q l = rw is at w in inr (s, west_north A a B b Q l h e g s)

west_down : (A a B b l h hi Q : ℕ) → B ≤ A → a ≤ b → l ≤ h → ((hi ≡ b) × (b ≤ h)) ⊎ ((hi ≡ h) × (h ≤ b)) → IsWest A a B b Q hi
    → ((Q < A) × (Q < B)) ⊎ (IsWest A a B b Q l × IsWest A a B b Q h)
west_down A a B b l h hi Q e f g (inl (is, _)) w = let s = end_west A a B b Q f (rw is at w) in inl (omega arith, s)
west_down A a B b l h hi Q e f g (inr (is, _)) w = let s : IsWest A a B b Q h = rw is at w in inr (west_south A a B b Q l h e g s, s)

pub west_why : (A a B b l h lo hi k m n o Q : ℕ) → IsPart a b l h lo hi k m n o → Q * (k + m) < k * B + m * A → Q * (n + o) < n * B + o * A
    → ((Q < A) × (Q < B)) ⊎ (IsWest A a B b Q l × IsWest A a B b Q h)
west_why A a B b l h lo hi k m n o Q p e f =
    let up : a ≤ b = omega arith in
    elim (le_or A B) [
      | inl g ↦ west_up A a B b l h lo Q g up p.row (lo_cases a l lo p.lo_is) (at_west A a B b Q lo k m p.lo_up p.lo_down e)
      | inr g ↦ west_down A a B b l h hi Q g up p.row (hi_cases b h hi p.hi_is) (at_west A a B b Q hi n o p.hi_up p.hi_down f)
    ]

east_down : (A a B b l h lo P : ℕ) → B ≤ A → a ≤ b → l ≤ h → ((lo ≡ a) × (l ≤ a)) ⊎ ((lo ≡ l) × (a ≤ l)) → IsEast A a B b P lo
    → ((A < P) × (B < P)) ⊎ (IsEast A a B b P l × IsEast A a B b P h)
east_down A a B b l h lo P e f g (inl (is, _)) w = let s = start_east A a B b P f (rw is at w) in inl (s, omega arith)
east_down A a B b l h lo P e f g (inr (is, _)) w = let s : IsEast A a B b P l = rw is at w in inr (s, east_north A a B b P l h e g s)

east_up : (A a B b l h hi P : ℕ) → A ≤ B → a ≤ b → l ≤ h → ((hi ≡ b) × (b ≤ h)) ⊎ ((hi ≡ h) × (h ≤ b)) → IsEast A a B b P hi
    → ((A < P) × (B < P)) ⊎ (IsEast A a B b P l × IsEast A a B b P h)
east_up A a B b l h hi P e f g (inl (is, _)) w = let s = end_east A a B b P f (rw is at w) in inl (omega arith, s)
east_up A a B b l h hi P e f g (inr (is, _)) w = let s : IsEast A a B b P h = rw is at w in inr (east_south A a B b P l h e g s, s)

pub east_why : (A a B b l h lo hi k m n o P : ℕ) → IsPart a b l h lo hi k m n o → k * B + m * A < P * (k + m) → n * B + o * A < P * (n + o)
    → ((A < P) × (B < P)) ⊎ (IsEast A a B b P l × IsEast A a B b P h)
east_why A a B b l h lo hi k m n o P p e f =
    let up : a ≤ b = omega arith in
    elim (le_or A B) [
      | inl g ↦ east_up A a B b l h hi P g up p.row (hi_cases b h hi p.hi_is) (at_east A a B b P hi n o p.hi_up p.hi_down f)
      | inr g ↦ east_down A a B b l h lo P g up p.row (lo_cases a l lo p.lo_is) (at_east A a B b P lo k m p.lo_up p.lo_down e)
    ]

-- and the other way round
west_between : (A a B b l h v Q : ℕ) → a < b → a ≤ v → v ≤ b → l ≤ v → v ≤ h
    → ((Q < A) × (Q < B)) ⊎ (IsWest A a B b Q l × IsWest A a B b Q h) → IsWest A a B b Q v
west_between A a B b l h v Q up e f g i (inl (w, x)) = elim (le_or A B) [
  | inl j ↦ west_north A a B b Q a v j e (west_start A a B b Q up w)
  | inr j ↦ west_south A a B b Q v b j f (west_end A a B b Q up x)
]
west_between A a B b l h v Q up e f g i (inr (w, x)) = elim (le_or A B) [
  | inl j ↦ west_north A a B b Q l v j g w
  | inr j ↦ west_south A a B b Q v h j i x
]

pub west_part : (A a B b l h lo hi k m n o Q : ℕ) → IsPart a b l h lo hi k m n o
    → ((Q < A) × (Q < B)) ⊎ (IsWest A a B b Q l × IsWest A a B b Q h) → (Q * (k + m) < k * B + m * A) × (Q * (n + o) < n * B + o * A)
west_part A a B b l h lo hi k m n o Q p e = (
  west_at A a B b Q lo k m p.lo_up p.lo_down
      (west_between A a B b l h lo Q p.climbs (omega arith) (omega arith) (omega arith) (omega arith) e),
  west_at A a B b Q hi n o p.hi_up p.hi_down
      (west_between A a B b l h hi Q p.climbs (omega arith) (omega arith) (omega arith) (omega arith) e),
)

east_between : (A a B b l h v P : ℕ) → a < b → a ≤ v → v ≤ b → l ≤ v → v ≤ h
    → ((A < P) × (B < P)) ⊎ (IsEast A a B b P l × IsEast A a B b P h) → IsEast A a B b P v
east_between A a B b l h v P up e f g i (inl (w, x)) = elim (le_or A B) [
  | inl j ↦ east_south A a B b P v b j f (east_end A a B b P up x)
  | inr j ↦ east_north A a B b P a v j e (east_start A a B b P up w)
]
east_between A a B b l h v P up e f g i (inr (w, x)) = elim (le_or A B) [
  | inl j ↦ east_south A a B b P v h j i x
  | inr j ↦ east_north A a B b P l v j g w
]

pub east_part : (A a B b l h lo hi k m n o P : ℕ) → IsPart a b l h lo hi k m n o
    → ((A < P) × (B < P)) ⊎ (IsEast A a B b P l × IsEast A a B b P h) → (k * B + m * A < P * (k + m)) × (n * B + o * A < P * (n + o))
east_part A a B b l h lo hi k m n o P p e = (
  east_at A a B b P lo k m p.lo_up p.lo_down
      (east_between A a B b l h lo P p.climbs (omega arith) (omega arith) (omega arith) (omega arith) e),
  east_at A a B b P hi n o p.hi_up p.hi_down
      (east_between A a B b l h hi P p.climbs (omega arith) (omega arith) (omega arith) (omega arith) e),
)

-- a level segment: no row that it reaches lies wholly on one side of it
pub level_west : (A a B l h Q : ℕ) → l ≤ a → a ≤ h → IsWest A a B a Q l → IsWest A a B a Q h → ⊥
level_west A a B l h Q e f g i = elim (le_or A B) [
  | inl j ↦ let r = rearranged A B l a j e in let s = g.sums in omega arith
  | inr j ↦ let r = rearranged B A a h j f in let s = i.sums in omega arith
]

pub level_east : (A a B l h P : ℕ) → l ≤ a → a ≤ h → IsEast A a B a P l → IsEast A a B a P h → ⊥
level_east A a B l h P e f g i = elim (le_or A B) [
  | inl j ↦ let r = rearranged A B a h j f in let s = i.sums in omega arith
  | inr j ↦ let r = rearranged B A l a j e in let s = g.sums in omega arith
]
