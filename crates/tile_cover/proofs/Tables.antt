-- The lines of a table, one after the other.
use Rattle.std.proofs.Common.{◌≡◌, ◌≢◌, ℕ, ◌+◌, ◌<◌, ◌≤◌, ◌^◌, suc, refl, sym, ◌∙◌, ap, arith, ℤ, pos, ◌≤ℤ◌, ◌<ℤ◌, Bool, true, false, List}
use Rattle.std.proofs.Common.{[], ◌∷◌, ◌++◌, length, length-append, append_assoc, drop, Some, None}
use Rattle.std.specs.List.{AllByRecursion}
use Rattle.std.proofs.lemmas.Int.{ints}
use Rattle.opl_lines.specs.Lines.{lines_of}
use Rattle.opl_lines.proofs.LineLemmas.{lines_of-none, lines_of-ended, lines_of-last, lines_of-some}
use Rattle.opl_lines.specs.Steps.{IsFront}
use Rattle.tile_cover.specs.Table.{IsTable, IsLatitude, AreFalling}
use Rattle.tile_cover.specs.Boundaries.{lats_from, lats_of, is_south, lat_of_line, IsTableOf, IsBadLine}
use Rattle.tile_cover.specs.Boundaries.{Breaks, TooMany, WrongCount}

-- the first line of bytes
pub cut_ended : (bytes front : List ℕ) (ends : Bool) → IsFront bytes front ends → ends ≡ true
    → lines_of bytes ≡ front ∷ lines_of (drop (length front + 1) bytes)
cut_ended bytes front true cut e = ap lines_of cut.parts ∙ lines_of-ended front (drop (length front + 1) bytes) cut.within_line
cut_ended bytes front false cut e = absurd (cc)

no_more : (xs : List ℕ) → xs ++ [] ≡ xs
no_more [] = refl
no_more (x ∷ xs) = ap (λ ys. x ∷ ys) (no_more xs)

pub cut_last : (bytes front : List ℕ) (ends : Bool) → IsFront bytes front ends → ends ≡ false → 0 < length bytes
    → lines_of bytes ≡ front ∷ lines_of []
cut_last bytes front true cut e some = absurd (cc)
cut_last bytes front false cut e some =
    let same : bytes ≡ front = cut.parts ∙ no_more front in
    rw (same, lines_of-none) (lines_of-last front cut.within_line (rw (← same) some))

pub cut_shorter : (bytes front : List ℕ) (ends : Bool) → IsFront bytes front ends → ends ≡ true → length bytes ≤ length front → ⊥
cut_shorter bytes front true cut e h =
    let long : length bytes ≡ length front + suc (length (drop (length front + 1) bytes)) = ap length cut.parts ∙ length-append front _ in
    omega arith
cut_shorter bytes front false cut e h = cc

-- what is read, and then what is left
pub record IsRead (bytes : List ℕ) (lats : List ℤ) (before : ℤ) (rest : List ℕ) : Type 0 where
  pub long : length lats ≤ 65537
  pub each : AllByRecursion IsLatitude lats
  pub falling : AreFalling lats
  pub south : AllByRecursion (λ lat. before ≤ℤ lat) lats
  pub all : lats_of (lines_of bytes) ≡ lats ++ lats_from before (lines_of rest)
  pub count : length (lines_of bytes) ≡ length lats + length (lines_of rest)

each_more : (P : ℤ → Type 0) (xs : List ℤ) (x : ℤ) → AllByRecursion P xs → P x → AllByRecursion P (xs ++ x ∷ [])
each_more P [] x e f = (f, tt)
each_more P (y ∷ xs) x e f = (e.0, each_more P xs x e.1 f)

falling_more : (before : ℤ) (xs : List ℤ) (x : ℤ) → AreFalling xs → AllByRecursion (λ lat. before ≤ℤ lat) xs → x <ℤ before
    → AreFalling (xs ++ x ∷ [])
falling_more before [] x e f g = (tt, tt)
falling_more before (y ∷ xs) x e f g = (each_more (λ next. next <ℤ y) xs x e.0 (below x before y g f.0), falling_more before xs x e.1 f.1 g)
  where
    below : (x y z : ℤ) → x <ℤ y → y ≤ℤ z → x <ℤ z
    below x y z e f = grind (arith, ints)

all_below : (before x : ℤ) (xs : List ℤ) → x <ℤ before → AllByRecursion (λ lat. before ≤ℤ lat) xs → AllByRecursion (λ lat. x ≤ℤ lat) xs
all_below before x [] e f = tt
all_below before x (y ∷ xs) e f = (below x before y e f.0, all_below before x xs e f.1)
  where
    below : (x y z : ℤ) → x <ℤ y → y ≤ℤ z → x ≤ℤ z
    below x y z e f = grind (arith, ints)

itself_below : (x : ℤ) → x ≤ℤ x
itself_below x = grind (arith, ints)

pub nothing_read : (bytes : List ℕ) → IsRead bytes [] (pos 900000001) bytes
nothing_read bytes = record {
  long = omega arith;
  each = tt;
  falling = tt;
  south = tt;
  all = refl;
  count =
      nothing (length (lines_of bytes));
}
  where
    nothing : (n : ℕ) → n ≡ 0 + n
    nothing n = omega arith

pub one_read : (bytes rest line after : List ℕ) (lats : List ℤ) (before lat : ℤ) → IsRead bytes lats before rest
    → lines_of rest ≡ line ∷ lines_of after
    → is_south before (lat_of_line line) ≡ Some lat → IsLatitude lat → lat <ℤ before → (length lats ≡ 65537 → ⊥)
    → IsRead bytes (lats ++ lat ∷ []) lat after
one_read bytes rest line after lats before lat e cut is good south room = record {
  long = let long = e.long in rw (length-append lats (lat ∷ [])) (omega arith);
  each = each_more IsLatitude lats lat e.each good;
  falling = falling_more before lats lat e.falling e.south south;
  south = each_more (λ other. lat ≤ℤ other) lats lat (all_below before lat lats south e.south) (itself_below lat);
  all = e.all ∙ rw (cut, is) (sym (append_assoc lats (lat ∷ []) (lats_from lat (lines_of after))));
  count = e.count ∙ rw (cut, length-append lats (lat ∷ [])) (more (length lats) (length (lines_of after)));
}
  where
    more : (m n : ℕ) → m + suc n ≡ (m + 1) + n
    more m n = omega arith

pub breaks : (bytes rest line after : List ℕ) (lats : List ℤ) (before : ℤ) → IsRead bytes lats before rest
    → lines_of rest ≡ line ∷ lines_of after
    → is_south before (lat_of_line line) ≡ None → (length lats ≡ 65537 → ⊥) → IsBadLine (lines_of bytes) (length lats + 1)
breaks bytes rest line after lats before e cut is room =
    let good : length (lats_of (lines_of bytes)) ≡ length lats =
    ap length e.all ∙ rw (cut, is) (length-append lats [] ∙ none (length lats)) in
    let count : length (lines_of bytes) ≡ length lats + suc (length (lines_of after)) = e.count ∙ rw cut refl in
    let long = e.long in
    Breaks (omega arith) (ap (λ n. n + 1) (sym good))
  where
    none : (n : ℕ) → n + 0 ≡ n
    none n = omega arith

pub too_many : (bytes rest : List ℕ) (lats : List ℤ) (before : ℤ) → IsRead bytes lats before rest → 0 < length rest → length lats ≡ 65537
    → IsBadLine (lines_of bytes) (length lats + 1)
too_many bytes rest lats before e some full =
    let more = lines_of-some rest some in
    let good : length (lats_of (lines_of bytes)) ≡ length lats + length (lats_from before (lines_of rest)) =
    ap length e.all ∙ length-append lats _ in
    let count = e.count in
    TooMany (omega arith) (omega arith) (omega arith)

pub record IsAllRead (bytes : List ℕ) (lats : List ℤ) : Type 0 where
  pub long : length lats ≤ 65537
  pub each : AllByRecursion IsLatitude lats
  pub falling : AreFalling lats
  pub all : lats_of (lines_of bytes) ≡ lats
  pub count : length (lines_of bytes) ≡ length lats

no_more_lats : (xs : List ℤ) → xs ++ [] ≡ xs
no_more_lats [] = refl
no_more_lats (x ∷ xs) = ap (λ ys. x ∷ ys) (no_more_lats xs)

pub all_read : (bytes rest : List ℕ) (lats : List ℤ) (before : ℤ) → IsRead bytes lats before rest → length rest ≤ 0 → IsAllRead bytes lats
all_read bytes [] lats before e h = record {
  long = e.long;
  each = e.each;
  falling = e.falling;
  all = e.all ∙ rw lines_of-none (no_more_lats lats);
  count = e.count ∙ rw lines_of-none (none (length lats));
}
  where
    none : (n : ℕ) → n + 0 ≡ n
    none n = omega arith
all_read bytes (byte ∷ rest) lats before e h = absurd (omega arith)

pub wrong_count : (bytes : List ℕ) (lats : List ℤ) → IsAllRead bytes lats → ((zoom : ℕ) → zoom ≤ 16 → length lats ≢ 2 ^ zoom + 1)
    → IsBadLine (lines_of bytes) (length lats + 1)
wrong_count bytes lats e none =
    WrongCount (ap length e.all ∙ sym e.count) (let long = e.long in let count = e.count in omega arith)
    (λ zoom h same. none zoom h (sym e.count ∙ same)) (ap (λ n. n + 1) (sym e.count))

pub table_read : (bytes : List ℕ) (lats : List ℤ) (zoom : ℕ) → IsAllRead bytes lats → zoom ≤ 16 → length lats ≡ 2 ^ zoom + 1
    → IsTable (record { zoom = zoom; lats = lats }) × IsTableOf (lines_of bytes) zoom
table_read bytes lats zoom e shallow whole = (
  record { shallow = shallow; whole = whole; latitudes = e.each; falling = e.falling },
  record { good = ap length e.all ∙ sym e.count; shallow = shallow; whole = e.count ∙ whole },
)
