-- A set of tiles with the runs of another one put between its own.
use Rattle.std.proofs.Common.{◌≡◌, ℕ, ◌+◌, ◌<◌, ◌≤◌, suc, zero, refl, sym, ap, subst, ◌∙◌, arith, Bool, true, false, ◌||◌, ◌⊎◌, inl, inr}
use Rattle.std.proofs.Common.{List, [], ◌∷◌, ◌++◌, length, take, drop, get_or, nat_le, nat_lt}
use Rattle.std.specs.List.{AllByRecursion, splice}
use Rattle.std.specs.List.Sorted.{IsPartitionedBy}
use Rattle.std.proofs.lemmas.Bool.Decides.{nat_tests}
use Rattle.std.proofs.Math.Seq.{drop-nil}
use Rattle.std.proofs.lemmas.List.{take-append-drop}
use Rattle.std.proofs.lemmas.List.Folds.{list_any-append}
use Rattle.tile_cover.specs.declared.runs.Run.{Run}
use Rattle.tile_cover.specs.Runs.{IsRun, IsTileSet, AreApart, Follows, start_of, end_of, holds, has}
use Rattle.due_tiles.proofs.Merging.{each}
use Rattle.due_tiles.proofs.Same.{all_missed, has_own}

-- facts of all of two lists
pub all_append : (P : Run → Type 0) (xs ys : List Run) → AllByRecursion P xs → AllByRecursion P ys → AllByRecursion P (xs ++ ys)
all_append P [] ys e f = f
all_append P (x ∷ xs) ys e f = (e.0, all_append P xs ys e.1 f)

all_front : (P : Run → Type 0) (xs ys : List Run) → AllByRecursion P (xs ++ ys) → AllByRecursion P xs
all_front P [] ys e = tt
all_front P (x ∷ xs) ys e = (e.0, all_front P xs ys e.1)

all_back : (P : Run → Type 0) (xs ys : List Run) → AllByRecursion P (xs ++ ys) → AllByRecursion P ys
all_back P [] ys e = e
all_back P (x ∷ xs) ys e = all_back P xs ys e.1

apart_front : (xs ys : List Run) → AreApart (xs ++ ys) → AreApart xs
apart_front [] ys e = tt
apart_front (x ∷ xs) ys e = (all_front (Follows x) xs ys e.0, apart_front xs ys e.1)

apart_back : (xs ys : List Run) → AreApart (xs ++ ys) → AreApart ys
apart_back [] ys e = e
apart_back (x ∷ xs) ys e = apart_back xs ys e.1

-- each of one list is followed by each of another
abbrev Precede : List Run → List Run → Type 0
Precede xs ys = AllByRecursion (λ x. AllByRecursion (Follows x) ys) xs

apart_between : (xs ys : List Run) → AreApart (xs ++ ys) → Precede xs ys
apart_between [] ys e = tt
apart_between (x ∷ xs) ys e = (all_back (Follows x) xs ys e.0, apart_between xs ys e.1)

apart_append : (xs ys : List Run) → AreApart xs → AreApart ys → Precede xs ys → AreApart (xs ++ ys)
apart_append [] ys e f g = f
apart_append (x ∷ xs) ys e f g = (all_append (Follows x) xs ys e.0 g.0, apart_append xs ys e.1 f g.1)

pub front_set : (xs ys : List Run) → IsTileSet (xs ++ ys) → IsTileSet xs
front_set xs ys set = record { each = all_front IsRun xs ys set.each; apart = apart_front xs ys set.apart }

pub back_set : (xs ys : List Run) → IsTileSet (xs ++ ys) → IsTileSet ys
back_set xs ys set = record { each = all_back IsRun xs ys set.each; apart = apart_back xs ys set.apart }

-- runs with the tiles of two lists begin and end where runs of those do
record AreTogether (both left right : List Run) : Type 0 where
  each : AllByRecursion IsRun both
  tiles : (zoom x y : ℕ) → has both zoom x y ≡ true → (has left zoom x y || has right zoom x y) ≡ true

less_again : (m n : ℕ) → (n ≤ m → ⊥) → m < n
less_again m n e = omega (arith, e)

rest_together : (run : Run) (both left right : List Run) → AreTogether (run ∷ both) left right → AreTogether both left right
rest_together run both left right e = record {
  each = e.each.1;
  tiles =
      λ zoom x y f. e.tiles zoom x y (or_true (holds zoom x y run) (has both zoom x y) f);
}
  where
    or_true : (p q : Bool) → q ≡ true → (p || q) ≡ true
    or_true true q f = refl
    or_true false q f = f

neither : (p q : Bool) → (p || q) ≡ true → p ≡ false → q ≡ false → ⊥
neither true q e f g = cc
neither false true e f g = cc
neither false false e f g = cc

starts_after : (bound : ℕ) (both left right : List Run) → AreTogether both left right → AllByRecursion (λ own. bound < start_of own) left
    → AllByRecursion (λ own. bound < start_of own) right
    → AllByRecursion (λ own. bound < start_of own) both
starts_after bound [] left right e f g = tt
starts_after bound (run ∷ both) left right e f g = (
  less_again bound (start_of run) (λ h. neither _ _
      (e.tiles run.zoom run.first run.y (has_own run.zoom run.first run.y run both refl refl (omega arith) e.each.0.ordered))
      (all_missed run.zoom run.first run.y left (each left (λ own later. inl (omega (arith, h, later))) f))
      (all_missed run.zoom run.first run.y right (each right (λ own later. inl (omega (arith, h, later))) g))),
  starts_after bound both left right (rest_together run both left right e) f g,
)

ends_before : (bound : ℕ) (both left right : List Run) → AreTogether both left right → AllByRecursion (λ own. end_of own + 1 < bound) left
    → AllByRecursion (λ own. end_of own + 1 < bound) right
    → AllByRecursion (λ own. end_of own + 1 < bound) both
ends_before bound [] left right e f g = tt
ends_before bound (run ∷ both) left right e f g = (
  less_again (end_of run + 1) bound (λ h. neither _ _
      (e.tiles run.zoom run.last run.y (has_own run.zoom run.last run.y run both refl refl e.each.0.ordered (omega arith)))
      (all_missed run.zoom run.last run.y left (each left (λ own later. inr (omega (arith, h, later))) f))
      (all_missed run.zoom run.last run.y right (each right (λ own later. inr (omega (arith, h, later))) g))),
  ends_before bound both left right (rest_together run both left right e) f g,
)

-- those before all, and those behind all
precede_both : (front both left right : List Run) → AreTogether both left right → Precede front left → Precede front right
    → Precede front both
precede_both [] both left right e f g = tt
precede_both (run ∷ front) both left right e f g =
    (starts_after (end_of run + 1) both left right e f.0 g.0, precede_both front both left right e f.1 g.1)

-- each of another list is behind each of one
abbrev Behind : List Run → List Run → Type 0
Behind xs ys = AllByRecursion (λ y. AllByRecursion (λ x. Follows x y) xs) ys

behind_both : (both left right tail : List Run) → AreTogether both left right → Behind left tail → Behind right tail → Behind both tail
behind_both both left right [] e f g = tt
behind_both both left right (run ∷ tail) e f g =
    (ends_before (start_of run) both left right e f.0 g.0, behind_both both left right tail e f.1 g.1)

none_behind : (ys : List Run) → Behind [] ys
none_behind [] = tt
none_behind (y ∷ ys) = (tt, none_behind ys)

turned_one : (x : Run) (xs ys : List Run) → AllByRecursion (Follows x) ys → Behind xs ys → Behind (x ∷ xs) ys
turned_one x xs [] e f = tt
turned_one x xs (y ∷ ys) e f = ((e.0, f.0), turned_one x xs ys e.1 f.1)

turned : (xs ys : List Run) → Precede xs ys → Behind xs ys
turned [] ys e = none_behind ys
turned (x ∷ xs) ys e = turned_one x xs ys e.0 (turned xs ys e.1)

back_one : (y : Run) (xs ys : List Run) → AllByRecursion (λ x. Follows x y) xs → Precede xs ys → Precede xs (y ∷ ys)
back_one y [] ys e f = tt
back_one y (x ∷ xs) ys e f = ((e.0, f.0), back_one y xs ys e.1 f.1)

none_precede : (xs : List Run) → Precede xs []
none_precede [] = tt
none_precede (x ∷ xs) = (tt, none_precede xs)

turned_back : (xs ys : List Run) → Behind xs ys → Precede xs ys
turned_back xs [] e = none_precede xs
turned_back xs (y ∷ ys) e = back_one y xs ys e.0 (turned_back xs ys e.1)

-- what is before the first of a set is before all of it, and what is behind the last behind all
before_set : (front : List Run) (first : Run) (others : List Run) → IsTileSet (first ∷ others)
    → AllByRecursion (λ own. Follows own first) front → Precede front (first ∷ others)
before_set [] first others set e = tt
before_set (run ∷ front) first others set e = (
  (e.0, let ordered = set.each.0.ordered in each others (λ later follows. omega (arith, e.0, follows, ordered)) set.apart.0),
  before_set front first others set e.1,
)

behind_last : (tail others : List Run) (last : Run) (i : ℕ) → IsTileSet others → i + 1 ≡ length others → last ≡ get_or others i last
    → AllByRecursion (Follows last) tail → Precede others tail
behind_last tail [] last i set e f g = tt
behind_last tail (other ∷ []) last zero set e f g = (rw (← f) g, tt)
behind_last tail (other ∷ []) last (suc i) set e f g = absurd (omega (arith, e))
behind_last tail (other ∷ next ∷ others) last zero set e f g = absurd (omega (arith, e))
behind_last tail (other ∷ next ∷ others) last (suc i) set e f g =
    let rest = behind_last tail (next ∷ others) last i (record { each = set.each.1; apart = set.apart.1 }) (omega (arith, e)) f g in
    let follows = set.apart.0.0 in
    let ordered = set.each.1.0.ordered in
    (each tail (λ later behind. omega (arith, follows, ordered, behind)) rest.0, rest)

-- the whole
pub spliced_set : (front between tail both : List Run) (first : Run) (others : List Run) (last : Run) (i : ℕ)
    → IsTileSet (front ++ (between ++ tail)) → IsTileSet (first ∷ others) → IsTileSet both
    → ((zoom x y : ℕ) → has both zoom x y ≡ (has between zoom x y || has (first ∷ others) zoom x y))
    → AllByRecursion (λ own. Follows own first) front → i + 1 ≡ length (first ∷ others) → last ≡ get_or (first ∷ others) i last
    → AllByRecursion (Follows last) tail
    → IsTileSet (front ++ (both ++ tail))
spliced_set front between tail both first others last i set other_set both_set tiles before count is_last behind =
    let rest = back_set front (between ++ tail) set in
    let together : AreTogether both between (first ∷ others) =
    record { each = both_set.each; tiles = λ zoom x y e. sym (tiles zoom x y) ∙ e } in
    let all_before = apart_between front (between ++ tail) set.apart in
    let front_both = precede_both front both between (first ∷ others) together (parted front all_before).0
    (before_set front first others other_set before) in
    let both_tail = turned_back both tail (behind_both both between (first ∷ others) tail together
    (turned between tail (apart_between between tail rest.apart))
    (turned (first ∷ others) tail (behind_last tail (first ∷ others) last i other_set count is_last behind))) in
    record {
      each = all_append IsRun front (both ++ tail) (all_front IsRun front (between ++ tail) set.each)
          (all_append IsRun both tail both_set.each (all_back IsRun between tail rest.each));
      apart = apart_append front (both ++ tail) (apart_front front (between ++ tail) set.apart)
          (apart_append both tail both_set.apart (apart_back between tail rest.apart) both_tail)
          (joined_rows front front_both (parted front all_before).1);
    }
  where
    parted : (xs : List Run) → Precede xs (between ++ tail) → Precede xs between × Precede xs tail
    parted [] e = (tt, tt)
    parted (x ∷ xs) e = let more = parted xs e.1 in
        ((all_front (Follows x) between tail e.0, more.0), (all_back (Follows x) between tail e.0, more.1))

    joined_rows : (xs : List Run) → Precede xs both → Precede xs tail → Precede xs (both ++ tail)
    joined_rows [] e f = tt
    joined_rows (x ∷ xs) e f = (all_append (Follows x) both tail e.0 f.0, joined_rows xs e.1 f.1)

pub spliced_tiles : (front between tail both others : List Run)
    → ((zoom x y : ℕ) → has both zoom x y ≡ (has between zoom x y || has others zoom x y))
    → (zoom x y : ℕ) → has (front ++ (both ++ tail)) zoom x y ≡ (has (front ++ (between ++ tail)) zoom x y || has others zoom x y)
spliced_tiles front between tail both others tiles zoom x y =
    rw (
      list_any-append (holds zoom x y) front (both ++ tail),
      list_any-append (holds zoom x y) both tail,
      list_any-append (holds zoom x y) front (between ++ tail),
      list_any-append (holds zoom x y) between tail,
      tiles zoom x y,
    )
    (moved (has front zoom x y) (has between zoom x y) (has others zoom x y) (has tail zoom x y))
  where
    moved : (p q r t : Bool) → (p || ((q || r) || t)) ≡ ((p || (q || t)) || r)
    moved true q r t = refl
    moved false true r t = refl
    moved false false true true = refl
    moved false false true false = refl
    moved false false false true = refl
    moved false false false false = refl

-- by positions
parts_of_list : (runs : List Run) (from count : ℕ) → take from runs ++ (take count (drop from runs) ++ drop count (drop from runs)) ≡ runs
parts_of_list runs from count = ap (λ own. take from runs ++ own) (take-append-drop count (drop from runs)) ∙ take-append-drop from runs

drop_more : (runs : List Run) (from count : ℕ) → drop (from + count) runs ≡ drop count (drop from runs)
drop_more runs zero count = ap (λ n. drop n runs) (none_more count)
  where
    none_more : (n : ℕ) → 0 + n ≡ n
    none_more n = omega arith
drop_more [] (suc from) count = rw (drop-nil (suc from + count), drop-nil count) refl
drop_more (run ∷ runs) (suc from) count = ap (λ n. drop n (run ∷ runs)) (one_more from count) ∙ drop_more runs from count
  where
    one_more : (m n : ℕ) → suc m + n ≡ suc (m + n)
    one_more m n = omega arith

pub after_front : (runs : List Run) (from : ℕ) → IsTileSet runs → IsTileSet (drop from runs)
after_front runs from set = back_set (take from runs) (drop from runs) (subst IsTileSet (sym (take-append-drop from runs)) set)

pub before_back : (runs : List Run) (count : ℕ) → IsTileSet runs → IsTileSet (take count runs)
before_back runs count set = front_set (take count runs) (drop count runs) (subst IsTileSet (sym (take-append-drop count runs)) set)

pub first_is : (runs : List Run) (first : Run) (rest : List Run) → runs ≡ first ∷ rest → first ≡ get_or runs 0 first
first_is runs first rest e = sym (ap (λ own. get_or own 0 first) e)

pub record IsSpliced (runs others new : List Run) : Type 0 where
  pub set : IsTileSet new
  pub tiles : (zoom x y : ℕ) → has new zoom x y ≡ (has runs zoom x y || has others zoom x y)

pub spliced : (runs others both : List Run) (from count i : ℕ) (first last : Run) → IsTileSet runs → IsTileSet others → IsTileSet both
    → ((zoom x y : ℕ) → has both zoom x y ≡ (has (take count (drop from runs)) zoom x y || has others zoom x y))
    → i + 1 ≡ length others → first ≡ get_or others 0 first → last ≡ get_or others i last
    → AllByRecursion (λ own. Follows own first) (take from runs) → AllByRecursion (Follows last) (drop count (drop from runs))
    → IsSpliced runs others (splice runs from (from + count) both)
spliced runs [] both from count i first last set other_set both_set tiles length_is first_is last_is before behind =
    absurd (omega (arith, length_is))
spliced runs (other ∷ others) both from count i first last set other_set both_set tiles length_is first_is last_is before behind =
    let whole = parts_of_list runs from count in
    let front : AllByRecursion (λ own. Follows own other) (take from runs) =
    subst (λ it. AllByRecursion (λ own. Follows own it) (take from runs)) first_is before in
    record {
      set = rw (drop_more runs from count) (spliced_set (take from runs) (take count (drop from runs))
          (drop count (drop from runs)) both other others last i
          (subst IsTileSet (sym whole) set) other_set both_set tiles front length_is last_is behind);
      tiles = λ zoom x y. rw (drop_more runs from count)
          (spliced_tiles (take from runs) (take count (drop from runs)) (drop count (drop from runs)) both (other ∷ others) tiles zoom x y)
          ∙ ap (λ own. has own zoom x y || has (other ∷ others) zoom x y) whole;
    }

-- counted by a search
all_at : (P : Run → Type 0) (runs : List Run) (i : ℕ) (d : Run) → AllByRecursion P runs → i < length runs → P (get_or runs i d)
all_at P [] i d e h = absurd (omega (arith, h))
all_at P (run ∷ runs) zero d e h = e.0
all_at P (run ∷ runs) (suc i) d e h = all_at P runs i d e.1 (omega (arith, h))

rising : (runs : List Run) (i j : ℕ) (d : Run) → IsTileSet runs → i < j → j < length runs
    → end_of (get_or runs i d) + 1 < start_of (get_or runs j d)
rising [] i j d set less within = absurd (omega (arith, within))
rising (run ∷ runs) i zero d set less within = absurd (omega (arith, less))
rising (run ∷ runs) zero (suc j) d set less within = all_at (Follows run) runs j d set.apart.0 (omega (arith, within))
rising (run ∷ runs) (suc i) (suc j) d set less within =
    rising runs i j d (record { each = set.each.1; apart = set.apart.1 }) (omega (arith, less)) (omega (arith, within))

abbrev pub is_before : ℕ → Run → Bool
is_before start own = nat_lt (end_of own + 1) start

abbrev pub is_begun : ℕ → Run → Bool
is_begun end own = nat_le (start_of own) (end + 1)

position_or : (i j : ℕ) → i ≤ j → (i ≡ j) ⊎ (i < j)
position_or zero zero e = inl refl
position_or zero (suc j) e = inr (omega arith)
position_or (suc i) zero e = absurd (omega (arith, e))
position_or (suc i) (suc j) e = elim (position_or i j (omega (arith, e)))
    [ inl f ↦ inl (omega (arith, f)) | inr f ↦ inr (omega (arith, f)) ]

pub before_first : (runs : List Run) (start : ℕ) → IsTileSet runs → IsPartitionedBy (is_before start) runs
before_first runs start set i j d ordered within e = elim (position_or i j ordered) [
  | inl same ↦ rw same e
  | inr less ↦
      let follows = rising runs i j d set less within in
      let this = (all_at IsRun runs j d set.each within).ordered in
      earlier (end_of (get_or runs i d)) (start_of (get_or runs j d)) (end_of (get_or runs j d)) start follows (omega (arith, this)) e
]
  where
    earlier : (a b c start : ℕ) → a + 1 < b → b ≤ c → nat_lt (c + 1) start ≡ true → nat_lt (a + 1) start ≡ true
    earlier a b c start e f g = grind (arith, nat_tests)

pub begun_first : (runs : List Run) (end : ℕ) → IsTileSet runs → IsPartitionedBy (is_begun end) runs
begun_first runs end set i j d ordered within e = elim (position_or i j ordered) [
  | inl same ↦ rw same e
  | inr less ↦
      let follows = rising runs i j d set less within in
      let this = (all_at IsRun runs i d set.each (omega (arith, less, within))).ordered in
      earlier (start_of (get_or runs i d)) (end_of (get_or runs i d)) (start_of (get_or runs j d)) end (omega (arith, this)) follows e
]
  where
    earlier : (a b c end : ℕ) → a ≤ b → b + 1 < c → nat_le c (end + 1) ≡ true → nat_le a (end + 1) ≡ true
    earlier a b c end e f g = grind (arith, nat_tests)

pub all_taken : (P : Run → Type 0) (runs : List Run) (n : ℕ) (d : Run) → ((k : ℕ) → k < length runs → k < n → P (get_or runs k d))
    → AllByRecursion P (take n runs)
all_taken P [] zero d e = tt
all_taken P [] (suc n) d e = tt
all_taken P (run ∷ runs) zero d e = tt
all_taken P (run ∷ runs) (suc n) d e = (
  e 0 (omega arith) (omega arith),
  all_taken P runs n d (λ k h i. e (suc k) (omega (arith, h)) (omega (arith, i))),
)

pub all_left : (P : Run → Type 0) (runs : List Run) (n : ℕ) (d : Run) → ((k : ℕ) → n ≤ k → k < length runs → P (get_or runs k d))
    → AllByRecursion P (drop n runs)
all_left P [] zero d e = tt
all_left P [] (suc n) d e = tt
all_left P (run ∷ runs) zero d e = (
  e 0 (omega arith) (omega arith),
  all_left P runs zero d (λ k h i. e (suc k) (omega arith) (omega (arith, i))),
)
all_left P (run ∷ runs) (suc n) d e = all_left P runs n d (λ k h i. e (suc k) (omega (arith, h)) (omega (arith, i)))

pub before_is : (start : ℕ) (own : Run) → is_before start own ≡ true → end_of own + 1 < start
before_is start own e = grind (arith, nat_tests)

pub behind_is : (end : ℕ) (own : Run) → is_begun end own ≡ false → end + 1 < start_of own
behind_is end own e = grind (arith, nat_tests)
