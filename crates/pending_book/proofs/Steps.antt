-- Each kind of step keeps the rule of a book.
use Rattle.std.proofs.Common.{◌≡◌, ℕ, zero, suc, ◌+◌, ◌-◌, ◌*◌, ◌^◌, ◌%◌, ◌<◌, ◌≤◌, ◌⊎◌, ⊎_elim, List, [], ◌∷◌, ◌++◌, Bool, true, false}
use Rattle.std.proofs.Common.{cond, eqb, ltb, length, length-append, set, min, refl, ap, sym, ◌∙◌, subst, inl, inr, lt_of_not-le, arith}
use Rattle.std.specs.Prelude.{All, MatchBool, slice_index, sum_by}
use mathlib.Core.Option.{some, some-injective}
use lib.ListN.{get_elem?}
use native.Mathlib.Decide.{dec_le}
use Rattle.std.proofs.lemmas.List.Elements.{All-weaker}
use Rattle.atomic_table.proofs.Lists.{at_set, at_snoc, set_else}
use Rattle.std.proofs.lemmas.Bool.{lt-ltb, le-ltb}
use Rattle.std.proofs.lemmas.List.Sums.{sum_by_push, sum_by-append, sum_by-cons}
use Rattle.pending_book.proofs.Sums.{sum_set, part_le, sum_le, sum_whole}
use Rattle.pending_book.proofs.Counts.{times_push, times-append, once_more, all_below}
use Rattle.pending_book.specs.Once.{IsOnce, times, once_below}
use Rattle.pending_book.specs.Rule.{Fits, KeptAt, hand, kept, given, joined_seats, spent}
use Rattle.pending_book.specs.declared.view.Size.{Size}
use Rattle.pending_book.specs.declared.view.View.{View}

-- another view at one seat fits too
fits_set : (size : Size) (views : List View) (id : ℕ) (new : View) → Fits size new
    → ((i : ℕ) (v : View) → get_elem? views i ≡ some v → Fits size v)
    → (i : ℕ) (v : View) → get_elem? (set views id new) i ≡ some v → Fits size v
fits_set size views id new here fits i v at =
    ⊎_elim (λ t. subst (λ (w : View). Fits size w) t.1 here) (λ t. fits i v t.1) (at_set views id i new v at)

fits_push : (size : Size) (views : List View) (new : View) → Fits size new → ((i : ℕ) (v : View) → get_elem? views i ≡ some v → Fits size v)
    → (i : ℕ) (v : View) → get_elem? (views ++ new ∷ []) i ≡ some v → Fits size v
fits_push size views new here fits i v at =
    ⊎_elim (λ e. fits i v e) (λ e. subst (λ (w : View). Fits size w) e here) (at_snoc views new v i at)

-- no more Nones than shares
nones_le : (size : Size) (word : ℕ) (views : List View) → KeptAt size word views → sum_by (λ v. v.nones) views ≤ size.share
nones_le size word views rule =
    let le = sum_le (λ v. v.nones) (λ v. v.share) views (λ i v at. (rule.fits i v at).few) in
    let all = rule.shares in
    omega arith

-- a seat's tickets are below the word
below : (size : Size) (word : ℕ) (views : List View) (id : ℕ) (v : View) → KeptAt size word views → get_elem? views id ≡ some v
    → All (λ ticket. ticket < min word size.tickets) v.drawn
below size word views id v rule at = all_below v.drawn (min word size.tickets)
    (λ x. let part = part_le (λ w. times x w.drawn) views id v at in let all = rule.once x in omega arith)

-- a draw of a number below n
takes : (size : Size) (word : ℕ) (views : List View) (id : ℕ) (v : View) → KeptAt size word views → get_elem? views id ≡ some v
    → v.nones < v.share → word < size.tickets
    → KeptAt size (word + 1) (set views id (hand v.tickets v.share (v.drawn ++ word ∷ []) v.nones))
takes size word views id v rule at room less =
    let new = hand v.tickets v.share (v.drawn ++ word ∷ []) v.nones in
    let fit = rule.fits id v at in
    let same = fit.same (omega arith) in
    record {
      small = rule.small;
      shares = (let s = sum_set (λ w. w.share) views id v new at in let all = rule.shares in omega arith);
      once = λ x. (
          let s = sum_set (λ w. times x w.drawn) views id v new at in
          let push = times_push x word v.drawn in
          let more = once_more x word in
          let m : min word size.tickets ≡ word = omega arith in
          let n : min (word + 1) size.tickets ≡ word + 1 = omega arith in
          let all : sum_by (λ w. times x w.drawn) views ≡ once_below x word = rw m at (rule.once x) in
          rw n (omega arith));
      tickets = (let s = sum_set (λ w. length w.drawn) views id v new at in let all = rule.tickets in
          omega (arith, length-append v.drawn (word ∷ [])));
      nones = (let s = sum_set (λ w. w.nones) views id v new at in let all = rule.nones in omega arith);
      fits = fits_set size views id new (record { few = fit.few; spent = λ none. absurd (omega arith); same = fit.same }) rule.fits;
    }

-- a draw of a number from n on
misses : (size : Size) (word : ℕ) (views : List View) (id : ℕ) (v : View) → KeptAt size word views → get_elem? views id ≡ some v
    → v.nones < v.share → size.tickets ≤ word → KeptAt size (word + 1) (set views id (hand v.tickets v.share v.drawn (v.nones + 1)))
misses size word views id v rule at room more =
    let new = hand v.tickets v.share v.drawn (v.nones + 1) in
    let fit = rule.fits id v at in
    let m : min word size.tickets ≡ size.tickets = omega arith in
    let n : min (word + 1) size.tickets ≡ size.tickets = omega arith in
    record {
      small = rule.small;
      shares = (let s = sum_set (λ w. w.share) views id v new at in let all = rule.shares in omega arith);
      once = λ x. (
          let s = sum_set (λ w. times x w.drawn) views id v new at in
          let all : sum_by (λ w. times x w.drawn) views ≡ once_below x size.tickets = rw m at (rule.once x) in
          rw n (omega arith));
      tickets = (let s = sum_set (λ w. length w.drawn) views id v new at in let all = rule.tickets in omega arith);
      nones = (let s = sum_set (λ w. w.nones) views id v new at in let all = rule.nones in omega arith);
      fits = fits_set size views id new (record { few = omega arith; spent = fit.spent; same = fit.same }) rule.fits;
    }

-- the number drawn fits, and the word does not come round
word_small : (size : Size) (word : ℕ) (views : List View) → KeptAt size word views → word < 2 ^ 63
word_small size word views rule = let few = nones_le size word views rule in let all = rule.nones in let small = rule.small in omega arith

draws_by : (size : Size) (word : ℕ) (views : List View) (id : ℕ) (v : View) → KeptAt size word views → get_elem? views id ≡ some v
    → v.nones < v.share
    → (word + 1) % 2 ^ 64 ≡ word + 1 → v.tickets ≡ size.tickets → All (λ ticket. ticket < word) v.drawn → Dec (size.tickets ≤ word)
    → (new : View) × KeptAt size ((word + 1) % 2 ^ 64) (set views id new)
    × All (λ ticket. ticket < word) v.drawn
    × MatchBool (ltb word v.tickets) (new ≡ hand v.tickets v.share (v.drawn ++ word ∷ []) v.nones)
    (new ≡ hand v.tickets v.share v.drawn (v.nones + 1))
draws_by size word views id v rule at room next same earlier (yes more) =
    let new = hand v.tickets v.share v.drawn (v.nones + 1) in
    (new, rw next (misses size word views id v rule at room more), earlier, rw (le-ltb word v.tickets (omega arith)) refl)
draws_by size word views id v rule at room next same earlier (no less) =
    let new = hand v.tickets v.share (v.drawn ++ word ∷ []) v.nones in
    let lower : word < size.tickets = lt_of_not-le less in
    (new, rw next (takes size word views id v rule at room lower), earlier, rw (lt-ltb word v.tickets (omega arith)) refl)

-- a draw
pub draws : (size : Size) (word : ℕ) (views : List View) (id : ℕ) (v : View) → KeptAt size word views → get_elem? views id ≡ some v
    → v.nones < v.share
    → (new : View) × KeptAt size ((word + 1) % 2 ^ 64) (set views id new)
    × All (λ ticket. ticket < word) v.drawn
    × MatchBool (ltb word v.tickets) (new ≡ hand v.tickets v.share (v.drawn ++ word ∷ []) v.nones)
    (new ≡ hand v.tickets v.share v.drawn (v.nones + 1))
draws size word views id v rule at room =
    let small = word_small size word views rule in
    let next : (word + 1) % 2 ^ 64 ≡ word + 1 = omega arith in
    let same = (rule.fits id v at).same (omega arith) in
    let earlier : All (λ ticket. ticket < word) v.drawn =
    All-weaker (λ ticket. ticket < min word size.tickets) (λ ticket. ticket < word) (λ ticket less. omega arith) v.drawn
    (below size word views id v rule at) in
    draws_by size word views id v rule at room next same earlier (dec_le size.tickets word)

-- a look
pub looks : (size : Size) (word : ℕ) (views : List View) (id : ℕ) (v : View) → KeptAt size word views → get_elem? views id ≡ some v
    → v.share ≤ 64
looks size word views id v rule at =
    let part = part_le (λ w. w.share) views id v at in
    let all = rule.shares in
    let small = rule.small in
    omega arith

-- a split
pub splits : (size : Size) (word : ℕ) (views : List View) (id : ℕ) (v : View) (give : ℕ) → KeptAt size word views
    → get_elem? views id ≡ some v
    → 0 < give → give < v.share → v.nones ≡ 0 → KeptAt size word (set views id (kept give v) ++ given give v ∷ [])
splits size word views id v give rule at least most fresh =
    let left = kept give v in
    let right = given give v in
    let fit = rule.fits id v at in
    record {
      small = rule.small;
      shares = (let s = sum_set (λ w. w.share) views id v left at in let all = rule.shares in
          omega (arith, sum_by_push (λ (w : View). w.share) (set views id left) right));
      once = λ x. (
          let s = sum_set (λ w. times x w.drawn) views id v left at in
          let all = rule.once x in
          omega (arith, sum_by_push (λ (w : View). times x w.drawn) (set views id left) right));
      tickets = (let s = sum_set (λ w. length w.drawn) views id v left at in let all = rule.tickets in
          omega (arith, sum_by_push (λ (w : View). length w.drawn) (set views id left) right));
      nones = (let s = sum_set (λ w. w.nones) views id v left at in let all = rule.nones in
          omega (arith, sum_by_push (λ (w : View). w.nones) (set views id left) right));
      fits = fits_push size (set views id left) right
          (record { few = omega arith; spent = λ none. refl; same = λ some. fit.same (omega arith) })
          (fits_set size views id left (record {
            few = omega arith;
            spent = λ none. absurd (omega arith);
            same =
                λ some. fit.same (omega arith);
          }) rule.fits);
    }

-- a join
pub merges : (size : Size) (word : ℕ) (views : List View) (id : ℕ) (v : View) (other : ℕ) (w : View) → KeptAt size word views
    → get_elem? views id ≡ some v
    → ¬ (other ≡ id) → get_elem? (set views id (joined_seats v w)) other ≡ some w → 0 < v.share
    → KeptAt size word (set (set views id (joined_seats v w)) other spent)
merges size word views id v other w rule at apart there some_left =
    let both = joined_seats v w in
    let first = set views id both in
    let fit = rule.fits id v at in
    let fit_other = rule.fits other w (sym (set_else views id other both apart) ∙ there) in
    record {
      small = rule.small;
      shares = (
          let s = sum_set (λ u. u.share) views id v both at in
          let t = sum_set (λ u. u.share) first other w spent there in
          let all = rule.shares in
          omega arith);
      once = λ x. (
          let s = sum_set (λ u. times x u.drawn) views id v both at in
          let t = sum_set (λ u. times x u.drawn) first other w spent there in
          let both_times = times-append x v.drawn w.drawn in
          let all = rule.once x in
          omega arith);
      tickets = (
          let s = sum_set (λ u. length u.drawn) views id v both at in
          let t = sum_set (λ u. length u.drawn) first other w spent there in
          let all = rule.tickets in
          omega (arith, length-append v.drawn w.drawn));
      nones = (
          let s = sum_set (λ u. u.nones) views id v both at in
          let t = sum_set (λ u. u.nones) first other w spent there in
          let all = rule.nones in
          omega arith);
      fits = fits_set size first other spent (record { few = omega arith; spent = λ none. refl; same = λ some. absurd (omega arith) })
          (fits_set size views id both
          (record {
            few = (let a = fit.few in let b = fit_other.few in omega arith);
            spent = λ none. absurd (omega arith);
            same = λ some. fit.same some_left;
          })
          rule.fits);
    }

-- what a book has at its end, where one seat has all shares and has had a None
pub record Closed (size : Size) (word : ℕ) (v : View) : Type 0 where
  pub once : IsOnce v.drawn size.tickets
  pub draws : word ≡ size.tickets + v.nones

pub closes : (size : Size) (word : ℕ) (views : List View) (id : ℕ) (v : View) → KeptAt size word views → get_elem? views id ≡ some v
    → v.share ≡ size.share → 0 < v.nones → Closed size word v
closes size word views id v rule at whole dry =
    let all = rule.shares in
    let shares : sum_by (λ u. u.share) views ≡ v.share = omega arith in
    let nones = sum_whole (λ u. u.share) (λ u. u.nones) views id v at shares
    (λ j b s none. let few = (rule.fits j b s).few in omega arith) in
    let counted = rule.nones in
    let m : min word size.tickets ≡ size.tickets = omega arith in
    record {
      once = λ x. (
          let list = sum_whole (λ u. u.share) (λ u. times x u.drawn) views id v at shares
          (λ j b s none. ap (times x) ((rule.fits j b s).spent none)) in
          let all : sum_by (λ w. times x w.drawn) views ≡ once_below x size.tickets = rw m at (rule.once x) in
          omega arith);
      draws = omega arith;
    }
