-- The steps of the table of a book.
use Rattle.std.proofs.Common.{◌≡◌, ℕ, zero, suc, ◌+◌, ◌^◌, ◌%◌, ◌<◌, ◌≤◌, List, [], ◌∷◌, ◌++◌, length, set, refl, ap, sym, ◌∙◌, subst}
use Rattle.std.proofs.Common.{arith}
use Rattle.std.specs.Prelude.{slice_index}
use mathlib.Core.Option.{some, some-injective, some-ne-none}
use lib.ListN.{get_elem?}
use Rattle.atomic_table.specs.Table.{State, Me, Step, Act, keeps, Valid, stepped, carried_after, Final, Seen}
use Rattle.atomic_table.proofs.Lists.{set_again}
use Rattle.pending_book.proofs.Steps.{Closed, closes, draws, looks}
use Rattle.pending_book.specs.Rule.{Draws, Kept, KeptAt, Looks}
use Rattle.pending_book.specs.declared.view.Size.{Size}
use Rattle.pending_book.specs.declared.view.View.{View}

-- a list of one word
one_word : (words : List ℕ) (n : ℕ) → length words ≡ 1 → (length (set words 0 n) ≡ 1) × (slice_index (set words 0 n) 0 ≡ n)
one_word [] n e = absurd (omega arith)
one_word (x ∷ xs) n e = (e, refl)

module _ {S : Type 0} where
  pub draws_state : (size : Size) (st : Step S) (s : State S View) (id : ℕ) (me : Me S View) → Kept size s
      → get_elem? s.views id ≡ some me.0 → me.0.nones < me.0.share
      → (w : View) × (a : Act S) × Valid s.homes me.1 a × Kept size (stepped s 0 ((slice_index s.words 0 + 1) % 2 ^ 64) id me.1 w a)
      × Draws st me (slice_index s.words 0) (w, carried_after me.1 a)
  draws_state size st s id me rule at room =
      let word = slice_index s.words 0 in
      let d = draws size word s.views id me.0 rule.1 at room in
      let one = one_word s.words ((word + 1) % 2 ^ 64) rule.0 in
      (d.0, keeps, tt, (one.0, rw one.1 d.1), (refl, d.2, d.3))

  pub looks_state : (size : Size) (st : Step S) (s : State S View) (id : ℕ) (me : Me S View) → Kept size s
      → get_elem? s.views id ≡ some me.0
      → (w : View) × (a : Act S) × Valid s.homes me.1 a × Kept size (stepped s 0 (slice_index s.words 0) id me.1 w a)
      × Looks st me (slice_index s.words 0) (w, carried_after me.1 a)
  looks_state size st s id me rule at =
      let word = slice_index s.words 0 in
      let one = one_word s.words word rule.0 in
      (me.0, keeps, tt, (one.0, rw (one.1, set_again s.views id me.0 at) rule.1), (refl, looks size word s.views id me.0 rule.1 at))

first_word : (words : List ℕ) (n : ℕ) → get_elem? words 0 ≡ some n → slice_index words 0 ≡ n
first_word [] n e = absurd (some-ne-none n (sym e))
first_word (x ∷ xs) n e = some-injective x n e

-- a book whose seat has all shares and has had a None, at its end
pub closes_final : {S : Type 0} (size : Size) (id : ℕ) (v : View) (words : List ℕ) (slots : List S) (draws : ℕ)
    → Final (Seen (Kept size) id v) words slots
    → get_elem? words 0 ≡ some draws → v.share ≡ size.share → 0 < v.nones → Closed size draws v
closes_final size id v words slots draws end found whole dry =
    let word = ap (λ (ws : List ℕ). slice_index ws 0) end.2 ∙ first_word words draws found in
    subst (λ (w : ℕ). Closed size w v) word (closes size (slice_index end.0.words 0) end.0.views id v end.1.0.1 end.1.1 whole dry)
