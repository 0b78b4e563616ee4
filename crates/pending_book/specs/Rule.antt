-- The rule of a book, which holds between any two steps of any threads.
use Rattle.std.specs.Prelude.{◌≡◌, ℕ, ◌+◌, ◌-◌, ◌<◌, ◌≤◌, List, [], ◌∷◌, ◌++◌, nat_lt, All, MatchBool, length, min, slice_index, sum_by}
use mathlib.Core.Option.{some}
use lib.ListN.{get_elem?}
use Rattle.atomic_table.specs.Table.{State, Me, Step}
use Rattle.pending_book.specs.Once.{times, once_below}
use Rattle.pending_book.specs.declared.view.Size.{Size}
use Rattle.pending_book.specs.declared.view.View.{View}

-- what a seat knows
abbrev pub hand : ℕ → ℕ → List ℕ → ℕ → View
hand tickets share drawn nones = record { tickets = tickets; share = share; drawn = drawn; nones = nones }

-- a seat has had at most as many Nones as it has shares. One that is spent has drawn nothing
pub record Fits (size : Size) (view : View) : Type 0 where
  pub few : view.nones ≤ view.share
  pub spent : view.share ≡ 0 → view.drawn ≡ []
  pub same : 0 < view.share → view.tickets ≡ size.tickets

-- The shares sum to those of the book. The lists together have each number below the lesser of the word and n once.
-- The word is the number of tickets and Nones
pub record KeptAt (size : Size) (word : ℕ) (views : List View) : Type 0 where
  pub small : (size.tickets ≤ 16777216) × (size.share ≤ 64)
  pub shares : sum_by (λ v. v.share) views ≡ size.share
  pub once : (x : ℕ) → sum_by (λ v. times x v.drawn) views ≡ once_below x (min word size.tickets)
  pub tickets : sum_by (λ v. length v.drawn) views ≡ min word size.tickets
  pub nones : sum_by (λ v. v.nones) views + min word size.tickets ≡ word
  pub fits : (id : ℕ) (v : View) → get_elem? views id ≡ some v → Fits size v

module _ {S : Type 0} where
  -- the rule: the book has one word
  abbrev pub Kept : Size → State S View → Type 0
  Kept size state = (length state.words ≡ 1) × KeptAt size (slice_index state.words 0) state.views

  -- what a draw tells: a number below n is the seat's new ticket, above all that it had, and else it has one None more
  abbrev pub Draws : Step S → Me S View → ℕ → Me S View → Type 0
  Draws step before found after =
      (after.1 ≡ before.1)
      × All (λ ticket. ticket < found) before.0.drawn
      × MatchBool (nat_lt found before.0.tickets)
      (after.0 ≡ hand before.0.tickets before.0.share (before.0.drawn ++ found ∷ []) before.0.nones)
      (after.0 ≡ hand before.0.tickets before.0.share before.0.drawn (before.0.nones + 1))

  -- what a look tells: the seat has no more shares than any book
  abbrev pub Looks : Step S → Me S View → ℕ → Me S View → Type 0
  Looks step before found after = (after ≡ before) × (before.0.share ≤ 64)

-- the two parts of a seat that gives shares away
abbrev pub kept : ℕ → View → View
kept give view = hand view.tickets (view.share - give) view.drawn view.nones

abbrev pub given : ℕ → View → View
given give view = hand view.tickets give [] 0

-- one seat out of two
abbrev pub joined_seats : View → View → View
joined_seats left right = hand left.tickets (left.share + right.share) (left.drawn ++ right.drawn) (left.nones + right.nones)

-- what is known of a seat that was joined to another
abbrev pub spent : View
spent = hand 0 0 [] 0
