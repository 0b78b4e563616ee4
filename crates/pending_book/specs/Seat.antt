-- A book and a seat as contracts see them.
use Rattle.std.specs.Prelude.{ℕ, List}
use Rattle.atomic_table.specs.Seated.{TableId}

-- which book it is, how many tickets it has, and how many shares
pub record BookView : Type 0 where
  pub name : TableId
  pub tickets : ℕ
  pub share : ℕ

-- a seat of a book: its share, the tickets that it drew, in order, and how many of its draws gave none
pub record SeatView : Type 0 where
  pub book : BookView
  pub share : ℕ
  pub tickets : List ℕ
  pub nones : ℕ

abbrev pub book_view : TableId → ℕ → ℕ → BookView
book_view name tickets share = record { name = name; tickets = tickets; share = share }

abbrev pub seat_view : BookView → ℕ → List ℕ → ℕ → SeatView
seat_view book share tickets nones = record { book = book; share = share; tickets = tickets; nones = nones }
