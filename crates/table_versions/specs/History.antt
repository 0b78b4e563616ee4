-- The rule of a history, and what the step that adds to it tells.
use Rattle.std.specs.Prelude.{ℕ, suc, ◌≡◌, ◌==◌, true, List, [], ◌∷◌, ◌++◌, length, MatchBool}
use Rattle.logbook.specs.Pages.{Cell, Step, View, Book, Named}
use Rattle.table_versions.specs.declared.history.Entry.{Entry}

-- the one word is the number of the entries behind the first
pub record IsKept (cells : List Cell) (log : List Entry) : Type 0 where
  pub deltas : ℕ
  pub words : cells ≡ (deltas, true) ∷ []
  pub entries : length log ≡ suc deltas

abbrev pub head_of : Book → Named
head_of book = record { tracked = true; key = 0; book = book }

-- the entry was added to all that had been seen; or the history was another then
abbrev pub AddsOne : Step Entry → View Entry ℕ → ℕ → View Entry ℕ → Type 0
AddsOne step before found after = MatchBool (found == step.old) (after.0 ≡ before.0 ++ step.ask ∷ []) (Unit {0})
