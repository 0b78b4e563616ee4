-- What holds of a version that readers are shown, and of what they know.
use Rattle.std.specs.Prelude.{◌≡◌, ℕ, List, Option, IfSome}
use mathlib.Core.Option.{some}
use lib.ListN.{get_elem?}
use Rattle.logbook.specs.Pages.{Book}
use Rattle.table_versions.specs.declared.shown.Shown.{Shown}
use Rattle.map_query.specs.RowBoxes.{IsBoxed}
use Rattle.table_versions.specs.Versions.{tables_of, version_of}

-- a version is what its history makes of the first tables, and its boxes are those of its rows
pub record IsVersion (shown : Shown) : Type 0 where
  pub tables : shown.tables ≡ tables_of shown.front
  pub version : shown.version ≡ version_of shown.front
  pub boxes : IsBoxed shown.tables shown.boxes

-- what a thread knows of the history, if it knows any, is which one it is
abbrev pub Knows : Book → Option Book → Type 0
Knows book view = IfSome view (λ known. known ≡ book)

-- the rule
pub record IsKept (shown : Shown) (views : List (Option Book)) : Type 0 where
  pub version : IsVersion shown
  pub fits : (seat : ℕ) (view : Option Book) → get_elem? views seat ≡ some view → Knows shown.front.book view

-- a thread that looks knows no more of the history afterwards, and what it is shown is a version of it
pub record Looks (before : Option Book) (shown : Shown) (after : Option Book) : Type 0 where
  pub same : after ≡ before
  pub version : IsVersion shown
  pub book : Knows shown.front.book before
