-- What a reader answers.
use Rattle.std.specs.Prelude.{◌≡◌, ℕ, List, [], ◌∷◌, length}
use Rattle.outside.specs.Causes.{Rose}
use Rattle.style_read.specs.Style.{StyleOf}
use Rattle.row_text.specs.Numbered.{rows_of}
use Rattle.map_query.specs.declared.query.Query.{Query}
use Rattle.map_query.specs.Answer.{answer}
use Rattle.table_versions.specs.Fronts.{Begins, FrontOf}
use Rattle.table_versions.specs.declared.answers.Answer.{Answer}
use Rattle.table_versions.specs.declared.answers.Counted.{Counted}
use Rattle.table_versions.specs.declared.answers.LookRefused.{LookRefused}
use Rattle.table_versions.specs.declared.answers.LookRefused.TheVariants.{Shut, OutOfMemory}
use Rattle.table_versions.specs.Versions.{tables_of, version_of}

-- an answer to a query over the tables that a history made
pub record IsAnswer (style : StyleOf) (front : FrontOf) (query : Query) (given : Answer) : Type 0 where
  pub found : given.found ≡ answer style (tables_of front) query
  pub version : given.version ≡ version_of front

-- the number of rows of a table in them
pub record IsCount (front : FrontOf) (table : ℕ) (given : Counted) : Type 0 where
  pub rows : given.rows ≡ length (rows_of (tables_of front) table)
  pub version : given.version ≡ version_of front

-- a reader is shut only where its count of refusals rose, and then something stays; memory may always run out
abbrev pub IsRefused : (before now : ℕ) → Type 0 → LookRefused → Type 0
IsRefused before now stays Shut = Rose before now × stays
IsRefused before now stays OutOfMemory = Unit {0}

-- answers to the first of these queries in order, each over what a history made that goes on from the one before
abbrev pub AreAnswers : StyleOf → (told from to : FrontOf) → List Query → List Answer → Type 0
AreAnswers style told from to queries [] = Begins from to
AreAnswers style told from to [] (given ∷ answers) = ⊥
AreAnswers style told from to (query ∷ queries) (given ∷ answers) =
    (front : FrontOf) × (Begins from front × Begins told front × IsAnswer style front query given
    × AreAnswers style told front to queries answers)
