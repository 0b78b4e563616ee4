-- The first line of a file that is no query.
use Rattle.std.specs.Prelude.{◌≡◌, ℕ, ◌+◌, List, ◌∷◌, ◌++◌, map, length, Result, Ok, Err}
use Rattle.style_read.specs.Style.{StyleOf}
use Rattle.map_query.specs.declared.fault.QueryFault.{QueryFault}
use Rattle.map_query.specs.declared.fault.QueryFault.TheVariants.{Bad, OutOfMemory}
use Rattle.map_query.specs.declared.fault.QueryWhy.{QueryWhy}
use Rattle.map_query.specs.declared.query.Query.{Query}
use Rattle.map_query.specs.Line.{query_of}

-- each line before this one is a query, and this one is none for this cause
pub record IsFirstBad (style : StyleOf) (lines : List (List ℕ)) (line : ℕ) (why : QueryWhy) : Type 0 where
  pub before : List Query
  pub behind : List (Result Query QueryWhy)
  pub number : line ≡ length before + 1
  pub here : map (query_of style) lines ≡ map Ok before ++ Err why ∷ behind

-- a refusal names the first bad line, unless memory ran out
abbrev pub HasItsCause : StyleOf → List (List ℕ) → QueryFault → Type 0
HasItsCause style lines (Bad line why) = IsFirstBad style lines line why
HasItsCause style lines OutOfMemory = Unit {0}
