-- What is given of the answers of a reader, once the last version is known.
use Rattle.std.specs.Prelude.{◌≡◌, ℕ, nat_lt, if◌then◌else◌, List, [], ◌∷◌, ◌++◌, length, replicate}
use Rattle.osm_base.specs.map.Spots.{TableMap}
use Rattle.style_read.specs.Style.{StyleOf}
use Rattle.map_query.specs.Answer.{answer}
use Rattle.map_query.specs.declared.query.Query.{Query}
use Rattle.table_versions.specs.declared.answers.Answer.{Answer}

-- a list of so many
abbrev pub HasLength : {A : Type 0} → ℕ → List A → Type 0
HasLength count items = length items ≡ count

-- the answer over these tables
abbrev pub answered : StyleOf → TableMap → (version : ℕ) → Query → Answer
answered style tables version query = record { version = version; found = answer style tables query }

-- an answer of a later version is taken over the last one
abbrev pub last_or_given : StyleOf → TableMap → (version : ℕ) → Query → Answer → Answer
last_or_given style tables version query given = if nat_lt version given.version then answered style tables version query else given

-- and so are those of a round
abbrev pub all_last_or_given : StyleOf → TableMap → (version : ℕ) → List Query → List Answer → List Answer
all_last_or_given style tables version (query ∷ queries) (given ∷ round) =
    last_or_given style tables version query given ∷ all_last_or_given style tables version queries round
all_last_or_given style tables version _ _ = []

-- the same round so many times, and once more
abbrev pub shut_rounds : {A : Type 0} → ℕ → A → List A
shut_rounds count round = replicate count round ++ round ∷ []
