-- What readers answer in rounds while versions are published.
use Rattle.std.specs.Prelude.{◌≡◌, ℕ, ◌+◌, ◌≤◌, List, [], ◌∷◌, ◌++◌, flat_map, length, map, take}
use Rattle.std.specs.List.{AllByRecursion}
use Rattle.style_read.specs.Style.{StyleOf}
use Rattle.map_query.specs.Answer.{answer}
use Rattle.map_query.specs.declared.query.Query.{Query}
use Rattle.table_versions.specs.Fronts.{FrontOf}
use Rattle.table_versions.specs.declared.answers.Answer.{Answer}
use Rattle.table_versions.specs.Versions.{after}
use Rattle.reader_rounds.specs.Settling.{HasLength}

-- the answer to a query of a version, which are numbered from 0, that of the first tables
abbrev pub answer_of : StyleOf → FrontOf → (number : ℕ) → Query → Answer
answer_of style front number query = record {
  version = front.base + number;
  found =
      answer style (after front.first (take number front.log)) query;
}

-- the answers to queries, each of a version of its own
abbrev pub answers_of : StyleOf → FrontOf → List Query → List ℕ → List Answer
answers_of style front (query ∷ queries) (number ∷ numbers) = answer_of style front number query ∷ answers_of style front queries numbers
answers_of style front _ _ = []

-- numbers that never fall, from one to another
abbrev pub Climbs : (from to : ℕ) → List ℕ → Type 0
Climbs from to [] = from ≤ to
Climbs from to (number ∷ numbers) = (from ≤ number) × Climbs number to numbers

-- the rounds of a reader, so many and a last one: each query is answered in each, the versions never fall and are none past the
-- last one, and that is the version of the whole last round
pub record AreServed (style : StyleOf) (front : FrontOf) (queries : List Query) (count : ℕ) (rounds : List (List Answer)) : Type 0 where
  pub earlier : List (List ℕ)
  pub many : length earlier ≡ count
  pub whole : AllByRecursion (HasLength (length queries)) earlier
  pub climbs : Climbs 0 (length front.log) (flat_map (λ round. round) earlier)
  pub given : rounds ≡ map (answers_of style front queries) earlier ++ map (answer_of style front (length front.log)) queries ∷ []
