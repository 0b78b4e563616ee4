-- What readers of `serve` answered, as text: for each reader and each of its rounds a line with their numbers, and behind it an answer
-- to each query.
use Rattle.std.specs.Prelude.{◌≡◌, ℕ, ◌+◌, List, [], ◌∷◌, ◌++◌, codes, flat_map, length, map, slice_index_or}
use Rattle.std.specs.Fmt.{decimal}
use Rattle.std.specs.List.{AllByRecursion}
use Rattle.map_query.specs.Answer.{answer}
use Rattle.map_query.specs.declared.query.Query.{Query}
use Rattle.row_rules.specs.Row.{tables}
use Rattle.reader_rounds.specs.Rounds.{Climbs}
use Rattle.reader_rounds.specs.Settling.{HasLength}
use Rattle.update_flow.specs.State.{Holding}
use Rattle.run_promise.specs.Answers.{found_text}

-- the version with this number of those that were shown, which are numbered from 0, the last one behind the others
abbrev pub version_at : List Holding → Holding → (number : ℕ) → Holding
version_at shown last number = slice_index_or (shown ++ last ∷ []) number last

-- the answer to a query in a version of the store
abbrev pub answer_text : Holding → Query → List ℕ
answer_text held query = found_text held.changes (answer held.style (tables held.style held.objects) query)

-- the answers to queries, each in a version of its own
abbrev pub round_text : (ℕ → Holding) → List Query → (numbers : List ℕ) → List ℕ
round_text version (query ∷ queries) (number ∷ numbers) = answer_text (version number) query ++ round_text version queries numbers
round_text version _ _ = []

-- the line before a round
abbrev pub head_line : (reader round : ℕ) → List ℕ
head_line reader round = codes "reader " ++ decimal reader ++ codes " round " ++ decimal round ++ codes "\n"

-- rounds of answers, which are numbered from one on
abbrev pub rounds_text : (reader round : ℕ) → List (List ℕ) → List ℕ
rounds_text reader round [] = []
rounds_text reader round (answers ∷ rounds) = head_line reader round ++ answers ++ rounds_text reader (round + 1) rounds

-- the block of a reader: in each round each query is answered in a version that was shown; the versions never fall; and all of the
-- last round are the last version
pub record IsBlock (queries : List Query) (shown : List Holding) (last : Holding) (reader : ℕ) (text : List ℕ) : Type 0 where
  pub earlier : List (List ℕ)
  pub many : length earlier ≡ length shown
  pub whole : AllByRecursion (HasLength (length queries)) earlier
  pub climbs : Climbs 0 (length shown) (flat_map (λ round. round) earlier)
  pub is : text ≡ rounds_text reader 1 (map (round_text (version_at shown last) queries) earlier ++ flat_map (answer_text last) queries
      ∷ [])

-- blocks of readers, which are numbered from one on
abbrev pub BlocksFrom : List Query → List Holding → Holding → (reader : ℕ) → List (List ℕ) → Type 0
BlocksFrom queries shown last reader [] = Unit {0}
BlocksFrom queries shown last reader (text ∷ texts) =
    IsBlock queries shown last reader text × BlocksFrom queries shown last (reader + 1) texts

-- the blocks of so many readers
abbrev pub AreBlocks : (readers : ℕ) → List Query → (shown : List Holding) → (last : Holding) → List ℕ → Type 0
AreBlocks readers queries shown last text =
    (texts : List (List ℕ)) × (length texts ≡ readers) × BlocksFrom queries shown last 1 texts × (text ≡ flat_map (λ own. own) texts)
