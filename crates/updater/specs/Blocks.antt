-- What readers of `serve` answered, as text: the answers as they were given.
use Rattle.std.specs.Prelude.{ℕ, ◌+◌, List, [], ◌∷◌, ◌++◌, flat_map, map}
use Rattle.table_versions.specs.declared.answers.Answer.{Answer}
use Rattle.run_promise.specs.Answers.{found_text}
use Rattle.run_promise.specs.Blocks.{rounds_text}

-- answers that were given, as text
abbrev pub given_text : List Answer → List ℕ
given_text answers = flat_map (λ given. found_text given.version given.found) answers

-- the rounds of readers, which are numbered from this one on
abbrev pub given_blocks : (reader : ℕ) → List (List (List Answer)) → List ℕ
given_blocks reader [] = []
given_blocks reader (rounds ∷ blocks) = rounds_text reader 1 (map given_text rounds) ++ given_blocks (reader + 1) blocks
