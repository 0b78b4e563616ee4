-- How far readers are with their rounds.
use Rattle.std.specs.Prelude.{◌≡◌, ◌<◌, ℕ, true, List, [], ◌∷◌, ◌++◌, All, length, None}
use Rattle.style_read.specs.Style.{StyleOf}
use Rattle.map_query.specs.declared.query.Query.{Query}
use Rattle.table_versions.specs.Fronts.{Begins, FrontOf}
use Rattle.table_versions.specs.Answers.{AreAnswers}
use Rattle.table_versions.specs.declared.answers.Answer.{Answer}
use Rattle.reader_rounds.specs.declared.asker.Asker.{Asker}
use Rattle.reader_rounds.specs.declared.askers.Askers.{Askers}

-- a history before any delta
abbrev pub begin_of : FrontOf → FrontOf
begin_of front = record front { log = [] }

-- rounds of answers, each whole, over histories that go on
abbrev pub AreRounds : StyleOf → (told from to : FrontOf) → List Query → List (List Answer) → Type 0
AreRounds style told from to queries [] = Begins from to
AreRounds style told from to queries (round ∷ rounds) =
    (between : FrontOf) × (AreAnswers style told from between queries round × (length round ≡ length queries)
    × AreRounds style told between to queries rounds)

-- one round more was answered
pub record AsksRound (queries : List Query) (old new : Asker) : Type 0 where
  pub round : List Answer
  pub rounds : new.rounds ≡ old.rounds ++ round ∷ []
  pub answers : AreAnswers old.reader.style old.reader.told old.reader.seen new.reader.seen queries round
  pub whole : length round ≡ length queries
  pub handle : 0 < length round → old.reader.has_handle ≡ true
  pub goes_on : new.stopped ≡ old.stopped

-- a reader answered so many rounds, unless something stopped it; it has been told of nothing
pub record HasAsked (style : StyleOf) (front : FrontOf) (queries : List Query) (count : ℕ) (asker : Asker) : Type 0 where
  pub style_is : asker.reader.style ≡ style
  pub told_is : asker.reader.told ≡ front
  pub seen : Begins front asker.reader.seen
  pub many : asker.stopped ≡ None → length asker.rounds ≡ count
  pub rounds : asker.stopped ≡ None → AreRounds style front front asker.reader.seen queries asker.rounds

-- so many rounds, and one more behind them that was told of the last version
pub record AreAnswered (style : StyleOf) (front last : FrontOf) (queries : List Query) (count : ℕ)
    (rounds : List (List Answer)) : Type 0 where
  pub told : FrontOf
  pub between : FrontOf
  pub to : FrontOf
  pub earlier : List (List Answer)
  pub final : List Answer
  pub rounds_are : rounds ≡ earlier ++ final ∷ []
  pub many : length earlier ≡ count
  pub before : AreRounds style front front between queries earlier
  pub answers : AreAnswers style told between to queries final
  pub whole : length final ≡ length queries
  pub tied : 0 < length final → Begins last told

-- how many readers there are
abbrev pub count_of : Askers → ℕ
count_of askers = length askers.askers.items

-- each reader answered so many rounds
abbrev pub AreAsking : StyleOf → FrontOf → List Query → (count : ℕ) → Askers → Type 0
AreAsking style front queries count askers = All (HasAsked style front queries count) askers.askers.items

-- whatever readers began with, each answered so many rounds of it
pub record Asks (queries : List Query) (rounds : ℕ) (old new : Askers) : Type 0 where
  pub each : (style : StyleOf) (front : FrontOf) → AreAsking style front queries 0 old → AreAsking style front queries rounds new
  pub count : count_of new ≡ count_of old
