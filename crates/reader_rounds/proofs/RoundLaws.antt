-- Rounds of a reader, one behind the other.
use Rattle.std.proofs.Common.{◌≡◌, ◌≢◌, ℕ, ◌+◌, ◌⊎◌, inl, inr, Bool, true, false, None, Some, Result, Ok, Err, IfOk, List, [], ◌∷◌, ◌++◌}
use Rattle.std.proofs.Common.{length, length-append, sym, ap, subst, ◌∙◌, arith}
use Rattle.std.specs.Bool.{OnFalse, OnTrue}
use Rattle.std.specs.List.{AllByRecursion}
use Rattle.std.specs.Prelude.{All}
use Rattle.std.proofs.lemmas.List.Elements.{All-pop, All-push, All-tail}
use Rattle.style_read.specs.Style.{StyleOf}
use Rattle.map_query.specs.declared.query.Query.{Query}
use Rattle.table_versions.specs.Fronts.{Begins, FrontOf}
use Rattle.table_versions.proofs.Shapes.{begins_itself}
use Rattle.table_versions.specs.Answers.{AreAnswers}
use Rattle.table_versions.specs.Views.{IsNewReader, ReaderOf}
use Rattle.table_versions.specs.declared.answers.Answer.{Answer}
use Rattle.table_versions.proofs.Rounds.{begins_trans}
use Rattle.reader_rounds.specs.Asking.{AreAnswered, AreRounds, AsksRound, HasAsked, begin_of}
use Rattle.reader_rounds.specs.Rounds.{AreServed}
use Rattle.reader_rounds.specs.Settling.{HasLength}
use Rattle.reader_rounds.specs.declared.asker.Asker.{Asker}

-- answers from a history are answers from a beginning of it
answers_from : (style : StyleOf) (told first from to : FrontOf) (queries : List Query) (round : List Answer) → Begins first from
    → AreAnswers style told from to queries round → AreAnswers style told first to queries round
answers_from style told first from to queries [] begins answers = begins_trans first from to begins answers
answers_from style told first from to [] (given ∷ round) begins answers = absurd answers
answers_from style told first from to (query ∷ queries) (given ∷ round) begins (front, (behind, told_so, is, answers)) =
    (front, (begins_trans first from front begins behind, told_so, is, answers))

-- answers lead from a history to one that goes on from it
pub answers_begin : (style : StyleOf) (told from to : FrontOf) (queries : List Query) (round : List Answer)
    → AreAnswers style told from to queries round → Begins from to
answers_begin style told from to queries [] answers = answers
answers_begin style told from to [] (given ∷ round) answers = absurd answers
answers_begin style told from to (query ∷ queries) (given ∷ round) (front, (behind, tied, answer, answers)) =
    begins_trans from front to behind (answers_begin style told front to queries round answers)

pub rounds_begin : (style : StyleOf) (told from to : FrontOf) (queries : List Query) (rounds : List (List Answer))
    → AreRounds style told from to queries rounds → Begins from to
rounds_begin style told from to queries [] are = are
rounds_begin style told from to queries (round ∷ rounds) (between, (answers, whole, are)) =
    begins_trans from between to (answers_begin style told from between queries round answers)
    (rounds_begin style told between to queries rounds are)

-- one round more
rounds_more : (style : StyleOf) (told from between to : FrontOf) (queries : List Query) (rounds : List (List Answer)) (round : List Answer)
    → AreRounds style told from between queries rounds
    → AreAnswers style told between to queries round → length round ≡ length queries
    → AreRounds style told from to queries (rounds ++ round ∷ [])
rounds_more style told from between to queries [] round are answers whole =
    (to, (answers_from style told from between to queries round are answers, whole, begins_itself to))
rounds_more style told from between to queries (first ∷ rounds) round (next, (own, full, are)) answers whole =
    (next, (own, full, rounds_more style told next between to queries rounds round are answers whole))

-- a reader that has not been asked
pub asked_none : (style : StyleOf) (front : FrontOf) (queries : List Query) (asker : Asker) → IsNewReader style front asker.reader
    → asker.rounds ≡ [] → HasAsked style front queries 0 asker
asked_none style front queries asker new none =
    let same : Begins front asker.reader.seen = subst (λ (own : FrontOf). Begins front own) (sym new.seen) (begins_itself front) in
    record {
      style_is = new.style;
      told_is = new.told;
      seen = same;
      many = λ _. ap length none;
      rounds = λ _. subst (λ (rounds : List (List Answer)). AreRounds style front front asker.reader.seen queries rounds) (sym none) same;
    }

module _ (style : StyleOf) (front : FrontOf) (queries : List Query) (count : ℕ) (old new : Asker)
    (asked : HasAsked style front queries count old)
    (same_style : new.reader.style ≡ old.reader.style) (same_told : new.reader.told ≡ old.reader.told)
    (behind : Begins old.reader.seen new.reader.seen) where
  -- it was asked once more
  pub asked_round : AsksRound queries old new → HasAsked style front queries (count + 1) new
  asked_round own =
      let on : new.stopped ≡ None → old.stopped ≡ None = λ none. sym own.goes_on ∙ none in
      let styled : AreAnswers style old.reader.told old.reader.seen new.reader.seen queries own.round =
      subst (λ (one : StyleOf). AreAnswers one old.reader.told old.reader.seen new.reader.seen queries own.round) asked.style_is
      own.answers in
      let answers : AreAnswers style front old.reader.seen new.reader.seen queries own.round =
      subst (λ (one : FrontOf). AreAnswers style one old.reader.seen new.reader.seen queries own.round) asked.told_is styled in
      record {
        style_is = same_style ∙ asked.style_is;
        told_is = same_told ∙ asked.told_is;
        seen = begins_trans front old.reader.seen new.reader.seen asked.seen behind;
        many = λ none. let before = asked.many (on none) in
            omega (arith, ap length own.rounds, length-append old.rounds (own.round ∷ []), before);
        rounds = λ none.
            subst (λ (rounds : List (List Answer)). AreRounds style front front new.reader.seen queries rounds) (sym own.rounds)
            (rounds_more style front front old.reader.seen new.reader.seen queries old.rounds own.round
            (asked.rounds (on none)) answers own.whole);
      }

  -- or something stopped it
  pub asked_stopped : (all : ℕ) → new.stopped ≢ None → HasAsked style front queries all new
  asked_stopped all not = record {
    style_is = same_style ∙ asked.style_is;
    told_is = same_told ∙ asked.told_is;
    seen = begins_trans front old.reader.seen new.reader.seen asked.seen behind;
    many = λ none. absurd (not none);
    rounds = λ none. absurd (not none);
  }

-- a reader that learnt of what was published, and was asked once more
pub answered_last : (style : StyleOf) (front last : FrontOf) (queries : List Query) (count : ℕ) (old mid new : Asker)
    → HasAsked style front queries count old → mid.rounds ≡ old.rounds → mid.stopped ≡ old.stopped
    → (mid.reader ≡ old.reader) ⊎ (mid.reader ≡ record old.reader { told = last })
    → (old.reader.has_handle ≡ true → Begins old.reader.told mid.reader.told × Begins last mid.reader.told)
    → AsksRound queries mid new → new.stopped ≡ None → AreAnswered style front last queries count new.rounds
answered_last style front last queries count old mid new asked same on learnt told own none =
    let before : old.stopped ≡ None = sym on ∙ (sym own.goes_on ∙ none) in
    let parts : (mid.reader.style ≡ old.reader.style) × (mid.reader.seen ≡ old.reader.seen)
    × (mid.reader.has_handle ≡ old.reader.has_handle) = kept learnt in
    let styled : AreAnswers style mid.reader.told mid.reader.seen new.reader.seen queries own.round =
    subst (λ (one : StyleOf). AreAnswers one mid.reader.told mid.reader.seen new.reader.seen queries own.round)
    (parts.0 ∙ asked.style_is) own.answers in
    record {
      told = mid.reader.told;
      between = old.reader.seen;
      to = new.reader.seen;
      earlier = old.rounds;
      final = own.round;
      rounds_are = own.rounds ∙ ap (λ (rounds : List (List Answer)). rounds ++ own.round ∷ []) same;
      many = asked.many before;
      before = asked.rounds before;
      answers = subst (λ (one : FrontOf). AreAnswers style mid.reader.told one new.reader.seen queries own.round) parts.1 styled;
      whole = own.whole;
      tied = λ some. (told (sym parts.2 ∙ own.handle some)).1;
    }
  where
    kept : (mid.reader ≡ old.reader) ⊎ (mid.reader ≡ record old.reader { told = last })
        → (mid.reader.style ≡ old.reader.style) × (mid.reader.seen ≡ old.reader.seen) × (mid.reader.has_handle ≡ old.reader.has_handle)
    kept (inl is) = (
      ap (λ (reader : ReaderOf). reader.style) is,
      ap (λ (reader : ReaderOf). reader.seen) is,
      ap (λ (reader : ReaderOf). reader.has_handle) is,
    )
    kept (inr is) = (
      ap (λ (reader : ReaderOf). reader.style) is,
      ap (λ (reader : ReaderOf). reader.seen) is,
      ap (λ (reader : ReaderOf). reader.has_handle) is,
    )

-- each round has an answer to each query
pub rounds_whole : (style : StyleOf) (told from to : FrontOf) (queries : List Query) (rounds : List (List Answer)) (final : List Answer)
    → AreRounds style told from to queries rounds → length final ≡ length queries
    → AllByRecursion (HasLength (length queries)) (rounds ++ final ∷ [])
rounds_whole style told from to queries [] final are whole = (whole, tt)
rounds_whole style told from to queries (round ∷ rounds) final (between, (answers, full, are)) whole =
    (full, rounds_whole style told between to queries rounds final are whole)

-- one or the other answer of a round
pub round_answered : (result : Bool) (Round Stopped : Type 0) → OnTrue result Round → OnFalse result (Stopped → ⊥) → Stopped → Round
round_answered true Round Stopped round stopped none = round
round_answered false Round Stopped round stopped none = absurd (stopped none)

-- each of all rounds has
pub whole_answered : (style : StyleOf) (front last : FrontOf) (queries : List Query) (count : ℕ) (rounds : List (List Answer))
    → AreAnswered style front last queries count rounds → AllByRecursion (HasLength (length queries)) rounds
whole_answered style front last queries count rounds own =
    subst (λ (all : List (List Answer)). AllByRecursion (HasLength (length queries)) all) (sym own.rounds_are)
    (rounds_whole style front front own.between queries own.earlier own.final own.before own.whole)

-- a reader more that has not been asked
pub more_askers : (style : StyleOf) (front : FrontOf) (queries : List Query) (before left : List ReaderOf) (reader : ReaderOf)
    (askers more : List Asker) (asker : Asker) → before ≡ left ++ reader ∷ [] → more ≡ askers ++ asker ∷ []
    → asker.reader ≡ reader → asker.rounds ≡ [] → All (IsNewReader style front) before × All (HasAsked style front queries 0) askers
    → All (IsNewReader style front) left × All (HasAsked style front queries 0) more
more_askers style front queries before left reader askers more asker popped pushed is none all =
    let parts = All-pop (IsNewReader style front) before left (Some reader) popped all.0 in
    let new : IsNewReader style front asker.reader = subst (λ (own : ReaderOf). IsNewReader style front own) (sym is) parts.1 in (
      parts.0,
      subst (λ (own : List Asker). All (HasAsked style front queries 0) own) (sym pushed)
          (All-push (HasAsked style front queries 0) askers asker all.1 (asked_none style front queries asker new none)),
    )

-- a reader more that is served
pub more_served : (style : StyleOf) (last : FrontOf) (queries : List Query) (count : ℕ) (before left : List Asker) (asker : Asker)
    (blocks more : List (List (List Answer))) (rounds : List (List Answer)) → before ≡ asker ∷ left
    → more ≡ blocks ++ rounds ∷ [] → All (HasAsked style (begin_of last) queries count) before
    → All (AreServed style last queries count) blocks → AreServed style last queries count rounds
    → All (HasAsked style (begin_of last) queries count) left × All (AreServed style last queries count) more
more_served style last queries count before left asker blocks more rounds taken pushed asked served own = (
  All-tail (HasAsked style (begin_of last) queries count) asker left
      (subst (λ (all : List Asker). All (HasAsked style (begin_of last) queries count) all) taken asked),
  subst (λ (all : List (List (List Answer))). All (AreServed style last queries count) all) (sym pushed)
      (All-push (AreServed style last queries count) blocks rounds served own),
)

-- what is so of a value is so of a result that is it
pub ok_as : {A E : Type 0} (result : Result A E) (value : A) (P : A → Type 0) → IfOk result (λ own. own ≡ value) → P value → IfOk result P
ok_as (Ok own) value P is holds = subst P (sym is) holds
ok_as (Err error) value P is holds = tt
