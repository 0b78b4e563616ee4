-- What is given of the answers of one round.
use Rattle.std.proofs.Common.{◌≡◌, ℕ, suc, ◌+◌, ◌<◌, ◌≤◌, min, Bool, true, false, List, [], ◌∷◌, length, length-append, map, take, refl}
use Rattle.std.proofs.Common.{sym, ap, ◌∙◌, arith}
use Rattle.std.specs.Prelude.{nat_lt, if◌then◌else◌}
use Rattle.std.proofs.lemmas.Bool.Decides.{nat_tests}
use Rattle.std.proofs.lemmas.List.{take_all}
use mathlib.Core.List.{IsPrefix}
use Rattle.osm_base.specs.declared.values.row.Delta.{Delta}
use Rattle.osm_base.specs.map.Spots.{TableMap}
use Rattle.style_read.specs.Style.{StyleOf}
use Rattle.map_query.specs.Answer.{answer}
use Rattle.map_query.specs.declared.query.Query.{Query}
use Rattle.table_versions.specs.Fronts.{Begins, FrontOf}
use Rattle.table_versions.proofs.Beginnings.{prefix_shorter}
use Rattle.table_versions.proofs.Shapes.{begins_itself}
use Rattle.table_versions.specs.Answers.{AreAnswers, IsAnswer}
use Rattle.table_versions.specs.Versions.{after, tables_of, version_of}
use Rattle.table_versions.specs.declared.answers.Answer.{Answer}
use Rattle.table_versions.proofs.Rounds.{begins_trans}
use Rattle.reader_rounds.specs.Rounds.{Climbs, answer_of, answers_of}
use Rattle.reader_rounds.specs.Settling.{answered, last_or_given, all_last_or_given}
use Rattle.reader_rounds.proofs.RoundLaws.{answers_begin}

-- a beginning of a list is its front
prefix_take : {A : Type 0} (xs ys : List A) → IsPrefix xs ys → xs ≡ take (length xs) ys
prefix_take [] ys p = refl
prefix_take (x ∷ xs) [] p = absurd (cc (p.1))
prefix_take (x ∷ xs) (y ∷ ys) p = let rest = prefix_take xs ys (p.0, cc (p.1)) in cc (p.1, rest)

pub prefix_length : {A : Type 0} (xs ys : List A) → IsPrefix xs ys → length xs ≤ length ys
prefix_length xs ys p = omega (arith, ap length p.1, length-append xs p.0)

-- the number of a version, at most that of the last one
abbrev pub cut : (last own : FrontOf) → ℕ
cut last own = min (length own.log) (length last.log)

-- the last version, and the history that led to it from the first tables
module _ (style : StyleOf) (front last : FrontOf) (ours : Begins front last) (tables : TableMap) (version : ℕ)
    (tables_are : tables ≡ tables_of last) (version_is : version ≡ version_of last) where
  abbrev settles : Query → Answer → Answer
  settles query given = last_or_given style tables version query given

  -- the last version
  whole_log : take (length last.log) last.log ≡ last.log
  whole_log = take_all (length last.log) last.log (omega arith)

  pub last_answer : (query : Query) → answered style tables version query ≡ answer_of style last (length last.log) query
  last_answer query =
      let same : tables ≡ after last.first (take (length last.log) last.log) =
      tables_are ∙ ap (λ (log : List Delta). after last.first log) (sym whole_log) in
      ap (λ (own : TableMap). answered style own version query) same
      ∙ ap (λ (own : ℕ). answered style (after last.first (take (length last.log) last.log)) own query) version_is

  -- an answer of a version that is not past the last one
  kept_answer : (own : FrontOf) (query : Query) (given : Answer) → Begins front own → IsPrefix own.log last.log
      → IsAnswer style own query given → given ≡ answer_of style last (length own.log) query
  kept_answer own query given behind begins is =
      let base : own.base ≡ last.base = behind.base ∙ sym ours.base in
      let first : own.first ≡ last.first = behind.first ∙ sym ours.first in
      let log : own.log ≡ take (length own.log) last.log = prefix_take own.log last.log begins in
      let found : given.found ≡ answer style (after last.first (take (length own.log) last.log)) query =
      is.found ∙ ap (λ (one : TableMap). answer style (after one own.log) query) first
      ∙ ap (λ (one : List Delta). answer style (after last.first one) query) log in
      let number : given.version ≡ last.base + length own.log = is.version ∙ ap (λ (one : ℕ). one + length own.log) base in
      ap (λ (one : ℕ). record { version = one; found = given.found }) number
      ∙ ap (λ found. record { version = last.base + length own.log; found = found }) found

  module _ (top : FrontOf) where
    -- what is given of an answer, whose history begins one that goes on from the last version
    pub settled_one : (own : FrontOf) (query : Query) (given : Answer) → Begins front own → Begins own top → Begins last top
        → IsAnswer style own query given → settles query given ≡ answer_of style last (cut last own) query
    settled_one own query given behind up tied is = go (nat_lt version given.version) refl
      where
        base : own.base ≡ last.base
        base = behind.base ∙ sym ours.base

        go : (late : Bool) → nat_lt version given.version ≡ late
            → (if late then answered style tables version query else given) ≡ answer_of style last (cut last own) query
        go true late =
            let less : version < given.version = grind (arith, nat_tests) in
            let at_last : cut last own ≡ length last.log = omega (arith, less, version_is, is.version, base) in
            last_answer query ∙ ap (λ (n : ℕ). answer_of style last n query) (sym at_last)
        go false early =
            let most : given.version ≤ version = grind (arith, nat_tests) in
            let short : length own.log ≤ length last.log = omega (arith, most, version_is, is.version, base) in
            let here : cut last own ≡ length own.log = omega (arith, short) in
            kept_answer own query given behind (prefix_shorter own.log last.log top.log up.log tied.log short) is
            ∙ ap (λ (n : ℕ). answer_of style last n query) (sym here)

    pub record IsSettled (queries : List Query) (round : List Answer) (from to : ℕ) : Type 0 where
      pub numbers : List ℕ
      pub whole : length numbers ≡ length queries
      pub given : all_last_or_given style tables version queries round ≡ answers_of style last queries numbers
      pub climbs : Climbs from to numbers

    -- what is given of a round
    pub settled_round : (told from to : FrontOf) (queries : List Query) (round : List Answer) → (0 < length queries → Begins last top)
        → Begins front from → Begins to top
        → AreAnswers style told from to queries round → length round ≡ length queries
        → IsSettled queries round (cut last from) (cut last to)
    settled_round told from to [] [] tied behind up answers whole =
        let more = prefix_length from.log to.log answers.log in
        record { numbers = []; whole = refl; given = refl; climbs = omega (arith, more) }
    settled_round told from to (query ∷ queries) [] tied behind up answers whole = absurd (omega (arith, whole))
    settled_round told from to [] (given ∷ round) tied behind up answers whole = absurd answers
    settled_round told from to (query ∷ queries) (given ∷ round) tied behind up (own, (begins, told_so, is, answers)) whole =
        let ties : Begins last top = tied (omega arith) in
        let further : Begins front own = begins_trans front from own behind begins in
        let above : Begins own top = begins_trans own to top (answers_begin style told own to queries round answers) up in
        let rest = settled_round told own to queries round (λ _. ties) further up answers (omega (arith, whole)) in
        let one = settled_one own query given further above ties is in
        let more = prefix_length from.log own.log begins.log in
        record {
          numbers = cut last own ∷ rest.numbers;
          whole = ap suc rest.whole;
          given = λ i. one i ∷ rest.given i;
          climbs = (omega (arith, more), rest.climbs);
        }

  -- a last round, which was told of the last version
  pub settled_last : (told from to : FrontOf) (queries : List Query) (round : List Answer) → (0 < length round → Begins last told)
      → Begins front from
      → AreAnswers style told from to queries round → length round ≡ length queries
      → all_last_or_given style tables version queries round ≡ map (answer_of style last (length last.log)) queries
  settled_last told from to [] [] tied behind answers whole = refl
  settled_last told from to (query ∷ queries) [] tied behind answers whole = absurd (omega (arith, whole))
  settled_last told from to [] (given ∷ round) tied behind answers whole = absurd answers
  settled_last told from to (query ∷ queries) (given ∷ round) tied behind (own, (begins, told_so, is, answers)) whole =
      let ties : Begins last told = tied (omega arith) in
      let further : Begins front own = begins_trans front from own behind begins in
      let past : Begins last own = begins_trans last told own ties told_so in
      let long = prefix_length last.log own.log past.log in
      let at_last : cut last own ≡ length last.log = omega (arith, long) in
      let one = settled_one own own query given further (begins_itself own) past is
      ∙ ap (λ (n : ℕ). answer_of style last n query) at_last in
      let rest = settled_last told own to queries round (λ _. ties) further answers (omega (arith, whole)) in
      λ i. one i ∷ rest i

  -- a last round ties the history that it saw to the last version
  pub tied_by_last : (told from to : FrontOf) (queries : List Query) (round : List Answer) → (0 < length round → Begins last told)
      → AreAnswers style told from to queries round → length round ≡ length queries
      → 0 < length queries → Begins last to
  tied_by_last told from to queries [] tied answers whole some = absurd (omega (arith, whole, some))
  tied_by_last told from to [] (given ∷ round) tied answers whole some = absurd answers
  tied_by_last told from to (query ∷ queries) (given ∷ round) tied (own, (begins, told_so, is, answers)) whole some =
      begins_trans last told to (tied (omega arith))
      (begins_trans told own to told_so (answers_begin style told own to queries round answers))
