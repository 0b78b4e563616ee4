-- What is given of all rounds of a reader.
use Rattle.std.proofs.Common.{◌≡◌, ℕ, zero, suc, ◌<◌, ◌≤◌, List, [], ◌∷◌, ◌++◌, flat_map, length, map, replicate, refl, sym, ap, ◌∙◌, arith}
use Rattle.std.specs.List.{AllByRecursion}
use Rattle.std.proofs.lemmas.List.{map-append, length-replicate}
use Rattle.osm_base.specs.map.Spots.{TableMap}
use Rattle.style_read.specs.Style.{StyleOf}
use Rattle.map_query.specs.declared.query.Query.{Query}
use Rattle.table_versions.specs.Fronts.{Begins, FrontOf}
use Rattle.table_versions.proofs.Shapes.{begins_itself}
use Rattle.table_versions.specs.Versions.{tables_of, version_of}
use Rattle.table_versions.specs.declared.answers.Answer.{Answer}
use Rattle.table_versions.proofs.Rounds.{begins_trans}
use Rattle.reader_rounds.specs.Asking.{AreAnswered, AreRounds, begin_of}
use Rattle.reader_rounds.specs.Rounds.{AreServed, Climbs, answer_of, answers_of}
use Rattle.reader_rounds.specs.Settling.{HasLength, answered, all_last_or_given, shut_rounds}
use Rattle.reader_rounds.proofs.Climbing.{climbs_append, climbs_same_all}
use Rattle.reader_rounds.proofs.Replying.{cut, last_answer, prefix_length, settled_last, settled_round, tied_by_last}
use Rattle.reader_rounds.proofs.RoundLaws.{answers_begin, rounds_begin}

-- a history goes on from where it begins
pub begins_all : (last : FrontOf) → Begins (begin_of last) last
begins_all last = record { book = refl; first = refl; base = refl; log = (last.log, refl) }

map_same : {A B : Type 0} (f : A → B) (count : ℕ) (x : A) → map f (replicate count x) ≡ replicate count (f x)
map_same f zero x = refl
map_same f (suc count) x = ap (λ xs. f x ∷ xs) (map_same f count x)

climbs_wide : (low from to high : ℕ) (numbers : List ℕ) → low ≤ from → to ≤ high → Climbs from to numbers → Climbs low high numbers
climbs_wide low from to high [] below above up = omega (arith, below, above, up)
climbs_wide low from to high (number ∷ numbers) below above up =
    (omega (arith, below, up.0), climbs_wide number number to high numbers (omega arith) above up.1)

module _ (style : StyleOf) (front last : FrontOf) (ours : Begins front last) (tables : TableMap) (version : ℕ)
    (tables_are : tables ≡ tables_of last) (version_is : version ≡ version_of last) (queries : List Query) where
  record AreSettled (rounds : List (List Answer)) (from to : ℕ) : Type 0 where
    earlier : List (List ℕ)
    many : length earlier ≡ length rounds
    whole : AllByRecursion (HasLength (length queries)) earlier
    given : map (all_last_or_given style tables version queries) rounds ≡ map (answers_of style last queries) earlier
    climbs : Climbs from to (flat_map (λ (round : List ℕ). round) earlier)

  settled_rounds : (told top from to : FrontOf) (rounds : List (List Answer)) → (0 < length queries → Begins last top) → Begins front from
      → Begins to top
      → AreRounds style told from to queries rounds → AreSettled rounds (cut last from) (cut last to)
  settled_rounds told top from to [] tied behind up are =
      let more = prefix_length from.log to.log are.log in
      record { earlier = []; many = refl; whole = tt; given = refl; climbs = omega (arith, more) }
  settled_rounds told top from to (round ∷ rounds) tied behind up (between, (answers, full, are)) =
      let further : Begins front between = begins_trans front from between behind
      (answers_begin style told from between queries round answers) in
      let above : Begins between top = begins_trans between to top (rounds_begin style told between to queries rounds are) up in
      let one = settled_round style front last ours tables version tables_are version_is top told from between queries round tied behind
      above answers full in
      let rest = settled_rounds told top between to rounds tied further up are in
      record {
        earlier = one.numbers ∷ rest.earlier;
        many = ap suc rest.many;
        whole = (one.whole, rest.whole);
        given = λ i. one.given i ∷ rest.given i;
        climbs = climbs_append (cut last from) (cut last between) (cut last to) one.numbers
            (flat_map (λ (round : List ℕ). round) rest.earlier) one.climbs rest.climbs;
      }

  -- a reader that was let in each time
  pub served_open : (count : ℕ) (rounds : List (List Answer)) → AreAnswered style front last queries count rounds
      → AreServed style last queries count (map (all_last_or_given style tables version queries) rounds)
  served_open count rounds own =
      let behind : Begins front own.between = rounds_begin style front front own.between queries own.earlier own.before in
      let up : Begins own.between own.to = answers_begin style own.told own.between own.to queries own.final own.answers in
      let tied = tied_by_last style front last ours tables version tables_are version_is own.told own.between own.to queries own.final
      own.tied own.answers own.whole in
      let all = settled_rounds front own.to front own.between own.earlier tied (begins_itself front) up own.before in
      let final = settled_last style front last ours tables version tables_are version_is own.told own.between own.to queries own.final
      own.tied behind own.answers own.whole in
      let settles = all_last_or_given style tables version queries in
      record {
        earlier = all.earlier;
        many = all.many ∙ own.many;
        whole = all.whole;
        climbs = climbs_wide 0 (cut last front) (cut last own.between) (length last.log) (flat_map (λ (round : List ℕ). round) all.earlier)
            (omega arith) (omega arith) all.climbs;
        given = ap (map settles) own.rounds_are ∙ map-append settles own.earlier (own.final ∷ []) ∙ (λ i. all.given i ++ final i ∷ []);
      }

  -- a round that is the same for all
  same_round : (asked : List Query) → answers_of style last asked (replicate (length asked) (length last.log))
      ≡ map (answer_of style last (length last.log)) asked
  same_round [] = refl
  same_round (query ∷ asked) = ap (λ round. answer_of style last (length last.log) query ∷ round) (same_round asked)

  last_round : (asked : List Query) → map (answered style tables version) asked ≡ map (answer_of style last (length last.log)) asked
  last_round [] = refl
  last_round (query ∷ asked) =
      let one = last_answer style front last ours tables version tables_are version_is query in
      let rest = last_round asked in
      λ i. one i ∷ rest i

  whole_same : (count : ℕ) → AllByRecursion (HasLength (length queries)) (replicate count (replicate (length queries) (length last.log)))
  whole_same zero = tt
  whole_same (suc count) = (length-replicate (length queries) (length last.log), whole_same count)

  -- one that was not
  pub served_shut : (count : ℕ) → AreServed style last queries count (shut_rounds count (map (answered style tables version) queries))
  served_shut count =
      let round = replicate (length queries) (length last.log) in
      let same : map (answered style tables version) queries ≡ answers_of style last queries round =
      last_round queries ∙ sym (same_round queries) in
      let each : replicate count (map (answered style tables version) queries)
      ≡ map (answers_of style last queries) (replicate count round) =
      ap (replicate count) same ∙ sym (map_same (answers_of style last queries) count round) in
      let final = last_round queries in
      record {
        earlier = replicate count round;
        many = length-replicate count round;
        whole = whole_same count;
        climbs = climbs_same_all 0 (length last.log) count (length queries) (omega arith);
        given = λ i. each i ++ final i ∷ [];
      }
