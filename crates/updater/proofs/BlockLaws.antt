-- What readers answered over the versions that they were shown are the blocks of their answers.
use Rattle.std.proofs.Common.{◌≡◌, ◌≤◌, ℕ, suc, ◌+◌, List, [], ◌∷◌, ◌++◌, flat_map, length, map, take, refl, sym, ap, subst, ◌∙◌, arith}
use Rattle.std.specs.Prelude.{All}
use Rattle.std.specs.List.{AllByRecursion}
use Rattle.std.proofs.lemmas.List.{map-append}
use Rattle.std.proofs.lemmas.List.Elements.{All-head, All-tail}
use Rattle.osm_base.specs.map.Spots.{TableMap}
use Rattle.map_query.specs.Answer.{answer}
use Rattle.map_query.specs.declared.query.Query.{Query}
use Rattle.style_read.specs.Style.{StyleOf}
use Rattle.table_versions.specs.Fronts.{FrontOf}
use Rattle.table_versions.specs.Versions.{after}
use Rattle.table_versions.specs.declared.answers.Answer.{Answer}
use Rattle.reader_rounds.specs.Rounds.{AreServed, Climbs, answer_of, answers_of}
use Rattle.update_flow.specs.State.{Holding}
use Rattle.run_promise.specs.Answers.{found_text}
use Rattle.run_promise.specs.Blocks.{AreBlocks, BlocksFrom, IsBlock, answer_text, round_text, rounds_text, version_at}
use Rattle.updater.specs.Blocks.{given_blocks, given_text}
use Rattle.updater.specs.Serving.{AreShown, IsServed, IsShownAs}
use Rattle.updater.proofs.ShownVersions.{get_added}

-- numbers that climb are all within their end
climbs_within : (from to : ℕ) (numbers : List ℕ) → Climbs from to numbers → AllByRecursion (λ number. number ≤ to) numbers
climbs_within from to [] up = tt
climbs_within from to (number ∷ numbers) up = (climbs_low number to numbers up.1, climbs_within number to numbers up.1)
  where
    climbs_low : (from to : ℕ) (numbers : List ℕ) → Climbs from to numbers → from ≤ to
    climbs_low from to [] up = up
    climbs_low from to (number ∷ numbers) up = let rest = climbs_low number to numbers up.1 in omega (arith, up.0, rest)

front_all : {A : Type 0} (P : A → Type 0) (xs ys : List A) → AllByRecursion P (xs ++ ys) → AllByRecursion P xs
front_all P [] ys all = tt
front_all P (x ∷ xs) ys all = (all.0, front_all P xs ys all.1)

back_all : {A : Type 0} (P : A → Type 0) (xs ys : List A) → AllByRecursion P (xs ++ ys) → AllByRecursion P ys
back_all P [] ys all = all
back_all P (x ∷ xs) ys all = back_all P xs ys all.1

-- the texts of readers, which are numbered from one on
abbrev texts_of : (reader : ℕ) → List (List (List Answer)) → List (List ℕ)
texts_of reader [] = []
texts_of reader (rounds ∷ blocks) = rounds_text reader 1 (map given_text rounds) ∷ texts_of (reader + 1) blocks

texts_many : (reader : ℕ) (blocks : List (List (List Answer))) → length (texts_of reader blocks) ≡ length blocks
texts_many reader [] = refl
texts_many reader (rounds ∷ blocks) = ap suc (texts_many (reader + 1) blocks)

texts_all : (reader : ℕ) (blocks : List (List (List Answer)))
    → given_blocks reader blocks ≡ flat_map (λ (own : List ℕ). own) (texts_of reader blocks)
texts_all reader [] = refl
texts_all reader (rounds ∷ blocks) = ap (λ rest. rounds_text reader 1 (map given_text rounds) ++ rest) (texts_all (reader + 1) blocks)

module _ (style : StyleOf) (front : FrontOf) (shown : List Holding) (last : Holding) (queries : List Query)
    (so : AreShown style front shown last) where
  -- an answer of a version of the history is that of a state of the store
  given_one : (held : Holding) (number : ℕ) (query : Query) → IsShownAs style front number held
      → found_text (front.base + number) (answer style (after front.first (take number front.log)) query) ≡ answer_text held query
  given_one held number query is =
      let of_version = after front.first (take number front.log) in
      ap (λ (version : ℕ). found_text version (answer style of_version query)) (sym is.changes)
      ∙ ap (λ (own : StyleOf). found_text held.changes (answer own of_version query)) (sym is.style_is)
      ∙ ap (λ (own : TableMap). found_text held.changes (answer held.style own query)) is.tables

  given_round : (asked : List Query) (numbers : List ℕ) → AllByRecursion (λ number. number ≤ length shown) numbers
      → given_text (answers_of style front asked numbers) ≡ round_text (version_at shown last) asked numbers
  given_round [] numbers all = refl
  given_round (query ∷ asked) [] all = refl
  given_round (query ∷ asked) (number ∷ numbers) all =
      let one = given_one (version_at shown last number) number query (so.each number all.0) in
      let rest = given_round asked numbers all.1 in
      λ i. one i ++ rest i

  given_rounds : (earlier : List (List ℕ)) → AllByRecursion (λ number. number ≤ length shown) (flat_map (λ (round : List ℕ). round) earlier)
      → map given_text (map (answers_of style front queries) earlier) ≡ map (round_text (version_at shown last) queries) earlier
  given_rounds [] all = refl
  given_rounds (round ∷ earlier) all =
      let within = λ (number : ℕ). number ≤ length shown in
      let one = given_round queries round (front_all within round (flat_map (λ (round : List ℕ). round) earlier) all) in
      let rest = given_rounds earlier (back_all within round (flat_map (λ (round : List ℕ). round) earlier) all) in
      λ i. one i ∷ rest i

  last_shown : IsShownAs style front (length front.log) last
  last_shown =
      subst (λ (own : Holding). IsShownAs style front (length front.log) own)
      (ap (version_at shown last) so.many ∙ get_added shown last last)
      (so.each (length front.log) (omega (arith, so.many)))

  given_last : (asked : List Query) → given_text (map (answer_of style front (length front.log)) asked) ≡ flat_map (answer_text last) asked
  given_last [] = refl
  given_last (query ∷ asked) =
      let one = given_one last (length front.log) query last_shown in
      let rest = given_last asked in
      λ i. one i ++ rest i

  block_is : (reader : ℕ) (rounds : ℕ) (own : List (List Answer)) → rounds ≡ length shown → AreServed style front queries rounds own
      → IsBlock queries shown last reader (rounds_text reader 1 (map given_text own))
  block_is reader rounds own count is =
      let climbs : Climbs 0 (length shown) (flat_map (λ (round : List ℕ). round) is.earlier) =
      subst (λ (to : ℕ). Climbs 0 to (flat_map (λ (round : List ℕ). round) is.earlier)) so.many is.climbs in
      let all = climbs_within 0 (length shown) (flat_map (λ (round : List ℕ). round) is.earlier) climbs in
      let each = given_rounds is.earlier all in
      let final = given_last queries in
      record {
        earlier = is.earlier;
        many = is.many ∙ count;
        whole = is.whole;
        climbs = climbs;
        is = ap (rounds_text reader 1)
            (ap (map given_text) is.given ∙ map-append given_text (map (answers_of style front queries) is.earlier)
            (map (answer_of style front (length front.log)) queries ∷ []) ∙ (λ i. each i ++ final i ∷ []));
      }

  blocks_from : (reader rounds : ℕ) (blocks : List (List (List Answer))) → rounds ≡ length shown
      → All (AreServed style front queries rounds) blocks → BlocksFrom queries shown last reader (texts_of reader blocks)
  blocks_from reader rounds [] count all = tt
  blocks_from reader rounds (own ∷ blocks) count all = (
    block_is reader rounds own count (All-head (AreServed style front queries rounds) own blocks all),
    blocks_from (reader + 1) rounds blocks count (All-tail (AreServed style front queries rounds) own blocks all),
  )

  -- the text is that of the blocks
  pub blocks_are : (rounds readers : ℕ) (text : List ℕ) → rounds ≡ length shown → IsServed style front queries rounds readers text
      → AreBlocks readers queries shown last text
  blocks_are rounds readers text count is = (
    texts_of 1 is.blocks,
    texts_many 1 is.blocks ∙ is.many,
    blocks_from 1 rounds is.blocks count is.served,
    is.is
        ∙ texts_all 1 is.blocks,
  )
