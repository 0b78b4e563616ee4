-- What was asked first, and then.
use Rattle.std.proofs.Common.{List, [], ◌++◌, append_assoc, sym, ap, ◌∙◌}
use Rattle.std.proofs.lemmas.List.{append-nil}
use Rattle.osm_base.specs.map.Known.{Question}
use Rattle.dep_closure.specs.Questions.{AsksSome}

module _ {B : Type 0} (asks : B → List Question → B → Type 0) where
  -- some first of these questions are some first of these and others
  pub asks_first : (old new : B) (first later : List Question) → AsksSome asks old first new → AsksSome asks old (first ++ later) new
  asks_first old new first later some = (
    some.0,
    some.1 ++ later,
    ap (λ all. all ++ later) some.2
        ∙ append_assoc some.0 some.1 later,
    some.3,
  )

  -- all of these, and then some first of those
  pub asks_later : ((one two three : B) (before after : List Question) → asks one before two → asks two after three
      → asks one (before ++ after) three)
      → (old middle new : B) (first later : List Question) → asks old first middle → AsksSome asks middle later new
      → AsksSome asks old (first ++ later) new
  asks_later then old middle new first later all some = (
    first ++ some.0,
    some.1,
    ap (λ rest. first ++ rest) some.2
        ∙ sym (append_assoc first some.0 some.1),
    then old middle new first some.0 all some.3,
  )

  -- all of these
  pub asks_whole : (old new : B) (all : List Question) → asks old all new → AsksSome asks old all new
  asks_whole old new all asked = (all, [], sym (append-nil all), asked)
