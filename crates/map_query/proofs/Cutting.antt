-- The words of a text, one after the other.
use Rattle.std.proofs.Common.{◌≡◌, ℕ, ◌<◌, ◌==◌, true, false, List, [], ◌∷◌, length, Option, Some, None, Ok, Err, refl, ◌∙◌, ap, arith, inl}
use Rattle.std.proofs.Common.{inr}
use Rattle.std.specs.Prelude.{MatchOption}
use Rattle.std.specs.Borrow.{Bor}
use Rattle.std.specs.List.{slice_split, position_or_len, before_first, after_first}
use Rattle.std.proofs.lemmas.Bool.{cases_lt, ne_eqb}
use Rattle.opl_object.specs.Fields.{is, is_empty}
use Rattle.opl_object.proofs.Cuts.{place_le, split_none, split_first}
use Rattle.map_query.specs.declared.fault.QueryWhy.TheVariants.{Form}
use Rattle.map_query.specs.Words.{words_of, next_word, last_word}

-- what `split_once` gives at a space
pub cut_words : (text : List ℕ) (found : Option (Bor (List ℕ) × Bor (List ℕ)))
    → MatchOption found (position_or_len (is 32) text ≡ length text)
    (λ x. (position_or_len (is 32) text < length text) × (x.0.now ≡ before_first (is 32) text) × (x.1.now ≡ after_first (is 32) text))
    → MatchOption found (words_of text ≡ text ∷ []) (λ x. words_of text ≡ x.0.now ∷ words_of x.1.now)
unfolding words_of
cut_words text None h = split_none (is 32) text h
cut_words text (Some x) h = rw (h.1, h.2) (split_first (is 32) text h.0)

-- a list of which one is told is not empty
one_at_least : {A : Type 0} (x : A) (xs : List A) → (length (x ∷ xs) == 0) ≡ false
one_at_least x xs = ne_eqb _ _ (λ e. omega arith)

-- each text has a word, even if it is empty
some_words : (text : List ℕ) → (length (words_of text) == 0) ≡ false
unfolding words_of
some_words text = elim (cases_lt (position_or_len (is 32) text) (length text)) [
  | inl lt ↦ ap (λ words. length words == 0) (split_first (is 32) text lt)
      ∙ one_at_least (before_first (is 32) text) (slice_split (is 32) (after_first (is 32) text))
  | inr le ↦ ap (λ words. length words == 0) (split_none (is 32) text (omega (arith, place_le (is 32) text))) ∙ one_at_least text []
]

pub next_alone : (text : List ℕ) → words_of text ≡ text ∷ [] → next_word (words_of text) ≡ Err Form
unfolding next_word
next_alone text e = rw e refl

pub next_empty : (text word rest : List ℕ) → words_of text ≡ word ∷ words_of rest → is_empty word ≡ true
    → next_word (words_of text) ≡ Err Form
unfolding next_word
next_empty text word rest e none = rw (e, some_words rest, none) refl

pub next_some : (text word rest : List ℕ) → words_of text ≡ word ∷ words_of rest → is_empty word ≡ false
    → next_word (words_of text) ≡ Ok (word, words_of rest)
unfolding next_word
next_some text word rest e some = rw (e, some_words rest, some) refl

pub last_more : (text word rest : List ℕ) → words_of text ≡ word ∷ words_of rest → last_word (words_of text) ≡ Err Form
unfolding last_word
last_more text word rest e = rw (e, some_words rest) refl

pub last_empty : (text : List ℕ) → words_of text ≡ text ∷ [] → is_empty text ≡ true → last_word (words_of text) ≡ Err Form
unfolding last_word
last_empty text e none = rw (e, none) refl

pub last_some : (text : List ℕ) → words_of text ≡ text ∷ [] → is_empty text ≡ false → last_word (words_of text) ≡ Ok text
unfolding last_word
last_some text e some = rw (e, some) refl
