-- Whether the next line says `more`, told by its first bytes.
use Rattle.std.proofs.Common.{◌≡◌, ℕ, zero, suc, ◌<◌, ◌==◌, ◌&&◌, ◌||◌, Bool, true, false, cond, List, [], ◌∷◌, ◌++◌, length, refl, sym, ap, ◌∙◌, inl, inr, arith}
use Rattle.std.specs.Prelude.{◌⊎◌, codes, Contains}
use Rattle.std.specs.List.{onto_first, slice_split}
use Rattle.std.specs.Str.{bytes_eq}
use Rattle.std.proofs.lemmas.Bool.{cases_Bool, eqb-true}
use Rattle.opl_lines.specs.Lines.{lines_of}
use Rattle.opl_lines.specs.declared.reader.TheConstants.{NEWLINE}
use Rattle.delta_feed.specs.Blocks.{is_more, more_comes}
use Rattle.delta_feed.specs.Feeding.{IsEnough, ends_word, says}
use Rattle.delta_feed.specs.Words.{is_space, words_of}
use Rattle.delta_feed.specs.declared.words.TheConstants.{SPACE}

-- the first word of lines
abbrev first_of : List (List ℕ) → List ℕ
first_of [] = []
first_of (word ∷ words) = word

abbrev word_of : List (List ℕ) → List ℕ
word_of [] = []
word_of (line ∷ lines) = first_of (slice_split is_space line)

-- the bytes before the first that ends a word
abbrev front_word : List ℕ → List ℕ
front_word [] = []
front_word (byte ∷ bytes) = cond (ends_word byte) [] (byte ∷ front_word bytes)

first_onto : (byte : ℕ) (words : List (List ℕ)) → first_of (onto_first byte words) ≡ byte ∷ first_of words
first_onto byte [] = refl
first_onto byte (word ∷ words) = refl

one_byte : (byte : ℕ) (line : List ℕ) (test : Bool) → is_space byte ≡ test
    → first_of (slice_split is_space (byte ∷ line)) ≡ cond test [] (byte ∷ first_of (slice_split is_space line))
one_byte byte line true e = rw e refl
one_byte byte line false e = rw e (first_onto byte (slice_split is_space line))

onto_line : (byte : ℕ) (lines : List (List ℕ)) → word_of (onto_first byte lines) ≡ cond (is_space byte) [] (byte ∷ word_of lines)
onto_line byte [] = one_byte byte [] (is_space byte) refl
onto_line byte (line ∷ lines) = one_byte byte line (is_space byte) refl

both_tests : (space newline : Bool) (byte : ℕ) (rest : List ℕ) → cond newline [] (cond space [] (byte ∷ rest)) ≡ cond (space || newline) [] (byte ∷ rest)
both_tests true true byte rest = refl
both_tests true false byte rest = refl
both_tests false true byte rest = refl
both_tests false false byte rest = refl

line_word : (newline : Bool) (byte : ℕ) (lines : List (List ℕ))
    → word_of (cond newline ([] ∷ lines) (onto_first byte lines)) ≡ cond newline [] (cond (is_space byte) [] (byte ∷ word_of lines))
line_word true byte lines = refl
line_word false byte lines = onto_line byte lines

pub word_is : (bytes : List ℕ) → word_of (lines_of bytes) ≡ front_word bytes
unfolding lines_of
word_is [] = refl
word_is (byte ∷ bytes) = line_word (byte == NEWLINE) byte (lines_of bytes)
    ∙ ap (λ own. cond (byte == NEWLINE) [] (cond (is_space byte) [] (byte ∷ own))) (word_is bytes)
    ∙ both_tests (byte == SPACE) (byte == NEWLINE) byte (front_word bytes)

-- the first word of lines is `more`
is_more_first : (words : List (List ℕ)) → is_more words ≡ bytes_eq (first_of words) (codes "more")
is_more_first [] = refl
is_more_first (word ∷ words) = refl

more_word : (lines : List (List ℕ)) → more_comes lines ≡ bytes_eq (word_of lines) (codes "more")
unfolding more_comes words_of
more_word [] = refl
more_word (line ∷ lines) = is_more_first (slice_split is_space line)

-- what bytes begin with is their first word
abbrev AreLetters : List ℕ → Type 0
AreLetters [] = Unit {0}
AreLetters (letter ∷ letters) = (ends_word letter ≡ false) × AreLetters letters

no_letter : (byte letter : ℕ) (test : Bool) → (byte == letter) ≡ test → ends_word letter ≡ false → ends_word byte ≡ true → test ≡ false
no_letter byte letter true same clean ends = absurd (cc (clean, ends, eqb-true byte letter same))
no_letter byte letter false same clean ends = refl

says_more : (byte letter : ℕ) (letters rest : List ℕ) (ends : Bool) → ends_word byte ≡ ends → ends_word letter ≡ false
    → (byte == letter) && bytes_eq rest letters ≡ bytes_eq (cond ends [] (byte ∷ rest)) (letter ∷ letters)
says_more byte letter letters rest true e clean = rw (no_letter byte letter (byte == letter) refl clean e) refl
says_more byte letter letters rest false e clean = refl

ends_alone : (byte : ℕ) (rest : List ℕ) (ends : Bool) → ends ≡ bytes_eq (cond ends [] (byte ∷ rest)) []
ends_alone byte rest true = refl
ends_alone byte rest false = refl

says_word : (word bytes : List ℕ) → AreLetters word → says word bytes ≡ bytes_eq (front_word bytes) word
says_word [] [] clean = refl
says_word [] (byte ∷ bytes) clean = ends_alone byte (front_word bytes) (ends_word byte)
says_word (letter ∷ letters) [] clean = refl
says_word (letter ∷ letters) (byte ∷ bytes) clean =
    ap (λ own. (byte == letter) && own) (says_word letters bytes clean.1)
    ∙ says_more byte letter letters (front_word bytes) (ends_word byte) refl clean.0

-- enough bytes tell it, whatever stands behind them
abbrev IsEnoughFor : (word bytes rest : List ℕ) → Type 0
IsEnoughFor word bytes rest = (length word < length bytes) ⊎ (Contains bytes NEWLINE ⊎ (rest ≡ []))

newline_ends : (byte : ℕ) → byte ≡ NEWLINE → ends_word byte ≡ true
newline_ends byte is = rw is refl

behind : (letter : ℕ) (letters : List ℕ) (byte : ℕ) (bytes rest : List ℕ) → ends_word letter ≡ false → (byte == letter) ≡ true
    → IsEnoughFor (letter ∷ letters) (byte ∷ bytes) rest → IsEnoughFor letters bytes rest
behind letter letters byte bytes rest clean same (inl long) = inl (omega (arith, long))
behind letter letters byte bytes rest clean same (inr (inl (zero, within, is))) =
    absurd (cc (same, no_letter byte letter (byte == letter) refl clean (newline_ends byte is)))
behind letter letters byte bytes rest clean same (inr (inl (suc k, within, is))) = inr (inl (k, omega (arith, within), is))
behind letter letters byte bytes rest clean same (inr (inr none)) = inr (inr none)

no_bytes : (word rest : List ℕ) → IsEnoughFor word [] rest → says word [] ≡ says word rest
no_bytes word rest (inl long) = absurd (omega (arith, long))
no_bytes word rest (inr (inl newline)) = absurd (omega (arith, newline.1))
no_bytes word rest (inr (inr none)) = ap (says word) (sym none)

one_letter : (letter : ℕ) (letters : List ℕ) (byte : ℕ) (bytes rest : List ℕ) → ((byte == letter) ≡ true → says letters bytes ≡ says letters (bytes ++ rest))
    → ((byte == letter) ≡ true) ⊎ ((byte == letter) ≡ false) → says (letter ∷ letters) (byte ∷ bytes) ≡ says (letter ∷ letters) (byte ∷ bytes ++ rest)
one_letter letter letters byte bytes rest same_behind (inl same) = ap (λ own. (byte == letter) && own) (same_behind same)
one_letter letter letters byte bytes rest same_behind (inr other) = rw other refl

says_front : (word bytes rest : List ℕ) → AreLetters word → IsEnoughFor word bytes rest → says word bytes ≡ says word (bytes ++ rest)
says_front word [] rest clean enough = no_bytes word rest enough
says_front [] (byte ∷ bytes) rest clean enough = refl
says_front (letter ∷ letters) (byte ∷ bytes) rest clean enough = one_letter letter letters byte bytes rest
    (λ same. says_front letters bytes rest clean.1 (behind letter letters byte bytes rest clean.0 same enough)) (cases_Bool (byte == letter))

enough_for : (bytes rest : List ℕ) → IsEnough bytes ⊎ (rest ≡ []) → IsEnoughFor (codes "more") bytes rest
enough_for bytes rest (inl (inl long)) = inl (omega (arith, long))
enough_for bytes rest (inl (inr newline)) = inr (inl newline)
enough_for bytes rest (inr none) = inr (inr none)

letters : AreLetters (codes "more")
letters = (refl, (refl, (refl, (refl, tt))))

-- enough bytes, or all that there are, tell whether the next line says `more`
pub tells_more : (bytes rest : List ℕ) → IsEnough bytes ⊎ (rest ≡ []) → says (codes "more") bytes ≡ more_comes (lines_of (bytes ++ rest))
tells_more bytes rest enough =
    says_front (codes "more") bytes rest letters (enough_for bytes rest enough) ∙ says_word (codes "more") (bytes ++ rest) letters
    ∙ ap (λ own. bytes_eq own (codes "more")) (sym (word_is (bytes ++ rest))) ∙ sym (more_word (lines_of (bytes ++ rest)))
