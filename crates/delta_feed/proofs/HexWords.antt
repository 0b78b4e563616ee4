-- A word of digits is the one word of its line.
use Rattle.std.proofs.Common.{◌≡◌, ℕ, ◌≤◌, Bool, true, false, List, [], ◌∷◌, length, Ok, arith}
use Rattle.std.specs.List.{All, list_all}
use Rattle.std.proofs.lemmas.Bool.{ne_eqb}
use Rattle.std.proofs.lemmas.Bool.Decides.{nat_tests}
use Rattle.std.proofs.lemmas.List.Elements.{All-weaker}
use Rattle.std.proofs.lemmas.List.Splits.{slice_split_none}
use Rattle.std.proofs.lemmas.List.Sums.{AllPass-from_list_all}
use Rattle.delta_feed.specs.Hexes.{is_digit}
use Rattle.delta_feed.specs.Words.{is_space, last_word, words_of}
use Rattle.delta_feed.proofs.Cutting.{last_some}

abbrev pub HasNoSpace : List ℕ → Type 0
HasNoSpace word = All (λ byte. is_space byte ≡ false) word

-- no byte that passes a test is a space
pub clean : (test : ℕ → Bool) (word : List ℕ) → ((byte : ℕ) → test byte ≡ true → is_space byte ≡ false) → list_all test word ≡ true → HasNoSpace word
clean test word other all = All-weaker (λ byte. test byte ≡ true) (λ byte. is_space byte ≡ false) other word (AllPass-from_list_all test word all)

pub hex_no_space : (byte : ℕ) → is_digit byte ≡ true → is_space byte ≡ false
hex_no_space byte passes = grind (arith, nat_tests)

-- digits are one word, which is the last
digits_alone : (word : List ℕ) → list_all is_digit word ≡ true → words_of word ≡ word ∷ []
unfolding words_of
digits_alone word all = slice_split_none is_space word (clean is_digit word hex_no_space all)

pub digits_last : (word : List ℕ) → 1 ≤ length word → list_all is_digit word ≡ true → last_word (words_of word) ≡ Ok word
digits_last word some all = last_some word (digits_alone word all) (ne_eqb (length word) 0 (λ e. omega (arith, some)))
