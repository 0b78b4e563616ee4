-- A node reference without a place in front of a text.
use Rattle.std.proofs.Common.{◌≡◌, ℕ, true, List, [], ◌∷◌, ◌++◌, Ok, refl, sym, ◌∙◌, ap, arith, take, drop, length}
use Rattle.std.proofs.lemmas.List.{append-nil, take-append-drop, take_all, drop_all}
use Rattle.std.specs.Char.{is_ascii_digit}
use Rattle.std.specs.List.{list_all, slice_split}
use Rattle.opl_object.specs.declared.ascii.TheConstants.{COMMA, SMALL_N}
use Rattle.opl_object.specs.Fields.{is}
use Rattle.opl_object.specs.Nodes.{digits_len, numbered, placed, node_of}
use Rattle.opl_object.specs.Number.{id_of}
use Rattle.opl_object.specs.Why.{◌>>=◌}
use Rattle.opl_object.proofs.Digits.{both}
use Rattle.opl_object.proofs.Fronts.{front_digits, numbered_small}
use Rattle.opl_object.proofs.SpelledTexts.{IsFree, free_digits, split_at, split_free}

-- digits alone are all of them in front
all_in_front : (digits : List ℕ) → list_all is_ascii_digit digits ≡ true → digits_len digits ≡ length digits
all_in_front [] all = refl
all_in_front (digit ∷ digits) all =
    let parts = both (is_ascii_digit digit) (list_all is_ascii_digit digits) all in
    rw parts.0 (omega (arith, all_in_front digits parts.1))

placed-nil : placed [] ≡ Ok tt
unfolding placed
placed-nil = refl

-- an id and nothing else
node_of-digits : (digits : List ℕ) (id : ℕ) → numbered digits ≡ Ok (id, []) → node_of (SMALL_N ∷ digits) ≡ Ok id
unfolding node_of
node_of-digits digits id e =
    ap (λ read. read >>= λ found. placed found.1 >>= λ _. Ok found.0) e ∙ ap (λ read. read >>= λ _. Ok id) placed-nil

module _ (text rest digits behind_digits : List ℕ) (len id : ℕ) (first : text ≡ SMALL_N ∷ rest)
    (front : digits ≡ take len rest) (back : behind_digits ≡ drop len rest) (all : len ≡ digits_len rest) where
  are_digits : list_all is_ascii_digit digits ≡ true
  are_digits = rw (front, all) (front_digits rest)

  pub usual-node : id_of (take len rest) ≡ Ok id → node_of (SMALL_N ∷ digits) ≡ Ok id
  usual-node found =
      let count : digits_len digits ≡ length digits = all_in_front digits are_digits in
      node_of-digits digits id (numbered_small digits [] (length digits) id (sym count)
      (ap id_of (take_all (length digits) digits (omega arith) ∙ front) ∙ found) (sym (drop_all (length digits) digits (omega arith))))

  no_comma : IsFree (is COMMA) (SMALL_N ∷ digits)
  no_comma = (refl, free_digits is_ascii_digit COMMA digits refl are_digits)

  form : text ≡ (SMALL_N ∷ digits) ++ behind_digits
  form = first ∙ ap (λ own. SMALL_N ∷ own)
      (sym (take-append-drop len rest) ∙ ap (λ own. own ++ drop len rest) (sym front) ∙ ap (λ own. digits ++ own) (sym back))

  pub usual_node-last : behind_digits ≡ [] → slice_split (is COMMA) text ≡ (SMALL_N ∷ digits) ∷ []
  usual_node-last none =
      ap (slice_split (is COMMA)) (form ∙ ap (λ own. (SMALL_N ∷ digits) ++ own) none ∙ append-nil (SMALL_N ∷ digits))
      ∙ split_free (is COMMA) (SMALL_N ∷ digits) no_comma

  pub usual_node-more : (later : List ℕ) → behind_digits ≡ COMMA ∷ later
      → slice_split (is COMMA) text ≡ (SMALL_N ∷ digits) ∷ slice_split (is COMMA) later
  usual_node-more later comma =
      ap (slice_split (is COMMA)) (form ∙ ap (λ own. (SMALL_N ∷ digits) ++ own) comma) ∙ split_at COMMA (SMALL_N ∷ digits) later no_comma
