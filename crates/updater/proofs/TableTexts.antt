-- Texts of tables, one after another.
use Rattle.std.proofs.Common.{◌≡◌, ◌+◌, ℕ, zero, suc, List, [], ◌∷◌, ◌++◌, sym, ◌∙◌, ap, arith, add-zero}
use Rattle.std.specs.Prelude.{flat_map}
use Rattle.std.specs.List.{range_with_len}
use Rattle.std.proofs.lemmas.List.{append-nil, append_assoc}

-- one number more
range_more : (from some : ℕ) → range_with_len from (suc some) ≡ range_with_len from some ++ (from + some) ∷ []
range_more from zero = rw add-zero
range_more from (suc some) =
    let same : (from + 1) + some ≡ from + suc some = omega arith in
    rw (range_more (from + 1) some, same)

flat_more : (f : ℕ → List ℕ) (items : List ℕ) (last : ℕ) → flat_map f (items ++ last ∷ []) ≡ flat_map f items ++ f last
flat_more f [] last = append-nil (f last)
flat_more f (item ∷ items) last = ap (λ (own : List ℕ). f item ++ own) (flat_more f items last)
    ∙ sym (append_assoc (f item) (flat_map f items) (f last))

-- and its text
pub text_more : (f : ℕ → List ℕ) (count : ℕ) (before : List ℕ)
    → (before ++ flat_map f (range_with_len 0 count)) ++ f count ≡ before ++ flat_map f (range_with_len 0 (count + 1))
text_more f count before =
    let next : 0 + count ≡ count = omega arith in
    let more : count + 1 ≡ suc count = omega arith in
    append_assoc before (flat_map f (range_with_len 0 count)) (f count)
    ∙ ap (λ (own : List ℕ). before ++ own) (sym
    (ap (λ (n : ℕ). flat_map f (range_with_len 0 n)) more ∙ ap (flat_map f) (range_more 0 count)
    ∙ flat_more f (range_with_len 0 count) (0 + count) ∙ ap (λ (n : ℕ). flat_map f (range_with_len 0 count) ++ f n) next))

-- parts behind what stands there, as one part
pub behind-parts : (before one two three four : List ℕ) → before ++ one ++ two ++ three ++ four ≡ before ++ (one ++ two ++ three ++ four)
behind-parts before one two three four =
    ap (λ (own : List ℕ). own ++ three ++ four) (append_assoc before one two)
    ∙ ap (λ (own : List ℕ). own ++ four) (append_assoc before (one ++ two) three) ∙ append_assoc before (one ++ two ++ three) four
