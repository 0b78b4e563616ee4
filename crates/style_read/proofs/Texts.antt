-- How a text is cut.
use Rattle.std.proofs.Common.{◌≡◌, ◌≢◌, ℕ, ◌+◌, ◌<◌, Bool, true, false, List, [], ◌∷◌, ◌++◌, ◌==◌, length, get_or, Option, Some, None}
use Rattle.std.proofs.Common.{option_map, refl, sym, ap, ◌∙◌, arith}
use Rattle.std.specs.Prelude.{MatchOption}
use Rattle.std.specs.Borrow.{Bor}
use Rattle.std.specs.Str.Pattern.{FindsTextPrefix, StripsPrefix}
use Rattle.std.proofs.lemmas.Bool.Decides.{nat_tests}
use Rattle.std.proofs.lemmas.Grind.{common_steps}
use Rattle.style_read.specs.Text.{behind, before_last, around_first}

same : (byte : ℕ) → (byte == byte) ≡ true
same byte = grind (arith, nat_tests)

-- behind a beginning stands the rest
behind-at : (front rest : List ℕ) → behind front (front ++ rest) ≡ Some rest
unfolding behind
behind-at [] rest = refl
behind-at (byte ∷ front) rest = rw (same byte) (behind-at front rest)

-- where a text does not begin so, nothing does
behind-without : (front text : List ℕ) → ((rest : List ℕ) → text ≢ front ++ rest) → behind front text ≡ None
unfolding behind
behind-without [] text other = absurd (other text refl)
behind-without (byte ∷ front) [] other = refl
behind-without (byte ∷ front) (first ∷ text) other = go (first == byte) refl (λ free. behind-without front text free)
  where
    go : (t : Bool) → (first == byte) ≡ t → (((rest : List ℕ) → text ≢ front ++ rest) → behind front text ≡ None)
        → behind (byte ∷ front) (first ∷ text) ≡ None
    go true e less = let equal : first ≡ byte = grind (arith, nat_tests) in
        rw e (less (λ rest f. other rest (ap (λ x. x ∷ text) equal ∙ ap (λ l. byte ∷ l) f)))
    go false e less = rw e

-- the clause of `strip_prefix` at a text
pub behind-stripped : (front text : List ℕ) (found : Option (Bor (List ℕ)))
    → MatchOption found (FindsTextPrefix front text None) (λ x. StripsPrefix (FindsTextPrefix front) text x.now)
    → option_map (λ rest. rest.now) found ≡ behind front text
behind-stripped front text None h = sym (behind-without front text h)
behind-stripped front text (Some rest) h =
    let whole : text ≡ front ++ rest.now = h.1.1 ∙ ap (λ l. front ++ l) (sym h.2) in
    sym (ap (behind front) whole ∙ behind-at front rest.now)

-- before a last byte stands what is in front of it
before_last-at : (byte : ℕ) (front : List ℕ) → before_last byte (front ++ byte ∷ []) ≡ Some front
unfolding before_last
before_last-at byte [] = rw (same byte)
before_last-at byte (only ∷ []) = rw (same byte)
before_last-at byte (first ∷ next ∷ front) = rw (before_last-at byte (next ∷ front))

before_last-without : (byte : ℕ) (text : List ℕ) → ((front : List ℕ) → text ≢ front ++ byte ∷ []) → before_last byte text ≡ None
unfolding before_last
before_last-without byte [] other = refl
before_last-without byte (only ∷ []) other = go (only == byte) refl
  where
    go : (t : Bool) → (only == byte) ≡ t → before_last byte (only ∷ []) ≡ None
    go true e = let equal : only ≡ byte = grind (arith, nat_tests) in absurd (other [] (ap (λ x. x ∷ []) equal))
    go false e = rw e
before_last-without byte (first ∷ next ∷ rest) other =
    rw (before_last-without byte (next ∷ rest) (λ front e. other (first ∷ front) (ap (λ l. first ∷ l) e)))

-- the clause of `strip_suffix` at a byte
pub before_last-stripped : (byte : ℕ) (text : List ℕ) (found : Option (Bor (List ℕ)))
    → MatchOption found ((front : List ℕ) → text ≢ front ++ byte ∷ []) (λ x. text ≡ x.now ++ byte ∷ [])
    → option_map (λ front. front.now) found ≡ before_last byte text
before_last-stripped byte text None h = sym (before_last-without byte text h)
before_last-stripped byte text (Some front) h = sym (ap (before_last byte) h ∙ before_last-at byte front.now)

-- no byte of a text is this one
abbrev pub IsFreeOf : ℕ → List ℕ → Type 0
IsFreeOf byte text = (i : ℕ) → i < length text → get_or text i 0 ≢ byte

differs : (byte first : ℕ) (rest : List ℕ) → IsFreeOf byte (first ∷ rest) → (first == byte) ≡ false
differs byte first rest free = let ne : first ≢ byte = free 0 (grind (arith, common_steps)) in grind (arith, nat_tests)

IsFreeOf-rest : (byte first : ℕ) (rest : List ℕ) → IsFreeOf byte (first ∷ rest) → IsFreeOf byte rest
IsFreeOf-rest byte first rest free i low = let ne = free (i + 1) (grind (arith, common_steps)) in grind (arith, common_steps)

around_first-at : (byte : ℕ) (front back : List ℕ) → IsFreeOf byte front → around_first byte (front ++ byte ∷ back) ≡ Some (front, back)
unfolding around_first
around_first-at byte [] back free = rw (same byte)
around_first-at byte (first ∷ front) back free =
    rw (differs byte first front free, around_first-at byte front back (IsFreeOf-rest byte first front free))

around_first-without : (byte : ℕ) (text : List ℕ) → IsFreeOf byte text → around_first byte text ≡ None
unfolding around_first
around_first-without byte [] free = refl
around_first-without byte (first ∷ rest) free =
    rw (differs byte first rest free, around_first-without byte rest (IsFreeOf-rest byte first rest free))

-- the clause of `split_once` at a byte
pub around_first-split : (byte : ℕ) (text : List ℕ) (found : Option (Bor (List ℕ) × Bor (List ℕ)))
    → MatchOption found (IsFreeOf byte text) (λ x. (text ≡ x.0.now ++ byte ∷ x.1.now) × IsFreeOf byte x.0.now)
    → option_map (λ (front, back). (front.now, back.now)) found ≡ around_first byte text
around_first-split byte text None free = sym (around_first-without byte text free)
around_first-split byte text (Some cut) h = sym (ap (around_first byte) h.0 ∙ around_first-at byte cut.0.now cut.1.now h.1)
