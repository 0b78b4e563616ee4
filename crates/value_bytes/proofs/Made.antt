-- Whole values that are seen through the parts that they are spelled by.
use Rattle.std.proofs.Common.{◌≡◌, ℕ, List, ap, sym, ◌∙◌, subst}
use Rattle.value_bytes.specs.Forms.{Spells, IsNoValue}

-- each value of these is made of parts that spell it
pub record AreMade {V W : Type 0} (spell : V → List ℕ) (Is : V → Type 0) (tell : W → List ℕ) (Are : W → Type 0)
    (make : V → W) : Type 0 where
  pub parts : (value : W) → Are value → (part : V) × Is part × (value ≡ make part)
  pub told : (part : V) → tell (make part) ≡ spell part

pub whole_made : {V W : Type 0} (spell : V → List ℕ) (Is : V → Type 0) (tell : W → List ℕ) (Are : W → Type 0) (make : V → W)
    → AreMade spell Is tell Are make → (bytes : List ℕ) (part : V) → Spells spell Is bytes part → Are (make part)
    → Spells tell Are bytes (make part)
whole_made spell Is tell Are make made bytes part spells are = record {
  is = are;
  bytes_are = spells.bytes_are ∙ sym (made.told part);
  alone = λ other others same.
      let (inner, is, here) = made.parts other others in
      here ∙ ap make (spells.alone inner is (same ∙ ap tell here ∙ made.told inner));
}

pub none_made : {V W : Type 0} (spell : V → List ℕ) (Is : V → Type 0) (tell : W → List ℕ) (Are : W → Type 0) (make : V → W)
    → AreMade spell Is tell Are make → (bytes : List ℕ) → IsNoValue spell Is bytes → IsNoValue tell Are bytes
none_made spell Is tell Are make made bytes none value are same =
    let (inner, is, here) = made.parts value are in
    none inner is (same ∙ ap tell here ∙ made.told inner)

-- what the bytes spell makes no value
pub unmade : {V W : Type 0} (spell : V → List ℕ) (Is : V → Type 0) (tell : W → List ℕ) (Are : W → Type 0) (make : V → W)
    → AreMade spell Is tell Are make → (bytes : List ℕ) (part : V) → Spells spell Is bytes part → (Are (make part) → ⊥)
    → IsNoValue tell Are bytes
unmade spell Is tell Are make made bytes part spells no_value value are same =
    let (inner, is, here) = made.parts value are in
    let one = spells.alone inner is (same ∙ ap tell here ∙ made.told inner) in
    no_value (subst Are (here ∙ ap make one) are)
