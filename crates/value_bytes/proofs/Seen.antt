-- Values that are seen through the parts that they are spelled by.
use Rattle.std.proofs.Common.{◌≡◌, ℕ, List, ◌++◌, ap, sym, ◌∙◌}
use Rattle.value_bytes.specs.Forms.{Begins, IsFront, IsFrontless}

-- each value is spelled by its parts
pub record AreSeen {V W : Type 0} (spell : V → List ℕ) (Is : V → Type 0) (tell : W → List ℕ) (Are : W → Type 0)
    (parts : W → V) : Type 0 where
  pub is : (value : W) → Are value → Is (parts value)
  pub told : (value : W) → tell value ≡ spell (parts value)

pub begins_seen : {V W : Type 0} (spell : V → List ℕ) (Is : V → Type 0) (tell : W → List ℕ) (Are : W → Type 0) (parts : W → V)
    → AreSeen spell Is tell Are parts → (bytes : List ℕ) (value : W) (rest : List ℕ)
    → Begins tell Are bytes value rest → Begins spell Is bytes (parts value) rest
begins_seen spell Is tell Are parts seen bytes value rest begins = record {
  is = seen.is value begins.is;
  bytes_are = begins.bytes_are ∙ ap (λ (l : List ℕ). l ++ rest) (seen.told value);
}

pub front_seen : {V W : Type 0} (spell : V → List ℕ) (Is : V → Type 0) (tell : W → List ℕ) (Are : W → Type 0) (parts : W → V)
    → AreSeen spell Is tell Are parts → (bytes : List ℕ) (part : V) (rest : List ℕ) → IsFront spell Is bytes part rest
    → (value : W) → Are value → parts value ≡ part → ((other : W) → Are other → parts other ≡ part → other ≡ value)
    → IsFront tell Are bytes value rest
front_seen spell Is tell Are parts seen bytes part rest front value is here one = record {
  begins = record {
    is = is;
    bytes_are = front.begins.bytes_are ∙ ap (λ p. spell p ++ rest) (sym here) ∙ ap (λ (l : List ℕ). l ++ rest) (sym (seen.told value));
  };
  alone = λ other behind begins.
      let same = front.alone (parts other) behind (begins_seen spell Is tell Are parts seen bytes other behind begins) in
      (one other begins.is same.0, same.1);
}

pub frontless_seen : {V W : Type 0} (spell : V → List ℕ) (Is : V → Type 0) (tell : W → List ℕ) (Are : W → Type 0) (parts : W → V)
    → AreSeen spell Is tell Are parts → (bytes : List ℕ) → IsFrontless spell Is bytes → IsFrontless tell Are bytes
frontless_seen spell Is tell Are parts seen bytes none value rest begins =
    none (parts value) rest (begins_seen spell Is tell Are parts seen bytes value rest begins)

-- parts that are no value's
pub unseen : {V W : Type 0} (spell : V → List ℕ) (Is : V → Type 0) (tell : W → List ℕ) (Are : W → Type 0) (parts : W → V)
    → AreSeen spell Is tell Are parts → (bytes : List ℕ) (part : V) (rest : List ℕ) → IsFront spell Is bytes part rest
    → ((value : W) → Are value → parts value ≡ part → ⊥) → IsFrontless tell Are bytes
unseen spell Is tell Are parts seen bytes part rest front none value behind begins =
    let same = front.alone (parts value) behind (begins_seen spell Is tell Are parts seen bytes value behind begins) in
    none value begins.is same.0
