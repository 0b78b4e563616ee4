-- Values whose first byte tells their form.
use Rattle.std.proofs.Common.{◌≡◌, ℕ, List, [], ◌∷◌, ◌++◌, ap, sym, ◌∙◌, refl, append_assoc}
use Rattle.value_bytes.specs.Forms.{IsFront, IsFrontless}

-- behind this byte stand just the values of one form
pub record IsVariant {V W : Type 0} (byte : ℕ) (spell : V → List ℕ) (Is : V → Type 0) (tell : W → List ℕ) (Are : W → Type 0)
    (make : V → W) : Type 0 where
  pub is : (value : V) → Is value → Are (make value)
  pub told : (value : V) → tell (make value) ≡ byte ∷ spell value
  pub only : (other : W) (rest behind : List ℕ) → Are other → tell other ++ rest ≡ byte ∷ behind
      → (value : V) × Is value × (other ≡ make value) × (behind ≡ spell value ++ rest)

pub variant_front : {V W : Type 0} (byte : ℕ) (spell : V → List ℕ) (Is : V → Type 0) (tell : W → List ℕ) (Are : W → Type 0) (make : V → W)
    → IsVariant byte spell Is tell Are make → (bytes behind : List ℕ) (value : V) (rest : List ℕ) → bytes ≡ byte ∷ behind
    → IsFront spell Is behind value rest → IsFront tell Are bytes (make value) rest
variant_front byte spell Is tell Are make variant bytes behind value rest cut front = record {
  begins = record {
    is = variant.is value front.begins.is;
    bytes_are = cut ∙ ap (λ (l : List ℕ). byte ∷ l) front.begins.bytes_are ∙ ap (λ (l : List ℕ). l ++ rest) (sym (variant.told value));
  };
  alone = λ other after begins.
      let (inner, is, made, split) = variant.only other after behind begins.is (sym begins.bytes_are ∙ cut) in
      let same = front.alone inner after (record { is = is; bytes_are = split }) in
      (made ∙ ap make same.0, same.1);
}

pub variant_frontless : {V W : Type 0} (byte : ℕ) (spell : V → List ℕ) (Is : V → Type 0) (tell : W → List ℕ) (Are : W → Type 0)
    (make : V → W)
    → IsVariant byte spell Is tell Are make → (bytes behind : List ℕ) → bytes ≡ byte ∷ behind → IsFrontless spell Is behind
    → IsFrontless tell Are bytes
variant_frontless byte spell Is tell Are make variant bytes behind cut none other rest begins =
    let (inner, is, made, split) = variant.only other rest behind begins.is (sym begins.bytes_are ∙ cut) in
    none inner rest (record { is = is; bytes_are = split })

-- nothing, which stands before all bytes
abbrev pub nothing : Unit {0} → List ℕ
nothing _ = []

abbrev pub IsNothing : Unit {0} → Type 0
IsNothing _ = Unit {0}

pub front_nothing : (bytes : List ℕ) → IsFront nothing IsNothing bytes tt bytes
front_nothing bytes = record {
  begins = record { is = tt; bytes_are = refl };
  alone = λ other behind begins. (refl, sym begins.bytes_are);
}

-- a value of a form was put behind its byte
pub variant_put : {V W : Type 0} (byte : ℕ) (spell : V → List ℕ) (Is : V → Type 0) (tell : W → List ℕ) (Are : W → Type 0) (make : V → W)
    → IsVariant byte spell Is tell Are make → (value : V) (old : List ℕ) → (old ++ byte ∷ []) ++ spell value ≡ old ++ tell (make value)
variant_put byte spell Is tell Are make variant value old =
    append_assoc old (byte ∷ []) (spell value) ∙ ap (λ (l : List ℕ). old ++ l) (sym (variant.told value))
