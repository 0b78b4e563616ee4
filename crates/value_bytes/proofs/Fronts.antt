-- What stands at the front of bytes, where values are put together out of others.
use Rattle.std.proofs.Common.{◌≢◌, ℕ, List, [], ◌++◌, ap, sym, ◌∙◌, append_assoc}
use Rattle.std.proofs.lemmas.List.{append-nil}
use Rattle.value_bytes.specs.Forms.{Begins, IsFront, IsFrontless, both_bytes, Both, NeedsFor, IsNoValue}
use Rattle.value_bytes.specs.declared.fault.ValueFault.{ValueFault}
use Rattle.value_bytes.specs.declared.fault.ValueFault.TheVariants.{NotSpelled, OutOfMemory}

-- what begins with both begins with the first, and behind it with the second
pub begins_first : {V W : Type 0} (spell : V → List ℕ) (Is : V → Type 0) (tell : W → List ℕ) (Are : W → Type 0) (bytes : List ℕ) (p : V × W)
    (rest : List ℕ)
    → Begins (both_bytes spell tell) (Both Is Are) bytes p rest → Begins spell Is bytes p.0 (tell p.1 ++ rest)
begins_first spell Is tell Are bytes p rest begins =
    record { is = begins.is.0; bytes_are = begins.bytes_are ∙ append_assoc (spell p.0) (tell p.1) rest }

pub front_both : {V W : Type 0} (spell : V → List ℕ) (Is : V → Type 0) (tell : W → List ℕ) (Are : W → Type 0)
    (bytes : List ℕ) (one : V) (middle : List ℕ) (two : W) (rest : List ℕ)
    → IsFront spell Is bytes one middle → IsFront tell Are middle two rest
    → IsFront (both_bytes spell tell) (Both Is Are) bytes (one, two) rest
front_both spell Is tell Are bytes one middle two rest first second = record {
  begins = record {
    is = (first.begins.is, second.begins.is);
    bytes_are = first.begins.bytes_are ∙ ap (λ (l : List ℕ). spell one ++ l) second.begins.bytes_are
        ∙ sym (append_assoc (spell one) (tell two) rest);
  };
  alone = λ other behind begins.
      let same = first.alone other.0 (tell other.1 ++ behind) (begins_first spell Is tell Are bytes other behind begins) in
      let later = second.alone other.1 behind (record { is = begins.is.1; bytes_are = sym same.1 }) in
      (λ i. (same.0 i, later.0 i), later.1);
}

pub frontless_first : {V W : Type 0} (spell : V → List ℕ) (Is : V → Type 0) (tell : W → List ℕ) (Are : W → Type 0) (bytes : List ℕ)
    → IsFrontless spell Is bytes → IsFrontless (both_bytes spell tell) (Both Is Are) bytes
frontless_first spell Is tell Are bytes none p rest begins =
    none p.0 (tell p.1 ++ rest) (begins_first spell Is tell Are bytes p rest begins)

pub frontless_second : {V W : Type 0} (spell : V → List ℕ) (Is : V → Type 0) (tell : W → List ℕ) (Are : W → Type 0)
    (bytes : List ℕ) (one : V) (middle : List ℕ)
    → IsFront spell Is bytes one middle → IsFrontless tell Are middle → IsFrontless (both_bytes spell tell) (Both Is Are) bytes
frontless_second spell Is tell Are bytes one middle first none p rest begins =
    let same = first.alone p.0 (tell p.1 ++ rest) (begins_first spell Is tell Are bytes p rest begins) in
    none p.1 rest (record { is = begins.is.1; bytes_are = sym same.1 })

-- a fault that needed one fact needs what follows from it
pub needs_more : {One Two : Type 0} (fault : ValueFault) → (One → Two) → NeedsFor One fault → NeedsFor Two fault
needs_more NotSpelled leads given = leads given
needs_more OutOfMemory leads given = tt

pub no_value : {V : Type 0} (spell : V → List ℕ) (Is : V → Type 0) (bytes : List ℕ) → IsFrontless spell Is bytes → IsNoValue spell Is bytes
no_value spell Is bytes none value is same = none value [] (record { is = is; bytes_are = same ∙ sym (append-nil (spell value)) })

pub no_value_behind : {V : Type 0} (spell : V → List ℕ) (Is : V → Type 0) (bytes : List ℕ) (value : V) (rest : List ℕ) → rest ≢ []
    → IsFront spell Is bytes value rest → IsNoValue spell Is bytes
no_value_behind spell Is bytes value rest some front other is same =
    some (sym (front.alone other [] (record { is = is; bytes_are = same ∙ sym (append-nil (spell other)) })).1)
