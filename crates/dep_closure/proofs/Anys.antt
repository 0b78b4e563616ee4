-- Whether some of a list pass: two tests that agree, a test by two, two lists that meet, and a test that none passes.
use Rattle.std.proofs.Common.{◌≡◌, ℕ, Bool, true, false, ◌||◌, List, [], ◌∷◌, Option, length, take, get_or, ◌+◌, ◌<◌, refl, sym, ap, ◌∙◌}
use Rattle.std.proofs.Common.{nat_eq, arith}
use Rattle.std.proofs.lemmas.List.Folds.{list_any_more}
use mathlib.Core.Bool.{false≢true}
use Rattle.std.specs.List.{AllByRecursion, list_any, filter_map}
use Rattle.std.proofs.lemmas.Bool.Decides.{nat_tests}
use Rattle.std.proofs.lemmas.Cmp.{nat_eq_equiv}
use Rattle.osm_base.specs.values.Ids.{has}

pub or-false : (b : Bool) → (b || false) ≡ b
or-false true = refl
or-false false = refl

pub or-swap : (a b : Bool) → (a || b) ≡ (b || a)
or-swap true true = refl
or-swap true false = refl
or-swap false true = refl
or-swap false false = refl

or-pairs : (a b c d : Bool) → ((a || b) || (c || d)) ≡ ((a || c) || (b || d))
or-pairs true b c d = refl
or-pairs false true true d = refl
or-pairs false true false d = refl
or-pairs false false c d = refl

pub list_any-same : {A : Type 0} (one other : A → Bool) (xs : List A) → ((x : A) → one x ≡ other x) → list_any one xs ≡ list_any other xs
list_any-same one other [] same = refl
list_any-same one other (x ∷ xs) same = λ i. same x i || list_any-same one other xs same i

pub list_any-same_there : {A : Type 0} (one other : A → Bool) (xs : List A) → AllByRecursion (λ x. one x ≡ other x) xs
    → list_any one xs ≡ list_any other xs
list_any-same_there one other [] same = refl
list_any-same_there one other (x ∷ xs) same = λ i. same.0 i || list_any-same_there one other xs same.1 i

list_any-none : {A : Type 0} (xs : List A) → list_any (λ _. false) xs ≡ false
list_any-none [] = refl
list_any-none (x ∷ xs) = list_any-none xs

list_any-or : {A : Type 0} (one other : A → Bool) (xs : List A)
    → list_any (λ x. one x || other x) xs ≡ (list_any one xs || list_any other xs)
list_any-or one other [] = refl
list_any-or one other (x ∷ xs) = ap (λ b. (one x || other x) || b) (list_any-or one other xs)
    ∙ or-pairs (one x) (other x) (list_any one xs) (list_any other xs)

-- one of the first ids is among the second ones where one of the second is among the first
pub has-swap : (ids others : List ℕ) → list_any (has others) ids ≡ list_any (has ids) others
has-swap [] others = sym (list_any-none others)
has-swap (id ∷ ids) others =
    (λ i. list_any-same (λ other. nat_eq other id) (nat_eq id) others (λ other. nat_eq_equiv.symm other id) i || has-swap ids others i)
    ∙ sym (list_any-or (nat_eq id) (has ids) others)

left_false : (a b : Bool) → (a || b) ≡ false → a ≡ false
left_false true b is = absurd (false≢true (sym is))
left_false false b is = refl

right_false : (a b : Bool) → (a || b) ≡ false → b ≡ false
right_false true b is = absurd (false≢true (sym is))
right_false false b is = is

-- the two of a test by two that fails
pub none_of : (a b : Bool) → (a || b) ≡ false → (a ≡ false) × (b ≡ false)
none_of a b is = (left_false a b is, right_false a b is)

pub none_passes : {A : Type 0} (test : A → Bool) (xs : List A) → list_any test xs ≡ false → AllByRecursion (λ x. test x ≡ false) xs
none_passes test [] none = tt
none_passes test (x ∷ xs) none = (
  left_false (test x) (list_any test xs) none,
  none_passes test xs (right_false (test x) (list_any test xs) none),
)

pub each : {A : Type 0} {P Q : A → Type 0} → ((x : A) → P x → Q x) → (xs : List A) → AllByRecursion P xs → AllByRecursion Q xs
each f [] all = tt
each f (x ∷ xs) all = (f x all.0, each f xs all.1)

pub or-true : (a b : Bool) → b ≡ true → (a || b) ≡ true
or-true true b is = refl
or-true false b is = is

pub tied_self : (id : ℕ) → nat_eq id id ≡ true
tied_self id = grind (arith, nat_tests)

pub filter_map-same : {B : Type 0} (one other : ℕ → Option B) (ids : List ℕ) → ((id : ℕ) → has ids id ≡ true → one id ≡ other id)
    → filter_map one ids ≡ filter_map other ids
filter_map-same one other [] same = refl
filter_map-same one other (id ∷ ids) same =
    let rest = filter_map-same one other ids (λ own there. same own (or-true (nat_eq id own) (has ids own) there)) in
    let here = same id (ap (λ b. b || has ids id) (tied_self id)) in
    rw (here, rest) refl

or-turn : (a b c : Bool) → (a || (b || c)) ≡ ((b || a) || c)
or-turn true true c = refl
or-turn true false c = refl
or-turn false true c = refl
or-turn false false c = refl

-- one item more, where it was found before the items so far or was there from the start
pub any_step : {A : Type 0} (test : A → Bool) (xs : List A) (at : ℕ) (x : A) (now found start : Bool) → at < length xs → x ≡ get_or xs at x
    → now ≡ (test x || found) → found ≡ (list_any test (take at xs) || start) → now ≡ (list_any test (take (at + 1) xs) || start)
any_step test xs at x now found start within is step before =
    step
    ∙ ap (λ b. test x || b) before
    ∙ or-turn (test x) (list_any test (take at xs)) start
    ∙ ap (λ b. b || start) (ap (λ y. list_any test (take at xs) || test y) is ∙ sym (list_any_more test xs at x within))
