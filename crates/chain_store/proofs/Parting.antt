-- Parts, before and after pages are dealt to them.
use Rattle.std.proofs.Common.{◌≡◌, ◌⊎◌, inl, inr, ℕ, ◌+◌, ◌<◌, ◌≤◌, List, [], ◌∷◌, ◌++◌, length, drop, refl, sym, ap, ◌∙◌, arith}
use Rattle.std.proofs.Common.{append_assoc, length-take, length-drop, length-append}
use Rattle.chain_store.specs.Chain.{HasPages}
use Rattle.chain_store.specs.Gathered.{IsNoNumber}
use Rattle.chain_store.specs.Pairs.{chain_pairs, laid_pairs}
use Rattle.chain_store.specs.Parts.{AreOld, IsNoPart, IsPart, dealt, growth, growth_of, laid_all, pages_for, times_new, times_old}
use Rattle.chain_store.specs.declared.layout.TheConstants.{CHAIN_END}
use Rattle.chain_store.specs.declared.parts.Laid.{Laid}
use Rattle.chain_store.specs.declared.parts.Part.{Part}
use Rattle.chain_store.proofs.WrittenLaws.{AreFine, WasMarked}

-- parts of a store
abbrev pub AreParts : (ℕ → List ℕ) → ℕ → (ℕ → ℕ) → List Part → Type 0
AreParts page home first [] = Unit {0}
AreParts page home first (part ∷ parts) = (part.number < CHAIN_END) × HasPages page home part.number (first part.number) part.old
    × WasMarked page part.number part.old part.same part.bytes × IsNoNumber part.number parts × AreParts page home first parts

pub no_part : (n : ℕ) (parts : List Part) (pool : List ℕ) → IsNoNumber n parts → IsNoPart n (laid_all parts pool)
no_part n [] pool none = tt
no_part n (part ∷ parts) pool none = (none.0, no_part n parts (drop (growth_of part) pool) none.1)

pub laid_old : (page : ℕ → List ℕ) (home : ℕ) (first : ℕ → ℕ) (parts : List Part) (pool : List ℕ) → AreParts page home first parts
    → AreOld page home first (laid_all parts pool)
laid_old page home first [] pool are = tt
laid_old page home first (part ∷ parts) pool are = (
  are.0,
  are.1,
  no_part part.number parts (drop (growth_of part) pool) are.3,
  laid_old page home first parts (drop (growth_of part) pool) are.4,
)

dealt_long : (part : Part) (pool : List ℕ) → growth_of part ≤ length pool → length (dealt part pool) ≡ pages_for (length part.bytes)
dealt_long part pool enough =
    omega (arith, length-take (pages_for (length part.bytes)) (part.old ++ pool), length-append part.old pool, enough)

pub laid_fine : (page : ℕ → List ℕ) (home : ℕ) (first : ℕ → ℕ) (parts : List Part) (pool : List ℕ) → AreParts page home first parts
    → growth parts ≤ length pool → AreFine page (laid_all parts pool)
laid_fine page home first [] pool are enough = tt
laid_fine page home first (part ∷ parts) pool are enough = (
  are.0,
  dealt_long part pool (omega (arith, enough)),
  are.2,
  laid_fine page home first parts (drop (growth_of part) pool) are.4 (omega (arith, enough, length-drop (growth_of part) pool)),
)

-- lists of parts, one behind another
pub times_new-append : (p : ℕ) (xs ys : List Laid) → times_new p (xs ++ ys) ≡ times_new p xs + times_new p ys
times_new-append p [] ys = omega arith
times_new-append p (x ∷ xs) ys = omega (arith, times_new-append p xs ys)

pub times_old-append : (p : ℕ) (xs ys : List Laid) → times_old p (xs ++ ys) ≡ times_old p xs + times_old p ys
times_old-append p [] ys = omega arith
times_old-append p (x ∷ xs) ys = omega (arith, times_old-append p xs ys)

pub fine-append : (page : ℕ → List ℕ) (xs ys : List Laid) → AreFine page xs → AreFine page ys → AreFine page (xs ++ ys)
fine-append page [] ys one two = two
fine-append page (x ∷ xs) ys one two = (one.0, one.1, one.2, fine-append page xs ys one.3 two)

pub no_part-append : (n : ℕ) (xs ys : List Laid) → IsNoPart n xs → IsNoPart n ys → IsNoPart n (xs ++ ys)
no_part-append n [] ys one two = two
no_part-append n (x ∷ xs) ys one two = (one.0, no_part-append n xs ys one.1 two)

pub no_part-both : (n : ℕ) (xs ys : List Laid) → IsNoPart n (xs ++ ys) → IsNoPart n xs × IsNoPart n ys
no_part-both n [] ys none = (tt, none)
no_part-both n (x ∷ xs) ys none = let later = no_part-both n xs ys none.1 in ((none.0, later.0), later.1)

-- the numbers of the ones are none of the others'
abbrev pub AreClear : List Laid → List Laid → Type 0
AreClear [] ys = Unit {0}
AreClear (x ∷ xs) ys = IsNoPart x.number ys × AreClear xs ys

pub old-append : (page : ℕ → List ℕ) (home : ℕ) (first : ℕ → ℕ) (xs ys : List Laid) → AreOld page home first xs → AreOld page home first ys
    → AreClear xs ys
    → AreOld page home first (xs ++ ys)
old-append page home first [] ys one two clear = two
old-append page home first (x ∷ xs) ys one two clear =
    (one.0, one.1, no_part-append x.number xs ys one.2 clear.0, old-append page home first xs ys one.3 two clear.1)

pub laid_pairs-append : (xs ys : List Laid) → laid_pairs (xs ++ ys) ≡ laid_pairs xs ++ laid_pairs ys
laid_pairs-append [] ys = refl
laid_pairs-append (x ∷ xs) ys =
    ap (λ l. chain_pairs x.number 0 x.pages x.bytes x.old x.same ++ l) (laid_pairs-append xs ys)
    ∙ sym (append_assoc (chain_pairs x.number 0 x.pages x.bytes x.old x.same) (laid_pairs xs) (laid_pairs ys))

pub part_left : (n : ℕ) (pages bytes : List ℕ) (xs ys : List Laid) → IsPart n pages bytes xs → IsPart n pages bytes (xs ++ ys)
part_left n pages bytes [] ys part = absurd part
part_left n pages bytes (x ∷ xs) ys (inl here) = inl here
part_left n pages bytes (x ∷ xs) ys (inr there) = inr (part_left n pages bytes xs ys there)

pub part_right : (n : ℕ) (pages bytes : List ℕ) (xs ys : List Laid) → IsPart n pages bytes ys → IsPart n pages bytes (xs ++ ys)
part_right n pages bytes [] ys part = part
part_right n pages bytes (x ∷ xs) ys part = inr (part_right n pages bytes xs ys part)

pub part_cases : (n : ℕ) (pages bytes : List ℕ) (xs ys : List Laid) → IsPart n pages bytes (xs ++ ys)
    → IsPart n pages bytes xs ⊎ IsPart n pages bytes ys
part_cases n pages bytes [] ys part = inr part
part_cases n pages bytes (x ∷ xs) ys (inl here) = inl (inl here)
part_cases n pages bytes (x ∷ xs) ys (inr there) =
    elim (part_cases n pages bytes xs ys there) [ inl one ↦ inl (inr one) | inr two ↦ inr two ]
