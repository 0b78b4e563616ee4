-- Where chains begin once first pages are put.
use Rattle.std.proofs.Common.{◌≡◌, ◌≢◌, ◌⊎◌, inl, inr, ⊎_elim, ℕ, ◌+◌, ◌-◌, ◌*◌, ◌^◌, ◌<◌, ◌≤◌, ◌==◌, Bool, true, false, cond, List, []}
use Rattle.std.proofs.Common.{◌∷◌, length, refl, sym, ap, subst, ◌∙◌, arith}
use Rattle.std.proofs.lemmas.Bool.{cases_lt}
use Rattle.std.proofs.lemmas.Bool.Decides.{nat_tests}
use Rattle.std.specs.Int.{w64, to_le_bytes}
use Rattle.outside.specs.Disk.{overlaid}
use Rattle.outside.proofs.Overlay.{overlaid-beside}
use Rattle.page_journal.specs.Pages.{number}
use Rattle.page_journal.proofs.Bytes.{number_same, number_written}
use Rattle.chain_store.specs.Firsts.{begins_at, first_put, firsts_put}
use Rattle.chain_store.specs.Parts.{AreOld, Begin, IsNoPart, IsPart, head_or, times, times_new}
use Rattle.chain_store.specs.declared.parts.Laid.{Laid}
use Rattle.chain_store.proofs.FirstLaws.{first_put-behind, first_put-here, first_put-low}
use Rattle.chain_store.proofs.Pools.{length-firsts_put, length-put}
use Rattle.chain_store.proofs.Times.{once-same, same_or}

eight : (value : ℕ) → length (to_le_bytes w64 value) ≡ 8
eight value = refl

-- a number that is put at its place leaves those beside it
pub put_beside : (at value k : ℕ) (bytes : List ℕ) → at + 8 ≤ length bytes → k + 8 ≤ length bytes → (k + 8 ≤ at) ⊎ (at + 8 ≤ k)
    → number (overlaid at (to_le_bytes w64 value) bytes) k ≡ number bytes k
put_beside at value k bytes fits inside apart =
    let long = length-put at value bytes fits in
    let many = eight value in
    number_same bytes (overlaid at (to_le_bytes w64 value) bytes) k k inside (omega (arith, long, inside)) (λ j below.
    overlaid-beside at (to_le_bytes w64 value) bytes (k + j)
    (⊎_elim (λ low. inl (omega (arith, low, below))) (λ high. inr (omega (arith, high, many))) apart))

is_it : (a b : ℕ) → a ≡ b → (a == b) ≡ true
is_it a b is = grind (arith, nat_tests)

is_not : (a b : ℕ) → a ≢ b → (a == b) ≡ false
is_not a b other = grind (arith, nat_tests)

head_small : (ns : List ℕ) → ((p : ℕ) → 1 ≤ times p ns → p < 2 ^ 64) → head_or ns 0 < 2 ^ 64
head_small [] small = omega arith
head_small (n ∷ ns) small = small n (omega (arith, once-same n n refl))

beside_first : (at low count k : ℕ) (one : Laid) (bytes : List ℕ) → at + 8 * count ≤ length bytes → k + 8 ≤ length bytes
    → (k + 8 ≤ at) ⊎ (at + 8 * count ≤ k) → number (first_put at low count one bytes) k ≡ number bytes k
beside_first at low count k one bytes fits inside apart = elim (cases_lt one.number low) [
  | inl below ↦ ap (λ (l : List ℕ). number l k) (first_put-low at low count one bytes below)
  | inr above ↦ elim (cases_lt (one.number - low) count) [
    | inl there ↦
        ap (λ (l : List ℕ). number l k) (first_put-here at low count one bytes above there)
        ∙ put_beside (at + 8 * (one.number - low)) (head_or one.pages 0) k bytes (omega (arith, there, fits)) inside
        (⊎_elim (λ under. inl (omega (arith, under))) (λ over. inr (omega (arith, over, there))) apart)
    | inr behind ↦ ap (λ (l : List ℕ). number l k) (first_put-behind at low count one bytes behind)
  ]
]

same_first : (at low count k : ℕ) (one : Laid) (bytes : List ℕ) → at + 8 * count ≤ length bytes → k < count → one.number ≢ low + k
    → number (first_put at low count one bytes) (at + 8 * k) ≡ number bytes (at + 8 * k)
same_first at low count k one bytes fits below other = elim (cases_lt one.number low) [
  | inl under ↦ ap (λ (l : List ℕ). number l (at + 8 * k)) (first_put-low at low count one bytes under)
  | inr above ↦ elim (cases_lt (one.number - low) count) [
    | inl there ↦
        let apart : (at + 8 * k + 8 ≤ at + 8 * (one.number - low)) ⊎ (at + 8 * (one.number - low) + 8 ≤ at + 8 * k) =
        elim (cases_lt (one.number - low) k) [
          | inl less ↦ inr (omega (arith, less))
          | inr more ↦ inl (omega (arith, more, other, above))
        ] in
        ap (λ (l : List ℕ). number l (at + 8 * k)) (first_put-here at low count one bytes above there)
        ∙ put_beside (at + 8 * (one.number - low)) (head_or one.pages 0) (at + 8 * k) bytes (omega (arith, there, fits))
        (omega (arith, below, fits)) apart
    | inr behind ↦ ap (λ (l : List ℕ). number l (at + 8 * k)) (first_put-behind at low count one bytes behind)
  ]
]

-- a first page of a chain that is put, as it is seen at each place
put_first : (at low count k : ℕ) (one : Laid) (bytes : List ℕ) → at + 8 * count ≤ length bytes → k < count → head_or one.pages 0 < 2 ^ 64
    → number (first_put at low count one bytes) (at + 8 * k)
    ≡ cond (one.number == low + k) (head_or one.pages 0) (number bytes (at + 8 * k))
put_first at low count k one bytes fits below small = elim (same_or one.number (low + k)) [
  | inl here ↦
      let place : one.number - low ≡ k = omega (arith, here) in
      let test : (one.number == low + k) ≡ true = is_it one.number (low + k) here in
      ap (λ (l : List ℕ). number l (at + 8 * k)) (first_put-here at low count one bytes (omega (arith, here)) (omega (arith, place, below)))
      ∙ ap (λ (j : ℕ). number (overlaid (at + 8 * j) (to_le_bytes w64 (head_or one.pages 0)) bytes) (at + 8 * k)) place
      ∙ number_written (at + 8 * k) (head_or one.pages 0) bytes small
      ∙ sym (ap (λ (b : Bool). cond b (head_or one.pages 0) (number bytes (at + 8 * k))) test)
  | inr other ↦
      let test : (one.number == low + k) ≡ false = is_not one.number (low + k) other in
      same_first at low count k one bytes fits below other
      ∙ sym (ap (λ (b : Bool). cond b (head_or one.pages 0) (number bytes (at + 8 * k))) test)
]

pub firsts_at : (at low count k : ℕ) (laid : List Laid) (bytes : List ℕ) → at + 8 * count ≤ length bytes → k < count
    → ((p : ℕ) → 1 ≤ times_new p laid → p < 2 ^ 64)
    → number (firsts_put at low count laid bytes) (at + 8 * k) ≡ begins_at laid (low + k) (number bytes (at + 8 * k))
firsts_at at low count k [] bytes fits below small = refl
firsts_at at low count k (one ∷ others) bytes fits below small =
    let next : List ℕ = first_put at low count one bytes in
    let long : length next ≡ length bytes = length-firsts_put at low count (one ∷ []) bytes fits in
    firsts_at at low count k others next (omega (arith, long, fits)) below (λ p some. small p (omega (arith, some)))
    ∙ ap (λ (n : ℕ). begins_at others (low + k) n) (put_first at low count k one bytes fits below
    (head_small one.pages (λ p some. small p (omega (arith, some)))))

pub firsts_beside : (at low count k : ℕ) (laid : List Laid) (bytes : List ℕ) → at + 8 * count ≤ length bytes → k + 8 ≤ length bytes
    → (k + 8 ≤ at) ⊎ (at + 8 * count ≤ k) → number (firsts_put at low count laid bytes) k ≡ number bytes k
firsts_beside at low count k [] bytes fits inside apart = refl
firsts_beside at low count k (one ∷ others) bytes fits inside apart =
    let next : List ℕ = first_put at low count one bytes in
    let long : length next ≡ length bytes = length-firsts_put at low count (one ∷ []) bytes fits in
    firsts_beside at low count k others next (omega (arith, long, fits)) (omega (arith, long, inside)) apart
    ∙ beside_first at low count k one bytes fits inside apart

-- where no part has the number it stays, and else it is where the part begins
pub begins_none : (laid : List Laid) (n other : ℕ) → IsNoPart n laid → begins_at laid n other ≡ other
begins_none [] n other none = refl
begins_none (one ∷ others) n other none =
    let test : (one.number == n) ≡ false = is_not one.number n (λ is. none.0 (sym is)) in
    ap (λ (b : Bool). begins_at others n (cond b (head_or one.pages 0) other)) test ∙ begins_none others n other none.1

pub begins_part : (page : ℕ → List ℕ) (home : ℕ) (first : ℕ → ℕ) (laid : List Laid) (n other : ℕ) (pages bytes : List ℕ)
    → AreOld page home first laid
    → IsPart n pages bytes laid → begins_at laid n other ≡ head_or pages 0
begins_part page home first [] n other pages bytes old part = absurd part
begins_part page home first (one ∷ others) n other pages bytes old (inl here) =
    let test : (one.number == n) ≡ true = is_it one.number n (sym here.0) in
    ap (λ (b : Bool). begins_at others n (cond b (head_or one.pages 0) other)) test
    ∙ begins_none others n (head_or one.pages 0) (subst (λ (k : ℕ). IsNoPart k others) (sym here.0) old.2)
    ∙ ap (λ (l : List ℕ). head_or l 0) (sym here.1)
begins_part page home first (one ∷ others) n other pages bytes old (inr there) =
    begins_part page home first others n (cond (one.number == n) (head_or one.pages 0) other) pages bytes old.3 there

-- begin, part by part
pub begin_all : (first : ℕ → ℕ) (parts : List Laid)
    → ((n : ℕ) (pages bytes : List ℕ) → IsPart n pages bytes parts → first n ≡ head_or pages 0) → Begin first parts
begin_all first [] each = tt
begin_all first (one ∷ others) each = (
  each one.number one.pages one.bytes (inl (refl, refl, refl)),
  begin_all first others (λ n pages bytes part. each n pages bytes (inr part)),
)
