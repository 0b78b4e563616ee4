-- Sums over the rings that are marked, of which one is asked for.
use Rattle.std.proofs.Common.{◌≡◌, ◌≢◌, ℕ, ◌+◌, ◌-◌, ◌<◌, ◌≤◌, zero, suc, refl, ap, ◌∙◌, Bool, true, false, cond, not, List, [], ◌∷◌, length, map, count_by, arith}
use Rattle.std.specs.List.{AllByRecursion}
use Rattle.std.proofs.lemmas.List.Sums.{sum_by-cons}
use Rattle.lanes_geo.specs.Nesting.{Ring, ring_at}
use Rattle.ring_nest.specs.Opened.{sum_open}
use Rattle.ring_nest.specs.Told.{is_marked, own_part}

part_at_most : (f : Ring → ℕ) (rings : List Ring) (marks : List Bool) (at : ℕ) → length marks ≡ length rings → at < length rings
    → own_part f rings marks at ≤ sum_open f rings marks
part_at_most f [] marks at same within = absurd (omega arith)
part_at_most f (ring ∷ rings) [] at same within = absurd (omega (arith, same))
part_at_most f (ring ∷ rings) (mark ∷ marks) zero same within = omega arith
part_at_most f (ring ∷ rings) (mark ∷ marks) (suc at) same within =
    let more = part_at_most f rings marks at (omega (arith, same)) (omega arith) in
    omega (arith, more)

-- where the sum is the part of one, each other marked one has nothing
pub only_own : (f : Ring → ℕ) (rings : List Ring) (marks : List Bool) (at other : ℕ) → length marks ≡ length rings → at < length rings
    → other < length rings → other ≢ at → sum_open f rings marks ≡ own_part f rings marks at → own_part f rings marks other ≡ 0
only_own f [] marks at other same within there apart sum = absurd (omega arith)
only_own f (ring ∷ rings) [] at other same within there apart sum = absurd (omega (arith, same))
only_own f (ring ∷ rings) (mark ∷ marks) zero zero same within there apart sum = absurd (apart refl)
only_own f (ring ∷ rings) (mark ∷ marks) zero (suc other) same within there apart sum =
    let most = part_at_most f rings marks other (omega (arith, same)) (omega arith) in
    omega (arith, most, sum)
only_own f (ring ∷ rings) (mark ∷ marks) (suc at) zero same within there apart sum =
    let most = part_at_most f rings marks at (omega (arith, same)) (omega arith) in
    omega (arith, most, sum)
only_own f (ring ∷ rings) (mark ∷ marks) (suc at) (suc other) same within there apart sum =
    let most = part_at_most f rings marks at (omega (arith, same)) (omega arith) in
    only_own f rings marks at other (omega (arith, same)) (omega arith) (omega arith) (λ e. apart (ap suc e)) (omega (arith, most, sum))

part_same : (f g : Ring → ℕ) (ring : Ring) (mark : Bool) → (mark ≡ true → f ring ≡ g ring) → cond mark (f ring) 0 ≡ cond mark (g ring) 0
part_same f g ring true same = same refl
part_same f g ring false same = refl

sum_same : (f g : Ring → ℕ) (rings : List Ring) (marks : List Bool) → length marks ≡ length rings
    → ((other : ℕ) → other < length rings → is_marked marks other ≡ true → f (ring_at rings other) ≡ g (ring_at rings other))
    → sum_open f rings marks ≡ sum_open g rings marks
sum_same f g [] marks same each = refl
sum_same f g (ring ∷ rings) [] same each = refl
sum_same f g (ring ∷ rings) (mark ∷ marks) same each =
    let one = part_same f g ring mark (λ marked. each 0 (omega arith) marked) in
    let rest = sum_same f g rings marks (omega (arith, same)) (λ other there marked. each (suc other) (omega arith) marked) in
    omega (arith, one, rest)

-- sums that differ in one ring alone
pub sum_but : (f g : Ring → ℕ) (rings : List Ring) (marks : List Bool) (at : ℕ) → length marks ≡ length rings → at < length rings
    → ((other : ℕ) → other < length rings → other ≢ at → is_marked marks other ≡ true → f (ring_at rings other) ≡ g (ring_at rings other))
    → sum_open f rings marks + own_part g rings marks at ≡ sum_open g rings marks + own_part f rings marks at
sum_but f g [] marks at same within each = absurd (omega arith)
sum_but f g (ring ∷ rings) [] at same within each = absurd (omega (arith, same))
sum_but f g (ring ∷ rings) (mark ∷ marks) zero same within each =
    let rest = sum_same f g rings marks (omega (arith, same)) (λ other there marked. each (suc other) (omega arith) (λ e. omega (arith, e)) marked) in
    omega (arith, rest)
sum_but f g (ring ∷ rings) (mark ∷ marks) (suc at) same within each =
    let one = part_same f g ring mark (λ marked. each 0 (omega arith) (λ e. omega (arith, e)) marked) in
    let rest = sum_but f g rings marks at (omega (arith, same)) (omega arith) (λ other there apart marked. each (suc other) (omega arith) (λ e. apart (omega (arith, e))) marked) in
    omega (arith, one, rest)

-- the marked ones and the others are all
pub count_all : (p : Ring → Bool) (rings : List Ring) (marks : List Bool) → length marks ≡ length rings
    → count_by p rings ≡ sum_open (λ ring. cond (p ring) 1 0) rings marks + sum_open (λ ring. cond (p ring) 1 0) rings (map not marks)
count_all p [] marks same = refl
count_all p (ring ∷ rings) [] same = absurd (omega (arith, same))
count_all p (ring ∷ rings) (true ∷ marks) same =
    let rest = count_all p rings marks (omega (arith, same)) in
    sum_by-cons (λ (own : Ring). cond {A = ℕ} (p own) 1 0) ring rings ∙ omega (arith, rest)
count_all p (ring ∷ rings) (false ∷ marks) same =
    let rest = count_all p rings marks (omega (arith, same)) in
    sum_by-cons (λ (own : Ring). cond {A = ℕ} (p own) 1 0) ring rings ∙ omega (arith, rest)

-- a sum of differences
pub sum_less : (f g : Ring → ℕ) (rings : List Ring) (marks : List Bool) → AllByRecursion (λ ring. g ring ≤ f ring) rings
    → sum_open (λ ring. f ring - g ring) rings marks + sum_open g rings marks ≡ sum_open f rings marks
sum_less f g [] marks all = refl
sum_less f g (ring ∷ rings) [] all = refl
sum_less f g (ring ∷ rings) (true ∷ marks) all =
    let rest = sum_less f g rings marks all.1 in
    omega (arith, rest, all.0)
sum_less f g (ring ∷ rings) (false ∷ marks) all =
    let rest = sum_less f g rings marks all.1 in
    omega (arith, rest)
