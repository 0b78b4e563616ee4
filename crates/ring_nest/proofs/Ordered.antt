-- Edges from west to east: those that pass a place on its east side stand behind those that do not.
use Rattle.std.proofs.Common.{◌≡◌, ℕ, ◌+◌, ◌-◌, ◌<◌, ◌≤◌, zero, suc, refl, sym, subst, ap, ◌∙◌, true, false, cond, List, [], ◌∷◌, ◌++◌, length, take, drop, get_or, count_by, inl, inr, arith}
use Rattle.std.specs.List.{AllByRecursion}
use Rattle.std.proofs.lemmas.Bool.{cases_Bool, false≢true}
use Rattle.std.proofs.lemmas.Bool.Decides.{nat_tests}
use Rattle.std.proofs.lemmas.List.{drop_all, take-append-drop}
use Rattle.std.specs.List.Sorted.{IsPermutation}
use Rattle.std.proofs.lemmas.List.Elements.{All-from_recursion, recursion_from_All}
use Rattle.std.proofs.lemmas.List.Sorted.{All-permutation, sum_by-IsPermutation}
use Rattle.std.proofs.lemmas.List.Sums.{sum_by-append, sum_by-cons}
use Rattle.ring_nest.specs.Edge.{EdgeOf}
use Rattle.ring_nest.specs.Edges.{AreWest, Spans, passes, straddles}

pub straddled : (low high north : ℕ) (edge : EdgeOf) → Spans low high edge → low ≤ north → north < high → straddles north edge ≡ true
straddled low high north edge spans from to =
    let a = spans.from in
    let b = spans.to in
    grind (arith, nat_tests)

-- behind one that passes all do
all_pass : (low high north east : ℕ) (edge : EdgeOf) (edges : List EdgeOf) → AllByRecursion (Spans low high) (edge ∷ edges) → AreWest (edge ∷ edges)
    → low ≤ north → north < high → passes north east edge ≡ true → count_by (passes north east) (edge ∷ edges) ≡ suc (length edges)
all_pass low high north east edge [] spans west from to pass = rw (sum_by-cons, pass) refl
all_pass low high north east edge (next ∷ edges) spans west from to pass =
    let further = west.0 north east (straddled low high north edge spans.0 from to) (straddled low high north next spans.1.0 from to) pass in
    let more = all_pass low high north east next edges spans.1 west.1 from to further in
    rw (sum_by-cons, pass) (omega (arith, more))

some_pass : (low high north east : ℕ) (edges : List EdgeOf) (at : ℕ) (d : EdgeOf) → AllByRecursion (Spans low high) edges → AreWest edges
    → low ≤ north → north < high → at < length edges → passes north east (get_or edges at d) ≡ true
    → count_by (passes north east) (drop at edges) ≡ length edges - at
some_pass low high north east [] at d spans west from to within pass = absurd (omega arith)
some_pass low high north east (edge ∷ edges) zero d spans west from to within pass =
    let all = all_pass low high north east edge edges spans west from to pass in
    omega (arith, all)
some_pass low high north east (edge ∷ []) (suc at) d spans west from to within pass = absurd (omega arith)
some_pass low high north east (edge ∷ next ∷ edges) (suc at) d spans west from to within pass =
    let more = some_pass low high north east (next ∷ edges) at d spans.1 west.1 from to (omega arith) pass in
    omega (arith, more)

-- one that passes is in front of none that does not
later_pass : (low high north east : ℕ) (edge : EdgeOf) (edges : List EdgeOf) (at : ℕ) (d : EdgeOf) → AllByRecursion (Spans low high) (edge ∷ edges)
    → AreWest (edge ∷ edges) → low ≤ north → north < high → at < length edges → passes north east edge ≡ true
    → passes north east (get_or edges at d) ≡ true
later_pass low high north east edge [] at d spans west from to within pass = absurd (omega arith)
later_pass low high north east edge (next ∷ edges) zero d spans west from to within pass =
    west.0 north east (straddled low high north edge spans.0 from to) (straddled low high north next spans.1.0 from to) pass
later_pass low high north east edge (next ∷ edges) (suc at) d spans west from to within pass =
    let further = west.0 north east (straddled low high north edge spans.0 from to) (straddled low high north next spans.1.0 from to) pass in
    later_pass low high north east next edges at d spans.1 west.1 from to (omega arith) further

west_of_rest : (edge : EdgeOf) (edges : List EdgeOf) → AreWest (edge ∷ edges) → AreWest edges
west_of_rest edge [] west = tt
west_of_rest edge (next ∷ edges) west = west.1

none_pass : (low high north east : ℕ) (edges : List EdgeOf) (at : ℕ) (d : EdgeOf) → AllByRecursion (Spans low high) edges → AreWest edges
    → low ≤ north → north < high → at < length edges → passes north east (get_or edges at d) ≡ false
    → count_by (passes north east) (take (suc at) edges) ≡ 0
none_pass low high north east [] at d spans west from to within fails = absurd (omega arith)
none_pass low high north east (edge ∷ edges) zero d spans west from to within fails = rw (sum_by-cons, fails) refl
none_pass low high north east (edge ∷ edges) (suc at) d spans west from to within fails =
    let more = none_pass low high north east edges at d spans.1 (west_of_rest edge edges west) from to (omega arith) fails in
    elim (cases_Bool (passes north east edge)) [
      | inl pass ↦ absurd (false≢true (sym fails ∙ later_pass low high north east edge edges at d spans west from to (omega arith) pass))
      | inr here ↦ rw (sum_by-cons, here) (omega (arith, more))
    ]

-- so far no edge in front passes, and each behind does
pub record Parted (north east : ℕ) (edges : List EdgeOf) (first last : ℕ) : Type 0 where
  pub order : first ≤ last
  pub within : last ≤ length edges
  pub none : count_by (passes north east) (take first edges) ≡ 0
  pub all : count_by (passes north east) (drop last edges) ≡ length edges - last

pub parted_first : (north east : ℕ) (edges : List EdgeOf) → Parted north east edges 0 (length edges)
parted_first north east edges = record { order = omega arith; within = omega arith; none = refl; all = rw (drop_all (length edges) edges (omega arith)) (omega arith) }

pub parted_back : (low high north east : ℕ) (edges : List EdgeOf) (first last at : ℕ) (d : EdgeOf) → AllByRecursion (Spans low high) edges → AreWest edges
    → low ≤ north → north < high → first ≤ at → at < last → Parted north east edges first last → passes north east (get_or edges at d) ≡ true
    → Parted north east edges first at
parted_back low high north east edges first last at d spans west from to f g p pass =
    let w = p.within in
    record { order = f; within = omega arith; none = p.none; all = some_pass low high north east edges at d spans west from to (omega arith) pass }

pub parted_on : (low high north east : ℕ) (edges : List EdgeOf) (first last at : ℕ) (d : EdgeOf) → AllByRecursion (Spans low high) edges → AreWest edges
    → low ≤ north → north < high → first ≤ at → at < last → Parted north east edges first last → passes north east (get_or edges at d) ≡ false
    → Parted north east edges (at + 1) last
parted_on low high north east edges first last at d spans west from to f g p fails =
    let w = p.within in
    let next : suc at ≡ at + 1 = omega arith in
    record {
      order = omega arith;
      within = w;
      none = subst (λ n. count_by (passes north east) (take n edges) ≡ 0) next (none_pass low high north east edges at d spans west from to (omega arith) fails);
      all = p.all;
    }

pub parted_all : (north east : ℕ) (edges : List EdgeOf) (first last : ℕ) → last ≤ first → Parted north east edges first last
    → length edges - first ≡ count_by (passes north east) edges
parted_all north east edges first last met p =
    let o = p.order in
    let same : last ≡ first = omega arith in
    let none = p.none in
    let all : count_by (passes north east) (drop first edges) ≡ length edges - first = rw same at p.all in
    let parts = sum_by-append (λ (edge : EdgeOf). cond {A = ℕ} (passes north east edge) 1 0) (take first edges) (drop first edges) in
    let whole : count_by (passes north east) (take first edges ++ drop first edges) ≡ count_by (passes north east) edges =
    ap (count_by (passes north east)) (take-append-drop first edges) in
    omega (arith, none, all, parts, whole)

-- in another order they are the same
pub all_in_order : (low high : ℕ) (edges sorted : List EdgeOf) → IsPermutation edges sorted → AllByRecursion (Spans low high) edges
    → AllByRecursion (Spans low high) sorted
all_in_order low high edges sorted same all =
    recursion_from_All (Spans low high) sorted (All-permutation (Spans low high) edges sorted same (All-from_recursion (Spans low high) edges all))

pub count_in_order : (north east : ℕ) (edges sorted : List EdgeOf) → IsPermutation edges sorted
    → count_by (passes north east) sorted ≡ count_by (passes north east) edges
count_in_order north east edges sorted same = sum_by-IsPermutation (λ (edge : EdgeOf). cond {A = ℕ} (passes north east edge) 1 0) edges sorted same
