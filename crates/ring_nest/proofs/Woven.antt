-- Edges of two sides that stand in turn, from west to east: as many of both pass a place, or one more of the east side.
use Rattle.std.proofs.Common.{◌≡◌, ℕ, ◌+◌, ◌<◌, ◌≤◌, refl, sym, ap, ◌∙◌, inl, inr, true, false, cond, List, [], ◌∷◌, length, count_by, arith}
use Rattle.std.specs.List.{AllByRecursion, filter}
use Rattle.std.proofs.lemmas.Bool.{cases_Bool, cases_lt}
use Rattle.std.proofs.lemmas.Bool.Decides.{nat_tests}
use Rattle.std.proofs.lemmas.List.Sums.{sum_by-cons}
use Rattle.ring_nest.specs.Edge.{EdgeOf}
use Rattle.ring_nest.specs.Edges.{AreWest, Spans, passes, straddles}
use Rattle.ring_nest.specs.Opening.{IsOpened, OpensIn, overlaps, woven}
use Rattle.ring_nest.proofs.Halved.{all_counted, no_pass}
use Rattle.ring_nest.proofs.Ordered.{straddled}

abbrev AllPass : (north east : ℕ) → List EdgeOf → Type 0
AllPass north east edges = AllByRecursion (λ edge. passes north east edge ≡ true) edges

-- behind one that passes all do
all_from : (low high north east : ℕ) (edge : EdgeOf) (edges : List EdgeOf) → AllByRecursion (Spans low high) (edge ∷ edges) → AreWest (edge ∷ edges)
    → low ≤ north → north < high → passes north east edge ≡ true → AllPass north east edges
all_from low high north east edge [] spans west from to pass = tt
all_from low high north east edge (next ∷ edges) spans west from to pass =
    let further = west.0 north east (straddled low high north edge spans.0 from to) (straddled low high north next spans.1.0 from to) pass in
    (further, all_from low high north east next edges spans.1 west.1 from to further)

pub span_woven : (low high : ℕ) (minus plus : List EdgeOf) → AllByRecursion (Spans low high) minus → AllByRecursion (Spans low high) plus
    → AllByRecursion (Spans low high) (woven minus plus)
span_woven low high [] plus a b = b
span_woven low high (edge ∷ minus) [] a b = a
span_woven low high (edge ∷ minus) (next ∷ plus) a b = (a.0, (b.0, span_woven low high minus plus a.1 b.1))

count_all : (north east : ℕ) (edges : List EdgeOf) → AllPass north east edges → count_by (passes north east) edges ≡ length edges
count_all north east [] all = refl
count_all north east (edge ∷ edges) all =
    let more = count_all north east edges all.1 in
    rw (sum_by-cons, all.0) (omega (arith, more))

minus_pass : (north east : ℕ) (minus plus : List EdgeOf) → AllPass north east (woven minus plus) → AllPass north east minus
minus_pass north east [] plus all = tt
minus_pass north east (edge ∷ minus) [] all = all
minus_pass north east (edge ∷ minus) (next ∷ plus) all = (all.0, minus_pass north east minus plus all.1.1)

plus_pass : (north east : ℕ) (minus plus : List EdgeOf) → AllPass north east (woven minus plus) → AllPass north east plus
plus_pass north east [] plus all = all
plus_pass north east (edge ∷ minus) [] all = tt
plus_pass north east (edge ∷ minus) (next ∷ plus) all = (all.1.0, plus_pass north east minus plus all.1.1)

west_of_rest : (edge : EdgeOf) (edges : List EdgeOf) → AreWest (edge ∷ edges) → AreWest edges
west_of_rest edge [] west = tt
west_of_rest edge (next ∷ edges) west = west.1

more_opened : (m p k l : ℕ) → k ≡ l → IsOpened m p → IsOpened (k + m) (l + p)
more_opened m p k l same (inl e) = inl (omega (arith, e))
more_opened m p k l same (inr e) = inr (omega (arith, e))

pub turns : (low high north east : ℕ) (minus plus : List EdgeOf) → AllByRecursion (Spans low high) (woven minus plus) → AreWest (woven minus plus)
    → low ≤ north → north < high → length minus ≡ length plus → IsOpened (count_by (passes north east) minus) (count_by (passes north east) plus)
turns low high north east [] [] spans west from to same = inl refl
turns low high north east [] (next ∷ plus) spans west from to same = absurd (omega (arith, same))
turns low high north east (edge ∷ minus) [] spans west from to same = absurd (omega (arith, same))
turns low high north east (edge ∷ minus) (next ∷ plus) spans west from to same =
    let rest = west_of_rest next (woven minus plus) west.1 in
    let fewer : length minus ≡ length plus = omega (arith, same) in
    elim (cases_Bool (passes north east edge)) [
      | inl pass ↦
          let all = all_from low high north east edge (next ∷ woven minus plus) spans west from to pass in
          let one = count_all north east (edge ∷ minus) (pass, minus_pass north east minus plus all.1) in
          let other = count_all north east (next ∷ plus) (all.0, plus_pass north east minus plus all.1) in
          inl (omega (arith, one, other, same))
      | inr fails ↦ elim (cases_Bool (passes north east next)) [
        | inl pass ↦
            let all = all_from low high north east next (woven minus plus) spans.1 west.1 from to pass in
            let one = count_all north east minus (minus_pass north east minus plus all) in
            let other = count_all north east plus (plus_pass north east minus plus all) in
            let first = sum_by-cons (λ (own : EdgeOf). cond {A = ℕ} (passes north east own) 1 0) edge minus in
            let second = sum_by-cons (λ (own : EdgeOf). cond {A = ℕ} (passes north east own) 1 0) next plus in
            let none : cond {A = ℕ} (passes north east edge) 1 0 ≡ 0 = rw fails refl in
            let some : cond {A = ℕ} (passes north east next) 1 0 ≡ 1 = rw pass refl in
            inr (omega (arith, one, other, first, second, none, some, fewer))
        | inr also ↦
            let more = turns low high north east minus plus spans.1.1 rest from to fewer in
            let first = sum_by-cons (λ (own : EdgeOf). cond {A = ℕ} (passes north east own) 1 0) edge minus in
            let second = sum_by-cons (λ (own : EdgeOf). cond {A = ℕ} (passes north east own) 1 0) next plus in
            let none : cond {A = ℕ} (passes north east edge) 1 0 ≡ 0 = rw fails refl in
            let none_too : cond {A = ℕ} (passes north east next) 1 0 ≡ 0 = rw also refl in
            rw (first, second) (more_opened _ _ _ _ (none ∙ sym none_too) more)
      ]
    ]

pub as_opened : (k l m p : ℕ) → k ≡ m → l ≡ p → IsOpened k l → IsOpened m p
as_opened k l m p e f (inl g) = inl (omega (arith, e, f, g))
as_opened k l m p e f (inr g) = inr (omega (arith, e, f, g))

-- an edge that has none of some latitudes passes no place of them
no_overlap : (low high north : ℕ) (edge : EdgeOf) → low ≤ north → north < high → overlaps low high edge ≡ false → straddles north edge ≡ false
no_overlap low high north edge from to none = grind (arith, nat_tests)

pub count_overlapping : (low high north east : ℕ) (edges some : List EdgeOf) → low ≤ north → north < high → some ≡ filter (overlaps low high) edges
    → count_by (passes north east) some ≡ count_by (passes north east) edges
count_overlapping low high north east edges some from to e =
    ap (count_by (passes north east)) e
    ∙ all_counted (passes north east) (overlaps low high) (λ edge none. no_pass (straddles north edge) _ (no_overlap low high north edge from to none)) edges

pub opens_halves : (low middle high : ℕ) (minus plus south_minus south_plus north_minus north_plus : List EdgeOf)
    → south_minus ≡ filter (overlaps low middle) minus → south_plus ≡ filter (overlaps low middle) plus
    → north_minus ≡ filter (overlaps middle high) minus → north_plus ≡ filter (overlaps middle high) plus
    → OpensIn low middle south_minus south_plus → OpensIn middle high north_minus north_plus → OpensIn low high minus plus
opens_halves low middle high minus plus sm sp nm np a b c d south north_half north east from to = elim (cases_lt north middle) [
  | inl below ↦ as_opened _ _ _ _ (count_overlapping low middle north east minus sm from below a) (count_overlapping low middle north east plus sp from below b)
      (south north east from below)
  | inr above ↦ as_opened _ _ _ _ (count_overlapping middle high north east minus nm above to c) (count_overlapping middle high north east plus np above to d)
      (north_half north east above to)
]

none_left : (edges : List EdgeOf) → length edges ≡ 0 → edges ≡ []
none_left [] e = refl
none_left (edge ∷ edges) e = absurd (omega (arith, e))

pub opens_empty : (low high : ℕ) (minus plus : List EdgeOf) → length minus ≡ 0 → length plus ≡ 0 → OpensIn low high minus plus
opens_empty low high minus plus a b north east from to = rw (none_left minus a, none_left plus b) (inl refl)
