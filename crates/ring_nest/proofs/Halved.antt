-- Edges in a slab and its halves are counted as all of them are.
use Rattle.std.proofs.Common.{◌≡◌, ℕ, ◌+◌, ◌-◌, ◌<◌, ◌≤◌, refl, sym, ◌∙◌, Bool, true, false, cond, not, ◌&&◌, List, [], ◌∷◌, nat_lt, if◌then◌else◌, count_by, arith}
use Rattle.std.specs.List.{AllByRecursion, filter}
use Rattle.std.proofs.lemmas.Bool.Decides.{nat_tests}
use Rattle.std.proofs.lemmas.List.Sums.{sum_by-cons}
use Rattle.ring_nest.specs.Edge.{EdgeOf}
use Rattle.ring_nest.specs.Edges.{Spans, passes, spans, straddles}
use Rattle.ring_nest.specs.Slabs.{is_across, is_north, is_south}

-- ---- what is kept

span_one : (low high : ℕ) (edge : EdgeOf) (edges : List EdgeOf) (b : Bool) → spans low high edge ≡ b → AllByRecursion (Spans low high) edges
    → AllByRecursion (Spans low high) (cond b (edge ∷ edges) edges)
span_one low high edge edges true e all =
    (record { from = grind (arith, nat_tests); to = grind (arith, nat_tests) }, all)
span_one low high edge edges false e all = all

pub all_across : (low high : ℕ) (edges : List EdgeOf) → AllByRecursion (Spans low high) (filter (is_across low high) edges)
all_across low high [] = tt
all_across low high (edge ∷ edges) =
    span_one low high edge (filter (is_across low high) edges) (spans low high edge) refl (all_across low high edges)

-- ---- each edge that passes is counted once

one_step : (P : EdgeOf → Bool) (edge : EdgeOf) (xs ys : List EdgeOf) (n : ℕ) (a b : Bool) → (a ≡ true → b ≡ false) → (a ≡ false → b ≡ false → P edge ≡ false)
    → count_by P xs + count_by P ys ≡ n → count_by P (cond a (edge ∷ xs) xs) + count_by P (cond b (edge ∷ ys) ys) ≡ cond (P edge) 1 0 + n
one_step P edge xs ys n true true once none e = absurd (let no : true ≡ false = once refl in cc)
one_step P edge xs ys n true false once none e = rw sum_by-cons (omega (arith, e))
one_step P edge xs ys n false true once none e = rw sum_by-cons (omega (arith, e))
one_step P edge xs ys n false false once none e = rw (none refl refl) (omega (arith, e))

one_each : (P p q : EdgeOf → Bool) → ((edge : EdgeOf) → p edge ≡ true → q edge ≡ false) → ((edge : EdgeOf) → p edge ≡ false → q edge ≡ false → P edge ≡ false)
    → (edges : List EdgeOf) → count_by P (filter p edges) + count_by P (filter q edges) ≡ count_by P edges
one_each P p q once none [] = refl
one_each P p q once none (edge ∷ edges) =
    one_step P edge (filter p edges) (filter q edges) (count_by P edges) (p edge) (q edge) (once edge) (none edge) (one_each P p q once none edges)
    ∙ sym (sum_by-cons (λ (own : EdgeOf). cond {A = ℕ} (P own) 1 0) edge edges)

kept_step : (P : EdgeOf → Bool) (edge : EdgeOf) (xs : List EdgeOf) (n : ℕ) (a : Bool) → (a ≡ false → P edge ≡ false) → count_by P xs ≡ n
    → count_by P (cond a (edge ∷ xs) xs) ≡ cond (P edge) 1 0 + n
kept_step P edge xs n true none e = rw sum_by-cons (omega (arith, e))
kept_step P edge xs n false none e = rw (none refl) (omega (arith, e))

pub all_counted : (P p : EdgeOf → Bool) → ((edge : EdgeOf) → p edge ≡ false → P edge ≡ false) → (edges : List EdgeOf) → count_by P (filter p edges) ≡ count_by P edges
all_counted P p none [] = refl
all_counted P p none (edge ∷ edges) =
    kept_step P edge (filter p edges) (count_by P edges) (p edge) (none edge) (all_counted P p none edges)
    ∙ sym (sum_by-cons (λ (own : EdgeOf). cond {A = ℕ} (P own) 1 0) edge edges)

-- an edge without the latitude passes no place of it
pub no_pass : (a b : Bool) → a ≡ false → (a && b) ≡ false
no_pass a b e = rw e refl

not_both : (a b : Bool) → a ≡ true → (not a && b) ≡ false
not_both a b e = rw e refl

neither_south : (low middle high north : ℕ) (edge : EdgeOf) → low ≤ north → north < middle → is_across low high edge ≡ false → is_south low middle high edge ≡ false
    → straddles north edge ≡ false
neither_south low middle high north edge from to a b =
    let c : (nat_lt low edge.high && nat_lt edge.low middle) ≡ false = rw a at b in
    grind (arith, nat_tests)

neither_north : (low middle high north : ℕ) (edge : EdgeOf) → middle ≤ north → north < high → is_across low high edge ≡ false → is_north low middle high edge ≡ false
    → straddles north edge ≡ false
neither_north low middle high north edge from to a b =
    let c : (nat_lt middle edge.high && nat_lt edge.low high) ≡ false = rw a at b in
    grind (arith, nat_tests)

not_across : (low high north : ℕ) (edge : EdgeOf) → high - low < 2 → low ≤ north → north < high → is_across low high edge ≡ false → straddles north edge ≡ false
not_across low high north edge thin from to a =
    let same : north ≡ low = omega arith in
    grind (arith, nat_tests)

pub south_counts : (low middle high north east : ℕ) (edges row whole half : List EdgeOf) (south upper : ℕ) → low ≤ north → north < middle
    → count_by (passes north east) row ≡ count_by (passes north east) whole → whole ≡ filter (is_across low high) edges
    → half ≡ filter (is_south low middle high) edges → south ≡ count_by (passes north east) half
    → count_by (passes north east) row + (if nat_lt north middle then south else upper) ≡ count_by (passes north east) edges
south_counts low middle high north east edges row whole half south upper from to e f g h =
    let each = one_each (passes north east) (is_across low high) (is_south low middle high)
    (λ edge a. not_both (is_across low high edge) _ a)
    (λ edge a b. no_pass (straddles north edge) _ (neither_south low middle high north edge from to a b)) edges in
    let side : nat_lt north middle ≡ true = grind (arith, nat_tests) in
    rw (side, e, f, h, g) each

pub north_counts : (low middle high north east : ℕ) (edges row whole half : List EdgeOf) (south upper : ℕ) → middle ≤ north → north < high
    → count_by (passes north east) row ≡ count_by (passes north east) whole → whole ≡ filter (is_across low high) edges
    → half ≡ filter (is_north low middle high) edges → upper ≡ count_by (passes north east) half
    → count_by (passes north east) row + (if nat_lt north middle then south else upper) ≡ count_by (passes north east) edges
north_counts low middle high north east edges row whole half south upper from to e f g h =
    let each = one_each (passes north east) (is_across low high) (is_north low middle high)
    (λ edge a. not_both (is_across low high edge) _ a)
    (λ edge a b. no_pass (straddles north edge) _ (neither_north low middle high north edge from to a b)) edges in
    let side : nat_lt north middle ≡ false = grind (arith, nat_tests) in
    rw (side, e, f, h, g) each

pub nothing_more : (b : Bool) (n : ℕ) → n + (if b then 0 else 0) ≡ n
nothing_more true n = omega arith
nothing_more false n = omega arith

pub thin_counts : (low high north east : ℕ) (edges row whole : List EdgeOf) → high - low < 2 → low ≤ north → north < high
    → count_by (passes north east) row ≡ count_by (passes north east) whole → whole ≡ filter (is_across low high) edges
    → count_by (passes north east) row ≡ count_by (passes north east) edges
thin_counts low high north east edges row whole thin from to e f =
    let all = all_counted (passes north east) (is_across low high)
    (λ edge a. no_pass (straddles north edge) _ (not_across low high north edge thin from to a)) edges in
    rw (e, f) all
