-- Two edges, over the latitudes that they have in common. By natural numbers: the longitudes A and B of the one's ends, C and D of the
-- other's; s of those latitudes lie below a place and t above it, the one goes on i below them and j above, the other k below and l above.
use Rattle.std.proofs.Common.{◌≡◌, ℕ, ◌+◌, ◌-◌, ◌*◌, ◌<◌, ◌≤◌, max, min, Bool, true, false, ◌&&◌, nat_lt, arith, mul-le-mul_left, mul-le-mul_right}
use Rattle.std.proofs.Math.Nat.{le_of_mul-le-mul_left, lt_of_mul-lt-mul_left}
use Rattle.std.proofs.lemmas.Bool.Decides.{nat_tests}
use Rattle.ring_nest.specs.Edge.{EdgeOf}
use Rattle.ring_nest.specs.Edges.{IsWest, IsWestAt, edge_share, own_share, straddles}

-- where the one is not east of the other at both ends of what they have in common, it is not in between
between : (A B C D i j k l s t : ℕ) → 0 < t
    → (i * B + (s + t + j) * A) * (k + s + t + l) ≤ (k * D + (s + t + l) * C) * (i + s + t + j)
    → ((i + s + t) * B + j * A) * (k + s + t + l) ≤ ((k + s + t) * D + l * C) * (i + s + t + j)
    → ((i + s) * B + (t + j) * A) * (k + s + t + l) ≤ ((k + s) * D + (t + l) * C) * (i + s + t + j)
between A B C D i j k l s t some low high =
    let one = mul-le-mul_left t low in
    let two = mul-le-mul_left s high in
    le_of_mul-le-mul_left {k = s + t} (omega (arith, one, two)) (omega (arith, some))

-- a place west of the one is west of the other
west_of_both : (A B C D P i j k l s t : ℕ) → 0 < t
    → (i * B + (s + t + j) * A) * (k + s + t + l) ≤ (k * D + (s + t + l) * C) * (i + s + t + j)
    → ((i + s + t) * B + j * A) * (k + s + t + l) ≤ ((k + s + t) * D + l * C) * (i + s + t + j)
    → P * (i + s + t + j) < (i + s) * B + (t + j) * A → P * (k + s + t + l) < (k + s) * D + (t + l) * C
west_of_both A B C D P i j k l s t some low high west =
    let mid = between A B C D i j k l s t some low high in
    let more = mul-le-mul_right (k + s + t + l) west in
    lt_of_mul-lt-mul_left (i + s + t + j) (omega (arith, mid, more, some))

-- at the ends of the edges themselves
one_begins : (A B l d E w : ℕ) → A * w ≤ E → ((l - l) * B + d * A) * w ≤ E * d
one_begins A B l d E w h =
    let more = mul-le-mul_right d h in
    let none : l - l ≡ 0 = omega arith in
    rw none (omega (arith, more))

one_ends : (A B l d E w : ℕ) → B * w ≤ E → (d * B + (l - l) * A) * w ≤ E * d
one_ends A B l d E w h =
    let more = mul-le-mul_right d h in
    let none : l - l ≡ 0 = omega arith in
    rw none (omega (arith, more))

other_begins : (C D l d E w : ℕ) → E ≤ C * w → E * d ≤ ((l - l) * D + d * C) * w
other_begins C D l d E w h =
    let more = mul-le-mul_right d h in
    let none : l - l ≡ 0 = omega arith in
    rw none (omega (arith, more))

other_ends : (C D l d E w : ℕ) → E ≤ D * w → E * d ≤ (d * D + (l - l) * C) * w
other_ends C D l d E w h =
    let more = mul-le-mul_right d h in
    let none : l - l ≡ 0 = omega arith in
    rw none (omega (arith, more))

pub west_one_low : (one other : EdgeOf) → other.low ≤ one.low → own_share one.at_low other ≤ edge_share one.low other
    → IsWestAt (max one.low other.low) one other
west_one_low one other later h =
    let e : max one.low other.low ≡ one.low = omega arith in
    rw e (one_begins one.at_low one.at_high one.low (one.high - one.low) (edge_share one.low other) (other.high - other.low) h)

pub west_other_low : (one other : EdgeOf) → one.low ≤ other.low → edge_share other.low one ≤ own_share other.at_low one
    → IsWestAt (max one.low other.low) one other
west_other_low one other later h =
    let e : max one.low other.low ≡ other.low = omega arith in
    rw e (other_begins other.at_low other.at_high other.low (other.high - other.low) (edge_share other.low one) (one.high - one.low) h)

pub west_one_high : (one other : EdgeOf) → one.high ≤ other.high → own_share one.at_high other ≤ edge_share one.high other
    → IsWestAt (min one.high other.high) one other
west_one_high one other earlier h =
    let e : min one.high other.high ≡ one.high = omega arith in
    rw e (one_ends one.at_low one.at_high one.high (one.high - one.low) (edge_share one.high other) (other.high - other.low) h)

pub west_other_high : (one other : EdgeOf) → other.high ≤ one.high → edge_share other.high one ≤ own_share other.at_high one
    → IsWestAt (min one.high other.high) one other
west_other_high one other earlier h =
    let e : min one.high other.high ≡ other.high = omega arith in
    rw e (other_ends other.at_low other.at_high other.high (other.high - other.low) (edge_share other.high one) (one.high - one.low) h)

-- at a latitude between two others, b and c, of which the lower is i above the south end and the higher is j below the north end
pub record Parts (b c n : ℕ) (edge : EdgeOf) (i j s t : ℕ) : Type 0 where
  pub whole : edge.high - edge.low ≡ i + s + t + j
  pub low_south : b - edge.low ≡ i
  pub low_north : edge.high - b ≡ s + t + j
  pub high_south : c - edge.low ≡ i + s + t
  pub high_north : edge.high - c ≡ j
  pub south : n - edge.low ≡ i + s
  pub north : edge.high - n ≡ t + j

parts : (b c n : ℕ) (edge : EdgeOf) → edge.low ≤ b → b ≤ n → n < c → c ≤ edge.high → Parts b c n edge (b - edge.low) (edge.high - c) (n - b) (c - n)
parts b c n edge f g h k = record {
  whole = omega arith;
  low_south = omega arith;
  low_north = omega arith;
  high_south = omega arith;
  high_north = omega arith;
  south = omega arith;
  north = omega arith;
}

west_at : (b c n P i j k l s t : ℕ) (one other : EdgeOf) → Parts b c n one i j s t → Parts b c n other k l s t → 0 < t
    → IsWestAt b one other → IsWestAt c one other → own_share P one < edge_share n one → own_share P other < edge_share n other
west_at b c n P i j k l s t one other p q some low high west =
    let l_ = rw (p.low_south, p.low_north, p.whole, q.low_south, q.low_north, q.whole) at low in
    let h_ = rw (p.high_south, p.high_north, p.whole, q.high_south, q.high_north, q.whole) at high in
    let w_ = rw (p.south, p.north, p.whole) at west in
    rw (q.south, q.north, q.whole) (west_of_both one.at_low one.at_high other.at_low other.at_high P i j k l s t some l_ h_ w_)

within : (n : ℕ) (edge : EdgeOf) → straddles n edge ≡ true → (edge.low ≤ n) × (n < edge.high)
within n edge e = grind (arith, nat_tests)

east_side : (a : Bool) (x y : ℕ) → (a && nat_lt x y) ≡ true → x < y
east_side true x y e = grind (arith, nat_tests)
east_side false x y e = absurd (cc)

pub west_is : (one other : EdgeOf) → IsWestAt (max one.low other.low) one other → IsWestAt (min one.high other.high) one other → IsWest one other
west_is one other low high n P first second pass =
    let b = max one.low other.low in
    let c = min one.high other.high in
    let f = within n one first in
    let g = within n other second in
    let p = parts b c n one (omega arith) (omega arith) (omega arith) (omega arith) in
    let q = parts b c n other (omega arith) (omega arith) (omega arith) (omega arith) in
    let less = west_at b c n P _ _ _ _ _ _ one other p q (omega arith) low high (east_side (straddles n one) _ _ pass) in
    rw second (grind (arith, nat_tests))
