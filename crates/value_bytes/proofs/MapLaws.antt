-- Maps of bytes hold values, also once one is put in or taken out.
use Rattle.std.proofs.Common.{◌≡◌, ℕ, Bool, true, false, cond, List, Option, None, Some, refl, sym, ap, subst}
use Rattle.std.specs.Option.{is_some}
use Rattle.std.specs.Cmp.{nat_cmp_total}
use Rattle.std.specs.Ordering.{nat_cmp, eq_by_cmp}
use Rattle.std.specs.FinMap as map
use Rattle.value_bytes.specs.Forms.{IsNoValue}
use Rattle.value_bytes.specs.Maps.{Decodes, HoldsMap, ReadAs}

-- what was read is the value
pub read_one : {V : Type 0} (spell : V → List ℕ) (Is : V → Type 0) (bytes : Option (List ℕ)) (found value : Option V)
    → ReadAs spell Is bytes found → Decodes spell Is bytes value → found ≡ value
read_one spell Is None None None read is = refl
read_one spell Is None None (Some value) read is = absurd is
read_one spell Is None (Some found) value read is = absurd read
read_one spell Is (Some bytes) None value read is = absurd read
read_one spell Is (Some bytes) (Some found) None read is = absurd is
read_one spell Is (Some bytes) (Some found) (Some value) read is = ap Some (sym (read.alone value is.0 is.1))

-- bytes of a value are not refused
pub never_refused : {V : Type 0} (spell : V → List ℕ) (Is : V → Type 0) (bytes : List ℕ) (value : Option V)
    → IsNoValue spell Is bytes → Decodes spell Is (Some bytes) value → ⊥
never_refused spell Is bytes None none is = is
never_refused spell Is bytes (Some value) none is = none value is.0 is.1

-- there is a value exactly where there are bytes
pub decodes_there : {V : Type 0} (spell : V → List ℕ) (Is : V → Type 0) (bytes : Option (List ℕ)) (value : Option V)
    → Decodes spell Is bytes value → is_some bytes ≡ is_some value
decodes_there spell Is None None is = refl
decodes_there spell Is None (Some value) is = absurd is
decodes_there spell Is (Some bytes) None is = absurd is
decodes_there spell Is (Some bytes) (Some value) is = refl

decodes_either : {V : Type 0} (spell : V → List ℕ) (Is : V → Type 0) (b : Bool) (one two : Option (List ℕ)) (first second : Option V)
    → Decodes spell Is one first → Decodes spell Is two second → Decodes spell Is (cond b one two) (cond b first second)
decodes_either spell Is true one two first second is other = is
decodes_either spell Is false one two first second is other = other

-- a value and its bytes are put in, or taken out
pub held_insert : {V : Type 0} (spell : V → List ℕ) (Is : V → Type 0) (bytes : map.FinMap nat_cmp (List ℕ)) (values : map.FinMap nat_cmp V)
    (key : ℕ) (value : V) → HoldsMap spell Is bytes values → Is value
    → HoldsMap spell Is (map.insert bytes key (spell value)) (map.insert values key value)
held_insert {V} spell Is bytes values key value held is other =
    let here = eq_by_cmp nat_cmp other key in
    subst (λ (o : Option (List ℕ)). Decodes spell Is o (map.get (map.insert values key value) other))
    (sym (map.get-insert nat_cmp_total bytes key (spell value) other))
    (subst (λ (o : Option V). Decodes spell Is (cond here (Some (spell value)) (map.get bytes other)) o)
    (sym (map.get-insert nat_cmp_total values key value other))
    (decodes_either spell Is here (Some (spell value)) (map.get bytes other) (Some value) (map.get values other) (is, refl) (held other)))

pub held_remove : {V : Type 0} (spell : V → List ℕ) (Is : V → Type 0) (bytes : map.FinMap nat_cmp (List ℕ)) (values : map.FinMap nat_cmp V)
    (key : ℕ) → HoldsMap spell Is bytes values → HoldsMap spell Is (map.remove bytes key) (map.remove values key)
held_remove {V} spell Is bytes values key held other =
    let here = eq_by_cmp nat_cmp other key in
    subst (λ (o : Option (List ℕ)). Decodes spell Is o (map.get (map.remove values key) other))
    (sym (map.get-remove nat_cmp_total bytes key other))
    (subst (λ (o : Option V). Decodes spell Is (cond here None (map.get bytes other)) o)
    (sym (map.get-remove nat_cmp_total values key other))
    (decodes_either spell Is here None (map.get bytes other) None (map.get values other) tt (held other)))

-- no values
pub held_empty : {V : Type 0} (spell : V → List ℕ) (Is : V → Type 0) → HoldsMap spell Is map.empty map.empty
held_empty {V} spell Is key =
    subst (λ (o : Option (List ℕ)). Decodes spell Is o (map.get {R = nat_cmp} (map.empty {X = V}) key)) (sym (map.get-empty nat_cmp key))
    (subst (λ (o : Option V). Decodes spell Is None o) (sym (map.get-empty nat_cmp key)) tt)
