-- What follows from a reading that came to its end.
use Rattle.std.proofs.Common.{◌≡◌, Bool, true, false, cond, Option, None, Some, Result, Ok, Err, refl}
use Rattle.opl_object.specs.declared.why.Why.{Why}
use Rattle.opl_object.specs.Why.{◌>>=◌, given}

pub bind_ok : {A B : Type 0} (read : Result A Why) (next : A → Result B Why) (y : B) → (read >>= next) ≡ Ok y
    → (x : A) × (read ≡ Ok x) × (next x ≡ Ok y)
bind_ok (Ok x) next y e = (x, refl, e)
bind_ok (Err why) next y e = absurd cc

pub given_ok : {A : Type 0} (why : Why) (found : Option A) (x : A) → given why found ≡ Ok x → found ≡ Some x
given_ok why None x e = absurd cc
given_ok why (Some y) x e = cc

pub chosen : {A : Type 0} (test : Bool) (why : Why) (x y : A) → cond test (Ok x) (Err why) ≡ Ok y → (test ≡ true) × (x ≡ y)
chosen true why x y e = (refl, cc)
chosen false why x y e = absurd cc

abbrev done : {A : Type 0} → A → Result A Why
done x = Ok x

pub ok_is : {A : Type 0} (x y : A) → done x ≡ done y → x ≡ y
ok_is x y e = cc

abbrev there : {A : Type 0} → A → Option A
there x = Some x

pub some_is : {A : Type 0} (x y : A) → there x ≡ there y → x ≡ y
some_is x y e = cc

pub taken : {A : Type 0} (test : Bool) (why : Why) (read : Result A Why) (y : A) → cond test read (Err why) ≡ Ok y
    → (test ≡ true) × (read ≡ Ok y)
taken true why read y e = (refl, e)
taken false why read y e = absurd cc
