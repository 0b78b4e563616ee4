-- What a step over the objects of a map comes to.
use Rattle.std.specs.Prelude.{◌≡◌, Result, OnOk, OnErr}

-- they are made so, or left as they were where memory ran out
pub record MakesOrKeeps {T E S : Type 0} (result : Result T E) (old made new : S) : Type 0 where
  pub ok : OnOk result (new ≡ made)
  pub err : OnErr result (new ≡ old)
