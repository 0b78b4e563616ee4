-- New readers, one more at a time.
use Rattle.std.proofs.Common.{zero, suc, List, [], ◌∷◌, ◌++◌, arith}
use Rattle.std.proofs.lemmas.List.Elements.{All-append}
use Rattle.std.specs.Prelude.{All}
use Rattle.style_read.specs.Style.{StyleOf}
use Rattle.table_versions.specs.Fronts.{FrontOf}
use Rattle.table_versions.specs.Views.{IsNewReader, ReaderOf}

pub more_readers : (style : StyleOf) (front : FrontOf) (made : List ReaderOf) (reader : ReaderOf) → All (IsNewReader style front) made
    → IsNewReader style front reader
    → All (IsNewReader style front) (made ++ reader ∷ [])
more_readers style front made reader all new = All-append (IsNewReader style front) made (reader ∷ []) all one
  where
    one : All (IsNewReader style front) (reader ∷ [])
    one zero d within = new
    one (suc k) d within = absurd (omega (arith, within))
