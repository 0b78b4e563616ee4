-- Files in memory.
use Rattle.std.specs.Prelude.{◌≡◌, ◌≢◌, ℕ, List, [], ◌∷◌, ◌++◌, slice_get}
use Rattle.std.proofs.Common.{◌∙◌}
use Rattle.doubles.specs.Calls.{CallLog}

-- the bytes left in each file, by the number of its word, and the calls so far
pub record FilesRead : Type 0 where
  pub left : List (List ℕ)
  pub calls : CallLog

-- this file is not among these
abbrev pub IsBeside : List ℕ → ℕ → Type 0
IsBeside [] other = Unit {0}
IsBeside (file ∷ files) other = (other ≢ file) × IsBeside files other

-- reads of these files have left every other file as it was
abbrev pub Reads : FilesRead → List ℕ → FilesRead → Type 0
Reads old files new = (other : ℕ) → IsBeside files other → slice_get new.left other ≡ slice_get old.left other

beside-append : (some more : List ℕ) (other : ℕ) → IsBeside (some ++ more) other → IsBeside some other × IsBeside more other
beside-append [] more other beside = (tt, beside)
beside-append (file ∷ files) more other (apart, beside) =
    let both = beside-append files more other beside in
    ((apart, both.0), both.1)

pub reads_then_reads : (first second third : FilesRead) (before after : List ℕ) → Reads first before second
    → Reads second after third → Reads first (before ++ after) third
reads_then_reads first second third before after some more = λ other beside.
    let both = beside-append before after other beside in
    more other both.1 ∙ some other both.0
