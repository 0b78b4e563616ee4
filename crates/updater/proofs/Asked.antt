-- Which files the inputs were asked for.
use Rattle.std.proofs.Common.{ℕ, zero, suc, List, [], ◌∷◌, ◌++◌, replicate}
use Rattle.std.specs.List.{AllByRecursion}
use Rattle.run_promise.specs.Runs.{AsksOnly}

module _ (named : ℕ → Type 0) where
  all_append : (one other : List ℕ) → AllByRecursion named one → AllByRecursion named other → AllByRecursion named (one ++ other)
  all_append [] other all more = more
  all_append (file ∷ files) other all more = (all.0, all_append files other all.1 more)

  all_same : (file count : ℕ) → named file → AllByRecursion named (replicate count file)
  all_same file zero here = tt
  all_same file (suc count) here = (here, all_same file count here)

-- none yet
pub asked_none : {I : Type 0} (reads : I → List ℕ → I → Type 0) (named : ℕ → Type 0) (inputs : I) → reads inputs [] inputs
    → AsksOnly (λ asked. reads inputs asked inputs) named
asked_none reads named inputs none = ([], none, tt)

-- and then one of those that are named, some times
pub asked_more : {I : Type 0} (reads : I → List ℕ → I → Type 0)
    → ((first second third : I) (before after : List ℕ) → reads first before second → reads second after third
    → reads first (before ++ after) third)
    → (named : ℕ → Type 0) (first second third : I) (file : ℕ) → AsksOnly (λ asked. reads first asked second) named
    → (count : ℕ) × reads second (replicate count file) third → named file
    → AsksOnly (λ asked. reads first asked third) named
asked_more reads then_reads named first second third file asked more here = (
  asked.0 ++ replicate more.0 file,
  then_reads first second third asked.0 (replicate more.0 file) asked.1 more.1,
  all_append named asked.0 (replicate more.0 file) asked.2 (all_same named file more.0 here),
)

-- and then only such
pub asked_then : {I : Type 0} (reads : I → List ℕ → I → Type 0)
    → ((first second third : I) (before after : List ℕ) → reads first before second → reads second after third
    → reads first (before ++ after) third)
    → (named : ℕ → Type 0) (first second third : I) → AsksOnly (λ asked. reads first asked second) named
    → AsksOnly (λ asked. reads second asked third) named → AsksOnly (λ asked. reads first asked third) named
asked_then reads then_reads named first second third asked more =
    (asked.0 ++ more.0, then_reads first second third asked.0 more.0 asked.1 more.1, all_append named asked.0 more.0 asked.2 more.2)

-- such are others too
pub asked_among : (asks : List ℕ → Type 0) (one other : ℕ → Type 0) → ((file : ℕ) → one file → other file) → AsksOnly asks one
    → AsksOnly asks other
asked_among asks one other wider (files, asked, all) = (files, asked, widen files all)
  where
    widen : (files : List ℕ) → AllByRecursion one files → AllByRecursion other files
    widen [] all = tt
    widen (file ∷ files) all = (wider file all.0, widen files all.1)
