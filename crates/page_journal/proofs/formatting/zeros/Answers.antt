use Rattle.std.proofs.Common.{ℕ, inl, inr, replicate, arith}
use Rattle.std.proofs.lemmas.Bool.{cases_lt}
use Rattle.std.proofs.lemmas.List.{get_or-replicate, get_or_past, length-replicate}
use Rattle.page_journal.proofs.formatting.zeros.Goals as goal

pub returns-clause-long : goal.returns-clause-long
returns-clause-long c = length-replicate {A = ℕ} 8192 0

pub returns-clause-zero : goal.returns-clause-zero
returns-clause-zero c = λ i.
    let size = length-replicate {A = ℕ} 8192 0 in
    elim (cases_lt i 8192) [
      | inl inside ↦ get_or-replicate 8192 i 0 0 inside
      | inr past ↦ get_or_past (replicate 8192 0) i 0 (omega (arith, size, past))
    ]
