use Rattle.std.proofs.Common.{ℕ, List, get_or, ap, ◌∙◌, arith}
use Rattle.page_journal.proofs.Bytes.{byte-head_of}
use Rattle.page_journal.proofs.reading.gate_in.Goals as goal

pub returns : goal.returns
returns c = record { value = λ bytes fits is. ap (λ (l : List ℕ). get_or l 4095 0) is ∙ byte-head_of bytes 4095 (omega arith) }
