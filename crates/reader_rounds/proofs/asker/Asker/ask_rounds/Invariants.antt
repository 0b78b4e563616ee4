use Rattle.table_versions.specs.Fronts.{FrontOf}
use Rattle.style_read.specs.Style.{StyleOf}
use Rattle.reader_rounds.specs.Asking.{HasAsked}
use Rattle.reader_rounds.proofs.asker.Asker.ask_rounds.Given as goal

-- so many rounds were asked
abbrev pub invariant-loop : goal.invariant-loop
invariant-loop g l = (style : StyleOf) (front : FrontOf) → HasAsked style front l.queries 0 l.fn.self
    → HasAsked style front l.queries l.counter l.self
