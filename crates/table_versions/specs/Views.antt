-- What publishers and readers are, as contracts see them.
use Rattle.std.specs.Prelude.{◌≡◌, refl, ℕ, ◌+◌, ◌-◌, ◌^◌, min, Bool}
use Rattle.std.specs.Coded.{Coded, code_by, coded×, coded_bool, coded_ℕ}
use Rattle.doubles.specs.Fails.{FailPlan}
use Rattle.doubles.specs.contracts.fails.Fails as fails
use Rattle.style_read.specs.contracts.style.Style as styles
use Rattle.style_read.specs.Style.{StyleOf}
use Rattle.table_versions.specs.Fronts.{FrontOf, front_code}

-- the history of the published deltas, and whether a publish was refused
pub record PublisherOf : Type 0 where
  pub front : FrontOf
  pub stopped : Bool

abbrev pub publisher_code : Coded PublisherOf
publisher_code = code_by (FrontOf × Bool) (coded× front_code coded_bool) (λ own. (own.front, own.stopped))
    (λ parts. record { front = parts.0; stopped = parts.1 }) (λ _. refl)

-- a style, whether left_right made a handle, the history that was seen, the longest beginning of it that was seen or told, and how
-- often the reader was not let in
pub record ReaderOf : Type 0 where
  pub style : StyleOf
  pub has_handle : Bool
  pub seen : FrontOf
  pub told : FrontOf
  pub refusals : ℕ

abbrev pub reader_code : Coded ReaderOf
reader_code =
    code_by (StyleOf × (Bool × (FrontOf × (FrontOf × ℕ))))
    (coded× styles.the_row.coded (coded× coded_bool (coded× front_code (coded× front_code coded_ℕ))))
    (λ own. (own.style, (own.has_handle, (own.seen, (own.told, own.refusals)))))
    (λ parts. record { style = parts.0; has_handle = parts.1.0; seen = parts.1.1.0; told = parts.1.1.1.0; refusals = parts.1.1.1.1 })
    (λ _. refl)

-- a reader that has seen nothing of a history, and was told nothing
pub record IsNewReader (own : StyleOf) (front : FrontOf) (reader : ReaderOf) : Type 0 where
  pub style : reader.style ≡ own
  pub seen : reader.seen ≡ front
  pub told : reader.told ≡ front
  pub refusals : reader.refusals ≡ 0

-- a reader of one version: what it is as a reader, how many calls there were, and which fail
pub record HeldOf : Type 0 where
  pub reader : ReaderOf
  pub calls : ℕ
  pub plan : FailPlan

abbrev pub held_code : Coded HeldOf
held_code =
    code_by (ReaderOf × (ℕ × FailPlan)) (coded× reader_code (coded× coded_ℕ fails.the_row.coded))
    (λ own. (own.reader, (own.calls, own.plan)))
    (λ parts. record { reader = parts.0; calls = parts.1.0; plan = parts.1.1 }) (λ _. refl)

-- the number of its next call; calls are counted from 1, up to the greatest number
abbrev pub next_call : HeldOf → ℕ
next_call held = min (held.calls + 1) (2 ^ 64 - 1)
