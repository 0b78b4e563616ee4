-- The calls of an object in memory.
use Rattle.std.specs.Prelude.{ℕ, Bool, if◌then◌else◌}
use Rattle.outside.specs.Counts.{one_more}
use Rattle.doubles.specs.Fails.{FailPlan, Names}

-- which calls are to fail, how many calls were made, and how many of them failed
pub record CallLog : Type 0 where
  pub fails : FailPlan
  pub made : ℕ
  pub failed : ℕ

-- the next call is one that is to fail
abbrev pub NamesNext : CallLog → Type 0
NamesNext log = Names log.fails (one_more log.made)

-- the calls after one more, which failed or not
abbrev pub after_call : CallLog → Bool → CallLog
after_call log failed = record {
  fails = log.fails;
  made = one_more log.made;
  failed = if failed then one_more log.failed else log.failed;
}
