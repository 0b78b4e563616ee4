use Rattle.std.proofs.Common.{◌≤◌, ◌+◌, drop}
use Rattle.osm_base.specs.declared.values.key.TheConstants.{MAX_ID}
use Rattle.back_index.proofs.IdLaws.{RiseFrom}
use Rattle.back_index.proofs.ids.are_rising_ids.Given as goal

-- the numbers rise where those that are left do
abbrev pub invariant-loop-number : goal.invariant-loop-number
invariant-loop-number l = record {
  low : l.least ≤ MAX_ID + 1;
  ahead : RiseFrom 1 l.numbers → RiseFrom l.least (drop l.number-index l.numbers);
  back : RiseFrom l.least (drop l.number-index l.numbers) → RiseFrom 1 l.numbers;
}
