use Rattle.std.proofs.Common.{◌≡◌, ◌-◌, ◌++◌}
use Rattle.chain_store.specs.Marks.{same_from}
use Rattle.chain_store.proofs.marks.same_pages.Given as goal

abbrev pub invariant-loop : goal.invariant-loop
invariant-loop l = l.marks.items ++ same_from (l.many - l.counter) l.rest_before l.rest ≡ same_from l.many l.fn.before l.fn.bytes
