use Rattle.std.proofs.Common.{◌≡◌, ◌++◌, ◌-◌}
use Rattle.chain_store.specs.Parts.{up_from}
use Rattle.chain_store.proofs.parts.pool_of.Given as goal

abbrev pub invariant-loop-page : goal.invariant-loop-page
invariant-loop-page l = l.pool.items ++ up_from l.page (l.end - l.page) ≡ l.initial.pool.items ++ up_from l.fn.home (l.end - l.fn.home)
