use Rattle.std.proofs.Common.{◌++◌, ℕ, List, take}
use Rattle.geom_workers.specs.Builds.{Builds}
use Rattle.geom_workers.proofs.worker.build_each.Given as goal

-- the first of the batch are built behind those before
abbrev pub invariant-loop-ticket : goal.invariant-loop-ticket
invariant-loop-ticket g l = (drawn : List ℕ) → Builds l.style (g.L.Lookup.known l.lookup) l.pending drawn l.initial.part
    → Builds l.style (g.L.Lookup.known l.lookup) l.pending (drawn ++ take l.ticket-index l.batch) l.part
