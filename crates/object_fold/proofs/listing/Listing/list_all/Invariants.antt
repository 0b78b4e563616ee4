use Rattle.std.proofs.Common.{take}
use Rattle.object_fold.specs.Listing.{Lists}
use Rattle.object_fold.proofs.listing.Listing.list_all.Given as goal

-- the ids so far are listed
abbrev pub invariant-loop-id : goal.invariant-loop-id
invariant-loop-id l = Lists (take l.id-index l.ids) l.lister l.initial.self l.self
