use Rattle.std.proofs.Common.{take}
use Rattle.object_fold.specs.Listing.{Unlists}
use Rattle.object_fold.proofs.listing.Listing.unlist_all.Given as goal

-- the ids so far are no longer listed, but for those
abbrev pub invariant-loop-id : goal.invariant-loop-id
invariant-loop-id l = Unlists (take l.id-index l.ids) l.but l.lister l.initial.self l.self
