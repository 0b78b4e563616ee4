-- The entries of a change, one by one.
use Rattle.std.proofs.Common.{◌≡◌, ◌<◌, ℕ, zero, suc, List, [], ◌∷◌, length, take, slice_index_or, Option, Some, None, sym, subst, arith}
use Rattle.osm_base.specs.declared.values.object.Entry.{Entry}
use Rattle.osm_base.specs.values.Key.{KeyOf}
use Rattle.object_fold.specs.Change.{IsChange, IsProper, RiseFrom}
use Rattle.store_maps.specs.Step.{AreProperEntries}

proper_from : (before : Option KeyOf) (entries : List Entry) → RiseFrom before entries → AreProperEntries entries
proper_from before [] rise = tt
proper_from before (entry ∷ entries) rise = (rise.0, proper_from (Some entry.key) entries rise.2)

pub change_proper : (entries : List Entry) → IsChange entries → AreProperEntries entries
change_proper entries rise = proper_from None entries rise

pub proper_at : (entries : List Entry) (at : ℕ) (own : Entry) → AreProperEntries entries → at < length entries
    → own ≡ slice_index_or entries at own → IsProper own
proper_at [] at own all below is = absurd (omega (arith, below))
proper_at (first ∷ rest) zero own all below is = subst IsProper (sym is) all.0
proper_at (first ∷ rest) (suc at) own all below is = proper_at rest at own all.1 (omega (arith, below)) is

-- the first of them
pub proper_front : (entries : List Entry) (count : ℕ) → AreProperEntries entries → AreProperEntries (take count entries)
proper_front entries zero all = tt
proper_front [] (suc count) all = tt
proper_front (first ∷ rest) (suc count) all = (all.0, proper_front rest count all.1)
