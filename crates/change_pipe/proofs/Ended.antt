-- A file that is at its end is there still when it was read again, accepted or refused.
use Rattle.std.proofs.Common.{◌≡◌, ℕ, Option, Some, None, List, [], ◌∷◌, ◌++◌, sym, ap}
use Rattle.osm_base.specs.declared.bounds.limits.LimitNumbers.{LimitNumbers}
use Rattle.osm_base.specs.declared.values.object.Entry.{Entry}
use Rattle.opl_files.specs.Lots.{ReadsNoFurtherThan}
use Rattle.opl_files.specs.Reading.{HasEntries}

-- behind nothing comes nothing
last_none : (before last later : List ℕ) → [] ≡ before ++ (last ++ later) → later ≡ []
last_none [] [] later is = sym is
last_none [] (byte ∷ last) later is = absurd (cc)
last_none (byte ∷ before) last later is = absurd (cc)

-- an accepted one
pub ended_whole : (limits : LimitNumbers) (entries : List Entry) (left rest : Option (List ℕ)) → HasEntries limits entries left rest
    → left ≡ Some [] → rest ≡ Some []
ended_whole limits entries None rest has is = absurd (cc)
ended_whole limits entries (Some bytes) None has is = absurd has
ended_whole limits entries (Some bytes) (Some later) has is = ap (λ (l : List ℕ). Some l) has.1

-- a refused one
pub ended_refused : (most : ℕ) (limits : LimitNumbers) (left rest : Option (List ℕ)) → ReadsNoFurtherThan most limits left rest
    → left ≡ Some [] → rest ≡ Some []
ended_refused most limits None rest stops is = absurd (cc)
ended_refused most limits (Some []) None stops is = absurd stops
ended_refused most limits (Some []) (Some later) stops is = ap (λ (l : List ℕ). Some l) (last_none stops.before stops.last later stops.parts)
ended_refused most limits (Some (byte ∷ bytes)) rest stops is = absurd (cc)
