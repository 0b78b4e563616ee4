-- Entries whose keys rise, and one more.
use Rattle.std.proofs.Common.{◌≡◌, Option, Some, List, [], ◌∷◌, ◌++◌, refl}
use Rattle.osm_base.specs.declared.values.object.Entry.{Entry}
use Rattle.osm_base.specs.values.Key.{KeyOf}
use Rattle.object_fold.specs.Change.{IsProper, Follows, RiseFrom, last_key}

pub last_key-pushed : (before : Option KeyOf) (entries : List Entry) (entry : Entry)
    → last_key before (entries ++ entry ∷ []) ≡ Some entry.key
last_key-pushed before [] entry = refl
last_key-pushed before (first ∷ entries) entry = last_key-pushed (Some first.key) entries entry

pub RiseFrom-pushed : (before : Option KeyOf) (entries : List Entry) (entry : Entry) → RiseFrom before entries
    → Follows (last_key before entries) entry.key
    → IsProper entry → RiseFrom before (entries ++ entry ∷ [])
RiseFrom-pushed before [] entry rise follows proper = (proper, follows, tt)
RiseFrom-pushed before (first ∷ entries) entry rise follows proper =
    (rise.0, rise.1, RiseFrom-pushed (Some first.key) entries entry rise.2 follows proper)
