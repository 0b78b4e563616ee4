-- Entries that rise, behind others.
use Rattle.std.proofs.Common.{◌≡◌, ◌∙◌, ◌++◌, ◌∷◌, [], List, Option, Some, None, append_assoc, refl, sym}
use Rattle.std.proofs.lemmas.List.{append-nil}
use Rattle.std.specs.Prelude.{fold}
use Rattle.osm_base.specs.declared.values.object.Entry.{Entry}
use Rattle.osm_base.specs.values.Key.{KeyOf}
use Rattle.object_fold.specs.Change.{Follows, RiseFrom, last_key}
use Rattle.object_fold.specs.Keeps.{pushed}

-- what rises behind one key rises behind another, where each that comes after the one comes after the other
rise_after : (last other : Option KeyOf) (entries : List Entry) → ((next : KeyOf) → Follows last next → Follows other next)
    → RiseFrom last entries → RiseFrom other entries
rise_after last other [] later rise = tt
rise_after last other (entry ∷ entries) later rise = (rise.0, later entry.key rise.1, rise.2)

rise_on : (before : Option KeyOf) (front entries : List Entry) → RiseFrom before front → RiseFrom (last_key before front) entries
    → RiseFrom before (front ++ entries)
rise_on before [] entries first rise = rise
rise_on before (entry ∷ front) entries first rise = (first.0, first.1, rise_on (Some entry.key) front entries first.2 rise)

last_on : (before : Option KeyOf) (front entries : List Entry) → last_key before (front ++ entries) ≡ last_key (last_key before front) entries
last_on before [] entries = refl
last_on before (entry ∷ front) entries = last_on (Some entry.key) front entries

-- they rise together
pub rise_joined : (last : Option KeyOf) (front entries : List Entry) → RiseFrom None front
    → ((next : KeyOf) → Follows last next → Follows (last_key None front) next) → RiseFrom last entries → RiseFrom None (front ++ entries)
rise_joined last front entries first later rise = rise_on None front entries first (rise_after last (last_key None front) entries later rise)

follows_last : (last other : Option KeyOf) (entries : List Entry) → ((next : KeyOf) → Follows last next → Follows other next)
    → (next : KeyOf) → Follows (last_key last entries) next → Follows (last_key other entries) next
follows_last last other [] later next follows = later next follows
follows_last last other (entry ∷ entries) later next follows = follows

-- and what comes after the last of them comes after all
pub follows_joined : (last : Option KeyOf) (front entries : List Entry)
    → ((next : KeyOf) → Follows last next → Follows (last_key None front) next) → (next : KeyOf)
    → Follows (last_key last entries) next → Follows (last_key None (front ++ entries)) next
follows_joined last front entries later next follows =
    rw (last_on None front entries) (follows_last last (last_key None front) entries later next follows)

-- what one pushes on comes behind
pub fold-pushed : (front entries : List Entry) → fold pushed front entries ≡ front ++ entries
fold-pushed front [] = sym (append-nil front)
fold-pushed front (entry ∷ entries) = fold-pushed (front ++ entry ∷ []) entries ∙ simp (append_assoc) refl
