-- Entries that rise behind a key, taken one after another.
use Rattle.std.proofs.Common.{◌≡◌, ◌<◌, ◌+◌, ℕ, ◌∷◌, ◌++◌, [], List, length, drop, set, get_or, drop-set-lt, Option, Some, refl, sym, ap, ◌∙◌, arith}
use Rattle.std.proofs.lemmas.List.{drop_more}
use Rattle.osm_base.specs.declared.values.object.Entry.{Entry}
use Rattle.osm_base.specs.values.Key.{KeyOf}
use Rattle.object_fold.specs.Change.{Follows, RiseFrom, last_key}

-- what rises behind one key rises behind another, where each that comes after the one comes after the other
pub rise_behind : (last other : Option KeyOf) (entries : List Entry) → ((next : KeyOf) → Follows last next → Follows other next)
    → RiseFrom last entries → RiseFrom other entries
rise_behind last other [] later rise = tt
rise_behind last other (entry ∷ entries) later rise = (rise.0, later entry.key rise.1, rise.2)

-- and what comes after the last of them behind the one comes after the last of them behind the other
pub follows_behind : (last other : Option KeyOf) (entries : List Entry) → ((next : KeyOf) → Follows last next → Follows other next)
    → (next : KeyOf) → Follows (last_key last entries) next → Follows (last_key other entries) next
follows_behind last other [] later next follows = later next follows
follows_behind last other (entry ∷ entries) later next follows = follows

-- the key of the last one is that of the one at the end
pub last_key-more : (before : Option KeyOf) (entries : List Entry) (entry : Entry) → last_key before (entries ++ entry ∷ []) ≡ Some entry.key
last_key-more before [] entry = refl
last_key-more before (first ∷ entries) entry = last_key-more (Some first.key) entries entry

-- what was left is the next one and what is left, whatever now stands in its place
pub next_and_rest : (items : List Entry) (place : ℕ) (other default : Entry) → place < length items
    → drop place items ≡ get_or items place default ∷ drop (place + 1) (set items place other)
next_and_rest items place other default within =
    let later : place < place + 1 = omega arith in
    drop_more items place default within
    ∙ ap (λ rest. get_or items place default ∷ rest) (sym (drop-set-lt (place + 1) items place other later))
