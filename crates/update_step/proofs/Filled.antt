-- Entries that fill maps without a value: all lists, and then all objects.
use Rattle.std.proofs.Common.{◌≡◌, ◌<◌, ◌≤◌, ℕ, zero, suc, ◌+◌, List, [], ◌∷◌, get_or, length, take, refl, sym, ap, subst, ◌∙◌, arith}
use Rattle.std.proofs.lemmas.List.{get_or_default, take_all}
use Rattle.osm_base.specs.declared.values.object.Entry.{Entry}
use Rattle.object_fold.specs.Change.{IsChange}
use Rattle.store_maps.specs.Filling.{HasNoLists, all_listed_on, all_objects_on, listed_on, object_on}
use Rattle.store_maps.specs.Maps.{Maps, empty_maps}
use Rattle.store_maps.specs.Step.{change_on, entry_on}
use Rattle.store_maps.proofs.Fillings.{fresh-entry, objects_listed}
use Rattle.update_step.proofs.Imported.{no-form}
use Rattle.update_step.proofs.KeyedLists.{fold-more}

pub no_lists : HasNoLists empty_maps
no_lists = record { ways_of_blocks = refl; relations_of_nodes = refl; relations_of_ways = refl }

abbrev filled_by : List Entry → Maps
filled_by entries = all_objects_on (all_listed_on empty_maps entries) entries

-- one entry more
module _ (entries : List Entry) (at : ℕ) (own : Entry) (rise : IsChange entries) (below : at < length entries)
    (is : own ≡ get_or entries at own) where
  abbrev front : List Entry
  front = take at entries

  more : filled_by front ≡ change_on empty_maps front → filled_by (take (at + 1) entries) ≡ change_on empty_maps (take (at + 1) entries)
  more before =
      let listed : Maps = all_listed_on empty_maps front in
      ap (λ (maps : Maps). all_objects_on maps (take (at + 1) entries)) (fold-more listed_on empty_maps entries at own below is)
      ∙ fold-more object_on (listed_on listed own) entries at own below is
      ∙ ap (λ (maps : Maps). object_on maps own) (objects_listed listed own front ∙ ap (λ (maps : Maps). listed_on maps own) before)
      ∙ fresh-entry (change_on empty_maps front) own (no-form entries at own rise below is)
      ∙ sym (fold-more entry_on empty_maps entries at own below is)

front_filled : (first : Entry) (entries : List Entry) → IsChange entries → (at : ℕ) → at ≤ length entries
    → filled_by (take at entries) ≡ change_on empty_maps (take at entries)
front_filled first entries rise zero within = refl
front_filled first entries rise (suc at) within =
    let below : at < length entries = omega (arith, within) in
    let own : Entry = get_or entries at first in
    let next : suc at ≡ at + 1 = omega arith in
    subst (λ n. filled_by (take n entries) ≡ change_on empty_maps (take n entries)) (sym next)
    (more entries at own rise below (get_or_default entries at first own below) (front_filled first entries rise at (omega (arith, below))))

-- that is what the entries say, one after another
pub filled : (entries : List Entry) → IsChange entries → filled_by entries ≡ change_on empty_maps entries
filled [] rise = refl
filled (first ∷ rest) rise =
    let entries : List Entry = first ∷ rest in
    let whole : take (length entries) entries ≡ entries = take_all (length entries) entries (omega arith) in
    subst (λ (own : List Entry). filled_by own ≡ change_on empty_maps own) whole
    (front_filled first entries rise (length entries) (omega arith))
