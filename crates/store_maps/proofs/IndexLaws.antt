-- The index that maps give is that of the objects for which they stand.
use Rattle.std.proofs.Common.{◌≡◌, ℕ, Bool, true, false, ◌&&◌, Option, Some, None, refl, sym, ap, subst, ◌∙◌}
use mathlib.Core.Bool.{false≢true}
use Rattle.std.specs.Prelude.{IsSome}
use Rattle.std.specs.FinMap as finite
use Rattle.std.specs.List.{filter}
use Rattle.std.specs.Ordering.{nat_cmp}
use Rattle.std.proofs.lemmas.List.Kept.{IsStrictlySortedBy-filter}
use Rattle.osm_base.specs.declared.values.key.Kind.{Kind}
use Rattle.osm_base.specs.declared.values.key.Kind.TheVariants as kinds
use Rattle.osm_base.specs.declared.values.object.Object.{Object}
use Rattle.osm_base.specs.map.Listers.{ids_of, index_of, listed, lists}
use Rattle.osm_base.specs.map.Objects.{ObjectSet}
use Rattle.osm_base.specs.values.Ids.{has}
use Rattle.osm_base.specs.values.Key.{way_key}
use Rattle.object_fold.proofs.IndexOf.{listers-are}
use Rattle.object_fold.specs.Listing.{ListingOf, listers}
use Rattle.store_maps.specs.Maps.{Maps, block_of}
use Rattle.store_maps.specs.Named.{WaysAreThere, index_on, list_it}
use Rattle.store_maps.specs.Stands.{StandsOn}
use Rattle.store_maps.specs.Turns.{IsListing, blocks_in, listed_by, told_by}
use Rattle.store_maps.proofs.IdLists.{has-filter, has-map}

lists-listed : (kind : Kind) (id : ℕ) (object : Option Object) → has (listed_by (listed kind) object) id ≡ lists kind id object
lists-listed kind id None = refl
lists-listed kind id (Some object) = refl

-- a listing answers as the definition of the index
pub listers-index : (by kind : Kind) (objects : ObjectSet) (listing : ListingOf) (id : ℕ)
    → IsListing listing (told_by by (listed kind) objects) → listers listing id ≡ ids_of by kind id objects
listers-index by kind objects listing id is =
    listers-are objects by kind id (listers listing id) (is.rising id)
    (λ own. is.answers id own ∙ lists-listed kind id (finite.get objects (record { kind = by; id = own })))

-- who lists a node lists its block
in_block : (id : ℕ) (object : Option Object)
    → (lists kinds.Node id object && has (listed_by blocks_in object) (block_of id)) ≡ lists kinds.Node id object
in_block id None = refl
in_block id (Some object) = elim (has (listed kinds.Node object) id) as
    (λ b. has (listed kinds.Node object) id ≡ b → (b && has (blocks_in object) (block_of id)) ≡ b) [
      | true ↦ λ there. has-map block_of (listed kinds.Node object) id there
      | false ↦ λ _. refl
    ] refl

module _ (reaches : Bool) (maps : Maps) (objects : ObjectSet) (stands : StandsOn reaches maps objects) where
  pub ways_of_node-are : (id : ℕ) → filter (list_it maps id) (listers maps.ways_of_blocks (block_of id))
      ≡ ids_of kinds.Way kinds.Node id objects
  ways_of_node-are id =
      listers-are objects kinds.Way kinds.Node id (filter (list_it maps id) (listers maps.ways_of_blocks (block_of id)))
      (IsStrictlySortedBy-filter nat_cmp (list_it maps id) (listers maps.ways_of_blocks (block_of id))
      (stands.index.ways_of_blocks.rising (block_of id)))
      (λ own. has-filter (list_it maps id) (listers maps.ways_of_blocks (block_of id)) own
      ∙ ap (λ b. list_it maps id own && b) (stands.index.ways_of_blocks.answers (block_of id) own)
      ∙ ap (λ found. lists kinds.Node id found && has (listed_by blocks_in (finite.get objects (way_key own))) (block_of id))
      (stands.objects.ways own)
      ∙ in_block id (finite.get objects (way_key own)))

  pub index_is : index_on maps ≡ index_of objects
  index_is = λ i. record {
    ways_of_node = λ id. ways_of_node-are id i;
    relations_of_node = λ id. listers-index kinds.Relation kinds.Node objects maps.relations_of_nodes id stands.index.relations_of_nodes i;
    relations_of_way = λ id. listers-index kinds.Relation kinds.Way objects maps.relations_of_ways id stands.index.relations_of_ways i;
  }

  -- each way that lists is there
  pub ways_are_there : WaysAreThere maps
  ways_are_there block way listed = subst IsSome (sym (stands.objects.ways way))
      (there (finite.get objects (way_key way)) (sym (stands.index.ways_of_blocks.answers block way) ∙ listed))
    where
      there : (object : Option Object) → has (listed_by blocks_in object) block ≡ true → IsSome object
      there None e = absurd (false≢true e)
      there (Some object) e = refl
