-- Listings of which some are changed, and what is told of who lists what.
use Rattle.std.proofs.Common.{◌≡◌, ℕ, Bool, true, false, ◌&&◌, ◌||◌, List, [], ◌++◌, refl, sym, ap, subst, ◌∙◌, nat_eq}
use Rattle.std.specs.Ordering.{nat_cmp, is_eq, eq_by_cmp, ordering_then}
use Rattle.std.specs.Cmp.{unsigned_tied}
use Rattle.std.proofs.lemmas.Cmp.{nat_eq_equiv}
use Rattle.std.proofs.lemmas.List.Folds.{list_any-append}
use Rattle.osm_base.specs.declared.values.key.Kind.{Kind}
use Rattle.osm_base.specs.declared.values.key.Kind.TheVariants.{Node, Way, Relation}
use Rattle.osm_base.specs.values.Key.{KeyOf}
use Rattle.osm_base.specs.values.KeyOrder.{rank}
use Rattle.object_fold.specs.declared.listed.Listed.{Listed}
use Rattle.object_fold.specs.declared.listings.Listings.{Listings}
use Rattle.osm_base.specs.values.Ids.{has}
use Rattle.object_fold.specs.Listing.{ListingOf, is_listed, Lists, ListsFront}
use Rattle.object_fold.specs.Listings.{way, relation, ids_in, is_key, AddsSome}

and_swap : (a b c : Bool) → ((a && b) || c) ≡ ((b && a) || c)
and_swap true true c = refl
and_swap true false c = refl
and_swap false true c = refl
and_swap false false c = refl

none_of : (a b : Bool) → ((a && false) || b) ≡ b
none_of true b = refl
none_of false b = refl

same_id : (id by : ℕ) → eq_by_cmp nat_cmp by id ≡ nat_eq id by
same_id id by = unsigned_tied by id ∙ nat_eq_equiv.symm by id

module _ (key : KeyOf) where
  is_key-way : key.kind ≡ Way → (by : ℕ) → is_key key (way by) ≡ nat_eq key.id by
  is_key-way is by = subst (λ kind. is_eq (ordering_then (nat_cmp 1 (rank kind)) (nat_cmp by key.id)) ≡ nat_eq key.id by) (sym is)
      (same_id key.id by)

  is_key-no_relation : key.kind ≡ Way → (by : ℕ) → is_key key (relation by) ≡ false
  is_key-no_relation is by = subst (λ kind. is_eq (ordering_then (nat_cmp 2 (rank kind)) (nat_cmp by key.id)) ≡ false) (sym is) refl

  is_key-relation : key.kind ≡ Relation → (by : ℕ) → is_key key (relation by) ≡ nat_eq key.id by
  is_key-relation is by = subst (λ kind. is_eq (ordering_then (nat_cmp 2 (rank kind)) (nat_cmp by key.id)) ≡ nat_eq key.id by) (sym is)
      (same_id key.id by)

  is_key-no_way : key.kind ≡ Relation → (by : ℕ) → is_key key (way by) ≡ false
  is_key-no_way is by = subst (λ kind. is_eq (ordering_then (nat_cmp 1 (rank kind)) (nat_cmp by key.id)) ≡ false) (sym is) refl

or_true : (a b : Bool) → a ≡ true → (a || b) ≡ true
or_true a b is = rw is refl

-- what is in a front of a list is in the list
pub front_has : (front rest ids : List ℕ) → ids ≡ front ++ rest → (id : ℕ) → has front id ≡ true → has ids id ≡ true
front_has front rest ids is id there =
    ap (λ own. has own id) is ∙ list_any-append (λ own. nat_eq own id) front rest ∙ or_true (has front id) (has rest id) there

-- a front of the nodes of a way is listed
module _ (key : KeyOf) (ids : Listed) (old : Listings) where
  abbrev nodes_only : List ℕ → Listed
  nodes_only nodes = record { nodes = nodes; ways = [] }

  within_nodes : (front rest : List ℕ) → ids.nodes ≡ front ++ rest → (kind : Kind) (id : ℕ) → has (ids_in kind (nodes_only front)) id ≡ true
      → has (ids_in kind ids) id ≡ true
  within_nodes front rest is Node id there = front_has front rest ids.nodes is id there
  within_nodes front rest is Way id there = absurd (cc)
  within_nodes front rest is Relation id there = absurd (cc)

  pub some_of_way : key.kind ≡ Way → (new : ListingOf) → ListsFront ids.nodes key.id old.ways_of_nodes new
      → AddsSome key ids old (record old { ways_of_nodes = new })
  some_of_way is new (front, rest, parts, lists) = (
    nodes_only front,
    within_nodes front rest parts,
    λ told answer. record {
      ways_of_nodes = λ id by.
          lists id by ∙ and_swap (has front id) (nat_eq key.id by) (is_listed old.ways_of_nodes id by)
          ∙ (λ i. (sym (is_key-way key is by) i && has front id) || answer.ways_of_nodes id by i);
      relations_of_nodes = λ id by. answer.relations_of_nodes id by
          ∙ ap (λ b. (b && has front id) || told (relation by) Node id) (sym (is_key-no_relation key is by));
      relations_of_ways = λ id by. answer.relations_of_ways id by
          ∙ ap (λ b. (b && false) || told (relation by) Way id) (sym (is_key-no_relation key is by));
    },
  )

  pub some_nodes : key.kind ≡ Relation → (new : ListingOf) → ListsFront ids.nodes key.id old.relations_of_nodes new
      → AddsSome key ids old (record old { relations_of_nodes = new })
  some_nodes is new (front, rest, parts, lists) = (
    nodes_only front,
    within_nodes front rest parts,
    λ told answer. record {
      ways_of_nodes = λ id by. answer.ways_of_nodes id by
          ∙ ap (λ b. (b && has front id) || told (way by) Node id) (sym (is_key-no_way key is by));
      relations_of_nodes = λ id by.
          lists id by ∙ and_swap (has front id) (nat_eq key.id by) (is_listed old.relations_of_nodes id by)
          ∙ (λ i. (sym (is_key-relation key is by) i && has front id) || answer.relations_of_nodes id by i);
      relations_of_ways = λ id by. answer.relations_of_ways id by ∙ sym (none_of (is_key key (relation by)) (told (relation by) Way id));
    },
  )

  within_ways : (front rest : List ℕ) → ids.ways ≡ front ++ rest → (kind : Kind) (id : ℕ)
      → has (ids_in kind (record ids { ways = front })) id ≡ true → has (ids_in kind ids) id ≡ true
  within_ways front rest is Node id there = there
  within_ways front rest is Way id there = front_has front rest ids.ways is id there
  within_ways front rest is Relation id there = there

  pub some_ways : key.kind ≡ Relation → (nodes ways : ListingOf) → Lists ids.nodes key.id old.relations_of_nodes nodes
      → ListsFront ids.ways key.id old.relations_of_ways ways
      → AddsSome key ids old (record old { relations_of_nodes = nodes; relations_of_ways = ways })
  some_ways is nodes ways all (front, rest, parts, lists) = (
    record ids { ways = front },
    within_ways front rest parts,
    λ told answer. record {
      ways_of_nodes = λ id by. answer.ways_of_nodes id by
          ∙ ap (λ b. (b && has ids.nodes id) || told (way by) Node id) (sym (is_key-no_way key is by));
      relations_of_nodes = λ id by.
          all id by ∙ and_swap (has ids.nodes id) (nat_eq key.id by) (is_listed old.relations_of_nodes id by)
          ∙ (λ i. (sym (is_key-relation key is by) i && has ids.nodes id) || answer.relations_of_nodes id by i);
      relations_of_ways = λ id by.
          lists id by ∙ and_swap (has front id) (nat_eq key.id by) (is_listed old.relations_of_ways id by)
          ∙ (λ i. (sym (is_key-relation key is by) i && has front id) || answer.relations_of_ways id by i);
    },
  )
