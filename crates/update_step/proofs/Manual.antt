-- What a change touches, worked by hand: of two nodes and the way through them the second node moves.
use Rattle.std.proofs.Common.{◌≡◌, ℕ, ◌*◌, Bool, true, false, cond, ◌||◌, ◌&&◌, List, [], ◌∷◌, Option, Some, None, refl, sym, ap, subst}
use Rattle.std.proofs.Common.{◌∙◌, nat_eq}
use mathlib.Core.Bool.{false≢true}
use Rattle.std.specs.Cmp.{unsigned_tied}
use Rattle.std.specs.FinMap as finite
use Rattle.std.specs.List.{list_any}
use Rattle.osm_base.specs.declared.values.key.Kind.{Kind}
use Rattle.osm_base.specs.declared.values.key.Kind.TheVariants as kinds
use Rattle.osm_base.specs.declared.values.object.Entry.{Entry}
use Rattle.osm_base.specs.declared.values.object.Object.{Object}
use Rattle.osm_base.specs.declared.values.object.Object.TheVariants.{Node, Way}
use Rattle.osm_base.specs.map.Listers.{lists}
use Rattle.osm_base.specs.map.Objects.{ObjectSet, folded_all}
use Rattle.osm_base.specs.values.Ids.{has}
use Rattle.osm_base.specs.values.Key.{node_key, relation_key, way_key}
use Rattle.osm_base.specs.values.Place.{PlaceOf}
use Rattle.osm_base.specs.values.Tags.{TagMap}
use Rattle.osm_base.specs.values.KeyOrder.{key_cmp}
use Rattle.osm_base.proofs.KeyLaws.{key_cmp_total}
use Rattle.style_read.specs.Style.{StyleOf}
use Rattle.row_rules.specs.Condition.{reaches_nodes}
use Rattle.dep_closure.specs.PendingSet.{is_named, is_pending_node, is_pending_relation, is_pending_way, ways_in}
use Rattle.store_maps.specs.Maps.{block_of}
use Rattle.store_maps.specs.Turns.{blocks_in, listed_by}
use Rattle.store_maps.proofs.IdLists.{same_as}
use Rattle.update_step.specs.Touch.{Touch, is_block_in_lists, is_listed_after}
use Rattle.update_step.specs.Touch.Touch.{along, along_member, around, around_member, block, block_of_list, member, node, node_of_member}
use Rattle.update_step.specs.Touch.Touch.{node_of_way, relation, relation_of_node, relation_of_way, rows_of_node, rows_of_relation}
use Rattle.update_step.specs.Touch.Touch.{rows_of_way, way, way_of_block}

-- the keys that are asked: the numbers of a map and of a key of it
abbrev touched : ℕ → ℕ → Bool
touched number key = list_any (λ (own : ℕ × ℕ). nat_eq own.0 number && nat_eq own.1 key)
    ((0, 1) ∷ (0, 2) ∷ (1, 1) ∷ (3, 0) ∷ (4, 2) ∷ (5, 1) ∷ (6, 2) ∷ (7, 2) ∷ [])

or-none : (b : Bool) → (b || false) ≡ b
or-none true = refl
or-none false = refl

and-none : (b : Bool) → (b && false) ≡ false
and-none true = refl
and-none false = refl

module _ (style : StyleOf) (first second moved : Option PlaceOf) (none road : TagMap) where
  abbrev line : Object
  line = Way (1 ∷ 2 ∷ []) road

  abbrev nodes : ObjectSet
  nodes = finite.insert (finite.insert finite.empty (node_key 1) (Node first none)) (node_key 2) (Node second none)

  abbrev before : ObjectSet
  before = finite.insert nodes (way_key 1) line

  abbrev change : List Entry
  change = record { key = node_key 2; object = Some (Node moved none) } ∷ []

  abbrev after : ObjectSet
  after = folded_all before change

  no_way : (id : ℕ) → finite.get nodes (way_key id) ≡ None
  no_way id =
      finite.get-insert key_cmp_total (finite.insert finite.empty (node_key 1) (Node first none)) (node_key 2) (Node second none)
      (way_key id)
      ∙ finite.get-insert key_cmp_total finite.empty (node_key 1) (Node first none) (way_key id) ∙ finite.get-empty key_cmp (way_key id)

  no_relation : (id : ℕ) → finite.get nodes (relation_key id) ≡ None
  no_relation id =
      finite.get-insert key_cmp_total (finite.insert finite.empty (node_key 1) (Node first none)) (node_key 2) (Node second none)
      (relation_key id)
      ∙ finite.get-insert key_cmp_total finite.empty (node_key 1) (Node first none) (relation_key id)
      ∙ finite.get-empty key_cmp (relation_key id)

  abbrev line_at : ℕ → Option Object
  line_at id = cond (nat_eq id 1) (Some line) None

  way_before : (id : ℕ) → finite.get before (way_key id) ≡ line_at id
  way_before id =
      finite.get-insert key_cmp_total nodes (way_key 1) line (way_key id)
      ∙ ap (λ b. cond b (Some line) (finite.get nodes (way_key id))) (unsigned_tied id 1) ∙ ap (cond (nat_eq id 1) (Some line)) (no_way id)

  way_after : (id : ℕ) → finite.get after (way_key id) ≡ line_at id
  way_after id = finite.get-insert key_cmp_total before (node_key 2) (Node moved none) (way_key id) ∙ way_before id

  relation_before : (id : ℕ) → finite.get before (relation_key id) ≡ None
  relation_before id = finite.get-insert key_cmp_total nodes (way_key 1) line (relation_key id) ∙ no_relation id

  relation_after : (id : ℕ) → finite.get after (relation_key id) ≡ None
  relation_after id = finite.get-insert key_cmp_total before (node_key 2) (Node moved none) (relation_key id) ∙ relation_before id

  -- What is pending.

  node_is : (id : ℕ) → is_pending_node style before change id ≡ nat_eq id 2
  node_is id = ap (λ b. (b || false) || (reaches_nodes style && false)) (unsigned_tied id 2)
      ∙ ap (λ b. (nat_eq id 2 || false) || b) (and-none (reaches_nodes style)) ∙ or-none (nat_eq id 2 || false) ∙ or-none (nat_eq id 2)

  named_is : (id : ℕ) → is_named change (node_key id) ≡ nat_eq id 2
  named_is id = ap (λ b. b || false) (unsigned_tied id 2) ∙ or-none (nat_eq id 2)

  lists_second : (same : Bool) → lists kinds.Node 2 (cond same (Some line) None) ≡ same
  lists_second true = refl
  lists_second false = refl

  way_is : (id : ℕ) → is_pending_way style before change id ≡ nat_eq id 1
  way_is id = ap (λ (form : Option Object). (lists kinds.Node 2 form || false) || false) (way_after id)
      ∙ ap (λ b. (b || false) || false) (lists_second (nat_eq id 1)) ∙ or-none (nat_eq id 1 || false) ∙ or-none (nat_eq id 1)

  relation_is : (id : ℕ) → is_pending_relation before change id ≡ false
  relation_is id = ap (λ (form : Option Object).
      (lists kinds.Node 2 form || false) || list_any (λ own. lists kinds.Node 2 (finite.get after (way_key own)) || false) (ways_in form))
      (relation_after id)

  never : (id : ℕ) → is_pending_relation before change id ≡ true → ⊥
  never id is = false≢true (sym (relation_is id) ∙ is)

  -- What is listed.

  on_line : (own id : ℕ) → is_listed_after before change kinds.Node id (way_key own) ≡ true → (own ≡ 1) × (has (1 ∷ 2 ∷ []) id ≡ true)
  on_line own id is = elim (nat_eq own 1) as
      (λ b. nat_eq own 1 ≡ b → lists kinds.Node id (cond b (Some line) None) ≡ true → (own ≡ 1) × (has (1 ∷ 2 ∷ []) id ≡ true)) [
        | true ↦ λ same there. (same_as own 1 same, there)
        | false ↦ λ _ there. absurd (false≢true there)
      ] refl (sym (ap (lists kinds.Node id) (way_after own)) ∙ is)

  in_block : (at id : ℕ) → is_block_in_lists before change at id ≡ true → nat_eq id 1 ≡ true
  in_block at id is = elim (nat_eq id 1) as
      (λ b. (has (listed_by blocks_in (cond b (Some line) None)) at || has (listed_by blocks_in (cond b (Some line) None)) at) ≡ true
      → b ≡ true) [
        | true ↦ λ _. refl
        | false ↦ λ there. absurd (false≢true there)
      ] (sym (λ i. has (listed_by blocks_in (way_before id i)) at || has (listed_by blocks_in (way_after id i)) at) ∙ is)

  unlisted : (kind : Kind) (own id : ℕ) → is_listed_after before change kind own (relation_key id) ≡ true → ⊥
  unlisted kind own id is = false≢true (sym (ap (lists kind own) (relation_after id)) ∙ is)

  at : (number id one : ℕ) → touched number one ≡ true → nat_eq id one ≡ true → touched number id ≡ true
  at number id one there same = subst (λ own. touched number own ≡ true) (sym (same_as id one same)) there

  -- nothing else is touched
  pub only : (number key : ℕ) → Touch style before change number key → touched number key ≡ true
  only _ _ (node id is) = at 0 id 2 refl (sym (node_is id) ∙ is)
  only _ _ (node_of_way own id is listed) = (on_line own id listed).1
  only _ _ (node_of_member own other id is _ _) = absurd (never own is)
  only _ _ (way id is) = at 1 id 1 refl (sym (way_is id) ∙ is)
  only _ _ (member own id is _) = absurd (never own is)
  only _ _ (way_of_block own id _ is) = at 1 id 1 refl (in_block (block_of own) id is)
  only _ _ (relation id is) = absurd (never id is)
  only _ _ (relation_of_way own id _ listed) = absurd (unlisted kinds.Way own id listed)
  only _ _ (relation_of_node own id _ _ listed) = absurd (unlisted kinds.Node own id listed)
  only _ _ (block own named) = subst (λ id. touched 3 (block_of id) ≡ true) (sym (same_as own 2 (sym (named_is own) ∙ named))) refl
  only _ _ (block_of_list own id named _) = absurd (false≢true named)
  only _ _ (around id is) = at 4 id 2 refl (sym (node_is id) ∙ is)
  only _ _ (around_member own id named _) = absurd (false≢true named)
  only _ _ (along id is) = at 5 id 1 refl (sym (way_is id) ∙ is)
  only _ _ (along_member own id named _) = absurd (false≢true named)
  only _ _ (rows_of_node id is) = at 6 id 2 refl (sym (node_is id) ∙ is)
  only _ _ (rows_of_way id is) = subst (λ own. touched 7 (2 * own) ≡ true) (sym (same_as id 1 (sym (way_is id) ∙ is))) refl
  only _ _ (rows_of_relation id is) = absurd (never id is)

  -- each of these keys is
  pub first_node : Touch style before change 0 1
  first_node = node_of_way 1 1 (way_is 1) (ap (lists kinds.Node 1) (way_after 1))

  pub second_node : Touch style before change 0 2
  second_node = node 2 (node_is 2)

  pub the_way : Touch style before change 1 1
  the_way = way 1 (way_is 1)

  pub the_block : Touch style before change 3 0
  the_block = block 2 (named_is 2)

  pub around_second : Touch style before change 4 2
  around_second = around 2 (node_is 2)

  pub along_way : Touch style before change 5 1
  along_way = along 1 (way_is 1)

  pub node_rows : Touch style before change 6 2
  node_rows = rows_of_node 2 (node_is 2)

  pub way_rows : Touch style before change 7 2
  way_rows = rows_of_way 1 (way_is 1)
