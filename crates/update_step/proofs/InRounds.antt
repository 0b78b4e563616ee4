-- All that rows are built of is what is asked in rounds.
use Rattle.std.proofs.Common.{◌≡◌, true, false, Bool, ℕ, List, [], ◌∷◌, ◌++◌, map, Option, Some, None, refl, sym, ap, subst, ◌∙◌}
use Rattle.std.specs.List.{AllByRecursion, flat_map}
use Rattle.std.specs.Prelude.{if◌then◌else◌}
use Rattle.std.proofs.lemmas.List.{append-nil}
use Rattle.osm_base.specs.declared.values.key.Kind.{Kind}
use Rattle.osm_base.specs.declared.values.key.Kind.TheVariants as kinds
use Rattle.osm_base.specs.declared.values.object.Member.{Member}
use Rattle.osm_base.specs.declared.values.object.Object.{Object}
use Rattle.osm_base.specs.declared.values.object.Object.TheVariants.{Node, Way, Relation}
use Rattle.osm_base.specs.map.Known.{Known}
use Rattle.osm_base.specs.map.Listers.{is_kind}
use Rattle.osm_base.specs.values.Key.{KeyOf}
use Rattle.style_read.specs.Style.{StyleOf}
use Rattle.row_rules.specs.Wanted.{may_have_rows}
use Rattle.update_step.specs.Gather.{AlongWay, AreAsked, AroundNode, Ask, AtNode, Gathered, Gathers, IsRight, OfKey, all_needs}
use Rattle.update_step.specs.Gather.{known_in, listed_asks, lister_asks, member_asks, part_asks, place_asks, relation_asks, was_asked}
use Rattle.update_step.specs.Gather.{way_asks}
use Rattle.update_step.specs.Rounds.{asks_behind, lister_asked, member_asked, parts_asked, parts_of, ways_asked}
use Rattle.update_step.proofs.Asking.{asked-grows}
use Rattle.update_step.proofs.KeyedLists.{flat-append}
use Rattle.update_step.proofs.Parts.{all-append, all-back, all-front}

-- all of these asks are the first ones and what the answers to them lead to
record InTwo (P : Ask → Type 0) (to : Known) (all first : List Ask) : Type 0 where
  front : AllByRecursion P all → AllByRecursion P first
  back : AllByRecursion P all → AllByRecursion P (flat_map (asks_behind to) first)
  whole : AllByRecursion P first → AllByRecursion P (flat_map (asks_behind to) first) → AllByRecursion P all

module _ (P : Ask → Type 0) (to : Known) where
  two-none : InTwo P to [] []
  two-none = record { front = λ all. tt; back = λ all. tt; whole = λ first more. tt }

  two-append : (one other first second : List Ask) → InTwo P to one first → InTwo P to other second
      → InTwo P to (one ++ other) (first ++ second)
  two-append one other first second front back =
      let of : Ask → List Ask = asks_behind to in
      let apart = flat-append of first second in
      record {
        front = λ all. all-append P first second (front.front (all-front P one other all)) (back.front (all-back P one other all));
        back = λ all. subst (AllByRecursion P) (sym apart) (all-append P (flat_map of first) (flat_map of second)
            (front.back (all-front P one other all)) (back.back (all-back P one other all)));
        whole = λ all more.
            let parts = subst (AllByRecursion P) apart more in
            all-append P one other
            (front.whole (all-front P first second all) (all-front P (flat_map of first) (flat_map of second) parts))
            (back.whole (all-back P first second all) (all-back P (flat_map of first) (flat_map of second) parts));
      }

  two-flat : {X : Type 0} (of first : X → List Ask) → ((x : X) → InTwo P to (of x) (first x)) → (xs : List X)
      → InTwo P to (flat_map of xs) (flat_map first xs)
  two-flat of first each [] = two-none
  two-flat of first each (x ∷ xs) = two-append (of x) (flat_map of xs) (first x) (flat_map first xs) (each x) (two-flat of first each xs)

  two-nodes : (ids : List ℕ) → InTwo P to (map AtNode ids) (map AtNode ids)
  two-nodes [] = two-none
  two-nodes (id ∷ ids) = two-append (AtNode id ∷ []) (map AtNode ids) (AtNode id ∷ []) (map AtNode ids)
      (record { front = λ all. all; back = λ all. tt; whole = λ first more. first }) (two-nodes ids)

  two-places : (form : Option Object) → InTwo P to (place_asks form) (place_asks form)
  two-places None = two-none
  two-places (Some (Node place tags)) = two-none
  two-places (Some (Way nodes tags)) = two-nodes nodes
  two-places (Some (Relation members tags)) = two-none

  -- one ask, and all that the answer leads to
  two-one : (ask : Ask) → InTwo P to (ask ∷ asks_behind to ask) (ask ∷ [])
  two-one ask =
      let alone = append-nil (asks_behind to ask) in
      record {
        front = λ all. (all.0, tt);
        back = λ all. subst (AllByRecursion P) (sym alone) all.1;
        whole = λ first more. (first.0, subst (AllByRecursion P) alone more);
      }

  two-member : (member : Member) → InTwo P to (member_asks to member) (member_asked member)
  two-member member = elim (is_kind kinds.Way member.key.kind) as
      (λ b. InTwo P to (if b then OfKey member.key ∷ place_asks (to.object member.key) else []) (if b then OfKey member.key ∷ [] else [])) [
        | true ↦ two-one (OfKey member.key)
        | false ↦ two-none
      ]

  two-ways : (form : Option Object) → InTwo P to (way_asks to form) (ways_asked form)
  two-ways None = two-none
  two-ways (Some (Node place tags)) = two-none
  two-ways (Some (Way nodes tags)) = two-none
  two-ways (Some (Relation members tags)) = two-flat (member_asks to) member_asked two-member members

  two-listers : (reaches : Bool) (kind : Kind) (id : ℕ)
      → InTwo P to (lister_asks reaches to (record { kind = kind; id = id })) (lister_asked reaches (record { kind = kind; id = id }))
  two-listers true kinds.Node id = two-one (AroundNode id)
  two-listers false kinds.Node id = two-none
  two-listers reaches kinds.Way id = two-one (AlongWay id)
  two-listers reaches kinds.Relation id = two-none

  module _ (style : StyleOf) (reaches : Bool) where
    two-parts : (own : KeyOf) → InTwo P to (part_asks style reaches to own (to.object own)) (parts_of style reaches to own)
    two-parts own =
        let form : Option Object = to.object own in
        elim (may_have_rows style form) as
        (λ b. InTwo P to (if b then listed_asks reaches to own form else [])
        (if b then place_asks form ++ (ways_asked form ++ lister_asked reaches own) else [])) [
          | true ↦ two-append (place_asks form) (way_asks to form ++ lister_asks reaches to own) (place_asks form)
              (ways_asked form ++ lister_asked reaches own) (two-places form)
              (two-append (way_asks to form) (lister_asks reaches to own) (ways_asked form) (lister_asked reaches own) (two-ways form)
              (two-listers reaches own.kind own.id))
          | false ↦ two-none
        ]

    abbrev parts : KeyOf → List Ask
    parts own = part_asks style reaches to own (to.object own)

    two-keys : (keys : List KeyOf) → InTwo P to (flat_map parts keys) (flat_map (parts_of style reaches to) keys)
    two-keys keys = two-flat parts (parts_of style reaches to) two-parts keys

    -- the first round
    of-keys : (keys : List KeyOf) → AllByRecursion P (all_needs style reaches to keys) → AllByRecursion P (map OfKey keys)
    of-keys [] all = tt
    of-keys (own ∷ keys) all =
        (all.0, of-keys keys (all-back P (parts own) (all_needs style reaches to keys) all.1))

    later-parts : (keys : List KeyOf) → AllByRecursion P (all_needs style reaches to keys) → AllByRecursion P (flat_map parts keys)
    later-parts [] all = tt
    later-parts (own ∷ keys) all = all-append P (parts own) (flat_map parts keys)
        (all-front P (parts own) (all_needs style reaches to keys) all.1)
        (later-parts keys (all-back P (parts own) (all_needs style reaches to keys) all.1))

    whole-needs : (keys : List KeyOf) → AllByRecursion P (map OfKey keys) → AllByRecursion P (flat_map parts keys)
        → AllByRecursion P (all_needs style reaches to keys)
    whole-needs [] objects more = tt
    whole-needs (own ∷ keys) objects more = (
      objects.0,
      all-append P (parts own) (all_needs style reaches to keys) (all-front P (parts own) (flat_map parts keys) more)
          (whole-needs keys objects.1 (all-back P (parts own) (flat_map parts keys) more)),
    )

    -- the second round
    of-parts : (keys : List KeyOf) → AllByRecursion P (all_needs style reaches to keys)
        → AllByRecursion P (flat_map (parts_of style reaches to) keys)
    of-parts keys all = (two-keys keys).front (later-parts keys all)

    -- the third round
    of-answers : (keys : List KeyOf) → AllByRecursion P (all_needs style reaches to keys)
        → AllByRecursion P (flat_map (asks_behind to) (flat_map (parts_of style reaches to) keys))
    of-answers keys all = (two-keys keys).back (later-parts keys all)

    -- there is no fourth
    whole-rounds : (keys : List KeyOf) → AllByRecursion P (map OfKey keys)
        → AllByRecursion P (flat_map (parts_of style reaches to) keys)
        → AllByRecursion P (flat_map (asks_behind to) (flat_map (parts_of style reaches to) keys))
        → AllByRecursion P (all_needs style reaches to keys)
    whole-rounds keys first second third = whole-needs keys first ((two-keys keys).whole second third)

-- What is asked of right answers is what is asked of the map.
module _ (to : Known) (g : Gathered) (right : IsRight g to) where
  behind-one : (ask : Ask) → was_asked g ask ≡ true → asks_behind (known_in g) ask ≡ asks_behind to ask
  behind-one (AtNode id) asked = refl
  behind-one (OfKey own) asked = ap place_asks (right (OfKey own) asked)
  behind-one (AlongWay id) asked = ap relation_asks (right (AlongWay id) asked)
  behind-one (AroundNode id) asked = ap relation_asks (right (AroundNode id) asked)

  behind-right : (asks : List Ask) → AreAsked g asks → flat_map (asks_behind (known_in g)) asks ≡ flat_map (asks_behind to) asks
  behind-right [] asked = refl
  behind-right (ask ∷ asks) asked = λ i. behind-one ask asked.0 i ++ behind-right asks asked.1 i

  parts-right : (style : StyleOf) (reaches : Bool) (keys : List KeyOf) → AreAsked g (map OfKey keys)
      → flat_map (parts_of style reaches (known_in g)) keys ≡ flat_map (parts_of style reaches to) keys
  parts-right style reaches [] asked = refl
  parts-right style reaches (own ∷ keys) asked =
      λ i. parts_asked style reaches own (right (OfKey own) asked.0 i) ++ parts-right style reaches keys asked.1 i

-- The three rounds, each gathered.

-- the first round is answered, and these asks are those of the second
pub record IsFirst (to : Known) (style : StyleOf) (reaches : Bool) (keys : List KeyOf) (one : Gathered) (second : List Ask) : Type 0 where
  pub right : IsRight one to
  pub asked : AreAsked one (map OfKey keys)
  pub next : second ≡ flat_map (parts_of style reaches to) keys

-- both are answered, and these asks are those of the third
pub record IsSecond (to : Known) (style : StyleOf) (reaches : Bool) (keys : List KeyOf) (two : Gathered) (third : List Ask) : Type 0 where
  pub right : IsRight two to
  pub asked : AreAsked two (map OfKey keys)
  pub asked_too : AreAsked two (flat_map (parts_of style reaches to) keys)
  pub next : third ≡ flat_map (asks_behind to) (flat_map (parts_of style reaches to) keys)

module _ (to : Known) (style : StyleOf) (reaches : Bool) (keys : List KeyOf) where
  pub first-round : (none one : Gathered) (first second : List Ask) → IsRight none to → first ≡ map OfKey keys → Gathers to none one first
      → second ≡ flat_map (parts_of style reaches (known_in one)) keys → IsFirst to style reaches keys one second
  first-round none one first second right first_is objects second_is =
      let one_right = objects.right right in
      let asked = subst (AreAsked one) first_is objects.asked in
      record { right = one_right; asked = asked; next = second_is ∙ parts-right to one one_right style reaches keys asked }

  pub second-round : (one two : Gathered) (second third : List Ask) → IsFirst to style reaches keys one second → Gathers to one two second
      → third ≡ flat_map (asks_behind (known_in two)) second → IsSecond to style reaches keys two third
  second-round one two second third before parts third_is =
      let two_right = parts.right before.right in
      record {
        right = two_right;
        asked = asked-grows one two (map OfKey keys) parts.grows before.asked;
        asked_too = subst (AreAsked two) before.next parts.asked;
        next = third_is ∙ behind-right to two two_right second parts.asked ∙ ap (flat_map (asks_behind to)) before.next;
      }

  -- then all is answered
  pub third-round : (two three : Gathered) (third : List Ask) → IsSecond to style reaches keys two third → Gathers to two three third
      → AreAsked three (all_needs style reaches to keys)
  third-round two three third before more =
      whole-rounds (λ ask. was_asked three ask ≡ true) to style reaches keys
      (asked-grows two three (map OfKey keys) more.grows before.asked)
      (asked-grows two three (flat_map (parts_of style reaches to) keys) more.grows before.asked_too)
      (subst (AreAsked three) before.next more.asked)

  -- what holds of all that is needed holds of each round
  module _ (P : Ask → Type 0) (all : AllByRecursion P (all_needs style reaches to keys)) where
    pub first-all : (first : List Ask) → first ≡ map OfKey keys → AllByRecursion P first
    first-all first is = subst (AllByRecursion P) (sym is) (of-keys P to style reaches keys all)

    pub second-all : (one : Gathered) (second : List Ask) → IsFirst to style reaches keys one second → AllByRecursion P second
    second-all one second round = subst (AllByRecursion P) (sym round.next) (of-parts P to style reaches keys all)

    pub third-all : (two : Gathered) (third : List Ask) → IsSecond to style reaches keys two third → AllByRecursion P third
    third-all two third round = subst (AllByRecursion P) (sym round.next) (of-answers P to style reaches keys all)
