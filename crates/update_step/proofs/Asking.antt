-- Answers that are kept, one more and many more.
use Rattle.std.proofs.Common.{◌≡◌, ◌<◌, ℕ, ◌+◌, true, false, cond, List, [], ◌∷◌, ◌++◌, get_or, length, take, Option, None}
use Rattle.std.proofs.Common.{Some, refl, sym, ap, subst, ◌∙◌}
use mathlib.Core.Bool.{false≢true}
use Rattle.std.specs.Prelude.{IfSome}
use Rattle.std.specs.Cmp.{IsTotalOrder, Equal-is, nat_cmp_total}
use Rattle.std.specs.declared.cmp.Ordering.{Ordering}
use Rattle.std.specs.FinMap.{IsAntisymmetric, nat_cmp-IsAntisymmetric}
use Rattle.std.specs.Option.{is_some, option_map, option_or, unwrap_or}
use Rattle.std.specs.Ordering.{eq_by_cmp}
use Rattle.std.proofs.lemmas.List.{take_more}
use Rattle.std.proofs.lemmas.Cmp.{tied_itself}
use Rattle.osm_base.specs.declared.values.object.Entry.{Entry}
use Rattle.osm_base.specs.declared.values.object.Object.{Object}
use Rattle.osm_base.specs.map.Known.{Known}
use Rattle.osm_base.specs.map.Objects.{place_in}
use Rattle.osm_base.specs.values.Key.{KeyOf, node_key}
use Rattle.osm_base.specs.values.Place.{PlaceOf}
use Rattle.osm_base.proofs.KeyLaws.{key_cmp_total, key_cmp-IsAntisymmetric}
use Rattle.update_step.specs.Gather.{AlongWay, AreAsked, AroundNode, Ask, AtNode, Gathered, Gathers, Grows, IsRight, OfKey, Same, flattened}
use Rattle.update_step.specs.Gather.{known_in, said_by, was_asked, with_along, with_answer, with_around, with_form, with_place}
use Rattle.update_step.specs.Named.{AreKnown, IsKnown, named_in}

-- answers with one more
module _ {K X : Type 0} {R : K → K → Ordering} (total : IsTotalOrder R) (same : IsAntisymmetric R) (answers : K → Option X) (key : K)
    (value : X) where
  put_right : {Y : Type 0} (view : Option X → Y) (to : K → Y) → view (Some value) ≡ to key → (other : K)
      → (is_some (answers other) ≡ true → view (answers other) ≡ to other)
      → is_some (with_answer R answers key value other) ≡ true → view (with_answer R answers key value other) ≡ to other
  put_right view to is other right =
      elim (eq_by_cmp R other key) as (λ b. eq_by_cmp R other key ≡ b → is_some (cond b (Some value) (answers other)) ≡ true
      → view (cond b (Some value) (answers other)) ≡ to other) [
        | true ↦ λ tied _. is ∙ ap to (sym (same other key ((Equal-is (R other key)).0 tied)))
        | false ↦ λ _. right
      ] refl

  put_grows : (other : K) → is_some (answers other) ≡ true → is_some (with_answer R answers key value other) ≡ true
  put_grows other there = elim (eq_by_cmp R other key) as (λ b. is_some (cond b (Some value) (answers other)) ≡ true)
      [ true ↦ refl | false ↦ there ]

  put_there : is_some (with_answer R answers key value key) ≡ true
  put_there = ap (λ b. is_some (cond b (Some value) (answers key))) ((Equal-is (R key key)).1 (tied_itself total key))

  -- where others go before them, and do not say it yet
  pub before-put : (before new : K → Option X) → is_some (option_or (before key) (answers key)) ≡ false
      → ((other : K) → new other ≡ with_answer R answers key value other) → (other : K)
      → option_or (before other) (new other) ≡ with_answer R (λ own. option_or (before own) (answers own)) key value other
  before-put before new anew is other =
      ap (option_or (before other)) (is other)
      ∙ elim (eq_by_cmp R other key) as (λ b. eq_by_cmp R other key ≡ b → option_or (before other) (cond b (Some value) (answers other))
      ≡ cond b (Some value) (option_or (before other) (answers other))) [
        | true ↦ λ tied. ap (λ own. option_or (before own) (Some value)) (same other key ((Equal-is (R other key)).0 tied))
            ∙ ap (λ found. option_or found (Some value)) (none-before (before key) (answers key) anew)
        | false ↦ λ _. refl
      ] refl
    where
      none-before : (one two : Option X) → is_some (option_or one two) ≡ false → one ≡ None
      none-before None two none = refl
      none-before (Some found) two none = absurd (false≢true (sym none))

abbrev listed : Option (List ℕ) → List ℕ
listed found = unwrap_or found []

module _ (to : Known) (g : Gathered) where
  module _ (id : ℕ) (place : Option PlaceOf) (is : place ≡ to.place id) where
    place-right : IsRight g to → (ask : Ask) → was_asked (with_place g id place) ask ≡ true → Same (known_in (with_place g id place)) to ask
    place-right right (AtNode other) asked =
        put_right nat_cmp_total nat_cmp-IsAntisymmetric g.places id place flattened to.place is other (right (AtNode other)) asked
    place-right right (OfKey own) asked = right (OfKey own) asked
    place-right right (AlongWay other) asked = right (AlongWay other) asked
    place-right right (AroundNode other) asked = right (AroundNode other) asked

    place-grows : Grows g (with_place g id place)
    place-grows (AtNode other) asked = put_grows nat_cmp_total nat_cmp-IsAntisymmetric g.places id place other asked
    place-grows (OfKey own) asked = asked
    place-grows (AlongWay other) asked = asked
    place-grows (AroundNode other) asked = asked

    pub with_place-gathers : Gathers to g (with_place g id place) (AtNode id ∷ [])
    with_place-gathers = record {
      right = place-right;
      grows = place-grows;
      asked =
          (put_there nat_cmp_total nat_cmp-IsAntisymmetric g.places id place, tt);
    }

  module _ (key : KeyOf) (form : Option Object) (is : form ≡ to.object key) where
    form-right : IsRight g to → (ask : Ask) → was_asked (with_form g key form) ask ≡ true → Same (known_in (with_form g key form)) to ask
    form-right right (AtNode other) asked = right (AtNode other) asked
    form-right right (OfKey own) asked = put_right key_cmp_total key_cmp-IsAntisymmetric g.forms key form flattened to.object is own
        (right (OfKey own)) asked
    form-right right (AlongWay other) asked = right (AlongWay other) asked
    form-right right (AroundNode other) asked = right (AroundNode other) asked

    form-grows : Grows g (with_form g key form)
    form-grows (AtNode other) asked = asked
    form-grows (OfKey own) asked = put_grows key_cmp_total key_cmp-IsAntisymmetric g.forms key form own asked
    form-grows (AlongWay other) asked = asked
    form-grows (AroundNode other) asked = asked

    pub with_form-gathers : Gathers to g (with_form g key form) (OfKey key ∷ [])
    with_form-gathers = record {
      right = form-right;
      grows = form-grows;
      asked =
          (put_there key_cmp_total key_cmp-IsAntisymmetric g.forms key form, tt);
    }

  module _ (id : ℕ) (ids : List ℕ) where
    module _ (is : ids ≡ to.relations_of_way id) where
      along-right : IsRight g to → (ask : Ask) → was_asked (with_along g id ids) ask ≡ true → Same (known_in (with_along g id ids)) to ask
      along-right right (AtNode other) asked = right (AtNode other) asked
      along-right right (OfKey own) asked = right (OfKey own) asked
      along-right right (AlongWay other) asked =
          put_right nat_cmp_total nat_cmp-IsAntisymmetric g.along_ways id ids listed to.relations_of_way is other
          (right (AlongWay other)) asked
      along-right right (AroundNode other) asked = right (AroundNode other) asked

      along-grows : Grows g (with_along g id ids)
      along-grows (AtNode other) asked = asked
      along-grows (OfKey own) asked = asked
      along-grows (AlongWay other) asked = put_grows nat_cmp_total nat_cmp-IsAntisymmetric g.along_ways id ids other asked
      along-grows (AroundNode other) asked = asked

      pub with_along-gathers : Gathers to g (with_along g id ids) (AlongWay id ∷ [])
      with_along-gathers = record {
        right = along-right;
        grows = along-grows;
        asked =
            (put_there nat_cmp_total nat_cmp-IsAntisymmetric g.along_ways id ids, tt);
      }

    module _ (is : ids ≡ to.relations_of_node id) where
      around-right : IsRight g to → (ask : Ask) → was_asked (with_around g id ids) ask ≡ true
          → Same (known_in (with_around g id ids)) to ask
      around-right right (AtNode other) asked = right (AtNode other) asked
      around-right right (OfKey own) asked = right (OfKey own) asked
      around-right right (AlongWay other) asked = right (AlongWay other) asked
      around-right right (AroundNode other) asked =
          put_right nat_cmp_total nat_cmp-IsAntisymmetric g.around_nodes id ids listed to.relations_of_node is other
          (right (AroundNode other)) asked

      around-grows : Grows g (with_around g id ids)
      around-grows (AtNode other) asked = asked
      around-grows (OfKey own) asked = asked
      around-grows (AlongWay other) asked = asked
      around-grows (AroundNode other) asked = put_grows nat_cmp_total nat_cmp-IsAntisymmetric g.around_nodes id ids other asked

      pub with_around-gathers : Gathers to g (with_around g id ids) (AroundNode id ∷ [])
      with_around-gathers = record {
        right = around-right;
        grows = around-grows;
        asked =
            (put_there nat_cmp_total nat_cmp-IsAntisymmetric g.around_nodes id ids, tt);
      }

  -- what was asked before
  pub asked-gathers : (ask : Ask) → was_asked g ask ≡ true → Gathers to g g (ask ∷ [])
  asked-gathers ask asked = record { right = λ right. right; grows = λ ask asked. asked; asked = (asked, tt) }

  pub none-gathers : Gathers to g g []
  none-gathers = record { right = λ right. right; grows = λ ask asked. asked; asked = tt }

asked-append : (g : Gathered) (asks more : List Ask) → AreAsked g asks → AreAsked g more → AreAsked g (asks ++ more)
asked-append g [] more all later = later
asked-append g (ask ∷ asks) more all later = (all.0, asked-append g asks more all.1 later)

pub asked-front : (g : Gathered) (asks more : List Ask) → AreAsked g (asks ++ more) → AreAsked g asks
asked-front g [] more all = tt
asked-front g (ask ∷ asks) more all = (all.0, asked-front g asks more all.1)

pub asked-back : (g : Gathered) (asks more : List Ask) → AreAsked g (asks ++ more) → AreAsked g more
asked-back g [] more all = all
asked-back g (ask ∷ asks) more all = asked-back g asks more all.1

pub asked-grows : (old new : Gathered) (asks : List Ask) → Grows old new → AreAsked old asks → AreAsked new asks
asked-grows old new [] grows all = tt
asked-grows old new (ask ∷ asks) grows all = (grows ask all.0, asked-grows old new asks grows all.1)

-- first these, and then more
pub then-gathers : (to : Known) (first second third : Gathered) (asks more : List Ask) → Gathers to first second asks
    → Gathers to second third more → Gathers to first third (asks ++ more)
then-gathers to first second third asks more one other = record {
  right = λ right. other.right (one.right right);
  grows = λ ask asked. other.grows ask (one.grows ask asked);
  asked = asked-append third asks more (asked-grows second third asks other.grows one.asked) other.asked;
}

-- of one more in a list
pub next-gathers : (to : Known) (first second third : Gathered) (asks : List Ask) (at : ℕ) (ask default : Ask) → at < length asks
    → ask ≡ get_or asks at default
    → Gathers to first second (take at asks) → Gathers to second third (ask ∷ [])
    → Gathers to first third (take (at + 1) asks)
next-gathers to first second third asks at ask default below is one other =
    subst (Gathers to first third) (sym (take_more asks at default below ∙ ap (λ own. take at asks ++ own ∷ []) (sym is)))
    (then-gathers to first second third (take at asks) (ask ∷ []) one other)

-- what a change says is right, where it is known
pub said-right : (to : Known) (change : List Entry) → AreKnown to change → IsRight (said_by change) to
said-right to change known = right
  where
    place-said : (id : ℕ) (said : Option (Option Object)) → IfSome said (IsKnown to (node_key id))
        → is_some (option_map place_in said) ≡ true → flattened (option_map place_in said) ≡ to.place id
    place-said id None is said = absurd (false≢true said)
    place-said id (Some object) is said = sym (is.placed refl)

    form-said : (own : KeyOf) (said : Option (Option Object)) → IfSome said (IsKnown to own) → is_some said ≡ true
        → flattened said ≡ to.object own
    form-said own None is said = absurd (false≢true said)
    form-said own (Some object) is said = sym is.form

    right : IsRight (said_by change) to
    right (AtNode id) said = place-said id (named_in change (node_key id)) (known (node_key id)) said
    right (OfKey own) said = form-said own (named_in change own) (known own) said
    right (AlongWay id) said = absurd (false≢true said)
    right (AroundNode id) said = absurd (false≢true said)
