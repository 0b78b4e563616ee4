-- Each box of a grid keeps its mark.
use Rattle.std.proofs.Common.{◌≡◌, ◌≢◌, ◌==◌, Bool, true, false, cond, List, Option, Some, None, refl, sym, ◌∙◌, ap, subst}
use Rattle.std.specs.Ordering.{is_eq, eq_by_cmp}
use Rattle.std.specs.declared.cmp.Ordering.{Ordering}
use Rattle.std.specs.declared.cmp.Ordering.TheVariants.{Less, Equal, Greater}
use Rattle.std.specs.FinMap as finite
use Rattle.std.proofs.lemmas.Bool.{eqb-true, eq-eqb, true≢false}
use Rattle.std.proofs.lemmas.Cmp.{tied_itself}
use Rattle.osm_base.specs.declared.values.place.GeoBox.{GeoBox}
use Rattle.osm_base.specs.map.Spots.{SpotOf, spot_cmp}
use Rattle.osm_base.proofs.SpotOrder.{spot_cmp_total, spot_cmp-IsAntisymmetric}
use Rattle.grid_index.specs.declared.marks.Mark.{Mark}
use Rattle.grid_index.specs.Grid.{BoxMap}
use Rattle.grid_index.specs.Marks.{IsMarked, has, mark_cmp, mark_of, part_of}
use Rattle.grid_index.proofs.Order.{mark_cmp_total, mark_cmp-IsAntisymmetric}

-- two that tie are equal
tied : (o : Ordering) → is_eq o ≡ true → o ≡ Equal
tied Less e = absurd (cc)
tied Equal e = refl
tied Greater e = absurd (cc)

pub same_mark : (one other : Mark) → is_eq (mark_cmp one other) ≡ true → one ≡ other
same_mark one other e = mark_cmp-IsAntisymmetric one other (tied _ e)

pub same_spot : (one other : SpotOf) → eq_by_cmp spot_cmp one other ≡ true → one ≡ other
same_spot one other e = spot_cmp-IsAntisymmetric one other (tied _ e)

pub itself : (mark : Mark) → is_eq (mark_cmp mark mark) ≡ true
itself mark = ap is_eq (tied_itself mark_cmp_total mark)

pub spot_itself : (spot : SpotOf) → eq_by_cmp spot_cmp spot spot ≡ true
spot_itself spot = ap is_eq (tied_itself spot_cmp_total spot)

-- these marks have one more, or one fewer
abbrev pub Adds : Mark → (old new : List Mark) → Type 0
Adds mark old new = (other : Mark) → has new other ≡ cond (is_eq (mark_cmp mark other)) true (has old other)

abbrev pub Drops : Mark → (old new : List Mark) → Type 0
Drops mark old new = (other : Mark) → has new other ≡ cond (is_eq (mark_cmp mark other)) false (has old other)

abbrev pub AreMarked : List Mark → BoxMap → Type 0
AreMarked marks boxes = (at : SpotOf) → IsMarked marks at (finite.get boxes at)

kept : (mark : Mark) (old new : List Mark) → Adds mark old new → (other : Mark) → has old other ≡ true → has new other ≡ true
kept mark old new adds other e = adds other ∙ go (is_eq (mark_cmp mark other))
  where
    go : (b : Bool) → cond b true (has old other) ≡ true
    go true = refl
    go false = e

pub more_marked : (mark : Mark) (old new : List Mark) (boxes : BoxMap) → Adds mark old new → AreMarked old boxes → AreMarked new boxes
more_marked mark old new boxes adds before at = go (finite.get boxes at) (before at)
  where
    go : (box : Option GeoBox) → IsMarked old at box → IsMarked new at box
    go None h = tt
    go (Some box) h = kept mark old new adds (mark_of at box) h

-- a box that is put in has the mark that was added
pub put_marked : (old new : List Mark) (boxes : BoxMap) (spot : SpotOf) (box : GeoBox) → Adds (mark_of spot box) old new
    → AreMarked old boxes → AreMarked new (finite.insert boxes spot box)
put_marked old new boxes spot box adds before at =
    subst (IsMarked new at) (sym (finite.get-insert spot_cmp_total boxes spot box at)) (go (eq_by_cmp spot_cmp at spot) refl)
  where
    own : IsMarked new spot (Some box)
    own = adds (mark_of spot box) ∙ ap (λ b. cond b true (has old (mark_of spot box))) (itself (mark_of spot box))

    go : (b : Bool) → eq_by_cmp spot_cmp at spot ≡ b → IsMarked new at (cond b (Some box) (finite.get boxes at))
    go true e = subst (λ other. IsMarked new other (Some box)) (sym (same_spot at spot e)) own
    go false e = more_marked (mark_of spot box) old new boxes adds before at

-- what is taken out needs no mark
pub less_marked : (marks : List Mark) (boxes : BoxMap) (spot : SpotOf) → AreMarked marks boxes → AreMarked marks (finite.remove boxes spot)
less_marked marks boxes spot before at =
    subst (IsMarked marks at) (sym (finite.get-remove spot_cmp_total boxes spot at)) (go (eq_by_cmp spot_cmp at spot))
  where
    go : (b : Bool) → IsMarked marks at (cond b None (finite.get boxes at))
    go true = tt
    go false = before at

-- a mark that no box has may go
pub dropped_marked : (mark : Mark) (old new : List Mark) (boxes : BoxMap) → Drops mark old new
    → ((at : SpotOf) (box : GeoBox) → finite.get boxes at ≡ Some box → mark ≢ mark_of at box)
    → AreMarked old boxes → AreMarked new boxes
dropped_marked mark old new boxes drops free before at = go (finite.get boxes at) refl (before at)
  where
    go : (box : Option GeoBox) → finite.get boxes at ≡ box → IsMarked old at box → IsMarked new at box
    go None e h = tt
    go (Some box) e h = drops (mark_of at box) ∙ differ (is_eq (mark_cmp mark (mark_of at box))) refl
      where
        differ : (b : Bool) → is_eq (mark_cmp mark (mark_of at box)) ≡ b → cond b false (has old (mark_of at box)) ≡ true
        differ true same = absurd (free at box e (same_mark mark (mark_of at box) same))
        differ false other = h

-- a mark is of one spot
pub of_one_spot : (spot at : SpotOf) (one other : GeoBox) → mark_of spot one ≡ mark_of at other → spot ≡ at
of_one_spot spot at one other e = λ i. record { table = (e i).table; key = (e i).key }

pub put_free : (boxes : BoxMap) (spot : SpotOf) (box before : GeoBox) → part_of before ≢ part_of box → (at : SpotOf) (other : GeoBox)
    → finite.get (finite.insert boxes spot box) at ≡ Some other → mark_of spot before ≢ mark_of at other
put_free boxes spot box before moved at other e same =
    let here : spot ≡ at = of_one_spot spot at before other same in
    let tied : eq_by_cmp spot_cmp at spot ≡ true = subst (λ one. eq_by_cmp spot_cmp one spot ≡ true) here (spot_itself spot) in
    let new : Some box ≡ Some other = sym (finite.get-insert spot_cmp_total boxes spot box at
    ∙ ap (λ b. cond b (Some box) (finite.get boxes at)) tied) ∙ e in
    moved (ap (λ mark. mark.part) same ∙ ap part_of (sym (some_is box other new)))
  where
    some_is : (x y : GeoBox) → Some x ≡ Some y → x ≡ y
    some_is x y e = cc

pub gone_free : (boxes : BoxMap) (spot : SpotOf) (before : GeoBox) (at : SpotOf) (other : GeoBox)
    → finite.get (finite.remove boxes spot) at ≡ Some other → mark_of spot before ≢ mark_of at other
gone_free boxes spot before at other e same =
    let here : spot ≡ at = of_one_spot spot at before other same in
    let tied : eq_by_cmp spot_cmp at spot ≡ true = subst (λ one. eq_by_cmp spot_cmp one spot ≡ true) here (spot_itself spot) in
    let none : None ≡ Some other = sym (finite.get-remove spot_cmp_total boxes spot at ∙ ap (λ b. cond b None (finite.get boxes at)) tied)
    ∙ e in
    absurd (cc)

-- a box that moves leaves no mark, and has one where it is now
pub moved_marked : (old mid new : List Mark) (boxes : BoxMap) (spot : SpotOf) (box before : GeoBox) → Adds (mark_of spot box) old mid
    → AreMarked old boxes
    → (part_of before ≢ part_of box → Drops (mark_of spot before) mid new) → (part_of before ≡ part_of box → new ≡ mid)
    → AreMarked new (finite.insert boxes spot box)
moved_marked old mid new boxes spot box before adds marked moved same = go (part_of before == part_of box) refl
  where
    put : AreMarked mid (finite.insert boxes spot box)
    put = put_marked old mid boxes spot box adds marked

    go : (b : Bool) → (part_of before == part_of box) ≡ b → AreMarked new (finite.insert boxes spot box)
    go true e = subst (λ marks. AreMarked marks (finite.insert boxes spot box)) (sym (same (eqb-true _ _ e))) put
    go false e =
        let apart : part_of before ≢ part_of box = λ f. true≢false (sym (eq-eqb (part_of before) (part_of box) f) ∙ e) in
        dropped_marked (mark_of spot before) mid new (finite.insert boxes spot box) (moved apart) (put_free boxes spot box before apart) put
