-- What is left on one side of a key is known by it.
use Rattle.std.proofs.Common.{◌≡◌, ◌<◌, ℕ, List, length, true, false, sym, ap, ◌∙◌, arith}
use Rattle.osm_base.specs.declared.values.object.Entry.{Entry}
use Rattle.osm_base.specs.values.Key.{KeyOf}
use Rattle.std.specs.Ordering.{eq_by_cmp}
use Rattle.osm_base.specs.values.KeyOrder.{is_below, key_cmp}
use Rattle.update_step.specs.Named.{key_in, key_named, no_entry}
use Rattle.std.proofs.lemmas.List.{get_or_default}
use Rattle.update_step.proofs.NewEntries.{all_below, below_same, none_below, none_same}
use Rattle.update_step.proofs.named.place_of.Goals as goal

pub loop-low-preserved-then-is_before : goal.loop-low-preserved-then-is_before
loop-low-preserved-then-is_before c =
    let entries : List Entry = c.args.entries.now in
    let key : KeyOf = key_named c.args.kind c.args.id in
    let so-far = c.loop-low.invariant in
    let place : ℕ = c.next_place-place.result in
    let inside : place < length entries = omega (arith, c.next_place-place.ensures.high, so-far.within) in
    let here : is_below (key_in entries place) key ≡ true =
    ap (λ (own : Entry). is_below own.key key) (get_or_default entries place no_entry c.index-entries-place.result inside)
    ∙ sym c.is_before.ensures ∙ c.if-is_before.true in
    record {
      order = omega (arith, c.next_place-place.ensures.high);
      within = so-far.within;
      below = λ k less. all_below entries c.requires key place k inside here (omega (arith, less));
      from = so-far.from;
    }

pub loop-low-preserved : goal.loop-low-preserved
loop-low-preserved c =
    let entries : List Entry = c.args.entries.now in
    let key : KeyOf = key_named c.args.kind c.args.id in
    let so-far = c.loop-low.invariant in
    let place : ℕ = c.next_place-place.result in
    let inside : place < length entries = omega (arith, c.next_place-place.ensures.high, so-far.within) in
    let here : is_below (key_in entries place) key ≡ false =
    ap (λ (own : Entry). is_below own.key key) (get_or_default entries place no_entry c.index-entries-place.result inside)
    ∙ sym c.is_before.ensures ∙ c.if-is_before.false in
    record {
      order = c.next_place-place.ensures.low;
      within = omega (arith, c.next_place-place.ensures.high, so-far.within);
      below = so-far.below;
      from = λ k more within. none_below entries c.requires key place k here more within;
    }

pub returns-then-is_of : goal.returns-then-is_of
returns-then-is_of c =
    let entries : List Entry = c.args.entries.now in
    let key : KeyOf = key_named c.args.kind c.args.id in
    let so-far = c.loop-low.invariant in
    let place : ℕ = c.next_place-place.result in
    let inside : place < length entries = omega (arith, c.next_place-place.ensures.high, so-far.within) in
    let here : eq_by_cmp key_cmp key (key_in entries place) ≡ true =
    ap (λ (own : Entry). eq_by_cmp key_cmp key own.key) (get_or_default entries place no_entry c.index-entries-place.result inside)
    ∙ sym c.is_of.ensures ∙ c.if-is_of.true in
    record {
      within = omega (arith, inside);
      below = λ k less. below_same entries c.requires key place k inside here less;
      from = λ k more within. none_same entries c.requires key place k inside here more within;
    }
