-- The entry of the key stands at its place, or there is none.
use Rattle.std.proofs.Common.{◌≡◌, ◌<◌, ℕ, List, Some, length, true, false, sym, ap, ◌∙◌, arith}
use Rattle.std.specs.Ordering.{eq_by_cmp}
use Rattle.osm_base.specs.declared.values.object.Entry.{Entry}
use Rattle.osm_base.specs.values.Key.{KeyOf}
use Rattle.osm_base.specs.values.KeyOrder.{key_cmp}
use Rattle.update_step.specs.Named.{key_in, key_named}
use Rattle.update_step.proofs.NewEntries.{entry_there, named_here, named_none, untouched_apart}
use Rattle.update_step.proofs.named.named_at.Goals as goal

pub returns-then-place-entries : goal.returns-then-place-entries
returns-then-place-entries c =
    let entries : List Entry = c.args.entries.now in
    let key : KeyOf = key_named c.args.kind c.args.id in
    let place : ℕ = c.place_of-place.result in
    let past = c.if-place-entries.true in
    record {
      named = sym (named_none entries key (untouched_apart entries c.requires key place c.place_of-place.ensures.below
          (λ inside. absurd (omega (arith, past, inside))) (λ inside. absurd (omega (arith, past, inside)))));
    }

pub returns-then-is_of : goal.returns-then-is_of
returns-then-is_of c =
    let entries : List Entry = c.args.entries.now in
    let key : KeyOf = key_named c.args.kind c.args.id in
    let place : ℕ = c.place_of-place.result in
    let within = c.if-place-entries.false in
    let inside : place < length entries = omega (arith, within) in
    let there = entry_there entries place c.index-entries-place.result inside c.index-entries-place.is in
    let same : eq_by_cmp key_cmp key (key_in entries place) ≡ true =
    ap (λ (own : Entry). eq_by_cmp key_cmp key own.key) there ∙ sym c.is_of.ensures ∙ c.if-is_of.true in
    record {
      named = ap (λ (own : Entry). Some own.object) (sym there) ∙ sym (named_here entries place key c.requires inside same);
    }

pub returns : goal.returns
returns c =
    let entries : List Entry = c.args.entries.now in
    let key : KeyOf = key_named c.args.kind c.args.id in
    let place : ℕ = c.place_of-place.result in
    let within = c.if-place-entries.false in
    let inside : place < length entries = omega (arith, within) in
    let there = entry_there entries place c.index-entries-place.result inside c.index-entries-place.is in
    let apart : eq_by_cmp key_cmp key (key_in entries place) ≡ false =
    ap (λ (own : Entry). eq_by_cmp key_cmp key own.key) there ∙ sym c.is_of.ensures ∙ c.if-is_of.false in
    record {
      named = sym (named_none entries key (untouched_apart entries c.requires key place c.place_of-place.ensures.below
          (λ here. c.place_of-place.ensures.from place (omega arith) here) (λ here. apart)));
    }
