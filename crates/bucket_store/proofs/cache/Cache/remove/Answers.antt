-- What is taken out of the bucket of a slot is taken out at its number.
use Rattle.std.proofs.Common.{Option, refl, sym, subst, ◌∙◌}
use Rattle.std.specs.Option.{IsSome}
use Rattle.bucket_store.specs.declared.cache.Cached.{Cached}
use Rattle.bucket_store.proofs.Caches.{if_ok, not_none, on_err}
use Rattle.bucket_store.proofs.SlotLaws.{seen_at, seen_none, seen_put, seen_stays, slot_shown, slot_there}
use Rattle.bucket_store.proofs.cache.Cache.remove.Goals as goal

pub unreachable-requires : goal.unreachable-requires
unreachable-requires c =
    not_none (subst (λ (own : Option Cached). IsSome own)
    (seen_none c.as_slice.result.now c.self.inside.slots.items c.args.n c.args.self.now
    c.self.view_is c.as_slice.ensures.value (c.in_default.ensures.none refl)) c.requires)

pub returns-clause-was : goal.returns-clause-was
returns-clause-was c =
    let slots = c.self.inside.slots.items in
    let slot = c.index_mut.result.now in
    let at = slot_there c.as_slice.result.now slots c.in-Some.k slot c.as_slice.ensures.value c.in-Some.ensures.there c.index_mut.ensures.value in
    let number = c.in-Some.ensures.number slot (slot_shown c.as_slice.result.now slots c.in-Some.k slot c.as_slice.ensures.value at) in
    if_ok c.remove.result _ _ c.remove.ensures.was (λ was is own here.
    is own (sym (seen_at c.self.inside.places slots c.in-Some.k c.args.n slot c.args.self.now c.self.view_is c.self.invariant at number) ∙ here))

pub returns-clause-taken : goal.returns-clause-taken
returns-clause-taken c =
    let slots = c.self.inside.slots.items in
    let slot = c.index_mut.result.now in
    let at = slot_there c.as_slice.result.now slots c.in-Some.k slot c.as_slice.ensures.value c.in-Some.ensures.there c.index_mut.ensures.value in
    let number = c.in-Some.ensures.number slot (slot_shown c.as_slice.result.now slots c.in-Some.k slot c.as_slice.ensures.value at) in
    if_ok c.remove.result _ _ c.remove.ensures.taken (λ was is own here taken.
    seen_put c.self.inside.places slots c.in-Some.k c.args.n slot c.remove.new.self _ c.args.self.now c.self.view_is c.self.invariant at number
    c.remove.ensures.number
    (is own (sym (seen_at c.self.inside.places slots c.in-Some.k c.args.n slot c.args.self.now c.self.view_is c.self.invariant at number) ∙ here)
    taken))

pub returns-clause-none : goal.returns-clause-none
returns-clause-none c =
    let slots = c.self.inside.slots.items in
    let slot = c.index_mut.result.now in
    let at = slot_there c.as_slice.result.now slots c.in-Some.k slot c.as_slice.ensures.value c.in-Some.ensures.there c.index_mut.ensures.value in
    if_ok c.remove.result _ _ c.remove.ensures.none (λ was is absent.
    seen_stays c.self.inside.places slots c.in-Some.k slot c.remove.new.self c.args.self.now c.self.view_is c.self.invariant at
    c.remove.ensures.number (is absent))

pub returns-clause-err : goal.returns-clause-err
returns-clause-err c =
    let slots = c.self.inside.slots.items in
    let slot = c.index_mut.result.now in
    let at = slot_there c.as_slice.result.now slots c.in-Some.k slot c.as_slice.ensures.value c.in-Some.ensures.there c.index_mut.ensures.value in
    on_err c.remove.result _ _ c.remove.ensures.err (λ is.
    seen_stays c.self.inside.places slots c.in-Some.k slot c.remove.new.self c.args.self.now c.self.view_is c.self.invariant at
    c.remove.ensures.number is)
