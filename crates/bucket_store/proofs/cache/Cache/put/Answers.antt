-- What is put into the bucket of a slot is put at its number.
use Rattle.std.proofs.Common.{Option, refl, sym, ap, ◌∙◌}
use Rattle.std.specs.Option.{is_some}
use Rattle.bucket_store.specs.declared.cache.Cached.{Cached}
use Rattle.bucket_store.proofs.Caches.{if_ok, none_own, on_err, on_ok}
use Rattle.bucket_store.proofs.SlotLaws.{seen_at, seen_none, seen_put, seen_stays, slot_shown, slot_there}
use Rattle.bucket_store.proofs.cache.Cache.put.Goals as goal

pub returns-in-Some-clause-there : goal.returns-in-Some-clause-there
returns-in-Some-clause-there c =
    let slots = c.self.inside.slots.items in
    let slot = c.index_mut.result.now in
    let at = slot_there c.as_slice.result.now slots c.in-Some.k slot c.as_slice.ensures.value c.in-Some.ensures.there c.index_mut.ensures.value in
    let number = c.in-Some.ensures.number slot (slot_shown c.as_slice.result.now slots c.in-Some.k slot c.as_slice.ensures.value at) in
    if_ok c.put.result _ _ c.put.ensures.there (λ there is.
    is ∙ ap (λ (own : Option Cached). is_some own)
    (sym (seen_at c.self.inside.places slots c.in-Some.k c.args.n slot c.args.self.now c.self.view_is c.self.invariant at number)))

pub returns-in-Some-clause-ok : goal.returns-in-Some-clause-ok
returns-in-Some-clause-ok c =
    let slots = c.self.inside.slots.items in
    let slot = c.index_mut.result.now in
    let at = slot_there c.as_slice.result.now slots c.in-Some.k slot c.as_slice.ensures.value c.in-Some.ensures.there c.index_mut.ensures.value in
    let number = c.in-Some.ensures.number slot (slot_shown c.as_slice.result.now slots c.in-Some.k slot c.as_slice.ensures.value at) in
    on_ok c.put.result _ _ c.put.ensures.ok (λ is own here.
    seen_put c.self.inside.places slots c.in-Some.k c.args.n slot c.put.new.self _ c.args.self.now c.self.view_is c.self.invariant at number
    c.put.ensures.number
    (is own (sym (seen_at c.self.inside.places slots c.in-Some.k c.args.n slot c.args.self.now c.self.view_is c.self.invariant at number) ∙ here)))

pub returns-in-Some-clause-none : goal.returns-in-Some-clause-none
returns-in-Some-clause-none c =
    let slots = c.self.inside.slots.items in
    let slot = c.index_mut.result.now in
    let at = slot_there c.as_slice.result.now slots c.in-Some.k slot c.as_slice.ensures.value c.in-Some.ensures.there c.index_mut.ensures.value in
    if_ok c.put.result _ _ c.put.ensures.none (λ there is absent.
    seen_stays c.self.inside.places slots c.in-Some.k slot c.put.new.self c.args.self.now c.self.view_is c.self.invariant at
    c.put.ensures.number (is absent))

pub returns-in-Some-clause-err : goal.returns-in-Some-clause-err
returns-in-Some-clause-err c =
    let slots = c.self.inside.slots.items in
    let slot = c.index_mut.result.now in
    let at = slot_there c.as_slice.result.now slots c.in-Some.k slot c.as_slice.ensures.value c.in-Some.ensures.there c.index_mut.ensures.value in
    on_err c.put.result _ _ c.put.ensures.err (λ is.
    seen_stays c.self.inside.places slots c.in-Some.k slot c.put.new.self c.args.self.now c.self.view_is c.self.invariant at
    c.put.ensures.number is)

pub returns-in-None-clause-there : goal.returns-in-None-clause-there
returns-in-None-clause-there c =
    ap (λ (own : Option Cached). is_some own) (sym (seen_none c.as_slice.result.now c.self.inside.slots.items c.args.n c.args.self.now
    c.self.view_is c.as_slice.ensures.value (c.in-None.ensures.none refl)))

pub returns-in-None-clause-ok : goal.returns-in-None-clause-ok
returns-in-None-clause-ok c own here =
    absurd (none_own own (sym (seen_none c.as_slice.result.now c.self.inside.slots.items c.args.n c.args.self.now
    c.self.view_is c.as_slice.ensures.value (c.in-None.ensures.none refl)) ∙ here))
