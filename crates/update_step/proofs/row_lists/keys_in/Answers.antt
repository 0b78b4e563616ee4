use Rattle.std.proofs.Common.{◌≡◌, ◌<◌, ◌≤◌, ◌+◌, ◌∷◌, ◌++◌, [], ℕ, List, get_or, length, ap, ◌∙◌, subst, sym, take}
use Rattle.std.proofs.lemmas.List.{take_all, take_more}
use Rattle.osm_base.specs.values.Key.{KeyOf, node_key}
use Rattle.geom_workers.specs.Keys.{keys_of}
use Rattle.update_step.proofs.row_lists.keys_in.Goals as goal

-- the key that is pushed is the next one
one_more : (keys before after : List KeyOf) (at : ℕ) (own : KeyOf) → after ≡ before ++ own ∷ [] → before ≡ take at keys
    → own ≡ get_or keys at (node_key 0) → at < length keys → after ≡ take (at + 1) keys
one_more keys before after at own pushed front is below =
    pushed ∙ ap (λ (items : List KeyOf). items ++ own ∷ []) front ∙ ap (λ (key : KeyOf). take at keys ++ key ∷ []) is
    ∙ sym (take_more keys at (node_key 0) below)

pub loop-number-preserved : goal.loop-number-preserved
loop-number-preserved c =
    one_more (keys_of c.args.pending.now.set) _ _ c.loop-number.number c.key_of.result c.in_ok-push.ensures.items c.loop-number.invariant
    c.key_of.ensures.key
    (subst (λ (most : ℕ). c.loop-number.number < most) c.key_count-count.ensures.count c.loop-number-test.true)

pub returns : goal.returns
returns c =
    record {
      keys = c.loop-number.invariant ∙ take_all c.loop-number.number (keys_of c.args.pending.now.set)
          (subst (λ (most : ℕ). most ≤ c.loop-number.number) c.key_count-count.ensures.count c.loop-number-test.false);
    }
