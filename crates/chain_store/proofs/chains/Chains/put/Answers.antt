-- A chain more is written, with its marks.
use Rattle.std.proofs.Common.{◌≡◌, ℕ, List, sym, ap, subst, ◌∙◌}
use Rattle.std.specs.FinMap as map
use Rattle.chain_store.specs.Chains.{IsMarked, IsOpenStore}
use Rattle.chain_store.specs.Kept.{buckets_in}
use Rattle.chain_store.specs.Known.{AreGone, AreStored, Lists}
use Rattle.chain_store.specs.Store.{kept_first}
use Rattle.chain_store.proofs.Puts.{gone_more, open_unmarked, open_written, stored_more}
use Rattle.chain_store.proofs.Taking.{ok_has, on_done, on_err}
use Rattle.chain_store.proofs.chains.Chains.put.Goals as goal

pub invariant_of-self-else-is_err-2 : goal.invariant_of-self-else-is_err-2
invariant_of-self-else-is_err-2 g c =
    let self = c.args.self.now in
    let put : c.put-2.new.self ≡ map.insert self.written c.args.n c.args.bytes =
    on_done (c.put-2.new.self ≡ map.insert self.written c.args.n c.args.bytes) c.put-2.result c.is_err-2.result c.is_err-2.ensures.value
    c.if-is_err-2.false c.put-2.ensures.ok in
    record {
      known = self.known;
      behind = self.behind;
      held = self.held;
      stored = subst (λ (lists : Lists). AreStored self.root.buckets self.read lists) (sym put)
          (stored_more self.written c.args.n c.args.bytes self.root.buckets self.read self.stored c.requires.brought c.requires.string
          self.few);
      gone = subst (λ (lists : Lists). AreGone (buckets_in self.kept.front.items) self.root.buckets (kept_first self.kept) lists) (sym put)
          (gone_more self.written c.args.n c.args.bytes (buckets_in self.kept.front.items) self.root.buckets
          (kept_first self.kept) self.gone);
      few = self.few;
      count = self.count;
    }

pub returns-then-is_err-2-clause-open : goal.returns-then-is_err-2-clause-open
returns-then-is_err-2-clause-open g c = λ pages opened marked.
    let self = c.args.self.now in
    let put : c.put.new.self ≡ map.insert self.before c.args.n c.in-Ok.same =
    on_done (c.put.new.self ≡ map.insert self.before c.args.n c.in-Ok.same) c.put.result c.is_err.result c.is_err.ensures.value
    c.if-is_err.false c.put.ensures.ok in
    let kept : c.put-2.new.self ≡ self.written =
    on_err (c.put-2.new.self ≡ self.written) c.put-2.result c.is_err-2.result c.is_err-2.ensures.value c.if-is_err-2.true
    c.put-2.ensures.err in
    let gone : c.take_or.new.self ≡ map.remove (map.insert self.before c.args.n c.in-Ok.same) c.args.n =
    c.take_or.ensures.rest ∙ ap (λ (lists : Lists). map.remove lists c.args.n) put in
    subst (λ (lists : Lists). IsOpenStore pages self.journal self.kept self.read self.texts lists c.take_or.new.self) (sym kept)
    (subst (λ (lists : Lists). IsOpenStore pages self.journal self.kept self.read self.texts self.written lists) (sym gone)
    (open_unmarked pages self.journal self.kept self.read self.texts self.written self.before c.args.n c.in-Ok.same c.args.bytes opened))

pub returns-clause-open : goal.returns-clause-open
returns-clause-open g c = λ pages opened marked.
    let self = c.args.self.now in
    let put : c.put.new.self ≡ map.insert self.before c.args.n c.in-Ok.same =
    on_done (c.put.new.self ≡ map.insert self.before c.args.n c.in-Ok.same) c.put.result c.is_err.result c.is_err.ensures.value
    c.if-is_err.false c.put.ensures.ok in
    let written : c.put-2.new.self ≡ map.insert self.written c.args.n c.args.bytes =
    on_done (c.put-2.new.self ≡ map.insert self.written c.args.n c.args.bytes) c.put-2.result c.is_err-2.result c.is_err-2.ensures.value
    c.if-is_err-2.false c.put-2.ensures.ok in
    subst (λ (lists : Lists). IsOpenStore pages self.journal self.kept self.read self.texts lists c.put.new.self) (sym written)
    (subst (λ (lists : Lists). IsOpenStore pages self.journal self.kept self.read self.texts
    (map.insert self.written c.args.n c.args.bytes) lists) (sym put)
    (open_written pages self.journal self.kept self.read self.texts self.written self.before c.args.n c.in-Ok.same c.args.bytes opened
    (ok_has (λ (same : List ℕ). IsMarked pages c.args.n (kept_first self.kept c.args.n) same c.args.bytes) c.args.same c.in-Ok.same
    c.in-Ok.is marked)))
