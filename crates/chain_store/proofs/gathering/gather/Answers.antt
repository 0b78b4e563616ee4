use Rattle.std.proofs.Common.{◌≡◌, ℕ, List, Some, refl, sym, ap, subst, ◌∙◌}
use Rattle.std.specs.Option.{unwrap_or}
use Rattle.std.specs.FinMap as map
use Rattle.chain_store.specs.Gathered.{IsGathering}
use Rattle.chain_store.specs.declared.parts.Part.{Part}
use Rattle.chain_store.proofs.Gathers.{gather_more, gathered}
use Rattle.chain_store.proofs.gathering.gather.Goals as goal

pub loop-entry-preserved : goal.loop-entry-preserved
loop-entry-preserved c =
    let part : Part = record {
      number = c.in-Some.entry.0;
      old = c.take_or-old.result;
      before = c.new-in-loop-entry-2.result;
      same =
          c.take_or-same.result;
      bytes = c.in-Some.entry.1;
    } in
    let inv = c.loop-entry.invariant in
    let here : map.get c.loop-entry.left part.number ≡ Some part.bytes = c.in-Some.ensures.value in
    subst (λ (parts : List Part). IsGathering c.args.written c.args.read c.args.before parts c.take_first.new.self c.take_or-old.new.self
    c.take_or-same.new.self)
    (sym c.in_ok-push.ensures.items)
    (gather_more c.args.written c.args.read c.args.before c.loop-entry.parts.items part c.loop-entry.left c.loop-entry.known
    c.loop-entry.had
    c.take_first.new.self c.take_or-old.new.self c.take_or-same.new.self inv here
    c.requires
    (c.take_or-old.ensures.value ∙ ap (λ (l : List ℕ). unwrap_or (map.get c.loop-entry.known part.number) l) c.new.ensures.empty)
    (c.take_or-same.ensures.value ∙ ap (λ (l : List ℕ). unwrap_or (map.get c.loop-entry.had part.number) l)
    c.new-in-loop-entry.ensures.empty)
    c.in-Some.ensures.rest c.take_or-old.ensures.rest c.take_or-same.ensures.rest)

pub returns-in-None : goal.returns-in-None
returns-in-None c = gathered c.args.written c.args.read c.args.before c.loop-entry.parts.items c.loop-entry.left c.loop-entry.known
    c.loop-entry.had
    c.loop-entry.invariant (c.in-None.ensures.none refl)
