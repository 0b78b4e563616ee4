use Rattle.std.proofs.Common.{◌≡◌, sym, ap, ◌∙◌, List, ℕ, ◌++◌, take, append_assoc, subst, arith}
use Rattle.std.proofs.lemmas.List.{take_all}
use Rattle.std.specs.List.{AllByRecursion}
use Rattle.value_bytes.specs.Forms.{all_bytes}
use Rattle.value_bytes.proofs.ListLaws.{bytes_more, each_more}
use Rattle.value_bytes.proofs.lists.push_many.Goals as goal

pub loop-value-preserved : goal.loop-value-preserved
loop-value-preserved g c =
    let spell = g.T.Spelled.spell in
    let values = c.args.values.now in
    let place = c.loop-value.value-index in
    record {
      put = c.in_ok-push_to.ensures.ok ∙ ap (λ (l : List ℕ). l ++ spell c.value-item.result) c.loop-value.invariant.put
          ∙ append_assoc c.args.out.now.items (all_bytes spell (take place values)) (spell c.value-item.result)
          ∙ ap (λ (l : List ℕ). c.args.out.now.items ++ l)
          (sym (bytes_more spell values place c.value-item.result c.loop-value-test.true c.value-item.is));
      are = each_more g.T.Spelled.is values place c.value-item.result c.loop-value-test.true c.value-item.is c.loop-value.invariant.are
          c.in_ok-push_to.ensures.is;
    }

pub returns-clause-ok : goal.returns-clause-ok
returns-clause-ok g c =
    let values = c.args.values.now in
    let whole : take c.loop-value.value-index values ≡ values = take_all c.loop-value.value-index values (omega arith) in
    c.loop-value.invariant.put ∙ ap (λ (l : List _). c.args.out.now.items ++ all_bytes g.T.Spelled.spell l) whole

pub returns-clause-is : goal.returns-clause-is
returns-clause-is g c =
    let values = c.args.values.now in
    let whole : take c.loop-value.value-index values ≡ values = take_all c.loop-value.value-index values (omega arith) in
    subst (λ l. AllByRecursion g.T.Spelled.is l) whole c.loop-value.invariant.are
