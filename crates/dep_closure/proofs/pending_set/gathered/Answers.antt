use Rattle.std.proofs.Common.{◌≡◌, ◌++◌, [], List, ℕ, true, sym, subst, ◌∙◌}
use mathlib.Core.Bool.{false≢true}
use Rattle.osm_base.specs.values.Ids.{has}
use Rattle.dep_closure.specs.Questions.{of_all, of_members, of_nodes, of_ways}
use Rattle.dep_closure.proofs.Asked.{asks_first, asks_later, asks_whole}
use Rattle.dep_closure.proofs.Cuts.{on_err}
use Rattle.dep_closure.proofs.pending_set.gathered.Goals as goal

pub returns-in_err-moved-clause-asked_some : goal.returns-in_err-moved-clause-asked_some
returns-in_err-moved-clause-asked_some g c =
    on_err c.from_residual.result _ (
      [],
      λ index knows way there. absurd (false≢true there),
      asks_first g.B.Back.asks c.args.back.now c.ways_due.new.back (of_nodes c.args.change.now)
          (of_members c.args.change.now ++ of_ways []) c.in_err-moved.ensures.asked_some,
    )

pub returns-in_err-relations-clause-asked_some : goal.returns-in_err-relations-clause-asked_some
returns-in_err-relations-clause-asked_some g c =
    let change = c.args.change.now in
    on_err c.from_residual-in_err-relations.result _ (
      c.as_slice.result.now,
      λ index knows way there. sym (c.in_ok-moved.ensures.due.due index knows way)
          ∙ subst (λ (own : List ℕ). has own way ≡ true) c.as_slice.ensures.items there,
      asks_later g.B.Back.asks g.met.B.Back.asks_then c.args.back.now c.ways_due.new.back c.relations_due.new.back (of_nodes change)
          (of_members change ++ of_ways c.as_slice.result.now)
          c.in_ok-moved.ensures.asks.asked c.in_err-relations.ensures.asked_some,
    )

pub returns-in_err-nodes-clause-asked_some : goal.returns-in_err-nodes-clause-asked_some
returns-in_err-nodes-clause-asked_some g c =
    let change = c.args.change.now in
    let moved = c.as_slice.result.now in
    on_err c.from_residual-in_err-nodes.result _ (
      moved,
      λ index knows way there. sym (c.in_ok-moved.ensures.due.due index knows way)
          ∙ subst (λ (own : List ℕ). has own way ≡ true) c.as_slice.ensures.items there,
      asks_whole g.B.Back.asks c.args.back.now c.relations_due.new.back (of_all change moved)
          (g.met.B.Back.asks_then c.args.back.now c.ways_due.new.back c.relations_due.new.back (of_nodes change)
          (of_members change ++ of_ways moved) c.in_ok-moved.ensures.asks.asked c.in_ok-relations.ensures.asks.asked),
    )

pub returns-in_err-ways-clause-asked_some : goal.returns-in_err-ways-clause-asked_some
returns-in_err-ways-clause-asked_some g c =
    let change = c.args.change.now in
    let moved = c.as_slice.result.now in
    on_err c.from_residual-in_err-ways.result _ (
      moved,
      λ index knows way there. sym (c.in_ok-moved.ensures.due.due index knows way)
          ∙ subst (λ (own : List ℕ). has own way ≡ true) c.as_slice.ensures.items there,
      asks_whole g.B.Back.asks c.args.back.now c.relations_due.new.back (of_all change moved)
          (g.met.B.Back.asks_then c.args.back.now c.ways_due.new.back c.relations_due.new.back (of_nodes change)
          (of_members change ++ of_ways moved) c.in_ok-moved.ensures.asks.asked c.in_ok-relations.ensures.asks.asked),
    )
