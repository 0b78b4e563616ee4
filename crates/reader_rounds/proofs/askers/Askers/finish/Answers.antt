use Rattle.std.proofs.Common.{◌≡◌, ◌++◌, ◌∷◌, [], List, length, length-append, ap, subst, ◌∙◌, arith}
use Rattle.std.specs.Vec.Iter.{into_iter_items}
use Rattle.table_versions.specs.Fronts.{FrontOf}
use Rattle.table_versions.specs.Views.{PublisherOf}
use Rattle.table_versions.specs.declared.answers.Answer.{Answer}
use Rattle.reader_rounds.specs.Rounds.{AreServed}
use Rattle.reader_rounds.proofs.RoundLaws.{more_served}
use Rattle.reader_rounds.proofs.askers.Askers.finish.Goals as goal

pub loop-asker-preserved : goal.loop-asker-preserved
loop-asker-preserved g c =
    let style = c.args.style.now in
    let last : FrontOf = c.args.publisher.now.front in
    let queries = c.args.queries.now in
    let rounds : List (List Answer) = c.in_ok-finish.field-0 in
    let taken = c.in-Some.ensures.steps.0 in
    let pushed : c.push.new.self ≡ c.loop-asker.blocks ++ rounds ∷ [] = c.in_ok-push.ensures.ok in
    let told : c.tell-told.result ≡ last = c.tell-told.ensures.told
    ∙ ap (λ (publisher : PublisherOf). publisher.front) c.loop-asker.invariant.same in
    let served : AreServed style last queries c.args.rounds rounds =
    subst (λ (front : FrontOf). AreServed style front queries c.args.rounds rounds) told c.in_ok-finish.ensures.served in
    let own = more_served style last queries c.args.rounds (into_iter_items c.loop-asker.asker-iterator)
    (into_iter_items c.next.new.self) c.in-Some.asker c.loop-asker.blocks c.push.new.self rounds taken pushed
    c.loop-asker.invariant.asked c.loop-asker.invariant.served served in
    record {
      same = c.tell-told.ensures.same ∙ c.loop-asker.invariant.same;
      count = omega (
        arith,
        ap length taken,
        ap length pushed,
        length-append c.loop-asker.blocks (rounds ∷ []),
        c.loop-asker.invariant.count,
      );
      asked = own.0;
      served = own.1;
    }
