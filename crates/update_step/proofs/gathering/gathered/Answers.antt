use Rattle.std.proofs.Common.{◌≡◌, List, subst, sym, ◌∙◌}
use Rattle.osm_base.specs.declared.values.object.Entry.{Entry}
use Rattle.osm_base.specs.map.Known.{Known}
use Rattle.store_maps.specs.Named.{known_on}
use Rattle.update_step.specs.Gather.{Gathered, IsRight, gathered_in, said_by}
use Rattle.update_step.specs.Named.{AreKnown}
use Rattle.update_step.specs.Touch.{MayAsk}
use Rattle.update_step.proofs.Asking.{said-right}
use Rattle.update_step.proofs.InRounds.{first-all, first-round, second-all, second-round, third-all, third-round}
use Rattle.update_step.proofs.gathering.gathered.Goals as goal

-- the first answers, which are those of the change, are right
first-right : (first : Gathered) (to : Known) (change : List Entry) → first ≡ said_by change → AreKnown to change → IsRight first to
first-right first to change is known = subst (λ (answers : Gathered). IsRight answers to) (sym is) (said-right to change known)

pub returns-in_err-ask_all-clause-within : goal.returns-in_err-ask_all-clause-within
returns-in_err-ask_all-clause-within g c under maps held known may all before =
    let to : Known = known_on maps in
    let objects = c.ask_all.ensures.within may (first-all to c.args.style.now c.args.reaches c.args.keys.now (MayAsk may) all
    c.as_slice-objects.result.now (c.as_slice-objects.ensures.value ∙ c.in_ok-objects.ensures.asks)) before in
    objects

pub returns-in_err-parts-clause-within : goal.returns-in_err-parts-clause-within
returns-in_err-parts-clause-within g c under maps held known may all before =
    let to : Known = known_on maps in
    let objects = c.ask_all.ensures.within may (first-all to c.args.style.now c.args.reaches c.args.keys.now (MayAsk may) all
    c.as_slice-objects.result.now (c.as_slice-objects.ensures.value ∙ c.in_ok-objects.ensures.asks)) before in
    objects

pub returns-in_err-ask_all-2-clause-within : goal.returns-in_err-ask_all-2-clause-within
returns-in_err-ask_all-2-clause-within g c under maps held known may all before =
    let to : Known = known_on maps in
    let objects = c.ask_all.ensures.within may (first-all to c.args.style.now c.args.reaches c.args.keys.now (MayAsk may) all
    c.as_slice-objects.result.now (c.as_slice-objects.ensures.value ∙ c.in_ok-objects.ensures.asks)) before in
    let first = first-round to c.args.style.now c.args.reaches c.args.keys.now _ _ c.as_slice-objects.result.now
    c.as_slice-parts.result.now (first-right (gathered_in c.new-answers.result) to c.args.change.now c.new-answers.ensures.said known)
    (c.as_slice-objects.ensures.value ∙ c.in_ok-objects.ensures.asks) (c.in_ok-ask_all.ensures.gathers under maps held)
    (c.as_slice-parts.ensures.value ∙ c.in_ok-parts.ensures.asks) in
    let parts = c.ask_all-2.ensures.within may (second-all to c.args.style.now c.args.reaches c.args.keys.now (MayAsk may) all
    (gathered_in c.ask_all.new.answers) c.as_slice-parts.result.now first) objects in
    parts

pub returns-in_err-more-clause-within : goal.returns-in_err-more-clause-within
returns-in_err-more-clause-within g c under maps held known may all before =
    let to : Known = known_on maps in
    let objects = c.ask_all.ensures.within may (first-all to c.args.style.now c.args.reaches c.args.keys.now (MayAsk may) all
    c.as_slice-objects.result.now (c.as_slice-objects.ensures.value ∙ c.in_ok-objects.ensures.asks)) before in
    let first = first-round to c.args.style.now c.args.reaches c.args.keys.now _ _ c.as_slice-objects.result.now
    c.as_slice-parts.result.now (first-right (gathered_in c.new-answers.result) to c.args.change.now c.new-answers.ensures.said known)
    (c.as_slice-objects.ensures.value ∙ c.in_ok-objects.ensures.asks) (c.in_ok-ask_all.ensures.gathers under maps held)
    (c.as_slice-parts.ensures.value ∙ c.in_ok-parts.ensures.asks) in
    let parts = c.ask_all-2.ensures.within may (second-all to c.args.style.now c.args.reaches c.args.keys.now (MayAsk may) all
    (gathered_in c.ask_all.new.answers) c.as_slice-parts.result.now first) objects in
    parts

pub returns-in_err-ask_all-3-clause-within : goal.returns-in_err-ask_all-3-clause-within
returns-in_err-ask_all-3-clause-within g c under maps held known may all before =
    let to : Known = known_on maps in
    let objects = c.ask_all.ensures.within may (first-all to c.args.style.now c.args.reaches c.args.keys.now (MayAsk may) all
    c.as_slice-objects.result.now (c.as_slice-objects.ensures.value ∙ c.in_ok-objects.ensures.asks)) before in
    let first = first-round to c.args.style.now c.args.reaches c.args.keys.now _ _ c.as_slice-objects.result.now
    c.as_slice-parts.result.now (first-right (gathered_in c.new-answers.result) to c.args.change.now c.new-answers.ensures.said known)
    (c.as_slice-objects.ensures.value ∙ c.in_ok-objects.ensures.asks) (c.in_ok-ask_all.ensures.gathers under maps held)
    (c.as_slice-parts.ensures.value ∙ c.in_ok-parts.ensures.asks) in
    let parts = c.ask_all-2.ensures.within may (second-all to c.args.style.now c.args.reaches c.args.keys.now (MayAsk may) all
    (gathered_in c.ask_all.new.answers) c.as_slice-parts.result.now first) objects in
    let after = c.in_ok-ask_all.ensures.looks.holds under maps held in
    let second = second-round to c.args.style.now c.args.reaches c.args.keys.now _ _ c.as_slice-parts.result.now
    c.as_slice-more.result.now first (c.in_ok-ask_all-2.ensures.gathers under maps after)
    (c.as_slice-more.ensures.value ∙ c.in_ok-more.ensures.asks) in
    c.ask_all-3.ensures.within may (third-all to c.args.style.now c.args.reaches c.args.keys.now (MayAsk may) all
    (gathered_in c.ask_all-2.new.answers) c.as_slice-more.result.now second) parts

pub returns-clause-within : goal.returns-clause-within
returns-clause-within g c under maps held known may all before =
    let to : Known = known_on maps in
    let objects = c.ask_all.ensures.within may (first-all to c.args.style.now c.args.reaches c.args.keys.now (MayAsk may) all
    c.as_slice-objects.result.now (c.as_slice-objects.ensures.value ∙ c.in_ok-objects.ensures.asks)) before in
    let first = first-round to c.args.style.now c.args.reaches c.args.keys.now _ _ c.as_slice-objects.result.now
    c.as_slice-parts.result.now (first-right (gathered_in c.new-answers.result) to c.args.change.now c.new-answers.ensures.said known)
    (c.as_slice-objects.ensures.value ∙ c.in_ok-objects.ensures.asks) (c.in_ok-ask_all.ensures.gathers under maps held)
    (c.as_slice-parts.ensures.value ∙ c.in_ok-parts.ensures.asks) in
    let parts = c.ask_all-2.ensures.within may (second-all to c.args.style.now c.args.reaches c.args.keys.now (MayAsk may) all
    (gathered_in c.ask_all.new.answers) c.as_slice-parts.result.now first) objects in
    let after = c.in_ok-ask_all.ensures.looks.holds under maps held in
    let second = second-round to c.args.style.now c.args.reaches c.args.keys.now _ _ c.as_slice-parts.result.now
    c.as_slice-more.result.now first (c.in_ok-ask_all-2.ensures.gathers under maps after)
    (c.as_slice-more.ensures.value ∙ c.in_ok-more.ensures.asks) in
    c.ask_all-3.ensures.within may (third-all to c.args.style.now c.args.reaches c.args.keys.now (MayAsk may) all
    (gathered_in c.ask_all-2.new.answers) c.as_slice-more.result.now second) parts

pub returns-clause-right : goal.returns-clause-right
returns-clause-right g c under maps held known =
    let to : Known = known_on maps in
    let after = c.in_ok-ask_all.ensures.looks.holds under maps held in
    let said = first-right (gathered_in c.new-answers.result) to c.args.change.now c.new-answers.ensures.said known in
    let one = (c.in_ok-ask_all.ensures.gathers under maps held).right said in
    let two = (c.in_ok-ask_all-2.ensures.gathers under maps after).right one in
    (c.in_ok-ask_all-3.ensures.gathers under maps (c.in_ok-ask_all-2.ensures.looks.holds under maps after)).right two

pub returns-clause-asked : goal.returns-clause-asked
returns-clause-asked g c under maps held known =
    let to : Known = known_on maps in
    let after = c.in_ok-ask_all.ensures.looks.holds under maps held in
    let first = first-round to c.args.style.now c.args.reaches c.args.keys.now _ _ c.as_slice-objects.result.now
    c.as_slice-parts.result.now (first-right (gathered_in c.new-answers.result) to c.args.change.now c.new-answers.ensures.said known)
    (c.as_slice-objects.ensures.value ∙ c.in_ok-objects.ensures.asks) (c.in_ok-ask_all.ensures.gathers under maps held)
    (c.as_slice-parts.ensures.value ∙ c.in_ok-parts.ensures.asks) in
    let second = second-round to c.args.style.now c.args.reaches c.args.keys.now _ _ c.as_slice-parts.result.now
    c.as_slice-more.result.now first (c.in_ok-ask_all-2.ensures.gathers under maps after)
    (c.as_slice-more.ensures.value ∙ c.in_ok-more.ensures.asks) in
    third-round to c.args.style.now c.args.reaches c.args.keys.now (gathered_in c.ask_all-2.new.answers)
    (gathered_in c.ask_all-3.new.answers) c.as_slice-more.result.now second
    (c.in_ok-ask_all-3.ensures.gathers under maps (c.in_ok-ask_all-2.ensures.looks.holds under maps after))
