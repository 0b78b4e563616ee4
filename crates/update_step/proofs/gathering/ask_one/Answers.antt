use Rattle.std.proofs.Common.{rules, ◌≡◌, [], ◌∷◌, ◌∙◌, sym, subst}
use Rattle.osm_base.specs.map.Known.{Known}
use Rattle.store_maps.specs.Named.{known_on}
use Rattle.update_step.specs.Gather.{AlongWay, Ask, AroundNode, AtNode, Gathered, Gathers, OfKey, gathered_in}
use Rattle.update_step.proofs.Asking.{with_along-gathers, with_around-gathers, with_form-gathers, with_place-gathers}
use Rattle.update_step.proofs.gathering.ask_one.Goals as goal

-- the answer to this ask, which is kept
of_ask : (to : Known) (old new with : Gathered) (own ask : Ask) → own ≡ ask → new ≡ with → Gathers to old with (ask ∷ [])
    → Gathers to old new (own ∷ [])
of_ask to old new with own ask same are all = subst (λ (own : Ask). Gathers to old new (own ∷ [])) (sym same)
    (subst (λ (new : Gathered). Gathers to old new (ask ∷ [])) (sym are) all)

pub returns-in_ok-put_place-in-AtNode-clause-gathers : goal.returns-in_ok-put_place-in-AtNode-clause-gathers
returns-in_ok-put_place-in-AtNode-clause-gathers g c under maps held =
    let to : Known = known_on maps in
    let old : Gathered = gathered_in c.args.answers.now in
    let found : c.in_ok-place-in-AtNode.place ≡ to.place c.in-AtNode.id = search (rules, held) in
    of_ask to old _ _ c.args.ask (AtNode c.in-AtNode.id) c.in-AtNode.is c.in_ok-put_place-in-AtNode.ensures.ok
    (with_place-gathers to old c.in-AtNode.id c.in_ok-place-in-AtNode.place found)

pub returns-in_ok-put_form-in-OfKey-clause-gathers : goal.returns-in_ok-put_form-in-OfKey-clause-gathers
returns-in_ok-put_form-in-OfKey-clause-gathers g c under maps held =
    let to : Known = known_on maps in
    let old : Gathered = gathered_in c.args.answers.now in
    let found : c.in_ok-form-in-OfKey.form ≡ to.object c.in-OfKey.key = search (rules, held) in
    of_ask to old _ _ c.args.ask (OfKey c.in-OfKey.key) c.in-OfKey.is c.in_ok-put_form-in-OfKey.ensures.ok
    (with_form-gathers to old c.in-OfKey.key c.in_ok-form-in-OfKey.form found)

pub returns-in_ok-put_along-in-AlongWay-clause-gathers : goal.returns-in_ok-put_along-in-AlongWay-clause-gathers
returns-in_ok-put_along-in-AlongWay-clause-gathers g c under maps held =
    let to : Known = known_on maps in
    let old : Gathered = gathered_in c.args.answers.now in
    let found : c.in_ok-ids-in-AlongWay.ids ≡ to.relations_of_way c.in-AlongWay.id = search (rules, held) in
    of_ask to old _ _ c.args.ask (AlongWay c.in-AlongWay.id) c.in-AlongWay.is c.in_ok-put_along-in-AlongWay.ensures.ok
    (with_along-gathers to old c.in-AlongWay.id c.new.result
    (c.new.ensures.ids ∙ found))

pub returns-in_ok-put_around-in-AroundNode-clause-gathers : goal.returns-in_ok-put_around-in-AroundNode-clause-gathers
returns-in_ok-put_around-in-AroundNode-clause-gathers g c under maps held =
    let to : Known = known_on maps in
    let old : Gathered = gathered_in c.args.answers.now in
    let found : c.in_ok-ids-in-AroundNode.ids ≡ to.relations_of_node c.in-AroundNode.id = search (rules, held) in
    of_ask to old _ _ c.args.ask (AroundNode c.in-AroundNode.id) c.in-AroundNode.is c.in_ok-put_around-in-AroundNode.ensures.ok
    (with_around-gathers to old c.in-AroundNode.id c.new-in-AroundNode.result
    (c.new-in-AroundNode.ensures.ids ∙ found))
