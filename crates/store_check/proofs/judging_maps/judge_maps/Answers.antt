-- One map after another.
use Rattle.std.proofs.Common.{◌≡◌, Option, Some, None, subst}
use Rattle.osm_base.specs.declared.values.key.Kind.TheVariants as kinds
use Rattle.value_bytes.specs.declared.store_map.StoreMap.TheVariants as stored
use Rattle.bucket_store.specs.Image.{Image}
use Rattle.store_check.specs.declared.wrong.Wrong.{Wrong}
use Rattle.store_check.specs.Judging.{IsRightOf}
use Rattle.store_check.specs.Wrong.{IsWrongIn}
use Rattle.store_check.proofs.FindsLaws.{both_find, finds_err, finds_ok, second_refuses}
use Rattle.store_check.proofs.JudgedMaps.{before_nodes, before_ways, first_of, last_judged}
use Rattle.store_check.proofs.judging_maps.judge_maps.Goals as goal

pub returns-in-Ok-Some : goal.returns-in-Ok-Some
returns-in-Ok-Some g c = record {
  judges = finds_ok c.in-Ok-Some.ensures.least (λ rest has own.
      let asked = c.args.asked in
      let found : c.in-Ok-Some.field-0 ≡ Some c.in-Ok-Some.wrong = cc (c.in-Ok-Some.field-0-is) in
      first_of asked rest kinds.Node c.in-Ok-Some.wrong
      (subst (λ (o : Option Wrong). IsWrongIn (λ map key. IsRightOf asked rest kinds.Node key) stored.Nodes o) found own)
      (before_nodes asked rest));
}

pub returns-in-Err : goal.returns-in-Err
returns-in-Err g c = record { judges = finds_err c.in-Err.ensures.least }

pub returns-in-Ok-Some-judge_map : goal.returns-in-Ok-Some-judge_map
returns-in-Ok-Some-judge_map g c = record {
  judges = both_find c.in-Ok-None.ensures.least c.in-Ok-Some-judge_map.ensures.least (λ rest has first own.
      let asked = c.args.asked in
      let none : c.in-Ok-None.field-0 ≡ None = cc (c.in-Ok-None.field-0-is) in
      let nodes = subst (λ (o : Option Wrong). IsWrongIn (λ map key. IsRightOf asked rest kinds.Node key) stored.Nodes o) none first in
      let found : c.in-Ok-Some-judge_map.field-0 ≡ Some c.in-Ok-Some-judge_map.wrong = cc (c.in-Ok-Some-judge_map.field-0-is) in
      first_of asked rest kinds.Way c.in-Ok-Some-judge_map.wrong
      (subst (λ (o : Option Wrong). IsWrongIn (λ map key. IsRightOf asked rest kinds.Way key) stored.Ways o) found own)
      (before_ways asked rest nodes));
}

pub returns-in-Err-judge_map : goal.returns-in-Err-judge_map
returns-in-Err-judge_map g c = record { judges = second_refuses c.in-Ok-None.ensures.least c.in-Err-judge_map.ensures.least }

pub returns-in-Ok : goal.returns-in-Ok
returns-in-Ok g c = record {
  judges = both_find
      (both_find {Is = λ (rest : Image) (found : Option Wrong).
      IsWrongIn (λ map key. IsRightOf c.args.asked rest kinds.Node key) stored.Nodes None
      × IsWrongIn (λ map key. IsRightOf c.args.asked rest kinds.Way key) stored.Ways None}
      {answer = c.in-Ok-None-judge_map.field-0} c.in-Ok-None.ensures.least c.in-Ok-None-judge_map.ensures.least
      (λ rest has first second.
      let none : c.in-Ok-None.field-0 ≡ None = cc (c.in-Ok-None.field-0-is) in
      let neither : c.in-Ok-None-judge_map.field-0 ≡ None = cc (c.in-Ok-None-judge_map.field-0-is) in (
        subst (λ (o : Option Wrong). IsWrongIn (λ map key. IsRightOf c.args.asked rest kinds.Node key) stored.Nodes o) none first,
        subst (λ (o : Option Wrong). IsWrongIn (λ map key. IsRightOf c.args.asked rest kinds.Way key) stored.Ways o) neither second,
      ))) c.in-Ok.ensures.least (λ rest has right own.
      let mid = c.in-Ok-None.ensures.least.has rest has in
      let last = c.in-Ok-None-judge_map.ensures.least.has rest mid in
      last_judged c.args.asked rest right.0 right.1 c.args.held.now c.judge_map.new.held c.judge_map-2.new.held c.judge_map-3.new.held
      (c.in-Ok-None.ensures.takes rest has) (c.in-Ok-None-judge_map.ensures.takes rest mid) (c.in-Ok.ensures.takes rest last)
      c.in-Ok.found own);
}

pub returns-in-Err-judge_map-2 : goal.returns-in-Err-judge_map-2
returns-in-Err-judge_map-2 g c = record {
  judges = second_refuses
      (both_find {Is = λ (rest : Image) (found : Option Wrong). Unit {0}} {answer = c.in-Ok-None-judge_map.field-0} c.in-Ok-None.ensures.least
      c.in-Ok-None-judge_map.ensures.least (λ rest has first second. tt)) c.in-Err-judge_map-2.ensures.least;
}
