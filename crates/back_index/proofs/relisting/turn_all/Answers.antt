-- One list after another is turned.
use Rattle.std.proofs.Common.{rules, ◌≡◌, ◌<◌, ◌∙◌, ℕ, List, Option, Bool, Ok, length, map, take, get_or, sym, subst, true}
use Rattle.std.specs.List.{AllByRecursion}
use Rattle.std.specs.FinMap as finite
use Rattle.std.proofs.lemmas.List.{get_or_default, take_all, take_more}
use Rattle.osm_base.specs.values.Ids.{has}
use Rattle.bucket_store.specs.Image.{Has, Image}
use Rattle.value_bytes.specs.StoreMap.{map_number}
use Rattle.back_index.specs.Calls.{page_at}
use Rattle.back_index.specs.Relisting.{CanTurn, TurnsAt, kept_list, turned}
use Rattle.back_index.specs.Visits.{IsFine, Sets, StopsAt, visit_of}
use Rattle.back_index.specs.declared.visit.Visit.{Visit}
use Rattle.back_index.proofs.Chained.{answers_none, answers_then, page_same, ready_after}
use Rattle.back_index.proofs.Reading.{refuses_more}
use Rattle.back_index.proofs.Turning.{all_more, before_none, fine_more, only_none, only_then, stops_there, turns_more, turns_none}
use Rattle.back_index.proofs.WayLaws.{at_place}
use Rattle.back_index.specs.Asking.{reads_more, reads_none}
use Rattle.back_index.proofs.relisting.turn_all.Goals as goal

pub loop-id-init : goal.loop-id-init
loop-id-init g c = record {
  ready = c.requires.ready;
  answers = answers_none {T = Unit {0}} c.args.buckets.now tt c.requires.ready.going;
  reads = reads_none c.args.buckets.now;
  within = λ may all only. only;
  turns = λ rest now owns. (
    now,
    owns,
    only_none (map_number c.args.map) now,
    turns_none c.args.own c.args.old.now c.args.new.now (now.maps (map_number c.args.map)),
  );
  fine = λ rest now owns. tt;
}

pub loop-id-preserved : goal.loop-id-preserved
loop-id-preserved g c =
    let before = c.loop-id.buckets in
    let after = c.turn_list.new.buckets in
    let which : ℕ = map_number c.args.map in
    let own = c.args.own in
    let old = c.args.old.now in
    let new = c.args.new.now in
    let ids = c.args.ids.now in
    let k = c.loop-id.id-index in
    let id = get_or ids k 0 in
    let within : k < length ids = c.loop-id-test.true in
    let more = take_more ids k 0 within in
    let fresh = before_none ids k 0 c.requires.rise within in
    let inv = c.loop-id.invariant in
    let did = c.in_default.ensures in
    let can_of : (rest now : Image) (owns : Has rest now c.args.buckets.now) → CanTurn (has old id) own
    (finite.get ((inv.turns rest now owns).0.maps which) id) (did.turns rest (inv.turns rest now owns).0 (inv.turns rest now owns).1).2 =
    λ rest now owns.
    subst (λ (b : Bool). CanTurn b own (finite.get ((inv.turns rest now owns).0.maps which) id)
    (did.turns rest (inv.turns rest now owns).0 (inv.turns rest now owns).1).2)
    c.contains.ensures.value (did.turns rest (inv.turns rest now owns).0 (inv.turns rest now owns).1).3 in
    let sets_of : (rest now : Image) (owns : Has rest now c.args.buckets.now)
    → Sets which id (kept_list (turned (has old id) (has new id) own
    (did.turns rest (inv.turns rest now owns).0 (inv.turns rest now owns).1).2))
    (inv.turns rest now owns).0 (did.turns rest (inv.turns rest now owns).0 (inv.turns rest now owns).1).0 = λ rest now owns.
    let turns = did.turns rest (inv.turns rest now owns).0 (inv.turns rest now owns).1 in
    subst (λ (v : Option (List ℕ)). Sets which id v (inv.turns rest now owns).0 turns.0)
    (λ i. kept_list (turned (c.contains.ensures.value i) (c.contains-in-loop-id.ensures.value i) own turns.2)) turns.4 in
    record {
      ready = ready_after before after tt inv.ready did.touches.answers;
      answers = answers_then c.args.buckets.now before after tt (Ok tt) inv.answers did.touches.answers;
      reads = reads_more c.args.buckets.now before after inv.reads did.touches.reads;
      within = λ may all only. did.touches.within may (at_place (λ (id : ℕ). may which id ≡ true) ids k 0 within all)
          (inv.within may all only);
      turns = λ rest now owns.
          let was = inv.turns rest now owns in
          let turns = did.turns rest was.0 was.1 in (
            turns.0,
            turns.1,
            only_then which now was.0 turns.0 was.2 turns.4.only,
            subst (λ (l : List ℕ). TurnsAt own old new l (now.maps which) (turns.0.maps which)) (sym more)
                (turns_more own c.args.map old new (take k ids) now was.0 turns.0 id turns.2 fresh was.3 (can_of rest now owns)
                (sets_of rest now owns)),
          );
      fine = λ rest now owns.
          let was = inv.turns rest now owns in
          let turns = did.turns rest was.0 was.1 in
          subst (λ (l : List ℕ). AllByRecursion (IsFine now own) (map (visit_of c.args.map old new) l)) (sym more)
          (all_more (IsFine now own) (visit_of c.args.map old new) (take k ids) id (inv.fine rest now owns)
          (fine_more own c.args.map old new (take k ids) now was.0 turns.0 id turns.2 fresh was.3 (can_of rest now owns)
          (sets_of rest now owns)));
    }

pub returns-in-Err-clause-touches : goal.returns-in-Err-clause-touches
returns-in-Err-clause-touches g c = record {
  answers = search rules;
  reads = search rules;
  stops = λ rest now owns.
      let which : ℕ = map_number c.args.map in
      let own = c.args.own in
      let old = c.args.old.now in
      let new = c.args.new.now in
      let ids = c.args.ids.now in
      let k = c.loop-id.id-index in
      let id = get_or ids k 0 in
      let within : k < length ids = c.loop-id-test.true in
      let fresh = before_none ids k 0 c.requires.rise within in
      let inv = c.loop-id.invariant in
      let was = inv.turns rest now owns in
      let visit : Visit = record { map = c.args.map; id = id; was = c.contains.result; is = c.contains-in-loop-id.result } in
      let still : IsFine now own (visit_of c.args.map old new id) → IsFine was.0 own visit = λ fine. (
        fine.0,
        subst (λ (o : Option (List ℕ)). CanTurn c.contains.result own o fine.0) (sym (was.3.others id fresh))
            (subst (λ (b : Bool). CanTurn b own (finite.get (now.maps which) id) fine.0) (sym c.contains.ensures.value) fine.1),
      ) in
      refuses_more (λ at. (¬ IsFine was.0 own visit) × (at ≡ page_at c.loop-id.buckets visit))
      (StopsAt (IsFine now own) (page_at c.args.buckets.now) (map (visit_of c.args.map old new) ids))
      (λ at bad. stops_there (IsFine now own) (page_at c.args.buckets.now) (visit_of c.args.map old new) ids k id at within
      (get_or_default ids k 0 id within)
      (inv.fine rest now owns) (λ fine. bad.0 (still fine))
      (bad.1 ∙ page_same c.args.buckets.now c.loop-id.buckets which id inv.answers.stays))
      c.in-Err.fault (c.in-Err.ensures.touches.stops rest was.0 was.1);
  within = λ may all only. c.in-Err.ensures.touches.within may
      (at_place (λ (id : ℕ). may (map_number c.args.map) id ≡ true) c.args.ids.now c.loop-id.id-index 0 c.loop-id-test.true all)
      (c.loop-id.invariant.within may all only);
}

pub returns-clause-turns : goal.returns-clause-turns
returns-clause-turns g c rest now owns =
    let was = c.loop-id.invariant.turns rest now owns in (
      was.0,
      was.1,
      was.2,
      subst (λ (l : List ℕ). TurnsAt c.args.own c.args.old.now c.args.new.now l (now.maps (map_number c.args.map))
          (was.0.maps (map_number c.args.map)))
          (take_all c.loop-id.id-index c.args.ids.now c.loop-id-test.false) was.3,
    )
