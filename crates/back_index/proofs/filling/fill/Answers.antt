-- One map after another is filled.
use Rattle.std.proofs.Common.{rules}
use Rattle.back_index.proofs.Chained.{ready_after}
use Rattle.back_index.proofs.Fills.{all_filled, blocks_may, nodes_may, ways_may}
use Rattle.back_index.proofs.Reading.{on_ok}
use Rattle.back_index.proofs.filling.fill.Goals as goal

pub fill_map-requires-2 : goal.fill_map-requires-2
fill_map-requires-2 g c = record {
  ready = ready_after c.args.buckets.now c.fill_map.new.buckets tt c.requires.ready c.in_default.ensures.touches.answers;
}

pub fill_map-requires-3 : goal.fill_map-requires-3
fill_map-requires-3 g c = record {
  ready = ready_after c.fill_map.new.buckets c.fill_map-2.new.buckets tt
      (ready_after c.args.buckets.now c.fill_map.new.buckets tt c.requires.ready c.in_default.ensures.touches.answers)
      c.in_default-fill_map.ensures.touches.answers;
}

pub returns-clause-fills : goal.returns-clause-fills
returns-clause-fills g c =
    on_ok (Unit {0}) _ _ c.fill_map-3.result
    (λ fills rest now owns none.
    let first = c.in_default.ensures.fills rest now owns in
    let second = c.in_default-fill_map.ensures.fills rest first.0 first.1 in
    let third = fills rest second.0 second.1 in (
      third.0,
      third.1,
      all_filled c.args.entries.now now first.0 second.0 third.0 none first.2 first.3 second.2 second.3 third.2 third.3,
    ))
    c.fill_map-3.ensures.fills

pub returns-in-Err-clause-touches : goal.returns-in-Err-clause-touches
returns-in-Err-clause-touches g c = record {
  answers = search rules;
  reads = search rules;
  stops = λ rest now owns. c.in-Err.ensures.touches.stops rest now owns;
  within = λ may all only. c.in-Err.ensures.touches.within may (blocks_may may c.args.entries.now all) only;
}

pub returns-in-Err-fill_map-clause-touches : goal.returns-in-Err-fill_map-clause-touches
returns-in-Err-fill_map-clause-touches g c = record {
  answers = search rules;
  reads = search rules;
  stops = λ rest now owns.
      let first = c.in_default.ensures.fills rest now owns in
      c.in-Err-fill_map.ensures.touches.stops rest first.0 first.1;
  within = λ may all only. c.in-Err-fill_map.ensures.touches.within may (nodes_may may c.args.entries.now all)
      (c.in_default.ensures.touches.within may (blocks_may may c.args.entries.now all) only);
}

pub returns-clause-touches : goal.returns-clause-touches
returns-clause-touches g c = record {
  answers = search rules;
  reads = search rules;
  stops = λ rest now owns.
      let first = c.in_default.ensures.fills rest now owns in
      let second = c.in_default-fill_map.ensures.fills rest first.0 first.1 in
      c.fill_map-3.ensures.touches.stops rest second.0 second.1;
  within = λ may all only.
      let entries = c.args.entries.now in
      c.fill_map-3.ensures.touches.within may (ways_may may entries all)
      (c.in_default-fill_map.ensures.touches.within may (nodes_may may entries all)
      (c.in_default.ensures.touches.within may (blocks_may may entries all) only));
}
