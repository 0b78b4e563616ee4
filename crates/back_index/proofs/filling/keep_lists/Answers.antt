-- One after another is told, and each list is put when the next one begins.
use Rattle.std.proofs.Common.{rules, arith, ◌≡◌, ◌≤◌, ◌<◌, ◌+◌, ◌∙◌, ℕ, List, [], ◌∷◌, ◌++◌, Ok, true, length, take, get_or, sym, ap, subst}
use Rattle.std.proofs.lemmas.List.{get_or_default, take_all, take_more}
use Rattle.bucket_store.specs.Image.{with_value}
use Rattle.value_bytes.specs.StoreMap.{map_number}
use Rattle.back_index.specs.Relisting.{kept_list}
use Rattle.back_index.specs.Asking.{reads_more, reads_none}
use Rattle.back_index.specs.Filling.{AreIds, AreKept, MentionRuns, mentions_tell}
use Rattle.back_index.specs.declared.mentions.Mention.{Mention}
use Rattle.back_index.proofs.Chained.{answers_none, answers_then, ready_after}
use Rattle.back_index.proofs.Filled.{no_ids_there, no_mention, nothing, runs_kept, runs_none}
use Rattle.back_index.proofs.Fills.{kept_none, told_there}
use Rattle.back_index.proofs.ReadKeys.{reads_then}
use Rattle.back_index.proofs.Reading.{on_ok}
use Rattle.back_index.proofs.Turning.{only_none, only_then, sets_put}
use Rattle.back_index.proofs.filling.keep_lists.Goals as goal

pub returns-then-is_empty-clause-fills : goal.returns-then-is_empty-clause-fills
returns-then-is_empty-clause-fills g c rest now owns =
    let none : c.args.mentions.now ≡ [] = nothing c.args.mentions.now (sym c.if-is_empty.true ∙ c.is_empty.ensures) in (
      now,
      owns,
      only_none (map_number c.args.map) now,
      λ void. kept_none c.args.mentions.now (now.maps (map_number c.args.map)) none void,
    )

pub loop-mention-init : goal.loop-mention-init
loop-mention-init g c =
    let none : c.new.result.items ≡ [] = search rules in
    record {
      ready = c.requires.ready;
      answers = answers_none {T = Unit {0}} c.args.buckets.now tt c.requires.ready.going;
      reads = reads_none c.args.buckets.now;
      at = λ may all.
          let items : List Mention = c.args.mentions.now in
          let first : Mention = get_or items 0 no_mention in
          let some : 0 < length items = search rules in
          all first.id first.own (told_there items 0 first some (get_or_default items 0 no_mention first some));
      within = λ may all only. only;
      ids = subst AreIds (sym none) no_ids_there;
      order = λ own within.
          let first : ℕ = (get_or c.args.mentions.now 0 no_mention).id in
          subst (λ (m : Mention). first ≤ m.id) (get_or_default c.args.mentions.now 0 no_mention own within) (omega arith);
      runs = λ rest now owns. (
        now,
        owns,
        only_none (map_number c.args.map) now,
        λ void. subst (λ (ids : List ℕ). MentionRuns [] (get_or c.args.mentions.now 0 no_mention).id ids (now.maps (map_number c.args.map)))
            (sym none)
            (runs_none (get_or c.args.mentions.now 0 no_mention).id (now.maps (map_number c.args.map)) void),
      );
    }

pub add_mention-requires-clause-order : goal.add_mention-requires-clause-order
add_mention-requires-clause-order g c = c.loop-mention.invariant.order no_mention c.loop-mention-test.true

pub add_mention-requires-clause-own : goal.add_mention-requires-clause-own
add_mention-requires-clause-own g c =
    let items : List Mention = c.args.mentions.now in
    let k : ℕ = c.loop-mention.mention-index in
    let own : Mention = get_or items k no_mention in
    c.requires.ids own.id own.own (told_there items k own c.loop-mention-test.true
    (get_or_default items k no_mention own c.loop-mention-test.true))

pub loop-mention-preserved : goal.loop-mention-preserved
loop-mention-preserved g c =
    let before = c.loop-mention.buckets in
    let after = c.add_mention.new.buckets in
    let which : ℕ = map_number c.args.map in
    let items : List Mention = c.args.mentions.now in
    let k : ℕ = c.loop-mention.mention-index in
    let within : k < length items = c.loop-mention-test.true in
    let own : Mention = get_or items k no_mention in
    let inv = c.loop-mention.invariant in
    let did = c.in_default.ensures in
    let more : take (k + 1) items ≡ take k items ++ own ∷ [] = take_more items k no_mention within in
    record {
      ready = ready_after before after tt inv.ready did.touches.answers;
      answers = answers_then c.args.buckets.now before after tt (Ok tt) inv.answers did.touches.answers;
      reads = reads_more c.args.buckets.now before after inv.reads did.touches.reads;
      at = λ may all.
          subst (λ (n : ℕ). may which n ≡ true) (sym did.at)
          (all own.id own.own (told_there items k own within (get_or_default items k no_mention own within)));
      within = λ may all only. did.touches.within may (inv.at may all) (inv.within may all only);
      ids = did.ids;
      order = λ other next.
          let rises = c.requires.order k (k + 1) other (omega arith) next in
          let at : c.add_mention.new.run.id ≡ (get_or items k other).id =
          did.at ∙ ap (λ (m : Mention). m.id) (get_or_default items k no_mention other within) in
          subst (λ (n : ℕ). n ≤ (get_or items (k + 1) other).id) (sym at) rises;
      runs = λ rest now owns.
          let was = inv.runs rest now owns in
          let next = did.runs rest was.0 was.1 in (
            next.0,
            next.1,
            only_then which now was.0 next.0 was.2 next.2,
            λ void. subst (λ (l : List Mention). MentionRuns l c.add_mention.new.run.id c.add_mention.new.run.ids.items (next.0.maps which))
                (sym more) (next.3 (take k items) (was.3 void)),
          );
    }

pub returns-in-Err-clause-touches : goal.returns-in-Err-clause-touches
returns-in-Err-clause-touches g c = record {
  answers = search rules;
  reads = search rules;
  stops = λ rest now owns.
      let was = c.loop-mention.invariant.runs rest now owns in
      c.in-Err.ensures.touches.stops rest was.0 was.1;
  within = λ may all only.
      c.in-Err.ensures.touches.within may (c.loop-mention.invariant.at may all) (c.loop-mention.invariant.within may all only);
}

pub returns-clause-touches : goal.returns-clause-touches
returns-clause-touches g c = record {
  answers = search rules;
  reads =
      reads_then c.args.buckets.now c.loop-mention.buckets c.keep_run.new.buckets c.keep_run.result c.loop-mention.invariant.reads
      c.keep_run.ensures.touches.reads;
  stops = λ rest now owns.
      let was = c.loop-mention.invariant.runs rest now owns in
      c.keep_run.ensures.touches.stops rest was.0 was.1;
  within = λ may all only.
      c.keep_run.ensures.touches.within may (c.loop-mention.invariant.at may all) (c.loop-mention.invariant.within may all only);
}

pub returns-clause-fills : goal.returns-clause-fills
returns-clause-fills g c =
    let which : ℕ = map_number c.args.map in
    let items : List Mention = c.args.mentions.now in
    let k : ℕ = c.loop-mention.mention-index in
    let run = c.loop-mention.run in
    on_ok (Unit {0}) _ _ c.keep_run.result
    (λ keeps rest now owns.
    let was = c.loop-mention.invariant.runs rest now owns in
    let kept = keeps rest was.0 was.1 in
    let after = with_value which run.id (kept_list kept.0) was.0 in
    let sets = sets_put which run.id (kept_list kept.0) was.0 in (
      after,
      kept.3,
      only_then which now was.0 after was.2 sets.only,
      λ void. subst (λ (l : List Mention). AreKept (mentions_tell l) (after.maps which)) (take_all k items c.loop-mention-test.false)
          (runs_kept (take k items) run.id run.ids.items kept.0 (was.0.maps which) (after.maps which)
          (was.3 void) kept.1 kept.2 sets.here sets.beside),
    ))
    c.keep_run.ensures.keeps
