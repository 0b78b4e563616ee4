-- Each turn writes the records below a changed key, and what the change makes.
use Rattle.std.proofs.Common.{◌≡◌, ◌++◌, ℕ, List, length, drop, sym, ap, subst, ◌∙◌, arith}
use Rattle.std.proofs.lemmas.List.{length_push}
use Rattle.std.proofs.lemmas.Map.Iter.{iter_turn, iter_end}
use Rattle.std.specs.Map.Iter.{deref_pair}
use Rattle.bucket_records.specs.Records.{records_bytes, AreRecords}
use Rattle.bucket_records.specs.Changes.{merged}
use Rattle.bucket_records.proofs.Merges.{AreMade, merge_start, merge_step, merge_end, made_step, merged_rise, entries_merged, rise_tree}
use Rattle.bucket_records.proofs.merging.merged_bytes.Goals as goal

pub loop-key-init : goal.loop-key-init
loop-key-init c = record {
  can = tt;
  finite = tt;
  within = omega arith;
  written = merge_start c.args.records.now c.args.changes.now.entries c.in_ok-out.out.items c.in_ok-out.ensures.items;
  made = λ k low. absurd (omega arith);
}

pub put_change-requires : goal.put_change-requires
put_change-requires c = c.loop-key.invariant.within

pub loop-key-preserved : goal.loop-key-preserved
loop-key-preserved c =
    let entries = c.args.changes.now.entries in
    let yielded = c.loop-key.yielded in
    let start : c.into_iter-key-iterator.result ≡ entries = c.into_iter-key-iterator.ensures.into_iter_gives.0 in
    let turn = iter_turn deref_pair entries yielded c.into_iter-key-iterator.result _ _ _ start c.loop-key.yielded_by
    (c.in-Some.key, c.in-Some.change) c.in-Some.is c.next.ensures.steps in
    let more = length_push yielded (c.in-Some.key, c.in-Some.change) in
    let added = c.in_ok-at.ensures in
    record {
      can = tt;
      finite = tt;
      within = added.within;
      written = subst (λ (n : ℕ). c.put_change.new.out.items
          ++ records_bytes (merged (drop c.in_ok-at.at c.args.records.now) (drop n entries))
          ≡ records_bytes (merged c.args.records.now entries)) (sym more)
          (merge_step c.args.records.now entries (length yielded) c.loop-key.at c.in_ok-at.at c.in-Some.key.now c.in-Some.change.now
          c.loop-key.out.items c.put_change.new.out.items (records_bytes (merged c.args.records.now entries)) turn.1 added.bytes added.next
          c.loop-key.invariant.written);
      made = subst (λ (n : ℕ). AreMade entries n) (sym more)
          (made_step entries (length yielded) c.in-Some.key.now c.in-Some.change.now turn.1 added.are c.loop-key.invariant.made);
    }

pub between-requires-clause-order : goal.between-requires-clause-order
between-requires-clause-order c = omega (arith, c.loop-key.invariant.within, c.len.ensures.len)

pub returns : goal.returns
returns c =
    let entries = c.args.changes.now.entries in
    let records = c.args.records.now in
    let start : c.into_iter-key-iterator.result ≡ entries = c.into_iter-key-iterator.ensures.into_iter_gives.0 in
    let end = iter_end deref_pair entries c.loop-key.yielded c.into_iter-key-iterator.result _ _ _ start c.loop-key.yielded_by
    c.in-None.is c.next.ensures.steps in
    let made = subst (λ (n : ℕ). AreMade entries n) end.1 c.loop-key.invariant.made in
    let rise = rise_tree entries c.len-ordered.ensures.ordered in
    let are = entries_merged records entries c.len.ensures.rise rise made in
    record {
      bytes = merge_end records entries (length c.loop-key.yielded) c.loop-key.at c.len.result c.loop-key.out.items
          c.extend_from_slice.new.self.items c.between.result.now (records_bytes (merged records entries))
          (omega (arith, end.1)) c.len.ensures.len
          c.in_ok-extend_from_slice.ensures.items c.between.ensures.bytes c.loop-key.invariant.written
          ∙ ap records_bytes (sym are);
      rise = subst (λ (l : List (ℕ × List ℕ)). AreRecords 0 l) (sym are) (merged_rise records entries c.len.ensures.rise rise made);
    }
