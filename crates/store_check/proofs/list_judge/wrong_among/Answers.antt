-- A record more is judged.
use Rattle.std.proofs.Common.{◌≡◌, ◌⊎◌, ◌+◌, ℕ, List, Option, Some, take, sym, subst, arith}
use Rattle.std.specs.FinMap as finite
use Rattle.row_store.specs.Loading.{Among}
use Rattle.row_store.proofs.LoadLaws.{among_all, among_more, told_at}
use Rattle.back_index.specs.Filling.{IsKeptAt, mentions_tell}
use Rattle.store_check.specs.Wrong.{IsLeastOf}
use Rattle.store_check.proofs.LeastLaws.{least_fewer, least_more}
use Rattle.store_check.proofs.ListRuns.{turned_or}
use Rattle.store_check.proofs.list_judge.wrong_among.Goals as goal

pub loop-key-preserved : goal.loop-key-preserved
loop-key-preserved c kept each =
    let records = c.args.records.now in
    let place = c.loop-key.key-index in
    let one = c.loop-key-item.result in
    let Is = IsKeptAt (mentions_tell c.args.mentions.now.all.now) kept in
    let here = told_at (λ (e : ℕ × List ℕ). finite.get kept e.0 ≡ Some e.1) records place one each c.loop-key-test.true c.loop-key-item.is in
    let there = subst (λ (b : List ℕ). finite.get kept one.0 ≡ Some b) (sym c.as_slice.ensures.items) here in
    let both = c.in_ok-is_told.ensures.told kept there in
    let more = least_more Is (Among (take place records)) c.loop-key.least one.0 c.in_ok-is_told.is_told (c.loop-key.invariant kept each)
    both.0 (λ is own. absurd (cc (is, both.1 own))) in
    subst (λ (found : Option ℕ). IsLeastOf (Among (take (place + 1) records)) Is found) (sym c.see.ensures.seen)
    (least_fewer Is (Among (take (place + 1) records)) (λ k. Among (take place records) k ⊎ (k ≡ one.0)) _
    (λ k among. turned_or (Among (take place records) k) one.0 k (among_more records place one k c.loop-key-test.true c.loop-key-item.is among)) more)

pub returns : goal.returns
returns c = record {
  least = λ kept each.
      let records = c.args.records.now in
      let place = c.loop-key.key-index in
      let Is = IsKeptAt (mentions_tell c.args.mentions.now.all.now) kept in
      subst (λ (found : Option ℕ). IsLeastOf (Among records) Is found) (sym c.key.ensures.key)
      (least_fewer Is (Among records) (Among (take place records)) _
      (λ k among. among_all records place k (omega (arith, c.loop-key-test.false)) among)
      (c.loop-key.invariant kept each));
}
