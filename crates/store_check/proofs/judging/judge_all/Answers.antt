-- A record more.
use Rattle.std.proofs.Common.{◌≡◌, ◌⊎◌, inl, inr, ◌+◌, ℕ, List, Option, Some, true, sym, ap, subst, ◌∙◌, take, arith}
use Rattle.row_store.specs.Loading.{Among}
use Rattle.row_store.proofs.LoadLaws.{among_all, among_more, told_at}
use Rattle.store_check.specs.Judging.{IsRightAt, IsRightOf, bytes_in}
use Rattle.store_check.specs.Wrong.{IsLeastOf}
use Rattle.store_check.proofs.LeastLaws.{least_fewer, least_more}
use Rattle.store_check.proofs.Taking.{takes_fewer, takes_then}
use Rattle.store_check.proofs.judging.judge_all.Goals as goal

pub loop-key-preserved : goal.loop-key-preserved
loop-key-preserved c =
    let asked = c.args.asked in
    let kind = c.args.kind in
    let records = c.args.records.now in
    let place = c.loop-key.key-index in
    let one = c.loop-key-item.result in
    let right = c.in_ok-is_right.ensures.right in
    record {
      takes = λ image are.
          let there = told_at (λ (e : ℕ × List ℕ). bytes_in image kind e.0 ≡ Some e.1) records place one are c.loop-key-test.true
          c.loop-key-item.is in
          takes_then asked image kind (Among (take place records)) (λ own. one.0 ≡ own) (Among (take (place + 1) records))
          c.args.held.now c.loop-key.held c.judge.new.held (c.loop-key.invariant.takes image are)
          (c.in_ok-is_right.ensures.takes image (there ∙ ap (λ (bytes : List ℕ). Some bytes) (sym c.as_slice.ensures.items)))
          (λ own among. among_more records place one own c.loop-key-test.true c.loop-key-item.is among);
      least = λ image are was_seen before.
          let there = told_at (λ (e : ℕ × List ℕ). bytes_in image kind e.0 ≡ Some e.1) records place one are c.loop-key-test.true
          c.loop-key-item.is ∙ ap (λ (bytes : List ℕ). Some bytes) (sym c.as_slice.ensures.items) in
          let Seen = λ (key : ℕ). (was_seen key ≡ true) ⊎ Among (take place records) key in
          let more = least_more (IsRightOf asked image kind) Seen c.loop-key.least one.0 c.in_ok-is_right.is_right
          (c.loop-key.invariant.least image are was_seen before)
          (λ is. subst (λ (o : Option (List ℕ)). IsRightAt asked kind one.0 o) (sym there) (right.0 is))
          (λ not is. let so = right.1 (subst (λ (o : Option (List ℕ)). IsRightAt asked kind one.0 o) there is) in absurd (cc (so, not))) in
          least_fewer (IsRightOf asked image kind)
          (λ key. (was_seen key ≡ true) ⊎ Among (take (place + 1) records) key) (λ key. Seen key ⊎ (key ≡ one.0)) c.see.new.self
          (λ key part. elim part [
            | inl seen ↦ inl (inl seen)
            | inr among ↦ elim (among_more records place one key c.loop-key-test.true c.loop-key-item.is among) [
              | inl before ↦ inl (inr before)
              | inr here ↦ inr (sym here)
            ]
          ])
          (subst (λ (found : Option ℕ). IsLeastOf (λ key. Seen key ⊎ (key ≡ one.0)) (IsRightOf asked image kind) found)
          (sym c.see.ensures.seen) more);
    }

pub returns-clause-takes : goal.returns-clause-takes
returns-clause-takes c image are =
    let records = c.args.records.now in
    let place = c.loop-key.key-index in
    takes_fewer c.args.asked image c.args.kind (Among records) (Among (take place records)) c.args.held.now c.loop-key.held
    (c.loop-key.invariant.takes image are) (λ key among. among_all records place key (omega (arith, c.loop-key-test.false)) among)

pub returns-clause-least : goal.returns-clause-least
returns-clause-least c image are was_seen before =
    let records = c.args.records.now in
    let place = c.loop-key.key-index in
    least_fewer (IsRightOf c.args.asked image c.args.kind) (λ key. (was_seen key ≡ true) ⊎ Among records key)
    (λ key. (was_seen key ≡ true) ⊎ Among (take place records) key) c.loop-key.least
    (λ key part. elim part [
      | inl seen ↦ inl seen
      | inr among ↦ inr (among_all records place key (omega (arith, c.loop-key-test.false)) among)
    ])
    (c.loop-key.invariant.least image are was_seen before)
