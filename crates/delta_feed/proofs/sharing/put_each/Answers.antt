use Rattle.std.proofs.Common.{◌≡◌, ◌+◌, ℕ, List, [], drop, sym, subst, arith, Vec, Global}
use Rattle.std.proofs.lemmas.List.{drop_all}
use Rattle.std.specs.Io.KnownBytes.{Appends}
use Rattle.outside.specs.Bytes.{AppendsPrefix}
use Rattle.opl_object.proofs.Puts.{Appends-nothing, Appends-then, AppendsPrefix-more, AppendsPrefix-then, err-by}
use Rattle.delta_feed.proofs.Together.{bytes_more, bytes_of}
use Rattle.delta_feed.proofs.sharing.put_each.Goals as goal

pub returns-in_err-put_all-clause-err : goal.returns-in_err-put_all-clause-err
returns-in_err-put_all-clause-err g c =
    let texts = c.args.texts.now in
    let place = c.loop-text.text-index in
    let text = c.text-item.result in
    let old = (g.S.Sink.view c.loop-text.out).taken in
    let new = (g.S.Sink.view c.put_all.new.out).taken in
    let more = bytes_more texts place text c.loop-text-test.true c.text-item.is in
    let front = subst (λ (own : List ℕ). AppendsPrefix old new own) c.deref.ensures.value c.in_err-put_all.ensures.err in
    err-by c.from_residual.result (g.S.Sink.view c.args.out.now).taken new (bytes_of texts) (c.loop-text.invariant.front new
    (subst (λ (own : List ℕ). AppendsPrefix old new own) (sym more)
    (AppendsPrefix-more old new text.items (bytes_of (drop (place + 1) texts)) front)))

pub loop-text-preserved : goal.loop-text-preserved
loop-text-preserved g c =
    let texts = c.args.texts.now in
    let place = c.loop-text.text-index in
    let text = c.text-item.result in
    let old = (g.S.Sink.view c.loop-text.out).taken in
    let new = (g.S.Sink.view c.put_all.new.out).taken in
    let more = bytes_more texts place text c.loop-text-test.true c.text-item.is in
    let put = subst (λ (own : List ℕ). Appends old new own) c.deref.ensures.value c.in_ok-put_all.ensures.ok in
    let behind = bytes_of (drop (place + 1) texts) in
    record {
      all = λ after rest. c.loop-text.invariant.all after (subst (λ (own : List ℕ). Appends old after own) (sym more)
          (Appends-then old new after text.items behind put rest));
      front = λ after rest. c.loop-text.invariant.front after (subst (λ (own : List ℕ). AppendsPrefix old after own) (sym more)
          (AppendsPrefix-then old new after text.items behind put rest));
      later = omega (arith, c.loop-text.invariant.later, c.in_ok-put_all.ensures.cause.later);
    }

pub returns-clause-ok : goal.returns-clause-ok
returns-clause-ok g c =
    let out = (g.S.Sink.view c.loop-text.out).taken in
    let none : drop c.loop-text.text-index c.args.texts.now ≡ [] =
    drop_all c.loop-text.text-index c.args.texts.now (omega (arith, c.loop-text-test.false)) in
    c.loop-text.invariant.all out (subst (λ (own : List (Vec ℕ Global)). Appends out out (bytes_of own)) (sym none) (Appends-nothing out))
