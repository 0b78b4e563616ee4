use Rattle.std.proofs.Common.{rules, ◌≡◌, ◌++◌, ◌∙◌, List, ℕ, [], ap, arith, drop, length, length-append, refl, subst, sym}
use Rattle.std.proofs.lemmas.Grind.{common_steps}
use Rattle.std.proofs.lemmas.List.{length-drop}
use Rattle.opl_files.specs.declared.ahead.Ahead.{Ahead}
use Rattle.opl_files.specs.declared.passed.Passed.{Passed}
use Rattle.opl_files.specs.Ahead.{HasRoom, most_of_lot}
use Rattle.opl_files.specs.Lots.{most_kept}
use Rattle.opl_files.specs.Parts.{AreShares, GoesOn}
use Rattle.opl_files.proofs.PartLaws.{shares_within}
use Rattle.opl_files.proofs.LotLaws.{cut_stop, lots_stop, turned}
use Rattle.opl_files.proofs.Pieces.{on_err}
use Rattle.opl_files.proofs.lots.LotReader.take_lot.Goals as goal

pub returns-in_err-lot-clause-left : goal.returns-in_err-lot-clause-left
returns-in_err-lot-clause-left g c =
    let reader = c.args.self.now in
    let waits = reader.waiting.bytes.items in
    let kept = reader.ahead.kept.items in
    on_err c.from_residual.result _ (λ first start has.
    lots_stop g.K.Keeper.after c.args.limits.now first reader.waiting.passed c.args.keeper.now (waits ++ kept) (most_kept reader) start
    ((g.I.Inputs.view c.args.inputs.now).left c.args.file) has.lots
    (omega (arith, length-append waits kept, c.requires.ready.reading.few, c.requires.ready.next)))

-- a lot was read, or was not, and more was read ahead

pub returns-in_err-used-clause-left : goal.returns-in_err-used-clause-left
returns-in_err-used-clause-left g c =
    let reader = c.args.self.now in
    let lot = c.in-Some.lot.items in
    let cut : lot ++ c.cut.new.self.kept.items ≡ reader.ahead.kept.items = search rules in
    let left = (g.I.Inputs.view c.args.inputs.now).left c.args.file in
    let rest = (g.I.Inputs.view c.read_beside.new.inputs).left c.args.file in
    on_err c.from_residual-in_err-used.result _ (λ first start has.
    cut_stop g.K.Keeper.after c.args.limits.now first reader.waiting.passed c.args.keeper.now reader.waiting.bytes.items lot reader.ahead.kept.items
    c.cut.new.self (most_kept reader) (most_of_lot c.cut.new.self) start left rest has.lots cut c.read_beside.ensures.ahead.left
    (omega (arith, ap (λ (own : Ahead). own.lot) c.in_ok-lot.ensures.same, c.requires.ready.reading.few, c.requires.ready.next)))

pub returns-in_err-drop_front-clause-left : goal.returns-in_err-drop_front-clause-left
returns-in_err-drop_front-clause-left g c =
    let reader = c.args.self.now in
    let lot = c.in-Some.lot.items in
    let cut : lot ++ c.cut.new.self.kept.items ≡ reader.ahead.kept.items = search rules in
    let left = (g.I.Inputs.view c.args.inputs.now).left c.args.file in
    let rest = (g.I.Inputs.view c.read_beside.new.inputs).left c.args.file in
    on_err c.from_residual-in_err-drop_front.result _ (λ first start has.
    cut_stop g.K.Keeper.after c.args.limits.now first reader.waiting.passed c.args.keeper.now reader.waiting.bytes.items lot reader.ahead.kept.items
    c.cut.new.self (most_kept reader) (most_of_lot c.cut.new.self) start left rest has.lots cut c.read_beside.ensures.ahead.left
    (omega (arith, ap (λ (own : Ahead). own.lot) c.in_ok-lot.ensures.same, c.requires.ready.reading.few, c.requires.ready.next)))

pub returns-in_err-rest-clause-left : goal.returns-in_err-rest-clause-left
returns-in_err-rest-clause-left g c =
    let reader = c.args.self.now in
    let lot = c.in-Some.lot.items in
    let cut : lot ++ c.cut.new.self.kept.items ≡ reader.ahead.kept.items = search rules in
    let left = (g.I.Inputs.view c.args.inputs.now).left c.args.file in
    let rest = (g.I.Inputs.view c.read_beside.new.inputs).left c.args.file in
    on_err c.from_residual-in_err-rest.result _ (λ first start has.
    cut_stop g.K.Keeper.after c.args.limits.now first reader.waiting.passed c.args.keeper.now reader.waiting.bytes.items lot reader.ahead.kept.items
    c.cut.new.self (most_kept reader) (most_of_lot c.cut.new.self) start left rest has.lots cut c.read_beside.ensures.ahead.left
    (omega (arith, ap (λ (own : Ahead). own.lot) c.in_ok-lot.ensures.same, c.requires.ready.reading.few, c.requires.ready.next)))

pub returns-in_err-put_back-clause-left : goal.returns-in_err-put_back-clause-left
returns-in_err-put_back-clause-left g c =
    let reader = c.args.self.now in
    let lot = c.in-Some.lot.items in
    let cut : lot ++ c.cut.new.self.kept.items ≡ reader.ahead.kept.items = search rules in
    let left = (g.I.Inputs.view c.args.inputs.now).left c.args.file in
    let rest = (g.I.Inputs.view c.read_beside.new.inputs).left c.args.file in
    on_err c.from_residual-in_err-put_back.result _ (λ first start has.
    cut_stop g.K.Keeper.after c.args.limits.now first reader.waiting.passed c.args.keeper.now reader.waiting.bytes.items lot reader.ahead.kept.items
    c.cut.new.self (most_kept reader) (most_of_lot c.cut.new.self) start left rest has.lots cut c.read_beside.ensures.ahead.left
    (omega (arith, ap (λ (own : Ahead). own.lot) c.in_ok-lot.ensures.same, c.requires.ready.reading.few, c.requires.ready.next)))

pub returns-then-is_empty-clause-lots : goal.returns-then-is_empty-clause-lots
returns-then-is_empty-clause-lots g c = λ first start has.
    let reader = c.args.self.now in
    let lot = c.in-Some.lot.items in
    let cut : lot ++ c.cut.new.self.kept.items ≡ reader.ahead.kept.items = search rules in
    let left = (g.I.Inputs.view c.args.inputs.now).left c.args.file in
    let rest = (g.I.Inputs.view c.read_beside.new.inputs).left c.args.file in
    let used = c.in_ok-used.used in
    let given = c.in_ok-used.ensures.given in
    let front : c.drop_front.new.kept.items ≡ drop used reader.waiting.bytes.items =
    c.in_ok-drop_front.ensures.ok ∙ ap (λ own. drop used own) given.bytes in
    let all = c.in_ok-rest.ensures.bytes ∙ ap (λ own. own ++ lot) front in
    let none : c.in_ok-rest.rest.items ≡ [] = grind (arith, common_steps) in
    turned g.K.Keeper.after c.args.limits.now first reader.waiting.passed c.args.keeper.now c.read_beside.new.waiting.passed
    c.put_aside.new.self.passed c.read_beside.new.keeper reader.waiting.bytes.items lot reader.ahead.kept.items c.put_aside.new.self.bytes.items
    c.in_ok-rest.rest.items reader.ahead.more c.cut.new.self c.read_beside.new.ahead c.read_beside.new.ahead used start left rest has
    (ap (λ (own : Ahead). own.more) c.in_ok-lot.ensures.same) cut c.in_ok-used.ensures.ahead.filled.moves given.lines all c.in_ok-rest.ensures.passed
    refl (ap (λ own. own ++ c.read_beside.new.ahead.kept.items) (sym none))

pub returns-clause-lots : goal.returns-clause-lots
returns-clause-lots g c = λ first start has.
    let reader = c.args.self.now in
    let lot = c.in-Some.lot.items in
    let cut : lot ++ c.cut.new.self.kept.items ≡ reader.ahead.kept.items = search rules in
    let left = (g.I.Inputs.view c.args.inputs.now).left c.args.file in
    let rest = (g.I.Inputs.view c.read_beside.new.inputs).left c.args.file in
    let used = c.in_ok-used.used in
    let given = c.in_ok-used.ensures.given in
    let front : c.drop_front.new.kept.items ≡ drop used reader.waiting.bytes.items =
    c.in_ok-drop_front.ensures.ok ∙ ap (λ own. drop used own) given.bytes in
    let all = c.in_ok-rest.ensures.bytes ∙ ap (λ own. own ++ lot) front in
    turned g.K.Keeper.after c.args.limits.now first reader.waiting.passed c.args.keeper.now c.read_beside.new.waiting.passed
    c.put_aside.new.self.passed c.read_beside.new.keeper reader.waiting.bytes.items lot reader.ahead.kept.items c.put_aside.new.self.bytes.items
    c.in_ok-rest.rest.items reader.ahead.more c.cut.new.self c.read_beside.new.ahead c.put_back.new.self used start left rest has
    (ap (λ (own : Ahead). own.more) c.in_ok-lot.ensures.same) cut c.in_ok-used.ensures.ahead.filled.moves given.lines all c.in_ok-rest.ensures.passed
    (ap (λ (own : Ahead). own.more) c.in_ok-put_back.ensures.same) c.in_ok-put_back.ensures.kept

pub put_aside-requires-clause-few : goal.put_aside-requires-clause-few
put_aside-requires-clause-few g c =
    let shares = c.in_ok-used.shares.items in
    shares_within c.args.limits.now c.in-Some.lot.items shares
    (subst (λ (own : List ℕ). AreShares c.args.limits.now own shares) c.deref.ensures.value c.in_ok-used.ensures.shares)

pub returns-then-is_empty-clause-reading : goal.returns-then-is_empty-clause-reading
returns-then-is_empty-clause-reading g c =
    let limits = c.args.limits.now in
    let reader = c.args.self.now in
    let lot = c.in-Some.lot.items in
    let shares = c.in_ok-used.shares.items in
    let cut : lot ++ c.cut.new.self.kept.items ≡ reader.ahead.kept.items = search rules in
    let given = c.in_ok-used.ensures.given in
    let filled = c.in_ok-used.ensures.ahead.filled in
    let size = ap (λ (own : Ahead). own.lot) c.in_ok-lot.ensures.same in
    let front = ap length c.in_ok-drop_front.ensures.ok in
    let left = length-drop c.in_ok-used.used c.read_beside.new.waiting.bytes.items in
    let before = ap length given.bytes in
    let most = most_of_lot reader.ahead in
    let waits = c.in_ok-rest.ensures.few most (omega (arith, front, left, before, c.requires.ready.reading.few))
    (omega (arith, ap length cut, length-append lot c.cut.new.self.kept.items, c.requires.ready.next)) in
    record {
      room = filled.room;
      goes = subst (λ (own : Passed). GoesOn g.K.Keeper.takes limits own c.read_beside.new.keeper) (sym c.in_ok-rest.ensures.passed) given.goes;
      shares = c.in_ok-rest.ensures.shares limits
          (subst (λ (own : List ℕ). AreShares limits own shares) c.deref.ensures.value c.in_ok-used.ensures.shares);
      few = omega (arith, waits, size, filled.lot);
      next = omega (arith, size, filled.lot, filled.few);
    }

pub returns-clause-reading : goal.returns-clause-reading
returns-clause-reading g c =
    let limits = c.args.limits.now in
    let reader = c.args.self.now in
    let lot = c.in-Some.lot.items in
    let shares = c.in_ok-used.shares.items in
    let cut : lot ++ c.cut.new.self.kept.items ≡ reader.ahead.kept.items = search rules in
    let given = c.in_ok-used.ensures.given in
    let filled = c.in_ok-used.ensures.ahead.filled in
    let size = ap (λ (own : Ahead). own.lot) c.in_ok-lot.ensures.same in
    let front = ap length c.in_ok-drop_front.ensures.ok in
    let left = length-drop c.in_ok-used.used c.read_beside.new.waiting.bytes.items in
    let before = ap length given.bytes in
    let most = most_of_lot reader.ahead in
    let waits = c.in_ok-rest.ensures.few most (omega (arith, front, left, before, c.requires.ready.reading.few))
    (omega (arith, ap length cut, length-append lot c.cut.new.self.kept.items, c.requires.ready.next)) in
    record {
      room = subst (λ (own : Ahead). HasRoom own) (sym c.in_ok-put_back.ensures.same) (record { some = filled.room.some; room = filled.room.room });
      goes = subst (λ (own : Passed). GoesOn g.K.Keeper.takes limits own c.read_beside.new.keeper) (sym c.in_ok-rest.ensures.passed) given.goes;
      shares = c.in_ok-rest.ensures.shares limits
          (subst (λ (own : List ℕ). AreShares limits own shares) c.deref.ensures.value c.in_ok-used.ensures.shares);
      few = omega (arith, waits, size, filled.lot, ap (λ (own : Ahead). own.lot) c.in_ok-put_back.ensures.same);
      next = omega (
        arith,
        size,
        filled.lot,
        filled.few,
        ap (λ (own : Ahead). own.lot) c.in_ok-put_back.ensures.same,
        ap length c.in_ok-put_back.ensures.kept,
        length-append c.in_ok-rest.rest.items c.read_beside.new.ahead.kept.items,
        c.in_ok-rest.ensures.less,
        ap length cut,
        length-append lot c.cut.new.self.kept.items,
        c.requires.ready.next,
      );
    }
