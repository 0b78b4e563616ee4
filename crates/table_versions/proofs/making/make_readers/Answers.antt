use Rattle.std.proofs.Common.{◌≡◌, ◌+◌, ◌++◌, ◌∷◌, [], List, length, length-append, ap, arith, sym, subst, ◌∙◌}
use Rattle.std.specs.Prelude.{All}
use Rattle.style_read.specs.Style.{StyleOf}
use Rattle.table_versions.specs.Fronts.{FrontOf}
use Rattle.table_versions.specs.Views.{IsNewReader, ReaderOf}
use Rattle.table_versions.proofs.NewReaders.{more_readers}
use Rattle.table_versions.proofs.making.make_readers.Goals as goal

pub loop-preserved : goal.loop-preserved
loop-preserved c =
    let style : StyleOf = c.args.style.now in
    let front : FrontOf = c.args.front.now in
    let so_far = c.loop.invariant in
    let kept = c.make_handle-handle.ensures.kept in
    let before : List ReaderOf = c.loop.made.items in
    let reader : ReaderOf = c.new-reader.result in
    let items : c.add_reader.new.made.items ≡ before ++ reader ∷ [] = c.if-not-add_reader.ensures.added in
    let count : length c.add_reader.new.made.items ≡ c.loop.counter + 1 =
    omega (arith, ap length items, length-append before (reader ∷ []), so_far.3) in
    let new : IsNewReader style front reader =
    subst (λ (own : StyleOf). IsNewReader own front reader) c.in-Ok.ensures.equal c.new-reader.ensures.new in
    let all : All (IsNewReader style front) c.add_reader.new.made.items =
    subst (λ (made : List ReaderOf). All (IsNewReader style front) made) (sym items)
    (more_readers style front before reader so_far.4 new) in
    (kept.0 ∙ so_far.0, kept.1 ∙ so_far.1, kept.2 ∙ so_far.2, count, all)
