use Rattle.std.proofs.Common.{◌≡◌, [], ap, sym, subst, ◌∙◌}
use Rattle.std.specs.Prelude.{All}
use Rattle.style_read.specs.Style.{StyleOf}
use Rattle.table_versions.specs.Fronts.{FrontOf}
use Rattle.table_versions.specs.Views.{IsNewReader, PublisherOf}
use Rattle.reader_rounds.specs.Asking.{AreAsking, begin_of}
use Rattle.reader_rounds.proofs.askers.publish_first.Goals as goal

pub returns-in-Ok-clause-asking : goal.returns-in-Ok-clause-asking
returns-in-Ok-clause-asking g c = λ queries.
    let front : FrontOf = c.in_ok-publisher.publisher.front in
    let is : front ≡ record { book = front.book; first = c.in_ok-first.first; base = c.args.version; log = [] } =
    ap (λ (own : PublisherOf). own.front) c.in_ok-publisher.ensures.publisher in
    let same : front ≡ begin_of front = is ∙ sym (ap begin_of is) in
    let new = subst (λ (style : StyleOf). All (IsNewReader style front) c.in_ok-publisher.made) c.in_ok-own.ensures.equal
    c.in_ok-publisher.ensures.readers.1 in
    subst (λ (own : FrontOf). AreAsking c.args.style.now own queries 0 c.in-Ok.askers) same
    (c.in-Ok.ensures.asking c.args.style.now front queries new)
