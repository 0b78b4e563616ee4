use Rattle.std.proofs.Common.{◌∙◌, ap}
use Rattle.delta_feed.proofs.Together.{pieces_told}
use Rattle.delta_feed.proofs.sharing.entry_texts.Goals as goal

pub returns : goal.returns
returns g c =
    let given = c.in_ok-texts.ensures in
    let chain = rw c.map.ensures.f at given.1 in
    let slice = ap (λ it. it.slice.now) c.map.ensures.base ∙ c.par_chunks.ensures.slice in
    record {
      texts = pieces_told c.in_ok-texts.texts chain.0 given.0 c.map.result.base.slice.now c.args.entries.now c.map.result.base.size slice
          chain.1 chain.2 given.2;
    }
