use Rattle.std.proofs.Common.{◌≡◌, ◌<◌, refl, ap, ◌∙◌}
use Rattle.std.specs.Option.{is_some, IsSome}
use Rattle.std.specs.FinMap as map
use Rattle.chain_store.specs.Known.{Lists}
use Rattle.chain_store.proofs.Puts.{get-here}
use Rattle.chain_store.proofs.Taking.{on_ok}
use Rattle.chain_store.proofs.chains.loading.hold.Goals as goal

pub returns-clause-held : goal.returns-clause-held
returns-clause-held c =
    on_ok (c.put.new.self ≡ map.insert c.args.texts.now c.args.n c.in_ok-copy.copy)
    (c.args.n < 16 → IsSome (map.get c.put.new.self c.args.n)) c.put.result
    (λ is low. ap (λ (l : Lists). is_some (map.get l c.args.n)) is
    ∙ ap is_some (get-here c.args.texts.now c.args.n c.in_ok-copy.copy c.args.n refl))
    c.put.ensures.ok
