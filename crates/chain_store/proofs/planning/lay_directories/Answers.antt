use Rattle.std.proofs.Common.{◌≡◌, List, ap, ◌∙◌, arith}
use Rattle.chain_store.specs.Parts.{growth}
use Rattle.chain_store.specs.declared.parts.Part.{Part}
use Rattle.chain_store.proofs.Pools.{growth-filled}
use Rattle.chain_store.proofs.planning.lay_directories.Goals as goal

pub lay_all-requires : goal.lay_all-requires
lay_all-requires c =
    let old : List Part = c.args.bases.items in
    let all : growth c.in_ok-directories.directories.items ≡ growth old =
    ap (λ (l : List Part). growth l) c.in_ok-directories.ensures ∙ growth-filled c.args.count c.args.chains.now old c.requires.fill in
    omega (arith, all, c.requires.enough)
