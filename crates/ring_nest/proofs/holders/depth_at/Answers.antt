use Rattle.std.proofs.Common.{arith, ◌≡◌, ◌∙◌, ap, length}
use Rattle.std.proofs.Math.Logic.{∥∥₁_elim}
use Rattle.std.proofs.Props.{props}
use Rattle.lanes_geo.specs.Nesting.{depth, ring_at}
use Rattle.ring_nest.specs.Holders.{numbers_of}
use Rattle.ring_nest.proofs.Owned.{depth_is}
use Rattle.ring_nest.proofs.holders.depth_at.Goals as goal

pub returns : goal.returns
returns c =
    let rings = c.args.tree.now.rings.now in
    let ring = ring_at rings c.args.number in
    let all : length c.in_ok-holders_of.field-0.items ≡ depth rings ring =
    ap length c.in_ok-holders_of.ensures.holders ∙ ∥∥₁_elim c.args.tree.now.whole.all (hlevel props) (depth_is rings (numbers_of c.args.tree.now.root.now) ring) in
    record { depth = omega (arith, all, c.len.ensures, c.in_ok-holders_of.field-0.ok.0) }
