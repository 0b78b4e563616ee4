use Rattle.std.proofs.Common.{◌≡◌, ◌∙◌, ap, arith, drop, subst, List, Option, []}
use Rattle.std.proofs.lemmas.List.{append-nil, drop_all, length-drop}
use Rattle.osm_base.specs.declared.values.place.GeoBox.{GeoBox}
use Rattle.map_query.specs.Ordered.{AreBlocks, around_rows}
use Rattle.map_query.proofs.FarRows.{blocks_more}
use Rattle.map_query.proofs.blocks.blocks_of.Goals as goal

pub loop-at-preserved : goal.loop-at-preserved
loop-at-preserved c =
    let long = length-drop c.loop-at.at c.args.rows.now in
    blocks_more c.loop-at.blocks.items c.push.new.self.items c.around_rows.result c.args.rows.now c.args.rows.now c.loop-at.at
    c.loop-at.invariant (omega (arith, long, c.loop-at-test.true)) (c.around_rows.ensures.around ∙ ap around_rows c.block_at.ensures.block)
    c.in_ok-push.ensures.items

pub returns : goal.returns
returns c =
    let rows = c.args.rows.now in
    let none : drop c.loop-at.at rows ≡ [] = drop_all c.loop-at.at rows (omega (arith, c.loop-at-test.false)) in
    record {
      blocks = subst (λ (own : List (Option GeoBox)). AreBlocks own rows) (append-nil c.loop-at.blocks.items)
          (c.loop-at.invariant [] none);
    }
