use Rattle.std.proofs.Common.{◌≡◌, ◌++◌, [], ◌∷◌, ◌-◌, arith, sym, set}
use Rattle.tile_cover.specs.Runs.{pushed}
use Rattle.tile_cover.proofs.Pushes.{set-pushed, append-pushed, alone-pushed, IsTileSet-Adds}
use Rattle.tile_cover.proofs.runs.push_run.Goals.{then-count-gt0+else-joins, else-count-gt0}
use Rattle.tile_cover.proofs.runs.push_run.Goals as goal

-- the last run gives way to the two joined
pub returns-then-joins : goal.returns-then-joins
returns-then-joins c =
    let runs = c.args.runs.now.items in
    let last = c.index-last.result.now in
    let i = c.len-count.result - 1 in
    let e : set runs i c.joined_runs.result ≡ pushed runs c.args.run =
    rw c.joined_runs.ensures (set-pushed runs i last c.args.run (omega arith) c.index-last.ensures (sym (c.if-joins.ensures))) in
    let f = IsTileSet-Adds runs (set runs i c.joined_runs.result) c.args.run e c.requires.set c.requires.run c.requires.later in
    record { set = f.0; ok = f.1; err = tt }

-- the run stands at the end
pub returns : goal.returns
returns c =
    let runs = c.args.runs.now.items in
    let e : runs ++ c.args.run ∷ [] ≡ pushed runs c.args.run = elim c.if-count-gt0.branch [
      | then-count-gt0+else-joins w ↦
          append-pushed runs (c.len-count.result - 1) w.index-last.result.now c.args.run (omega arith) w.index-last.ensures
          (sym (w.if-joins.ensures))
      | else-count-gt0 w ↦ alone-pushed runs c.args.run (omega arith)
    ] in
    let f = IsTileSet-Adds runs (runs ++ c.args.run ∷ []) c.args.run e c.requires.set c.requires.run c.requires.later in
    rw c.in_ok-push.ensures.items (record { set = f.0; ok = f.1; err = tt })
