-- The rows of nodes and those of ways and relations are all rows.
use Rattle.std.proofs.Common.{◌≡◌, ◌∙◌, ℕ, Some, sym, ap, subst, arith}
use Rattle.std.specs.FinMap as map
use Rattle.std.specs.Option.{IsSome}
use Rattle.osm_base.specs.map.Spots.{TableMap}
use Rattle.row_store.specs.Loading.{AreTold, Fills, RowsBySpot}
use Rattle.style_read.specs.Style.{StyleOf}
use Rattle.bucket_store.specs.Image.{Image}
use Rattle.update_flow.specs.Within.{IsSound, RunsWithin}
use Rattle.update_flow.specs.declared.fault.FlowFault.{FlowFault}
use Rattle.osm_base.proofs.SpotOrder.{spot_cmp_total, spot_cmp-IsAntisymmetric}
use Rattle.row_store.proofs.MapTables.{nodes_told, others_told, wanted_row}
use Rattle.row_store.proofs.TableLaws.{row_maps, table_nodes_told, table_others_told, tables_loaded}
use Rattle.update_flow.specs.Within.{wanted_of}
use Rattle.update_flow.proofs.Loading.{all_loaded, sound_id, told_nodes, told_others}
use Rattle.update_flow.proofs.OneTable.{wanted_get}
use Rattle.update_flow.proofs.Openings.{sound_store}
use Rattle.chain_store.specs.declared.root.Root.{Root}
use Rattle.update_flow.proofs.Running.{runs_done, runs_refused, runs_unfit}
use Rattle.update_flow.proofs.reading.load_rows.Goals as goal

filled : (which : ℕ) (rows : RowsBySpot) (image : Image) (old new : TableMap) → old ≡ map.empty
    → Fills which rows (λ n. IsSome (map.get (image.maps which) n)) old new
    → Fills which rows (λ n. IsSome (map.get (image.maps which) n)) map.empty new
filled which rows image old new none fills =
    subst (λ (t : TableMap). Fills which rows (λ n. IsSome (map.get (image.maps which) n)) t new) none fills

pub returns-in-Ok-clause-tables : goal.returns-in-Ok-clause-tables
returns-in-Ok-clause-tables g c = λ rest now held has is same.
    let rows = wanted_row c.args.wanted is.maps.maps in
    let nodes = told_nodes c.args.style.now c.args.wanted now held is same in
    let others = told_others c.args.style.now c.args.wanted now held is same in
    all_loaded held.style c.args.wanted now.maps is.maps.maps held.objects c.load.new.tables is.maps.stand.rows is.maps.kept.node_rows
    is.maps.kept.other_rows
    (filled 6 rows now c.new-tables.result c.load.new.tables c.new-tables.ensures.empty
    (c.in-Ok.ensures.nodes rest now rows has nodes others))
    (filled 7 rows now c.new-tables.result c.load.new.tables c.new-tables.ensures.empty
    (c.in-Ok.ensures.others rest now rows has nodes others))

pub returns-in-Ok-clause-runs : goal.returns-in-Ok-clause-runs
returns-in-Ok-clause-runs g c =
    runs_done c.args.buckets.now c.load.new.buckets c.load.ensures.looks.same c.requires.ready.whole c.in-Ok.ensures.looks.broken

pub returns-in-Err-clause-sound : goal.returns-in-Err-clause-sound
returns-in-Err-clause-sound g c = λ rest now held has is same.
    subst (λ (f : FlowFault). IsSound (Some f)) (sym c.store_fault.ensures)
    (sound_store (Unit {0}) c.in-Err.fault (c.in-Err.ensures.sound rest now (wanted_row c.args.wanted is.maps.maps) has
    (told_nodes c.args.style.now c.args.wanted now held is same) (told_others c.args.style.now c.args.wanted now held is same)))

pub returns-in-Err-clause-runs : goal.returns-in-Err-clause-runs
returns-in-Err-clause-runs g c =
    subst (λ (f : FlowFault). RunsWithin c.args.buckets.now c.load.new.buckets (Some f)) (sym c.store_fault.ensures)
    (runs_refused c.args.buckets.now c.load.new.buckets c.load.ensures.looks.same c.requires.ready.whole (Unit {0}) c.in-Err.fault
    c.in-Err.ensures.looks.alone c.in-Err.ensures.looks.broken c.in-Err.ensures.looks.cause)

pub returns-then-root-eq0-clause-sound : goal.returns-then-root-eq0-clause-sound
returns-then-root-eq0-clause-sound g c = λ rest now held has is same.
    absurd (omega (arith, is.some, ap (λ (r : Root). r.buckets) (c.root.ensures ∙ has.root ∙ is.root), c.if-root-eq0.true))

pub returns-then-root-eq0-clause-runs : goal.returns-then-root-eq0-clause-runs
returns-then-root-eq0-clause-runs g c = runs_unfit c.args.buckets.now 1 c.requires.ready.whole

-- a sound store
pub returns-in-Err-clause-trusted : goal.returns-in-Err-clause-trusted
returns-in-Err-clause-trusted g c = λ rest now held has is same.
    let style = c.args.style.now in
    let wanted = c.args.wanted in
    let maps = is.maps.maps in
    let good = sound_id held.style held.objects now is.maps is.ids in
    let nodes = subst (λ (s : StyleOf). AreTold s.tables wanted 6 (wanted_row wanted maps) (now.maps 6)) same
    (nodes_told held.style.tables wanted now.maps maps good is.maps.kept.node_rows) in
    let others = subst (λ (s : StyleOf). AreTold s.tables wanted 7 (wanted_row wanted maps) (now.maps 7)) same
    (others_told held.style.tables wanted now.maps maps good is.maps.kept.other_rows) in
    subst (λ (f : FlowFault). IsSound (Some f)) (sym c.store_fault.ensures)
    (sound_store (Unit {0}) c.in-Err.fault (c.in-Err.ensures.sound rest now (wanted_row wanted maps) has nodes others))

pub returns-then-root-eq0-clause-trusted : goal.returns-then-root-eq0-clause-trusted
returns-then-root-eq0-clause-trusted g c = λ rest now held has is same.
    absurd (omega (arith, is.some, ap (λ (r : Root). r.buckets) (c.root.ensures ∙ has.root ∙ is.root), c.if-root-eq0.true))

-- a follower's store
pub returns-in-Ok-clause-follower : goal.returns-in-Ok-clause-follower
returns-in-Ok-clause-follower g c = λ rest now all has holds.
    let wanted = c.args.wanted in
    let definitions = c.args.style.now.tables in
    let rows = wanted_row wanted (row_maps holds.node_rows holds.other_rows) in
    let nodes = table_nodes_told definitions now.maps all holds wanted in
    let others = table_others_told definitions now.maps all holds wanted in
    map.same_map spot_cmp_total spot_cmp-IsAntisymmetric c.load.new.tables (wanted_of wanted all)
    (λ spot.
    tables_loaded definitions now.maps all holds wanted c.load.new.tables
    (filled 6 rows now c.new-tables.result c.load.new.tables c.new-tables.ensures.empty
    (c.in-Ok.ensures.nodes rest now rows has nodes others))
    (filled 7 rows now c.new-tables.result c.load.new.tables c.new-tables.ensures.empty
    (c.in-Ok.ensures.others rest now rows has nodes others)) spot
    ∙ sym (wanted_get wanted all spot))

pub returns-in-Err-clause-followed : goal.returns-in-Err-clause-followed
returns-in-Err-clause-followed g c = λ rest now all has holds some.
    let wanted = c.args.wanted in
    let definitions = c.args.style.now.tables in
    subst (λ (f : FlowFault). IsSound (Some f)) (sym c.store_fault.ensures)
    (sound_store (Unit {0}) c.in-Err.fault
    (c.in-Err.ensures.sound rest now (wanted_row wanted (row_maps holds.node_rows holds.other_rows)) has
    (table_nodes_told definitions now.maps all holds wanted) (table_others_told definitions now.maps all holds wanted)))

pub returns-then-root-eq0-clause-followed : goal.returns-then-root-eq0-clause-followed
returns-then-root-eq0-clause-followed g c = λ rest now all has holds some.
    absurd (omega (arith, some, ap (λ (r : Root). r.buckets) (c.root.ensures ∙ has.root), c.if-root-eq0.true))
