-- The rows of nodes and those of ways and relations are all rows.
use Rattle.std.proofs.Common.{◌∙◌, ℕ, Option, None, Some, sym, ap, subst, arith}
use Rattle.row_store.specs.Loading.{AreTold}
use Rattle.style_read.specs.Style.{StyleOf}
use Rattle.update_flow.specs.Within.{IsSound, RunsWithin}
use Rattle.update_flow.specs.declared.fault.FlowFault.{FlowFault}
use Rattle.store_maps.specs.declared.sorted_rows.SortedRows.{SortedRows}
use Rattle.row_store.proofs.MapTables.{nodes_told, others_told, wanted_row}
use Rattle.update_flow.proofs.Loading.{all_loaded, sound_id, told_nodes, told_others}
use Rattle.update_flow.proofs.Openings.{sound_store}
use Rattle.chain_store.specs.declared.root.Root.{Root}
use Rattle.update_flow.proofs.Running.{runs_done, runs_refused, runs_unfit}
use Rattle.update_flow.proofs.reading.load_sorted.Goals as goal

pub returns-in-Ok-clause-tables : goal.returns-in-Ok-clause-tables
returns-in-Ok-clause-tables g c = λ rest now held has is same.
    let rows = wanted_row None is.maps.maps in
    let nodes = told_nodes c.args.style.now None now held is same in
    let others = told_others c.args.style.now None now held is same in
    all_loaded held.style None now.maps is.maps.maps held.objects c.in-Ok.rows is.maps.stand.rows is.maps.kept.node_rows
    is.maps.kept.other_rows
    (c.in-Ok.ensures.nodes rest now rows has nodes others)
    (c.in-Ok.ensures.others rest now rows has nodes others)

pub returns-in-Ok-clause-runs : goal.returns-in-Ok-clause-runs
returns-in-Ok-clause-runs g c =
    runs_done c.args.buckets.now c.load_sorted.new.buckets c.load_sorted.ensures.looks.same c.requires.ready.whole c.in-Ok.ensures.looks.broken

pub returns-in-Err-clause-sound : goal.returns-in-Err-clause-sound
returns-in-Err-clause-sound g c = λ rest now held has is same.
    subst (λ (f : FlowFault). IsSound (Some f)) (sym c.store_fault.ensures)
    (sound_store SortedRows c.in-Err.fault (c.in-Err.ensures.sound rest now (wanted_row None is.maps.maps) has
    (told_nodes c.args.style.now None now held is same) (told_others c.args.style.now None now held is same)))

pub returns-in-Err-clause-runs : goal.returns-in-Err-clause-runs
returns-in-Err-clause-runs g c =
    subst (λ (f : FlowFault). RunsWithin c.args.buckets.now c.load_sorted.new.buckets (Some f)) (sym c.store_fault.ensures)
    (runs_refused c.args.buckets.now c.load_sorted.new.buckets c.load_sorted.ensures.looks.same c.requires.ready.whole SortedRows c.in-Err.fault
    c.in-Err.ensures.looks.alone c.in-Err.ensures.looks.broken c.in-Err.ensures.looks.cause)

pub returns-then-root-eq0-clause-sound : goal.returns-then-root-eq0-clause-sound
returns-then-root-eq0-clause-sound g c = λ rest now held has is same.
    absurd (omega (arith, is.some, ap (λ (r : Root). r.buckets) (c.root.ensures ∙ has.root ∙ is.root), c.if-root-eq0.true))

pub returns-then-root-eq0-clause-runs : goal.returns-then-root-eq0-clause-runs
returns-then-root-eq0-clause-runs g c = runs_unfit c.args.buckets.now 1 c.requires.ready.whole

-- a sound store
pub returns-in-Err-clause-trusted : goal.returns-in-Err-clause-trusted
returns-in-Err-clause-trusted g c = λ rest now held has is same.
    let style = c.args.style.now in
    let wanted : Option ℕ = None in
    let maps = is.maps.maps in
    let good = sound_id held.style held.objects now is.maps is.ids in
    let nodes = subst (λ (s : StyleOf). AreTold s.tables wanted 6 (wanted_row wanted maps) (now.maps 6)) same
    (nodes_told held.style.tables wanted now.maps maps good is.maps.kept.node_rows) in
    let others = subst (λ (s : StyleOf). AreTold s.tables wanted 7 (wanted_row wanted maps) (now.maps 7)) same
    (others_told held.style.tables wanted now.maps maps good is.maps.kept.other_rows) in
    subst (λ (f : FlowFault). IsSound (Some f)) (sym c.store_fault.ensures)
    (sound_store SortedRows c.in-Err.fault (c.in-Err.ensures.sound rest now (wanted_row wanted maps) has nodes others))

pub returns-then-root-eq0-clause-trusted : goal.returns-then-root-eq0-clause-trusted
returns-then-root-eq0-clause-trusted g c = λ rest now held has is same.
    absurd (omega (arith, is.some, ap (λ (r : Root). r.buckets) (c.root.ensures ∙ has.root ∙ is.root), c.if-root-eq0.true))
