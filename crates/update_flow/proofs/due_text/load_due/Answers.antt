-- The text spells one set of tiles.
use Rattle.std.proofs.Common.{◌≡◌, ◌∙◌, ℕ, List, Some, rules, sym, ap, subst}
use Rattle.tile_cover.specs.Runs.{has}
use Rattle.tile_cover.specs.declared.runs.Run.{Run}
use Rattle.due_tiles.specs.Spelling.{set_bytes}
use Rattle.update_flow.specs.Within.{IsSound, RunsWithin}
use Rattle.update_flow.specs.declared.fault.FlowFault.{FlowFault}
use Rattle.update_flow.proofs.Openings.{sound_store}
use Rattle.update_flow.proofs.Running.{runs_done, runs_refused, runs_unread}
use Rattle.chain_store.proofs.Counted.{reads_call}
use Rattle.bucket_store.specs.Transaction.{chains_of}
use Rattle.update_flow.specs.declared.fields.TheConstants.{DUE_TEXT}
use Rattle.update_flow.proofs.due_text.load_due.Goals as goal

pub returns-in-Err-clause-sound : goal.returns-in-Err-clause-sound
returns-in-Err-clause-sound g c = λ rest now held has is.
    subst (λ (f : FlowFault). IsSound (Some f)) (sym c.store_fault.ensures)
    (sound_store (List ℕ) c.in-Err.fault (c.in-Err.ensures.text.sound rest now has))

pub returns-in-Err-clause-spelled : goal.returns-in-Err-clause-spelled
returns-in-Err-clause-spelled g c = λ rest now due has is.
    subst (λ (f : FlowFault). IsSound (Some f)) (sym c.store_fault.ensures)
    (sound_store (List ℕ) c.in-Err.fault (c.in-Err.ensures.text.sound rest now has))

pub returns-in-Err-clause-goes : goal.returns-in-Err-clause-goes
returns-in-Err-clause-goes g c = record {
  going = search rules;
  runs = subst (λ (f : FlowFault). RunsWithin c.args.buckets.now c.load.new.self (Some f)) (sym c.store_fault.ensures)
      (runs_refused c.args.buckets.now c.load.new.self c.load.ensures.touches.same c.requires.ready.whole (List ℕ) c.in-Err.fault
      c.in-Err.ensures.touches.alone c.in-Err.ensures.touches.broken c.in-Err.ensures.touches.cause);
}

pub returns-in-Ok-decode-clause-due : goal.returns-in-Ok-decode-clause-due
returns-in-Ok-decode-clause-due g c = λ rest now held was is zoom x y.
    let bytes : c.as_slice.result.now ≡ set_bytes is.due.runs =
    c.as_slice.ensures.items ∙ c.in-Ok.ensures.text.found rest now was ∙ is.due.bytes_are in
    sym (ap (λ (runs : List Run). has runs zoom x y) (c.in-Ok-decode.ensures.set.alone is.due.runs is.due.is bytes)) ∙ is.due.tiles zoom x y

pub returns-in-Ok-decode-clause-goes : goal.returns-in-Ok-decode-clause-goes
returns-in-Ok-decode-clause-goes g c = record {
  going = search rules;
  runs = runs_done c.args.buckets.now c.load.new.self c.load.ensures.touches.same c.requires.ready.whole c.in-Ok.ensures.touches.broken;
}

pub returns-in-Err-NotSpelled-clause-sound : goal.returns-in-Err-NotSpelled-clause-sound
returns-in-Err-NotSpelled-clause-sound g c = λ rest now held was is.
    absurd ((rw c.in-Err-NotSpelled.field-0-is at c.in-Err-NotSpelled.ensures.refused) is.due.runs is.due.is
    (c.as_slice.ensures.items ∙ c.in-Ok.ensures.text.found rest now was ∙ is.due.bytes_are))

pub returns-in-Err-NotSpelled-clause-spelled : goal.returns-in-Err-NotSpelled-clause-spelled
returns-in-Err-NotSpelled-clause-spelled g c = λ rest now due was is.
    absurd ((rw c.in-Err-NotSpelled.field-0-is at c.in-Err-NotSpelled.ensures.refused) is.runs is.is
    (c.as_slice.ensures.items ∙ c.in-Ok.ensures.text.found rest now was ∙ is.bytes_are))

pub returns-in-Err-NotSpelled-clause-goes : goal.returns-in-Err-NotSpelled-clause-goes
returns-in-Err-NotSpelled-clause-goes g c = record {
  going = search rules;
  runs = runs_unread c.args.buckets.now c.load.new.self c.load.ensures.touches.same c.requires.ready.whole 1 c.in-Ok.ensures.touches.broken;
}

pub returns-in-Ok-decode-clause-reads : goal.returns-in-Ok-decode-clause-reads
returns-in-Ok-decode-clause-reads g c = reads_call _ DUE_TEXT (chains_of c.args.buckets.now)
    (chains_of c.load.new.self) c.in-Ok.ensures.touches.reads
