-- The text spells one set of tiles, or none.
use Rattle.std.proofs.Common.{◌∙◌, ℕ, List, Some, Err, refl, sym, subst}
use Rattle.tile_cover.specs.Runs.{has}
use Rattle.update_flow.specs.Within.{IsSound}
use Rattle.update_flow.specs.declared.fault.FlowFault.{FlowFault}
use Rattle.update_flow.proofs.Openings.{bad_none, sound_store}
use Rattle.update_flow.proofs.judging.judge_due.Goals as goal

pub returns-in-Err-clause-none : goal.returns-in-Err-clause-none
returns-in-Err-clause-none g c = λ at is image was.
    absurd (bad_none (Unit {0}) (Err c.store_fault.result) at is
    (subst (λ (f : FlowFault). IsSound (Some f)) (sym c.store_fault.ensures)
    (sound_store (List ℕ) c.in-Err.fault (c.in-Err.ensures.text.sound image image was))))

pub returns-in-Ok-decode-clause-due : goal.returns-in-Ok-decode-clause-due
returns-in-Ok-decode-clause-due g c = λ image was.
    let set = c.in-Ok-decode.ensures.set in (
      (λ zoom x y. has c.in-Ok-decode.field-0 zoom x y),
      record {
        runs = c.in-Ok-decode.field-0;
        is = set.is;
        bytes_are = sym (c.as_slice.ensures.items ∙ c.in-Ok.ensures.text.found image image was) ∙ set.bytes_are;
        tiles = λ zoom x y. refl;
      },
    )

pub returns-in-Err-NotSpelled-clause-none : goal.returns-in-Err-NotSpelled-clause-none
returns-in-Err-NotSpelled-clause-none g c = λ at is image was. (
  cc (is),
  λ runs set bytes. (rw c.in-Err-NotSpelled.field-0-is at c.in-Err-NotSpelled.ensures.refused) runs set
      (c.as_slice.ensures.items ∙ c.in-Ok.ensures.text.found image image was ∙ bytes),
)
