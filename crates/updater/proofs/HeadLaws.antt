-- The deeds of a run over an open store, each from the head of a turn to the next one, or to an end.
use Rattle.std.proofs.Common.{◌≤◌, ◌+◌, ℕ, Some, None, List, Result}
use Rattle.std.specs.Io.KnownBytes.{Appends}
use Rattle.outside.specs.Bytes.{AppendsPrefix}
use Rattle.outside.specs.Causes.{Rose}
use Rattle.outside.specs.Inputs.{FilesView}
use Rattle.outside.specs.Sink.{SinkView}
use Rattle.update_flow.specs.State.{State}
use Rattle.update_flow.specs.Handle.{Handle, view_of}
use Rattle.run_promise.specs.declared.fault.Fault.{Fault}
use Rattle.run_promise.specs.declared.fault.Fault.TheVariants as faults
use Rattle.run_promise.specs.Comes.{AreTold, Comes, IsCertain}
use Rattle.run_promise.specs.Course.{Course, ends, refuses, reads, tells, writes}
use Rattle.updater.specs.FileReads.{IsRead, IsUnread}
use Rattle.updater.specs.Heads.{GoesOn, IsHead, IsSoFar}
use Rattle.run_promise.specs.Leaves.{HasCause}
use Rattle.run_promise.specs.Progress.{Progress, Ending, past, plus}
use Rattle.run_promise.specs.World.{Before, world}
use Rattle.updater.proofs.SoFarLaws as parts

module _ (start done : Progress) (state : State) (next : ℕ) (old : Before) (files : FilesView) (updater : Handle) (output : SinkView)
    (head : IsHead start done state next old files updater output) where
  -- files and output of the head
  own : IsSoFar start done next old files (view_of updater) output
  own = record { unread = head.unread; so_far = head.so_far }

  -- the run ends here
  pub ends_here : GoesOn ends start done None old (world files (view_of updater) output)
  ends_here = parts.ends_here start done next old files (view_of updater) output own

  pub refuses_here : (fault : Fault) → HasCause old (world files (view_of updater) output) (Some fault)
      → GoesOn (refuses fault) start done (Some fault) old (world files (view_of updater) output)
  refuses_here fault cause = parts.refuses_here start done next old files (view_of updater) output own fault cause

  -- a file is read
  module _ {A : Type 0} (Reads : List ℕ → Result A Fault → Type 0) (file : ℕ) (above : next ≤ file) (new : FilesView) where
    -- to its end
    pub past_file : (found : A) → IsRead Reads file found files new → IsHead start (past file done) state (file + 1) old new updater output
    past_file found read =
        let further = parts.past_file start done next old files (view_of updater) output own Reads file above new found read in
        record {
          here = head.here;
          vague = head.vague;
          limits = head.limits;
          stood = head.stood;
          unread = further.unread;
          so_far =
              further.so_far;
        }

    pub leads_file : (found : A) → IsRead Reads file found files new → (rest : A → Course) (ending : Ending)
        → Comes old (rest found) (past file done) ending → Comes old (reads file Reads rest) done ending
    leads_file found read rest ending comes =
        parts.leads_file start done next old files (view_of updater) output own Reads file above new found read rest ending comes

    -- or the run ends in it
    pub stops_in_file : (fault : Fault) → IsUnread Reads file fault files new → (rest : A → Course)
        → GoesOn (reads file Reads rest) start done (Some fault) old (world new (view_of updater) output)
    stops_in_file fault stop rest = parts.stops_in_file start done next old files
        (view_of updater) output own Reads file above new fault stop rest

  -- a text is told
  pub past_text : (text : List ℕ) (new : SinkView) → Appends output.taken new.taken text → output.faults ≤ new.faults
      → IsHead start (plus text done) state next old files updater new
  past_text text new all later =
      let further = parts.past_text start done next old files (view_of updater) output own text new all later in
      record {
        here = head.here;
        vague = head.vague;
        limits = head.limits;
        stood = head.stood;
        unread = further.unread;
        so_far =
            further.so_far;
      }

  pub stops_in_line : (text : List ℕ) (new : SinkView) (rest : Course) → AppendsPrefix output.taken new.taken text
      → output.faults ≤ new.faults → Rose output.faults new.faults
      → GoesOn (tells text rest) start done (Some faults.WriteFault) old (world files (view_of updater) new)
  stops_in_line text new rest front later rose =
      parts.stops_in_line start done next old files (view_of updater) output own text new rest front later rose

  pub stops_in_text : (Fits : List ℕ → Type 0) (text : List ℕ) (new : SinkView) (rest : Course)
      → (AreTold old done.read → IsCertain done.store → Fits text) → AppendsPrefix output.taken new.taken text → output.faults ≤ new.faults
      → Rose output.faults new.faults → GoesOn (writes Fits rest) start done (Some faults.WriteFault) old
      (world files (view_of updater) new)
  stops_in_text Fits text new rest fits front later rose =
      parts.stops_in_text start done next old files (view_of updater) output own Fits text new rest fits front later rose

  pub stops_short : (Fits : List ℕ → Type 0) (rest : Course)
      → GoesOn (writes Fits rest) start done (Some faults.OutOfMemory) old (world files (view_of updater) output)
  stops_short Fits rest = parts.stops_short start done next old files (view_of updater) output own Fits rest
