-- What readers answered is told at last.
use Rattle.std.proofs.Common.{◌≡◌, ℕ, Option, Some, None, Result, Ok, Err, OnOk, OnErr, IfErr, List, [], sym, refl, subst, arith}
use Rattle.std.specs.Result.{result_err}
use Rattle.std.specs.Io.KnownBytes.{Appends}
use Rattle.outside.specs.Bytes.{AppendsPrefix}
use Rattle.outside.specs.Causes.{HasCause as HasCauseOf}
use Rattle.outside.specs.Inputs.{FilesView}
use Rattle.outside.specs.Sink.{SinkView}
use Rattle.map_query.specs.declared.query.Query.{Query}
use Rattle.style_read.specs.Style.{StyleOf}
use Rattle.tile_cover.specs.Table.{BoundsOf}
use Rattle.table_versions.specs.Fronts.{FrontOf}
use Rattle.update_flow.specs.State.{Holding, imported}
use Rattle.update_flow.specs.Handle.{Handle, view_of}
use Rattle.run_promise.specs.declared.fault.Fault.{Fault}
use Rattle.run_promise.specs.declared.fault.Fault.TheVariants as faults
use Rattle.run_promise.specs.Blocks.{AreBlocks}
use Rattle.run_promise.specs.Comes.{Comes, IsCertain}
use Rattle.run_promise.specs.Course.{Course, ends, writes}
use Rattle.run_promise.specs.Courses.{serves}
use Rattle.updater.specs.Heads.{GoesOn}
use Rattle.run_promise.specs.Progress.{Progress, plus}
use Rattle.updater.specs.Serving.{AreShown, IsServed, IsServing}
use Rattle.run_promise.specs.World.{Before, World, world}
use Rattle.updater.proofs.BlockLaws.{blocks_are}
use Rattle.updater.proofs.HeadLaws.{ends_here}
use Rattle.updater.proofs.ServeRuns.{serves-none, short_serving}
use Rattle.updater.proofs.StoreRuns.{told_text, untold_text}
use Rattle.updater.proofs.VersionRuns.{goes_back}

module _ (bounds : BoundsOf) (queries : List Query) (readers : ℕ) (held : Holding) (first count : ℕ) (start done : Progress) (next : ℕ)
    (old : Before) (files : FilesView) (updater : Handle) (output : SinkView) (before now : FrontOf)
    (turn : IsServing bounds queries readers held first count start done next 0 old files updater output before now) where
  abbrev Whole : Course
  Whole = serves bounds queries readers [] held first count

  abbrev Fits : List ℕ → Type 0
  Fits text = AreBlocks readers queries turn.shown turn.last text

  -- from the end on, as from the beginning
  back : (fault : Option Fault) (new : World) → GoesOn (writes Fits ends) start turn.further fault old new
      → GoesOn Whole start done fault old new
  back fault new goes = goes_back Whole (writes Fits ends) start done turn.further fault old new goes
      (λ ending comes. turn.leads ending (subst (λ (own : Course). Comes old own turn.further ending)
      (sym (serves-none bounds queries readers turn.shown turn.last next 0 refl)) comes))

  -- memory runs out
  pub served_short : GoesOn Whole start done (Some faults.OutOfMemory) old (world files (view_of updater) output)
  served_short = goes_back Whole (serves bounds queries readers turn.shown turn.last next 0) start done turn.further
      (Some faults.OutOfMemory) old (world files (view_of updater) output)
      (short_serving bounds queries readers turn.shown turn.last next 0 start turn.further old files updater output turn.head) turn.leads

  module _ (text : List ℕ) (new : SinkView) (fits : IsCertain turn.further.store → Fits text) where
    -- the text is told, or some front of it
    told_by : (result : Result (Unit {0}) Fault) → OnOk result (Appends output.taken new.taken text)
        → OnErr result (AppendsPrefix output.taken new.taken text) → IfErr result (λ fault. fault ≡ faults.WriteFault)
        → HasCauseOf output.faults new.faults result
        → GoesOn (writes Fits ends) start turn.further (result_err result) old (world files (view_of updater) new)
    told_by (Ok value) all front alone cause =
        told_text start turn.further next old files updater output (imported turn.last) turn.head Fits ends text new
        (λ _ certain. fits certain) all
        (record { later = cause.later; failed = tt }) None (world files (view_of updater) new)
        (λ head. ends_here start (plus text turn.further) (imported turn.last) next old files updater new head)
    told_by (Err fault) all front alone cause =
        subst (λ (own : Fault). GoesOn (writes Fits ends) start turn.further (Some own) old (world files (view_of updater) new)) (sym alone)
        (untold_text start turn.further next old files updater output (imported turn.last) turn.head Fits ends text new
        (λ _ certain. fits certain) front (record { later = cause.later; failed = cause.failed }))

    pub served_told : (result : Result (Unit {0}) Fault) → OnOk result (Appends output.taken new.taken text)
        → OnErr result (AppendsPrefix output.taken new.taken text) → IfErr result (λ fault. fault ≡ faults.WriteFault)
        → HasCauseOf output.faults new.faults result → GoesOn Whole start done (result_err result) old (world files (view_of updater) new)
    served_told result all front alone cause =
        back (result_err result) (world files (view_of updater) new) (told_by result all front alone cause)

  -- the text of what the readers answered is that of their blocks
  pub served_fits : (style : StyleOf) (text : List ℕ) → held.style ≡ style → (IsCertain done.store → AreShown style before [] held)
      → IsServed style now queries count readers text → IsCertain turn.further.store → Fits text
  served_fits style text same shown served certain =
      let own = turn.certain certain in
      let opening : AreShown held.style before [] held = subst (λ (one : StyleOf). AreShown one before [] held) (sym same) (shown own.0) in
      let text_of : IsServed held.style now queries count readers text =
      subst (λ (one : StyleOf). IsServed one now queries count readers text) (sym same) served in
      blocks_are held.style now turn.shown turn.last queries (own.1 opening) count readers text (omega (arith, turn.many)) text_of
