use Rattle.std.proofs.Common.{List, ℕ, [], ◌∷◌, OnErr, OnOk, subst}
use Rattle.std.specs.Io.KnownBytes.{Appends}
use Rattle.outside.specs.Bytes.{AppendsPrefix}
use Rattle.page_journal.specs.Pages.{page_from}
use Rattle.updater.proofs.InitRuns.{ends_made, ends_unmade, never_unformatted, never_untold}
use Rattle.updater.proofs.commands.init.init.Goals as goal

pub returns-in-Err : goal.returns-in-Err
returns-in-Err g c = rw c.in_store.ensures.fault (record {
  course = ends_unmade (g.I.Inputs.view c.args.inputs.now) (g.D.Disk.view c.args.disk.now) (g.D.Disk.view c.format.new.disk)
      (g.S.Sink.view c.args.out.now)
      c.in-Err.fault c.in-Err.ensures.alone c.in-Err.ensures.answers c.in-Err.ensures.looked
      (λ refused. (c.in-Err.ensures.refused refused).content) c.in-Err.ensures.cause;
  looked = c.in-Err.ensures.looked;
  no_store = λ is. never_unformatted c.in-Err.fault _ c.in-Err.ensures.alone is;
})

pub returns : goal.returns
returns g c =
    let before = (g.S.Sink.view c.args.out.now).taken in
    let after = (g.S.Sink.view c.tell.new.out).taken in
    record {
      course = ends_made (g.I.Inputs.view c.args.inputs.now) (g.D.Disk.view c.args.disk.now) (g.D.Disk.view c.format.new.disk)
          (g.S.Sink.view c.args.out.now)
          (λ (now : List ℕ). page_from now 4096 ∷ []) c.in_default.ensures.fresh c.in_default.ensures.answers
          c.in_default.ensures.cause.later (g.S.Sink.view c.tell.new.out) c.tell.result
          (subst (λ (text : List ℕ). OnOk c.tell.result (Appends before after text)) c.as_bytes.ensures.value c.tell.ensures.ok)
          (subst (λ (text : List ℕ). OnErr c.tell.result (AppendsPrefix before after text)) c.as_bytes.ensures.value c.tell.ensures.err)
          c.tell.ensures.alone c.tell.ensures.cause;
      looked = c.in_default.ensures.looked;
      no_store = λ is. never_untold c.tell.result _ c.tell.ensures.alone is;
    }
