use Rattle.std.proofs.Common.{ℕ, List, arith, refl, subst}
use Rattle.std.specs.Result.{result_err}
use Rattle.osm_base.specs.declared.values.object.Entry.{Entry}
use Rattle.style_read.specs.Style.{StyleOf}
use Rattle.demo_map.specs.Demo.{demo_input}
use Rattle.demo_map.specs.Style.{DEMO_STYLE, demo_style}
use Rattle.update_flow.specs.State.{Import, formatted, fresh}
use Rattle.update_flow.specs.Updater.{handle_of}
use Rattle.run_promise.specs.Courses.{imports_these, onward, version_line}
use Rattle.updater.specs.Heads.{Leads}
use Rattle.updater.proofs.OptionLaws.{default_power}
use Rattle.updater.proofs.VersionRuns.{these_short}
use Rattle.updater.proofs.commands.demo.import_demo.Goals as goal

pub returns-in-Err-clause-leads : goal.returns-in-Err-clause-leads
returns-in-Err-clause-leads g c = λ next files old start done head.
    these_short start done formatted next old files (handle_of c.args.store.now) (g.S.Sink.view c.args.out.now) head
    (Import demo_style DEMO_STYLE 1024 (demo_input c.args.squares.count)) (version_line 0)
    (fresh demo_style DEMO_STYLE 1024 (demo_input c.args.squares.count)) refl tt

pub returns-in-Err-input_of-clause-leads : goal.returns-in-Err-input_of-clause-leads
returns-in-Err-input_of-clause-leads g c = λ next files old start done head.
    these_short start done formatted next old files (handle_of c.args.store.now) (g.S.Sink.view c.args.out.now) head
    (Import demo_style DEMO_STYLE 1024 (demo_input c.args.squares.count)) (version_line 0)
    (fresh demo_style DEMO_STYLE 1024 (demo_input c.args.squares.count)) refl tt

pub import_change-requires-clause-buckets : goal.import_change-requires-clause-buckets
import_change-requires-clause-buckets g c κs within = record { power = default_power; limit = omega arith }

pub returns-clause-leads : goal.returns-clause-leads
returns-clause-leads g c = λ next files old start done head.
    let fault = result_err c.import_change.result in
    let now = handle_of c.import_change.new.store in
    let new = g.S.Sink.view c.import_change.new.out in
    subst (λ (own : StyleOf). Leads (λ last. imports_these (own, DEMO_STYLE) 1024 (demo_input c.args.squares.count) (onward last)) fault start done
    next old files now new) c.in-Ok.ensures.style
    (subst (λ (own : List ℕ). Leads (λ last. imports_these (c.in-Ok.own.style, own) 1024 (demo_input c.args.squares.count) (onward last)) fault
    start done next old files now new) c.in-Ok.ensures.bytes
    (subst (λ (own : List Entry). Leads (λ last. imports_these (c.in-Ok.own.style, c.in-Ok.own.bytes) 1024 own (onward last)) fault
    start done next old files now new) c.in-Ok-input_of.ensures.entries
    (c.import_change.ensures.leads next files old start done head)))

pub returns-clause-keeps : goal.returns-clause-keeps
returns-clause-keeps g c = c.import_change.ensures.keeps
