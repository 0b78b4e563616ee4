use Rattle.std.proofs.Common.{◌+◌, ◌∙◌, [], List, Option, ap, fold, sym, subst}
use Rattle.osm_base.specs.declared.values.object.Entry.{Entry}
use Rattle.osm_base.specs.values.Key.{KeyOf}
use Rattle.opl_files.specs.Parts.{TakesLines}
use Rattle.opl_files.proofs.PartLaws.{adds_to}
use Rattle.opl_files.proofs.parts.give_part.Goals as goal

pub returns-clause-lines : goal.returns-clause-lines
returns-clause-lines g c = λ bytes part.
    let after = g.K.Keeper.after in
    let limits = c.args.limits.now in
    let before = c.args.passed.now in
    let keeper = c.args.keeper.now in
    let own = c.args.more in
    let fits = c.if-not-fits_behind.ensures in
    let lines = before.lines + own.passed.lines in
    let entries = before.entries + own.passed.entries in
    let kept = c.in_ok-left.ensures.kept ∙ ap (λ (items : List Entry). fold after keeper items) c.into_entries.ensures.entries in
    subst (λ now. TakesLines after limits before keeper bytes (record { lines = lines; entries = entries; last = c.last_behind-last.result }) now []) (sym kept)
    (subst (λ (last : Option KeyOf). TakesLines after limits before keeper bytes (record { lines = lines; entries = entries; last = last })
    (fold after keeper own.change) []) (sym c.last_behind-last.ensures.last)
    (adds_to after limits before keeper own bytes part fits.lines fits.entries fits.follows))
