use Rattle.std.proofs.Common.{◌-◌, ◌∙◌, ap, sym, map, length}
use Rattle.std.specs.String.{string_bytes}
use Rattle.updater.specs.Command as spec
use Rattle.updater.proofs.WordLists.{command-words}
use Rattle.updater.proofs.words.command_of.Goals as goal

pub returns : goal.returns
returns c =
    let words = c.in_ok-name.ensures.cases.0 in
    let options = map string_bytes c.split_at.result.0.now in
    let form = map string_bytes c.without_dashes-form.result.now in
    record {
      fits = c.named.ensures.read.fits;
      command =
          c.named.ensures.read.read
          ∙ ap (λ name. spec.named name options form (length c.args.words.now - length c.without_dashes-form.result.now)) c.deref.ensures
          ∙ command-words string_bytes c.in_ok-name.name.now c.in_ok-name.later.now c.split_at.result.0.now c.without_dashes-form.result.now
          c.count_options.result _
          (ap length words) c.if-words-gt-MAX_WORDS.false c.count_options.ensures.count c.split_at.ensures.front
          (c.without_dashes-form.ensures.words ∙ ap (λ rest. spec.without_dashes (map string_bytes rest)) c.split_at.ensures.back)
          ∙ ap (λ all. spec.command (map string_bytes all)) (sym words);
    }
