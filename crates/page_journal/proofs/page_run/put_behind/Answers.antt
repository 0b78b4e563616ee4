use Rattle.page_journal.proofs.Runs.{padded_behind}
use Rattle.std.proofs.Common.{◌≤◌, ◌+◌, length, arith}
use Rattle.page_journal.proofs.page_run.put_behind.Goals as goal

pub returns-clause-held : goal.returns-clause-held
returns-clause-held c =
    let fits : c.args.filled + 4096 ≤ length c.args.bytes.now = omega (arith, c.told-bytes, c.requires.room) in
    padded_behind c.args.filled c.args.page.now c.args.bytes.now c.copy_from_slice.new.self c.fill.new.self c.requires.size fits
    c.copy_from_slice.ensures.after (c.fill.ensures.after (λ y is. is))
