use Rattle.std.proofs.Common.{◌≡◌, ℕ, List, length, option_map, ap, ◌∙◌, sym, subst, arith, refl, rules}
use Rattle.std.specs.Int.{w64, to_le_bytes}
use Rattle.outside.specs.Disk.{Tells, overlaid}
use Rattle.page_journal.specs.Crash.{BesideJournal, Spares}
use Rattle.page_journal.specs.Written.{NumberPut}
use Rattle.page_journal.proofs.Causes.{on_ok}
use Rattle.page_journal.proofs.Moments.{started, told_written}
use Rattle.page_journal.proofs.Parts.{beside_field, number_is_put}
use Rattle.page_journal.proofs.Places.{goes_write}
use Rattle.page_journal.proofs.pages.write_number.Goals as goal

pub returns-clause-put : goal.returns-clause-put
returns-clause-put g c =
    let at = c.args.at in
    let value = c.args.value in
    let old = g.D.Disk.view c.args.disk.now in
    let new = g.D.Disk.view c.write_at.new.self in
    let spelled : c.to_le_bytes.result ≡ to_le_bytes w64 value = c.to_le_bytes.ensures in
    on_ok (new.content ≡ option_map (overlaid at c.to_le_bytes.result) old.content)
    ((bytes : List ℕ) → Tells old bytes → (now : List ℕ) × Tells new now × NumberPut at value bytes now) c.write_at.result
    (λ written bytes told. (
      overlaid at c.to_le_bytes.result bytes,
      told_written (overlaid at c.to_le_bytes.result) _ _ bytes told written,
      subst (λ (l : List ℕ). NumberPut at value bytes (overlaid at l bytes)) (sym spelled)
          (number_is_put at value bytes (omega (arith, c.ranges.value.fits))),
    ))
    c.write_at.ensures.written

pub returns-clause-writes : goal.returns-clause-writes
returns-clause-writes g c = λ low. record {
  crash = λ base within.
      let spelled : List ℕ = to_le_bytes w64 c.args.value in
      let eight : length spelled ≡ 8 = refl in
      let long : length c.to_le_bytes.result ≡ 8 = ap length c.to_le_bytes.ensures ∙ eight in
      goes_write (BesideJournal low) base c.args.at (length c.to_le_bytes.result) _ _ _ (started (Spares (BesideJournal low) base) _ within)
      c.write_at.ensures.time c.write_at.ensures.crash
      (beside_field low c.args.at (length c.to_le_bytes.result) c.requires.low c.requires.high long);
  reads = search rules;
  cause = search rules;
}
