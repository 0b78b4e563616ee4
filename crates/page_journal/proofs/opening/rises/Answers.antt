use Rattle.std.proofs.Common.{◌≡◌, ℕ, ◌+◌, ◌-◌, ◌*◌, ap, sym, ◌∙◌, arith, refl}
use Rattle.page_journal.specs.Pages.{number}
use Rattle.page_journal.proofs.Finishing.{rising_none, rising_more}
use Rattle.page_journal.proofs.Moments.{stays_same, stays_then}
use Rattle.page_journal.proofs.ReadCounts.{reads_more, reads_none, reads_then}
use Rattle.page_journal.proofs.opening.rises.Goals as goal

pub loop-place-init : goal.loop-place-init
loop-place-init g c = record {
  so_far = λ bytes told long. rising_none bytes c.args.first;
  zero = λ is. is;
  last = λ bytes told long some. absurd (omega (arith, some));
  stays = stays_same _;
  reads = reads_none 0 _ _ _ refl;
  later = omega arith;
}

pub loop-place-preserved : goal.loop-place-preserved
loop-place-preserved g c =
    let so_far = c.loop-place.invariant in
    let place = c.loop-place.place in
    let first = c.args.first in
    let at-is : first * 4096 + 8 * place ≡ 4096 * first + 8 * place = omega arith in
    record {
      so_far = λ bytes told long.
          let value = c.in_ok-number.ensures.value bytes (so_far.stays.content ∙ told) (omega (arith, long, c.loop-place-test.true))
          ∙ ap (λ (at : ℕ). number bytes at) at-is in
          let next = c.is_next.ensures.0 c.if-not-is_next.false in
          rising_more bytes first place c.loop-place.last c.in_ok-number.number (so_far.so_far bytes told long) so_far.zero
          (so_far.last bytes told long) value next.0 next.1;
      zero = λ is. absurd (omega (arith, is));
      last = λ bytes told long some.
          let back : place + 1 - 1 ≡ place = omega arith in
          c.in_ok-number.ensures.value bytes (so_far.stays.content ∙ told) (omega (arith, long, c.loop-place-test.true))
          ∙ ap (λ (at : ℕ). number bytes at) at-is ∙ ap (λ (n : ℕ). number bytes (4096 * first + 8 * n)) (sym back);
      stays = stays_then _ _ _ so_far.stays c.read_number.ensures.reads.stays;
      reads = reads_then place 1 _ _ _ _ so_far.reads
          (reads_more 1 1 _ _ _ _ (omega arith) (omega (arith, c.loop-place-test.true)) c.read_number.ensures.reads.reads);
      later = omega (arith, so_far.later, c.read_number.ensures.reads.cause.later);
    }
