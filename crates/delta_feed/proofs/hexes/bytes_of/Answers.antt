use Rattle.std.proofs.Common.{◌≡◌, ◌∙◌, [], ◌∷◌, Ok, refl, sym, ap, arith}
use Rattle.delta_feed.proofs.HexSteps.{all_read, digit_at, eight_read, first_bytes, left, sixteen_behind}
use Rattle.delta_feed.proofs.hexes.bytes_of.Goals as goal

pub loop-rest-preserved : goal.loop-rest-preserved
loop-rest-preserved c =
    let xs = c.loop-rest.rest.now in
    let long = c.in-len16-up.len_at_least in
    let all = c.loop-rest.invariant.digits in
    let d0 = digit_at 0 xs (omega (arith, long)) all in
    let d1 = digit_at 1 xs (omega (arith, long)) all in
    let d2 = digit_at 2 xs (omega (arith, long)) all in
    let d3 = digit_at 3 xs (omega (arith, long)) all in
    let d4 = digit_at 4 xs (omega (arith, long)) all in
    let d5 = digit_at 5 xs (omega (arith, long)) all in
    let d6 = digit_at 6 xs (omega (arith, long)) all in
    let d7 = digit_at 7 xs (omega (arith, long)) all in
    let d8 = digit_at 8 xs (omega (arith, long)) all in
    let d9 = digit_at 9 xs (omega (arith, long)) all in
    let d10 = digit_at 10 xs (omega (arith, long)) all in
    let d11 = digit_at 11 xs (omega (arith, long)) all in
    let d12 = digit_at 12 xs (omega (arith, long)) all in
    let d13 = digit_at 13 xs (omega (arith, long)) all in
    let d14 = digit_at 14 xs (omega (arith, long)) all in
    let d15 = digit_at 15 xs (omega (arith, long)) all in
    let are : c.byte_of.result ∷ c.byte_of-in-len16-up.result ∷ c.byte_of-in-len16-up-2.result ∷ c.byte_of-in-len16-up-3.result ∷ c.byte_of-in-len16-up-4.result ∷ c.byte_of-in-len16-up-5.result ∷ c.byte_of-in-len16-up-6.result ∷ c.byte_of-in-len16-up-7.result ∷ [] ≡ first_bytes xs = rw (
      c.byte_of.ensures.byte d0 d1,
      c.byte_of-in-len16-up.ensures.byte d2 d3,
      c.byte_of-in-len16-up-2.ensures.byte d4 d5,
      c.byte_of-in-len16-up-3.ensures.byte d6 d7,
      c.byte_of-in-len16-up-4.ensures.byte d8 d9,
      c.byte_of-in-len16-up-5.ensures.byte d10 d11,
      c.byte_of-in-len16-up-6.ensures.byte d12 d13,
      c.byte_of-in-len16-up-7.ensures.byte d14 d15,
    ) refl in
    record {
      read = eight_read c.loop-rest.bytes.items _ xs _ _ _ long c.in_ok-extend_from_slice.ensures.items are (left 16 xs) c.loop-rest.invariant.read;
      digits = sixteen_behind xs _ long (left 16 xs) all;
    }

pub returns : goal.returns
returns c = record {
  bytes = all_read c.args.digits.now c.requires.digits ∙ ap Ok (sym (c.in_ok-add_bytes.ensures.bytes ∙ c.loop-rest.invariant.read));
}
