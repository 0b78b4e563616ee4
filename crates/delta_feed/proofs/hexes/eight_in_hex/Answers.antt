use Rattle.std.proofs.Common.{refl}
use Rattle.hex.specs.Hex.{encode_with}
use Rattle.delta_feed.proofs.hexes.eight_in_hex.Goals as goal

pub returns : goal.returns
unfolding encode_with
returns c = record {
  digits = rw (
    c.high_digit.ensures.digit,
    c.low_digit.ensures.digit,
    c.high_digit-2.ensures.digit,
    c.low_digit-2.ensures.digit,
    c.high_digit-3.ensures.digit,
    c.low_digit-3.ensures.digit,
    c.high_digit-4.ensures.digit,
    c.low_digit-4.ensures.digit,
    c.high_digit-5.ensures.digit,
    c.low_digit-5.ensures.digit,
    c.high_digit-6.ensures.digit,
    c.low_digit-6.ensures.digit,
    c.high_digit-7.ensures.digit,
    c.low_digit-7.ensures.digit,
    c.high_digit-8.ensures.digit,
    c.low_digit-8.ensures.digit,
  ) refl;
}
