-- Examples written out by hand.
use Rattle.std.proofs.Common.{◌≡◌, refl}
use Rattle.std.specs.Prelude.{codes, pos, negsuc}
use Rattle.std.specs.Fmt.{digits}
use Rattle.osm_base.specs.values.Degrees.{degrees, fraction}

-- coordinates
pub degrees-place : degrees (pos 133777000) ≡ codes "13.3777"
unfolding degrees fraction digits
degrees-place = refl

pub degrees-zero : degrees (pos 0) ≡ codes "0"
unfolding degrees fraction digits
degrees-zero = refl

pub degrees-least : degrees (negsuc 0) ≡ codes "-0.0000001"
unfolding degrees fraction digits
degrees-least = refl

pub degrees-east : degrees (pos 1800000000) ≡ codes "180"
unfolding degrees fraction digits
degrees-east = refl

pub degrees-south : degrees (negsuc 899999999) ≡ codes "-90"
unfolding degrees fraction digits
degrees-south = refl
