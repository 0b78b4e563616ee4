-- Examples written out by hand.
use Rattle.std.proofs.Common.{◌≡◌, Some, None, [], ◌∷◌, refl}
use Rattle.std.specs.Prelude.{codes}
use Rattle.updater.specs.Command.{command}
use Rattle.run_promise.specs.CommandOf.{points_of}

-- words
pub command-plain : command (codes "points" ∷ codes "k" ∷ codes "f" ∷ []) ≡ Some (points_of (codes "k") (record { first = 2; count = 1 }))
unfolding command
command-plain = refl

pub command-dashes : command (codes "points" ∷ codes "--" ∷ codes "a=b" ∷ codes "f" ∷ [])
    ≡ Some (points_of (codes "a=b") (record { first = 3; count = 1 }))
unfolding command
command-dashes = refl

pub command-option : command (codes "points" ∷ codes "a=b" ∷ codes "f" ∷ []) ≡ None
unfolding command
command-option = refl

pub command-no_option : command (codes "points" ∷ codes "A=b" ∷ codes "f" ∷ [])
    ≡ Some (points_of (codes "A=b") (record { first = 2; count = 1 }))
unfolding command
command-no_option = refl
