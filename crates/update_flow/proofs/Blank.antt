-- What `format` leaves is a store that was only made.
use Rattle.std.proofs.Common.{ℕ, List, refl, arith}
use Rattle.page_journal.specs.Home.{IsFresh}
use Rattle.bucket_store.specs.Image.{fresh_image}
use Rattle.bucket_store.proofs.Fresh.{fresh_means}
use Rattle.update_flow.specs.State.{formatted}
use Rattle.update_flow.specs.Stands.{IsBlank, StandsFor}

blank_means : IsBlank fresh_image
unfolding fresh_image
blank_means = record { root = refl; counted = omega arith; texts = λ n below. refl }

pub blank_stands : (bytes : List ℕ) → IsFresh bytes → StandsFor bytes formatted
unfolding StandsFor
blank_stands bytes fresh = (fresh_image, blank_means, fresh_means bytes fresh)
