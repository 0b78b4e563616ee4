-- Zeros behind the places of a page say nothing new.
use Rattle.std.proofs.Common.{◌-◌, ◌++◌, ℕ, List, ap, ◌∙◌, get_or, arith, replicate}
use Rattle.std.proofs.lemmas.List.{get_or-set_other, take_all}
use Rattle.bucket_store.specs.declared.places.Page.TheInside.{Inside}
use Rattle.bucket_store.proofs.PlaceLaws.{zeros_behind}
use Rattle.bucket_store.proofs.places.Page.set.Goals as goal
use Rattle.bucket_store.proofs.places.Page.set.Goals.{then-at-len+in_ok-resize, else-at-len}

pub returns-clause-others : goal.returns-clause-others
returns-clause-others c other apart =
    let places = c.self.inside.places in
    get_or-set_other c.if-at-len.self-inside.places.items c.args.at other c.args.place 0 apart
    ∙ elim c.if-at-len.branch [
      | then-at-len+in_ok-resize w ↦
          ap (λ (page : Inside). get_or page.places.items other 0) w.self-inside-is
          ∙ ap (λ (page : List ℕ). get_or page other 0) (w.in_ok-resize.ensures.items
          ∙ ap (λ (page : List ℕ). page ++ replicate (256 - places.len) 0)
          (take_all 256 places.items (omega (arith, w.if-at-len.true, c.len.ensures, c.requires, places.ok.0))))
          ∙ zeros_behind places.items (256 - places.len) other
      | else-at-len w ↦ ap (λ (page : Inside). get_or page.places.items other 0) w.self-inside-is
    ]
    ∙ ap (λ (page : List ℕ). get_or page other 0) c.self.view_is
