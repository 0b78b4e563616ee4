use Rattle.std.proofs.Common.{rules, ◌∙◌, ap, sym, subst, List, ℕ}
use Rattle.std.specs.Borrow.{Bor}
use Rattle.std.specs.List.{AllZip}
use Rattle.opl_files.specs.Parts.{AreShares, IsShareOf}
use Rattle.opl_files.proofs.ShareLaws.{bytes_of}
use Rattle.opl_files.proofs.waiting.read_beside.Goals as goal

pub returns-clause-shares : goal.returns-clause-shares
returns-clause-shares g c =
    let limits = c.args.limits.now in
    let pieces = c.deref.ensures.value ∙ sym c.deref-2.ensures.value in
    let each : AllZip (λ (piece : Bor (List ℕ)) share. IsShareOf limits piece.now share) c.deref.result.now c.in_ok-shares.shares.items = search rules in
    subst (λ bytes. AreShares limits bytes c.leave_out.new.shares.items) (ap bytes_of c.deref-2.ensures.value ∙ c.in_ok-pieces.ensures.whole)
    (c.leave_out.ensures.shares limits (subst (λ (own : List (Bor (List ℕ))). AllZip
    (λ (piece : Bor (List ℕ)) share. IsShareOf limits piece.now share) own c.in_ok-shares.shares.items) pieces each))
