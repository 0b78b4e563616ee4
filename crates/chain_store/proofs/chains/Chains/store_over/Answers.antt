use Rattle.std.proofs.Common.{ℕ, List, sym, subst}
use Rattle.std.specs.FinMap as map
use Rattle.chain_store.specs.Chains.{IsMarked, IsOpen, LoadedIs, first_of, written_of}
use Rattle.chain_store.specs.Known.{Lists}
use Rattle.chain_store.specs.Store.{kept_first}
use Rattle.chain_store.specs.declared.kept.Kept.{Kept}
use Rattle.chain_store.proofs.Taking.{on_value}
use Rattle.chain_store.proofs.chains.Chains.store_over.Goals as goal

pub returns-then-is_err-clause-open : goal.returns-then-is_err-clause-open
returns-then-is_err-clause-open g c = λ pages opened loaded.
    let now = c.bring.ensures.looks.opens pages opened in
    let known = subst (λ (k : Kept). LoadedIs pages c.args.n (kept_first k c.args.n)
    (map.get (written_of c.bring.new.self) c.args.n) c.args.before) (sym c.bring.ensures.looks.stays.kept)
    (subst (λ (l : Lists). LoadedIs pages c.args.n (first_of c.args.self.now c.args.n) (map.get l c.args.n) c.args.before)
    (sym c.bring.ensures.looks.stays.written) loaded) in
    c.put.ensures.open pages now (on_value (λ (same : List ℕ). (home : List (List ℕ)) → IsOpen home c.bring.new.self
    → LoadedIs home c.args.n (first_of c.bring.new.self c.args.n) (map.get (written_of c.bring.new.self) c.args.n) c.args.before
    → IsMarked home c.args.n (first_of c.bring.new.self c.args.n) same c.args.bytes)
    (λ (same : List ℕ). IsMarked pages c.args.n (first_of c.bring.new.self c.args.n) same c.args.bytes) c.marks_over-same.result
    (λ (same : List ℕ) marked. marked pages now known) c.marks_over-same.ensures.marked)

pub returns-clause-open : goal.returns-clause-open
returns-clause-open g c = λ pages opened loaded.
    let now = c.bring.ensures.looks.opens pages opened in
    let known = subst (λ (k : Kept). LoadedIs pages c.args.n (kept_first k c.args.n)
    (map.get (written_of c.bring.new.self) c.args.n) c.args.before) (sym c.bring.ensures.looks.stays.kept)
    (subst (λ (l : Lists). LoadedIs pages c.args.n (first_of c.args.self.now c.args.n) (map.get l c.args.n) c.args.before)
    (sym c.bring.ensures.looks.stays.written) loaded) in
    c.put.ensures.open pages now (on_value (λ (same : List ℕ). (home : List (List ℕ)) → IsOpen home c.bring.new.self
    → LoadedIs home c.args.n (first_of c.bring.new.self c.args.n) (map.get (written_of c.bring.new.self) c.args.n) c.args.before
    → IsMarked home c.args.n (first_of c.bring.new.self c.args.n) same c.args.bytes)
    (λ (same : List ℕ). IsMarked pages c.args.n (first_of c.bring.new.self c.args.n) same c.args.bytes) c.marks_over-same.result
    (λ (same : List ℕ) marked. marked pages now known) c.marks_over-same.ensures.marked)
