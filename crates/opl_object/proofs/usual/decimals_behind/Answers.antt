use Rattle.std.proofs.Common.{◌≡◌, ℕ, ◌≤◌, not, List, length, subst, sym, ap, arith}
use Rattle.std.specs.Char.{is_ascii_digit}
use Rattle.std.proofs.lemmas.List.Sums.{position_or_len_is}
use Rattle.opl_object.specs.Nodes.{digits_len}
use Rattle.opl_object.specs.Runs.{IsRun}
use Rattle.opl_object.proofs.Fronts.{front_digits}
use Rattle.opl_object.proofs.usual.decimals_behind.Goals as goal

-- a run of seven that stops is all the digits in front
counted : (text : List ℕ) → 16 ≤ length text → IsRun is_ascii_digit text 7 → 7 ≡ digits_len text
counted text long run = sym (position_or_len_is {X = ℕ} (λ byte. not (is_ascii_digit byte)) text 7 0 (omega arith)
    (λ k lt. ap not (run.passes.all k lt)) (λ _. ap not (run.stops (omega arith))))

pub few_digits-value-requires-clause-digits : goal.few_digits-value-requires-clause-digits
few_digits-value-requires-clause-digits c =
    let seven : c.digits_run.result ≡ 7 = omega arith in
    let len = counted c.args.text.now (omega arith) (subst (IsRun is_ascii_digit c.args.text.now) seven c.digits_run.ensures.run) in
    rw len (front_digits c.args.text.now)

pub returns-clause-len : goal.returns-clause-len
returns-clause-len c =
    let seven : c.digits_run.result ≡ 7 = omega arith in
    counted c.args.text.now (omega arith) (subst (IsRun is_ascii_digit c.args.text.now) seven c.digits_run.ensures.run)
