-- What one call more adds to a history of calls.
use Rattle.std.proofs.Common.{◌≡◌, inl, inr, Bool, true, false, ℕ, List, [], ◌∷◌, ◌++◌, length, take, refl, sym, ap, ◌∙◌, subst, arith}
use Rattle.std.proofs.Common.{if◌then◌else◌}
use Rattle.std.proofs.lemmas.Bool.{cases_lt}
use Rattle.std.proofs.lemmas.List.{take_all, take-append-le, length_push}
use Rattle.outside.specs.Disk.{Torn, Elapses, overlaid}
use Rattle.doubles.specs.Tape.{Medium, fresh, after, run, MayLeave, crashes_of, CallAdds}
use Rattle.std.specs.Option.{IsSome}
use Rattle.std.specs.Prelude.{Vec, Option, Some, None}
use Rattle.std.specs.declared.alloc.Global.{Global}
use Rattle.doubles.specs.Recorded.{first_bytes}
use Rattle.doubles.specs.declared.tape.Call.{Call}
use Rattle.doubles.specs.declared.tape.Call.TheVariants.{Look, Write, Sync}
use Rattle.outside.proofs.Overlay.{Torn-same, Torn-overlaid}

pub run-append : (medium : Medium) (first second : List Call) → run medium (first ++ second) ≡ run (run medium first) second
run-append medium [] second = refl
run-append medium (call ∷ calls) second = run-append (after call medium) calls second

-- what a write leaves may be what stood there, cut short
Torn-written : (at : ℕ) (piece content : List ℕ) (done : Bool)
    → Torn at (length piece) content (if done then overlaid at piece content else content)
Torn-written at piece content true = Torn-overlaid at (length piece) piece content (omega arith)
Torn-written at piece content false = Torn-same at (length piece) content

-- what a crash may leave after a call comes from what it might have left before
after-adds : (call : Call) (old new : List Call) (start : List ℕ) → run (fresh start) new ≡ after call (run (fresh start) old)
    → CallAdds call (crashes_of start old) (crashes_of start new)
after-adds Look old new start is = λ left may. subst (λ (m : Medium). MayLeave m left) is may
after-adds (Write at piece done) old new start is = λ left may.
    let medium = run (fresh start) old in
    let now : MayLeave (after (Write at piece done) medium) left = subst (λ (m : Medium). MayLeave m left) is may in
    elim now [
      | inl seen ↦ (
        medium.seen,
        inl refl,
        subst (λ (l : List ℕ). Torn at (length piece) medium.seen l) (sym seen) (Torn-written at piece medium.seen done),
      )
      | inr reached ↦ (reached.0, inr reached.1, reached.2)
    ]
after-adds (Sync true) old new start is = λ left may.
    let now : MayLeave (after (Sync true) (run (fresh start) old)) left = subst (λ (m : Medium). MayLeave m left) is may in
    elim now [ inl seen ↦ inl seen | inr stable ↦ inl stable ]
after-adds (Sync false) old new start is = λ left may. subst (λ (m : Medium). MayLeave m left) is may

pub call_adds : (call : Call) (start : List ℕ) (old new : List Call) → new ≡ old ++ call ∷ []
    → CallAdds call (crashes_of start old) (crashes_of start new)
call_adds call start old new is =
    after-adds call old new start (ap (λ (calls : List Call). run (fresh start) calls) is ∙ run-append (fresh start) old (call ∷ []))

pub run_push : (call : Call) (start : List ℕ) (old new : List Call) → new ≡ old ++ call ∷ []
    → run (fresh start) new ≡ after call (run (fresh start) old)
run_push call start old new is = ap (λ (calls : List Call). run (fresh start) calls) is ∙ run-append (fresh start) old (call ∷ [])

-- no call adds nothing, whatever it would have been
pub adds_nothing : (call : Call) (start : List ℕ) (old new : List Call) → new ≡ old
    → CallAdds call (crashes_of start old) (crashes_of start new)
adds_nothing Look start old new is = λ left may. subst (λ (calls : List Call). MayLeave (run (fresh start) calls) left) is may
adds_nothing (Write at piece done) start old new is = λ left may. (
  left,
  subst (λ (calls : List Call). MayLeave (run (fresh start) calls) left) is may,
  Torn-same at (length piece) left,
)
adds_nothing (Sync done) start old new is = λ left may. subst (λ (calls : List Call). MayLeave (run (fresh start) calls) left) is may

-- one call more is one moment more
elapses_push : (call : Call) (start : List ℕ) (old : List Call) → Elapses (crashes_of start old) (crashes_of start (old ++ call ∷ []))
elapses_push call start old =
    let longer = length_push old call in
    record {
      later = omega arith;
      each = λ since left le (count, from, to, may). elim (cases_lt (length old) count) [
        | inl all ↦
            let whole : take count (old ++ call ∷ []) ≡ old ++ call ∷ [] = take_all count (old ++ call ∷ []) (omega arith) in
            inr (subst (λ (calls : List Call). MayLeave (run (fresh start) calls) left) whole may)
        | inr some ↦
            let front : take count (old ++ call ∷ []) ≡ take count old = take-append-le count old (call ∷ []) some in
            inl (count, from, some, subst (λ (calls : List Call). MayLeave (run (fresh start) calls) left) front may)
      ];
      keeps = λ since left le (count, from, to, may).
          let front : take count old ≡ take count (old ++ call ∷ []) = sym (take-append-le count old (call ∷ []) to) in
          (count, from, omega arith, subst (λ (calls : List Call). MayLeave (run (fresh start) calls) left) front may);
    }

pub elapses_more : (call : Call) (start : List ℕ) (old new : List Call) → new ≡ old ++ call ∷ []
    → Elapses (crashes_of start old) (crashes_of start new)
elapses_more call start old new is =
    subst (λ (calls : List Call). Elapses (crashes_of start old) (crashes_of start calls)) (sym is) (elapses_push call start old)

pub elapses_not : (start : List ℕ) (old new : List Call) → new ≡ old → Elapses (crashes_of start old) (crashes_of start new)
elapses_not start old new is =
    subst (λ (calls : List Call). Elapses (crashes_of start old) (crashes_of start calls)) (sym is) (record {
      later = omega arith;
      each = λ since left le before. inl before;
      keeps = λ since left le before. before;
    })

-- what was kept before the first write does not depend on what is there now
pub first_bytes-kept : (start : Option (Vec ℕ Global)) (bytes other : List ℕ) → IsSome start
    → first_bytes start bytes ≡ first_bytes start other
first_bytes-kept None bytes other some = absurd (cc)
first_bytes-kept (Some kept) bytes other some = refl
