-- What a crash in a call leaves is one of its outcomes.
use Rattle.std.proofs.Common.{◌≡◌, inl, inr, Bool, true, false, ℕ, zero, suc, ◌+◌, ◌-◌, ◌/◌, ◌<◌, ◌≤◌, ◌⊎◌, List, [], ◌∷◌, ◌++◌, length}
use Rattle.std.proofs.Common.{take, drop, get_or, replicate, slice_get, slice_range, Some, refl, sym, ap, ◌∙◌, subst, arith, append_assoc}
use Rattle.std.proofs.Common.{length-drop, length-take, take-append-drop}
use Rattle.std.proofs.lemmas.Option.{slice_get-get_or}
use Rattle.std.proofs.lemmas.List.{take_more, take-take, drop-take, get_or-drop, length-replicate}
use Rattle.outside.specs.Disk.{Torn}
use Rattle.doubles.specs.Tape.{Medium, fresh, after, run, Reaches, MayLeave, MayLeaveAfter}
use Rattle.doubles.specs.CrashPick.{half_written, cut_short, all_cut_short, settles, IsSettled, IsLeftIn}
use Rattle.doubles.specs.declared.crash_pick.CrashPick.{CrashPick}
use Rattle.doubles.specs.declared.crash_pick.CrashPick.TheVariants.{Old, New, Half, Garbage}
use Rattle.doubles.specs.declared.tape.Call.{Call}
use Rattle.doubles.specs.declared.tape.Call.TheVariants.{Look, Write, Sync}
use Rattle.outside.proofs.Overlay.{Torn-same, Torn-overlaid}
use Rattle.doubles.proofs.History.{run-append}

pub run_more : (medium : Medium) (calls : List Call) (i : ℕ) (call : Call) → i < length calls → call ≡ get_or calls i call
    → run medium (take (i + 1) calls) ≡ after call (run medium (take i calls))
run_more medium calls i call inside is =
    ap (λ (cs : List Call). run medium cs) (take_more calls i call inside)
    ∙ run-append medium (take i calls) (get_or calls i call ∷ [])
    ∙ ap (λ (c : Call). after c (run medium (take i calls))) (sym is)

Torn-half : (pick : CrashPick) (at : ℕ) (piece content : List ℕ) → Torn at (length piece) content (half_written pick at piece content)
Torn-half Old at piece content = Torn-same at (length piece) content
Torn-half New at piece content = Torn-overlaid at (length piece) piece content (omega arith)
Torn-half Half at piece content =
    let short = length-take (length piece / 2) piece in
    Torn-overlaid at (length piece) (take (length piece / 2) piece) content (omega arith)
Torn-half (Garbage byte) at piece content =
    let same = length-replicate (length piece) byte in
    Torn-overlaid at (length piece) (replicate (length piece) byte) content (omega arith)

all_cut_short-append : (pick : CrashPick) (first second : List Call) (content : List ℕ)
    → all_cut_short pick (first ++ second) content ≡ all_cut_short pick second (all_cut_short pick first content)
all_cut_short-append pick [] second content = refl
all_cut_short-append pick (call ∷ calls) second content = all_cut_short-append pick calls second (cut_short pick call content)

-- a call that is no sync that succeeded, cut short
cut_reaches : (pick : CrashPick) (call : Call) (medium : Medium) (content : List ℕ) → settles call ≡ false
    → Reaches medium.stable medium.ranges content
    → Reaches (after call medium).stable (after call medium).ranges (cut_short pick call content)
cut_reaches pick Look medium content quiet reached = reached
cut_reaches pick (Write at piece done) medium content quiet reached = (content, reached, Torn-half pick at piece content)
cut_reaches pick (Sync true) medium content quiet reached = absurd (cc)
cut_reaches pick (Sync false) medium content quiet reached = reached

-- none of these calls is a sync that succeeded
abbrev AllQuiet : List Call → Type 0
AllQuiet [] = Unit {0}
AllQuiet (call ∷ calls) = (settles call ≡ false) × AllQuiet calls

all_reach : (pick : CrashPick) (calls : List Call) (medium : Medium) (content : List ℕ) → AllQuiet calls
    → Reaches medium.stable medium.ranges content
    → Reaches (run medium calls).stable (run medium calls).ranges (all_cut_short pick calls content)
all_reach pick [] medium content quiet reached = reached
all_reach pick (call ∷ calls) medium content quiet reached =
    all_reach pick calls (after call medium) (cut_short pick call content) quiet.1 (cut_reaches pick call medium content quiet.0 reached)

all_get : (calls : List Call) → ((i : ℕ) (call : Call) → slice_get calls i ≡ Some call → settles call ≡ false)
    → AllQuiet calls
all_get [] each = tt
all_get (call ∷ calls) each = (each 0 call refl, all_get calls (λ i next is. each (suc i) next is))

slice_get-take : (n : ℕ) (calls : List Call) (i : ℕ) (call : Call) → slice_get (take n calls) i ≡ Some call
    → (i < n) × (slice_get calls i ≡ Some call)
slice_get-take zero calls i call is = absurd (cc)
slice_get-take (suc n) [] i call is = absurd (cc)
slice_get-take (suc n) (first ∷ calls) zero call is = (omega arith, is)
slice_get-take (suc n) (first ∷ calls) (suc i) call is =
    let rest = slice_get-take n calls i call is in
    let below = rest.0 in (omega arith, rest.1)

slice_get-drop : (n : ℕ) (calls : List Call) (i : ℕ) (call : Call) → slice_get (drop n calls) i ≡ Some call
    → slice_get calls (n + i) ≡ Some call
slice_get-drop zero calls i call is = let same : 0 + i ≡ i = omega arith in rw same is
slice_get-drop (suc n) [] i call is = absurd (cc)
slice_get-drop (suc n) (first ∷ calls) i call is =
    let next : suc n + i ≡ suc (n + i) = omega arith in
    rw next (slice_get-drop n calls i call is)

call_at : (calls : List Call) (i : ℕ) → i < length calls → (call : Call) × (slice_get calls i ≡ Some call)
call_at [] i inside = absurd (omega arith)
call_at (call ∷ calls) zero inside = (call, refl)
call_at (call ∷ calls) (suc i) inside = call_at calls i (omega arith)

is_at : (calls : List Call) (i : ℕ) (call : Call) → i < length calls → slice_get calls i ≡ Some call → call ≡ get_or calls i call
is_at calls i call inside is = let found = slice_get-get_or calls i call inside in cc

settled_after : (call : Call) (medium : Medium) → settles call ≡ true
    → ((after call medium).seen ≡ (after call medium).stable) × ((after call medium).ranges ≡ [])
settled_after Look medium is = absurd (cc)
settled_after (Write at piece done) medium is = absurd (cc)
settled_after (Sync true) medium is = (refl, refl)
settled_after (Sync false) medium is = absurd (cc)

-- behind a sync that succeeded a crash leaves what a read gives
settled_reaches : (start : List ℕ) (calls : List Call) (before settled : ℕ) → before ≤ length calls → IsSettled calls before settled
    → Reaches (run (fresh start) (take settled calls)).stable (run (fresh start) (take settled calls)).ranges
    (run (fresh start) (take settled calls)).seen
settled_reaches start calls before zero within is = refl
settled_reaches start calls before (suc n) within is =
    let (call, at, settling) = is.last (omega arith) in
    let there : suc n - 1 ≡ n = omega arith in
    let at-n : slice_get calls n ≡ Some call = rw there at at in
    let inside : n < length calls = omega (arith, is.within) in
    let more : run (fresh start) (take (n + 1) calls) ≡ after call (run (fresh start) (take n calls)) =
    run_more (fresh start) calls n call inside (is_at calls n call inside at-n) in
    let next : n + 1 ≡ suc n = omega arith in
    let whole : run (fresh start) (take (suc n) calls) ≡ after call (run (fresh start) (take n calls)) =
    ap (λ (k : ℕ). run (fresh start) (take k calls)) (sym next) ∙ more in
    let still = settled_after call (run (fresh start) (take n calls)) settling in
    let P : List ℕ → List (ℕ × ℕ) → List ℕ → Type 0 = Reaches in
    let there-after : P (after call (run (fresh start) (take n calls))).stable (after call (run (fresh start) (take n calls))).ranges
    (after call (run (fresh start) (take n calls))).seen =
    subst (λ (ranges : List (ℕ × ℕ)). P (after call (run (fresh start) (take n calls))).stable ranges
    (after call (run (fresh start) (take n calls))).seen) (sym still.1) still.0 in
    subst (λ (m : Medium). P m.stable m.ranges m.seen) (sym whole) there-after

whole_sync : (pick : CrashPick) (call : Call) (content : List ℕ) → settles call ≡ true → cut_short pick call content ≡ content
whole_sync pick Look content is = refl
whole_sync pick (Write at piece done) content is = absurd (cc)
whole_sync pick (Sync done) content is = refl

-- a last call, cut short, behind calls that are no syncs that succeeded
last_outcome : (pick : CrashPick) (start : List ℕ) (front mid : List Call) (call : Call) (content : List ℕ)
    → AllQuiet mid → Reaches (run (fresh start) front).stable (run (fresh start) front).ranges content
    → (b : Bool) → settles call ≡ b
    → MayLeave (run (fresh start) (front ++ mid)) (all_cut_short pick (mid ++ call ∷ []) content)
    ⊎ MayLeave (run (fresh start) (front ++ mid ++ call ∷ [])) (all_cut_short pick (mid ++ call ∷ []) content)
last_outcome pick start front mid call content quiet reached false is =
    let before = all_reach pick mid (run (fresh start) front) content quiet reached in
    let after-it = cut_reaches pick call (run (run (fresh start) front) mid) (all_cut_short pick mid content) is before in
    let cut = all_cut_short-append pick mid (call ∷ []) content in
    let ran = run-append (fresh start) (front ++ mid) (call ∷ [])
    ∙ ap (λ (m : Medium). after call m) (run-append (fresh start) front mid) in
    let P : Medium → List ℕ → Type 0 = MayLeave in
    inr (subst (λ (m : Medium). P m (all_cut_short pick (mid ++ call ∷ []) content)) (sym ran)
    (subst (λ (l : List ℕ). P (after call (run (run (fresh start) front) mid)) l) (sym cut) (inr after-it)))
last_outcome pick start front mid call content quiet reached true is =
    let before = all_reach pick mid (run (fresh start) front) content quiet reached in
    let cut = all_cut_short-append pick mid (call ∷ []) content ∙ whole_sync pick call (all_cut_short pick mid content) is in
    let ran = run-append (fresh start) front mid in
    let P : Medium → List ℕ → Type 0 = MayLeave in
    inl (subst (λ (m : Medium). P m (all_cut_short pick (mid ++ call ∷ []) content)) (sym ran)
    (subst (λ (l : List ℕ). P (run (run (fresh start) front) mid) l) (sym cut) (inr before)))

pub left_outcome : (pick : CrashPick) (start : List ℕ) (calls : List Call) (number : ℕ) (left : List ℕ) → 0 < number
    → number ≤ length calls → IsLeftIn pick start calls number left
    → MayLeaveAfter start calls (number - 1) left ⊎ MayLeaveAfter start calls number left
left_outcome pick start calls number left some within is =
    let s = is.settled in
    let b = number - 1 in
    let (call, at) = call_at calls b (omega arith) in
    let front = take s calls in
    let mid = take (b - s) (drop s calls) in
    let rest = drop s calls in
    let fits : s ≤ b = is.sync.within in
    let quiet : AllQuiet mid = all_get mid (λ i next found.
    let in-rest = slice_get-take (b - s) rest i next found in
    let near = in-rest.0 in
    is.sync.quiet (s + i) next (omega arith) (omega arith) (slice_get-drop s calls i next in-rest.1)) in
    let reached = settled_reaches start calls b s (omega arith) is.sync in
    let long : b - s < length rest = omega (arith, length-drop s calls) in
    let where-b : s + (b - s) ≡ b = omega arith in
    let where-number : s + (b - s + 1) ≡ number = omega arith in
    let same : get_or rest (b - s) call ≡ call =
    get_or-drop s calls (b - s) call ∙ ap (λ (k : ℕ). get_or calls k call) where-b ∙ sym (is_at calls b call (omega arith) at) in
    let longer : take (b - s + 1) rest ≡ mid ++ call ∷ [] =
    take_more rest (b - s) call long ∙ ap (λ (c : Call). mid ++ c ∷ []) same in
    let split : (k : ℕ) → take (s + k) calls ≡ front ++ take k rest = λ k.
    sym (take-append-drop s (take (s + k) calls))
    ∙ ap (λ (cs : List Call). cs ++ drop s (take (s + k) calls)) (take-take s (s + k) calls (omega arith))
    ∙ ap (λ (cs : List Call). front ++ cs) (drop-take s k calls) in
    let to-b : take b calls ≡ front ++ mid = ap (λ (k : ℕ). take k calls) (sym where-b) ∙ split (b - s) in
    let to-number : take number calls ≡ front ++ mid ++ call ∷ [] =
    ap (λ (k : ℕ). take k calls) (sym where-number) ∙ split (b - s + 1) ∙ ap (λ (cs : List Call). front ++ cs) longer
    ∙ sym (append_assoc front mid (call ∷ [])) in
    let part : slice_range calls s number ≡ mid ++ call ∷ [] =
    let count : number - s ≡ b - s + 1 = omega arith in ap (λ (k : ℕ). take k rest) count ∙ longer in
    let content = (run (fresh start) front).seen in
    let left-is : left ≡ all_cut_short pick (mid ++ call ∷ []) content =
    is.content ∙ ap (λ (cs : List Call). all_cut_short pick cs content) part in
    let P : List Call → List ℕ → Type 0 = λ cs l. MayLeave (run (fresh start) cs) l in
    let all = all_cut_short pick (mid ++ call ∷ []) content in
    elim (last_outcome pick start front mid call content quiet reached (settles call) refl) [
      | inl early ↦ inl (subst (λ (l : List ℕ). P (take b calls) l) (sym left-is) (subst (λ (cs : List Call). P cs all) (sym to-b) early))
      | inr late ↦ inr (subst (λ (l : List ℕ). P (take number calls) l) (sym left-is)
          (subst (λ (cs : List Call). P cs all) (sym to-number) late))
    ]
