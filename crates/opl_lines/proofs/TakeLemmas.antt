-- What a piece does to the lines, by its bytes before the first newline.
use Rattle.std.proofs.Common.{◌≡◌, ◌≢◌, ℕ, suc, ◌+◌, ◌-◌, ◌*◌, ◌<◌, ◌≤◌, Bool, true, false, cond, None, Some, List, [], ◌∷◌, ◌++◌, length}
use Rattle.std.proofs.Common.{take, drop, Contains, MatchOption, refl, sym, ◌∙◌, ap, subst, append_assoc, arith, length-append}
use Rattle.std.proofs.lemmas.List.{append-nil, take_at, drop_all}
use Rattle.std.proofs.lemmas.List.Elements.{All-append, All-contains, Contains-append_right}
use mir.Val.{bool_byte}
use Rattle.opl_lines.specs.declared.reader.TheConstants.{NEWLINE}
use Rattle.opl_lines.specs.declared.fault.LineFault.{LineFault}
use Rattle.opl_lines.specs.declared.fault.LineFault.TheVariants.{LineBytes, FileLines, OutOfMemory}
use Rattle.opl_lines.specs.Lines.{lines_of, first_line, IsWithinLine}
use Rattle.opl_lines.specs.Reading.{Reading, begun, room, KeepsLimits, PassesLineBytes, PassesFileLines, after_fault}
use Rattle.opl_lines.specs.Steps.{IsFront, Admits, GrowsTooLong, grown}
use Rattle.opl_lines.specs.Takes.{Takes, Refuses}
use Rattle.opl_lines.proofs.LineLemmas.{lines_of-ended, lines_of-some, first_line-within, first_line-newline, first_line-none}

-- what follows the front of a piece: a newline and the rest, or nothing
abbrev pub behind : List ℕ → List ℕ → Bool → List ℕ
behind piece front ends = cond ends (NEWLINE ∷ drop (length front + 1) piece) []

first_line-behind : (piece front : List ℕ) (ends : Bool) → first_line (behind piece front ends) ≡ []
first_line-behind piece front true = first_line-newline _
first_line-behind piece front false = first_line-none

module _ (old piece front : List ℕ) (ends : Bool) (within : IsWithinLine old) (h : IsFront piece front ends) where
  -- the first line goes on with the front
  first_line-goes_on : (later : List ℕ) → first_line (old ++ (piece ++ later)) ≡ old
      ++ (front ++ first_line (behind piece front ends ++ later))
  first_line-goes_on later =
      ap (λ bytes. first_line (old ++ (bytes ++ later))) h.parts
      ∙ ap (λ bytes. first_line (old ++ bytes)) (append_assoc front (behind piece front ends) later)
      ∙ first_line-within old (front ++ (behind piece front ends ++ later)) within
      ∙ ap (λ bytes. old ++ bytes) (first_line-within front (behind piece front ends ++ later) h.within_line)

  -- without more bytes it has come so far
  pub first_line-so_far : length (first_line (old ++ piece)) ≡ length old + length front
  first_line-so_far =
      ap (λ bytes. length (first_line (old ++ bytes))) (sym (append-nil piece))
      ∙ ap length (first_line-goes_on [])
      ∙ ap (λ bytes. length (old ++ (front ++ first_line bytes))) (append-nil (behind piece front ends))
      ∙ ap (λ bytes. length (old ++ (front ++ bytes))) (first_line-behind piece front ends)
      ∙ ap (λ bytes. length (old ++ bytes)) (append-nil front)
      ∙ length-append old front

  -- and with more bytes it is no shorter
  pub first_line-at_least : (later : List ℕ) → length old + length front ≤ length (first_line (old ++ (piece ++ later)))
  first_line-at_least later =
      let line = first_line (behind piece front ends ++ later) in
      omega (arith, ap length (first_line-goes_on later), length-append old (front ++ line), length-append front line)

-- so the limit of a line is passed by the piece exactly where it is by the front
pub passes_as_grows : (reading : Reading) (piece front : List ℕ) (ends : Bool) → IsWithinLine (begun reading) → IsFront piece front ends
    → (PassesLineBytes reading piece → GrowsTooLong reading (length front))
    × (GrowsTooLong reading (length front) → PassesLineBytes reading piece)
passes_as_grows reading piece front ends within h =
    let far = first_line-so_far (begun reading) piece front ends within h in
    elim reading.failed as (λ failed. let Limit : ℕ → Type 0 =
    λ size. MatchOption failed ((reading.number < reading.lines) × (reading.line_bytes < size)) (λ fault. fault ≡ LineBytes) in
    (Limit (length (first_line (begun reading ++ piece))) → Limit (length (begun reading) + length front))
    × (Limit (length (begun reading) + length front) → Limit (length (first_line (begun reading ++ piece))))) [
      | None ↦ (λ p. (p.0, omega (arith, far, p.1)), λ p. (p.0, omega (arith, far, p.1)))
      | Some fault ↦ (λ p. p, λ p. p)
    ]

-- the room falls by the bytes taken where a line ends
falls_by_line : (more size length_begun added : ℕ) → length_begun + added ≤ size
    → more * (size + 2) + (added + 1) ≤ suc more * (size + 2) - length_begun
falls_by_line more size length_begun added fits = grind arith

room_ended : (lines number size length_begun added : ℕ) → number < lines → length_begun + added ≤ size
    → (lines - (number + 1)) * (size + 2) - 0 + (added + 1) ≤ (lines - number) * (size + 2) - length_begun
room_ended lines number size length_begun added counted fits =
    let step : lines - number ≡ suc (lines - (number + 1)) = omega arith in
    rw step (omega (arith, falls_by_line (lines - (number + 1)) size length_begun added fits))

-- and where bytes are begun
falls_by_bytes : (more size length_begun added : ℕ) → length_begun + added ≤ size
    → suc more * (size + 2) - (length_begun + added) + added ≤ suc more * (size + 2) - length_begun
falls_by_bytes more size length_begun added fits = grind arith

room_open : (lines number size length_begun added : ℕ) → number < lines → length_begun + added ≤ size
    → (lines - number) * (size + 2) - (length_begun + added) + added ≤ (lines - number) * (size + 2) - length_begun
room_open lines number size length_begun added counted fits =
    let step : lines - number ≡ suc (lines - (number + 1)) = omega arith in
    rw step (falls_by_bytes (lines - (number + 1)) size length_begun added fits)

-- how a reader is left that began a line anew or went on with one
pub record Follows (old new : Reading) (now : List ℕ) (more : ℕ) : Type 0 where
  pub begun_now : begun new ≡ now
  pub number_now : new.number ≡ old.number + more
  pub line_bytes_same : new.line_bytes ≡ old.line_bytes
  pub lines_same : new.lines ≡ old.lines
  pub failed_same : new.failed ≡ old.failed

module _ (old new : Reading) (piece front : List ℕ) (keeps : KeepsLimits old) (admits : Admits old (length front)) where
  -- where the piece has a newline, the line ends
  module _ (h : IsFront piece front true) (follows : Follows old new [] 1) where
    line_within : IsWithinLine (begun old ++ front)
    line_within = All-append (λ byte. byte ≢ NEWLINE) (begun old) front keeps.within_line h.within_line

    used_part : take (length front + 1) piece ≡ front ++ NEWLINE ∷ []
    used_part =
        ap (take (length front + 1)) (h.parts ∙ sym (append_assoc front (NEWLINE ∷ []) (drop (length front + 1) piece)))
        ∙ take_at (front ++ NEWLINE ∷ []) (drop (length front + 1) piece) (length front + 1) (length-append front (NEWLINE ∷ []))

    lines_ended : (later : List ℕ) → lines_of (begun old ++ (piece ++ later)) ≡ (begun old ++ front)
        ∷ lines_of (begun new ++ (drop (length front + 1) piece ++ later))
    lines_ended later =
        ap (λ bytes. lines_of (begun old ++ (bytes ++ later))) h.parts
        ∙ ap (λ bytes. lines_of (begun old ++ bytes)) (append_assoc front (NEWLINE ∷ drop (length front + 1) piece) later)
        ∙ ap lines_of (sym (append_assoc (begun old) front (NEWLINE ∷ (drop (length front + 1) piece ++ later))))
        ∙ lines_of-ended (begun old ++ front) (drop (length front + 1) piece ++ later) line_within
        ∙ ap (λ bytes. (begun old ++ front) ∷ lines_of (bytes ++ (drop (length front + 1) piece ++ later))) (sym follows.begun_now)

    pub takes_ended : Takes old new piece (length front + 1) (Some (begun old ++ front))
    unfolding room
    takes_ended = record {
      lines_of_rest = lines_ended;
      ends_at_newline = (
        λ _. subst (λ bytes. Contains bytes NEWLINE) (sym h.parts)
            (Contains-append_right front (NEWLINE ∷ drop (length front + 1) piece) NEWLINE (0, omega arith, refl)),
        λ _. refl,
      );
      line_taken = (
        line_within,
        ap (λ bytes. begun old ++ bytes) used_part
            ∙ sym (append_assoc (begun old) front (NEWLINE ∷ [])),
        follows.begun_now,
      );
      all_taken = tt;
      takes_some = omega arith;
      within_piece = omega (arith, ap length h.parts, length-append front (NEWLINE ∷ drop (length front + 1) piece));
      counted = follows.number_now;
      number_kept = omega (arith, follows.number_now, admits.counted);
      length_kept = omega (arith, length-append (begun old) front, admits.fits);
      same_limits = (follows.line_bytes_same, follows.lines_same);
      no_fault = (admits.no_fault, follows.failed_same ∙ admits.no_fault);
      less_room = rw (follows.begun_now, follows.number_now, follows.line_bytes_same, follows.lines_same)
          (room_ended old.lines old.number old.line_bytes (length (begun old)) (length front) admits.counted admits.fits);
    }

  -- where it has none, all of it is begun
  module _ (h : IsFront piece front false) (some : 0 < length piece) (follows : Follows old new (begun old ++ front) 0) where
    front_is_all : piece ≡ front
    front_is_all = h.parts ∙ append-nil front

    no_newline : Contains piece NEWLINE → ⊥
    no_newline here = All-contains (λ byte. byte ≢ NEWLINE) front NEWLINE h.within_line
        (subst (λ bytes. Contains bytes NEWLINE) front_is_all here) refl

    lines_open : (later : List ℕ) → lines_of (begun old ++ (piece ++ later)) ≡ lines_of (begun new ++ (drop (length front) piece ++ later))
    lines_open later =
        ap (λ bytes. lines_of (begun old ++ (bytes ++ later))) front_is_all
        ∙ ap lines_of (sym (append_assoc (begun old) front later))
        ∙ ap (λ bytes. lines_of (bytes ++ later)) (sym follows.begun_now)
        ∙ ap (λ bytes. lines_of (begun new ++ (bytes ++ later)))
        (sym (drop_all (length front) piece (omega (arith, ap length front_is_all))))

    pub takes_open : Takes old new piece (length front) None
    unfolding room
    takes_open = record {
      lines_of_rest = lines_open;
      ends_at_newline = (λ is. absurd (cc), λ here. absurd (no_newline here));
      line_taken = tt;
      all_taken = (ap length (sym front_is_all), follows.begun_now ∙ ap (λ bytes. begun old ++ bytes) (sym front_is_all));
      takes_some = omega (arith, some, ap length front_is_all);
      within_piece = omega (arith, ap length front_is_all);
      counted = follows.number_now;
      number_kept = omega (arith, follows.number_now, admits.counted);
      length_kept = tt;
      same_limits = (follows.line_bytes_same, follows.lines_same);
      no_fault = (admits.no_fault, follows.failed_same ∙ admits.no_fault);
      less_room = (
          let number : new.number ≡ old.number = omega (arith, follows.number_now) in
          rw (follows.begun_now, number, follows.line_bytes_same, follows.lines_same, length-append (begun old) front)
          (room_open old.lines old.number old.line_bytes (length (begun old)) (length front) admits.counted admits.fits)
          );
    }

-- a line that grows by the front of a piece
pub takes_grown : (old : Reading) (piece front : List ℕ) (ends : Bool) → 0 < length piece → KeepsLimits old → Admits old (length front)
    → IsFront piece front ends
    → Takes old (grown old front ends) piece (length front + bool_byte ends) (cond ends (Some (begun old ++ front)) None)
takes_grown old piece front true some keeps admits h =
    takes_ended old (grown old front true) piece front keeps admits h
    (record { begun_now = refl; number_now = refl; line_bytes_same = refl; lines_same = refl; failed_same = refl })
takes_grown old piece front false some keeps admits h =
    let used : length front ≡ length front + 0 = omega arith in
    subst (λ used. Takes old (grown old front false) piece used None) used
    (takes_open old (grown old front false) piece front keeps admits h some
    (record { begun_now = refl; number_now = refl; line_bytes_same = refl; lines_same = refl; failed_same = refl }))

-- a line that lies whole in the piece
pub takes_lent : (old : Reading) (piece front : List ℕ) → old.whole ≡ true → KeepsLimits old → Admits old (length front)
    → IsFront piece front true
    → Takes old (record old { number = old.number + 1 }) piece (length front + 1) (Some front)
takes_lent old piece front whole keeps admits h =
    let nothing : begun old ≡ [] = ap (λ whole. cond whole [] old.line) whole in
    subst (λ begun. Takes old (record old { number = old.number + 1 }) piece (length front + 1) (Some (begun ++ front))) nothing
    (takes_ended old (record old { number = old.number + 1 }) piece front keeps admits h
    (record { begun_now = nothing; number_now = refl; line_bytes_same = refl; lines_same = refl; failed_same = refl }))

-- a limit that was passed is kept in mind
remembered : (old : Reading) (fault : LineFault) → Some fault ≢ Some OutOfMemory
    → (let new : Reading = record old { failed = Some fault } in new ≡ after_fault old fault)
remembered old LineBytes h = refl
remembered old FileLines h = refl
remembered old OutOfMemory h = absurd (h refl)

-- a piece whose front passes a limit
pub refuses : (old view : Reading) (piece front : List ℕ) (ends : Bool) (fault : LineFault) → view ≡ old → KeepsLimits old
    → 0 < length piece
    → IsFront piece front ends → (Some fault ≡ Some LineBytes → GrowsTooLong old (length front))
    → (Some fault ≡ Some FileLines → PassesFileLines old)
    → Some fault ≢ Some OutOfMemory → Refuses old (record view { failed = Some fault }) piece fault
refuses old view piece front ends fault same keeps some h too_long too_many memory = record {
  state = ap (λ view. let new : Reading = record view { failed = Some fault } in new) same ∙ remembered old fault memory;
  too_long = λ is none later.
      let passed = subst (λ failed. MatchOption failed ((old.number < old.lines) × (old.line_bytes < length (begun old) + length front))
      (λ fault. fault ≡ LineBytes)) none (too_long (ap Some is)) in
      let far = first_line-at_least (begun old) piece front ends keeps.within_line h later in
      (passed.0, omega (arith, passed.1, far));
  too_many = λ is none later.
      let passed = subst (λ failed. MatchOption failed (old.number ≡ old.lines) (λ fault. fault ≡ FileLines)) none
      (too_many (ap Some is)) in
      let longer : 0 < length (begun old ++ (piece ++ later)) =
      omega (arith, some, length-append (begun old) (piece ++ later), length-append piece later) in
      (passed, lines_of-some (begun old ++ (piece ++ later)) longer);
}

-- the same by way of a reader that is equal to the old one
pub takes_as_grown : (old mid new : Reading) (piece front : List ℕ) (ends : Bool) (newline : ℕ) → mid ≡ old → new ≡ grown mid front ends
    → newline ≡ bool_byte ends
    → 0 < length piece → KeepsLimits mid → Admits old (length front) → IsFront piece front ends
    → Takes old new piece (length front + newline) (cond ends (Some new.line) None)
takes_as_grown old mid new piece front ends newline same is newline_is some keeps admits h =
    let grows = takes_grown old piece front ends some (subst KeepsLimits same keeps) admits h in
    let now : grown old front ends ≡ new = ap (λ reading. grown reading front ends) (sym same) ∙ sym is in
    subst (λ newline. Takes old new piece (length front + newline) (cond ends (Some new.line) None)) (sym newline_is)
    (subst (λ new. Takes old new piece (length front + bool_byte ends) (cond ends (Some new.line) None)) now grows)

pub takes_as_lent : (old mid view : Reading) (piece front : List ℕ) (ends : Bool) (newline : ℕ) → mid ≡ old → view ≡ mid → view.whole ≡ true
    → ends ≡ true → newline ≡ bool_byte ends
    → KeepsLimits mid → Admits old (length front) → IsFront piece front ends
    → Takes old (record view { number = view.number + 1 }) piece (length front + newline) (Some front)
takes_as_lent old mid view piece front ends newline same is whole ended newline_is keeps admits h =
    let one : 1 ≡ newline = sym (newline_is ∙ ap (λ ends. bool_byte ends) ended) in
    let at_old : old ≡ view = sym (is ∙ same) in
    let lends = takes_lent old piece front (ap (λ reading. let r : Reading = reading in r.whole) at_old ∙ whole)
    (subst KeepsLimits same keeps) admits (subst (IsFront piece front) ended h) in
    subst (λ newline. Takes old (record view { number = view.number + 1 }) piece (length front + newline) (Some front)) one
    (subst (λ reading. Takes old (let r : Reading = reading in record r { number = r.number + 1 }) piece (length front + 1) (Some front))
    at_old lends)
