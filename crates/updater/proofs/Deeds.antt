-- What single deeds of a run leave.
use Rattle.std.proofs.Common.{◌≡◌, ℕ, Option, Some, None, List, [], ◌++◌, Result, Ok, Err, OnErr, refl, sym, ◌∙◌, ap}
use Rattle.std.specs.Result.{IsErr, IsErrAnd, result_err}
use Rattle.std.specs.Io.KnownBytes.{Appends}
use Rattle.outside.specs.Bytes.{AppendsPrefix, BothKnown}
use Rattle.std.proofs.lemmas.List.{append-nil, append_assoc}
use Rattle.run_promise.specs.declared.fault.Fault.{Fault}
use Rattle.run_promise.specs.declared.fault.Fault.TheVariants.{OutOfMemory}
use Rattle.run_promise.specs.World.{GrewBy}

-- an error that is want of memory
pub no_memory : (result : Result (Unit {0}) Fault) → IsErr result × IsErrAnd result (λ fault. fault ≡ OutOfMemory)
    → result_err result ≡ Some OutOfMemory
no_memory (Ok value) h = absurd h.1
no_memory (Err fault) h = ap Some h.1

-- nothing was written
pub took_nothing : (taken : Option (List ℕ)) → BothKnown taken taken (GrewBy [] [])
took_nothing None = tt
took_nothing (Some bytes) = record { front = []; rest = []; cut = refl; grown = sym (append-nil (bytes ++ []) ∙ append-nil bytes) }

-- a text was written whole
pub took_all : (before after : Option (List ℕ)) (text : List ℕ) → Appends before after text → BothKnown before after (GrewBy text [])
took_all None after text h = tt
took_all (Some bytes) None text h = absurd h
took_all (Some bytes) (Some more) text h = record { front = []; rest = []; cut = refl; grown = h ∙ sym (append-nil (bytes ++ text)) }

-- and a front of it
pub took_front : (before after : Option (List ℕ)) (text : List ℕ) → AppendsPrefix before after text
    → BothKnown before after (GrewBy [] text)
took_front None after text h = tt
took_front (Some bytes) None text h = absurd h
took_front (Some bytes) (Some more) text h =
    record { front = h.0; rest = h.1; cut = h.2; grown = h.3 ∙ ap (λ own. own ++ h.0) (sym (append-nil bytes)) }

-- a front of a text is one of a longer text
pub front_longer : (before after : Option (List ℕ)) (text more : List ℕ) → AppendsPrefix before after text
    → AppendsPrefix before after (text ++ more)
front_longer None after text more h = tt
front_longer (Some bytes) None text more h = absurd h
front_longer (Some bytes) (Some other) text more h = (h.0, h.1 ++ more, ap (λ own. own ++ more) h.2 ∙ append_assoc h.0 h.1 more, h.3)

-- and behind a text that was written whole
front_behind : (first second third : Option (List ℕ)) (text more : List ℕ) → Appends first second text → AppendsPrefix second third more
    → AppendsPrefix first third (text ++ more)
front_behind None second third text more all h = tt
front_behind (Some one) None third text more all h = absurd all
front_behind (Some one) (Some two) None text more all h = absurd h
front_behind (Some one) (Some two) (Some three) text more all h = (
  text ++ h.0,
  h.1,
  ap (λ own. text ++ own) h.2 ∙ sym (append_assoc text h.0 h.1),
  h.3 ∙ ap (λ own. own ++ h.0) all
      ∙ append_assoc one text h.0,
)

pub took_lines : (first second third fourth : Option (List ℕ)) (one two three : List ℕ) (result : Result (Unit {0}) Fault)
    → Appends first second one → Appends second third two → OnErr result (AppendsPrefix third fourth three)
    → OnErr result (AppendsPrefix first fourth (one ++ (two ++ three)))
took_lines first second third fourth one two three (Ok value) h k l = tt
took_lines first second third fourth one two three (Err fault) h k l =
    front_behind first second fourth one (two ++ three) h (front_behind second third fourth two three k l)
