use Rattle.std.proofs.Common.{Option, Ok, ℕ, ◌*◌, refl, subst, ◌∙◌, arith}
use Rattle.page_journal.specs.Answers.{Looks}
use Rattle.page_journal.specs.Home.{Home}
use Rattle.page_journal.specs.Pages.{page_count}
use Rattle.page_journal.proofs.Moments.{goes_then}
use Rattle.page_journal.proofs.ReadCounts.{copied_reads, reads_more}
use Rattle.page_journal.proofs.Shut.{finished_shut, finishes_looks, goes_looked}
use Rattle.page_journal.proofs.opening.finish.Goals as goal

pub returns-in-Ok-None-clause-reads : goal.returns-in-Ok-None-clause-reads
returns-in-Ok-None-clause-reads g c = λ bytes formatted long head.
    reads_more (page_count bytes) (3 * page_count bytes) _ _ _ _ (omega arith) (omega arith)
    (c.look.ensures.reads bytes formatted long head)

pub returns-in-Err-clause-reads : goal.returns-in-Err-clause-reads
returns-in-Err-clause-reads g c = λ bytes formatted long head.
    reads_more (page_count bytes) (3 * page_count bytes) _ _ _ _ (omega arith) (omega arith)
    (c.look.ensures.reads bytes formatted long head)

pub returns-in-Ok-clause-reads : goal.returns-in-Ok-clause-reads
returns-in-Ok-clause-reads g c = λ bytes formatted long head.
    copied_reads c.in-Ok-Some.field-0 c.in-Ok-Some.first c.in-Ok-Some.count c.args.len bytes _ _ _ c.in-Ok-Some.field-0-is
    c.in-Ok-Some.ensures.room
    (c.in-Ok-Some.ensures.found bytes formatted head) long
    (c.look.ensures.reads bytes formatted long head) c.copy_and_shut.ensures.copies.reads

pub returns-in-Err-copy_and_shut-clause-reads : goal.returns-in-Err-copy_and_shut-clause-reads
returns-in-Err-copy_and_shut-clause-reads g c = λ bytes formatted long head.
    copied_reads c.in-Ok-Some.field-0 c.in-Ok-Some.first c.in-Ok-Some.count c.args.len bytes _ _ _ c.in-Ok-Some.field-0-is
    c.in-Ok-Some.ensures.room
    (c.in-Ok-Some.ensures.found bytes formatted head) long
    (c.look.ensures.reads bytes formatted long head) c.copy_and_shut.ensures.copies.reads

pub returns-in-Ok-None-clause-answers : goal.returns-in-Ok-None-clause-answers
returns-in-Ok-None-clause-answers g c = λ bytes told formatted long head is_open.
    absurd (subst (λ (found : Option (ℕ × ℕ)). Looks bytes (Ok found)) c.in-Ok-None.field-0-is
    (c.in-Ok-None.ensures.answers bytes told formatted long head) is_open)

pub returns-in-Ok-None-clause-done : goal.returns-in-Ok-None-clause-done
returns-in-Ok-None-clause-done g c = λ bytes told only formatted long head.
    let stays = c.look.ensures.looks.stays in
    let shut = subst (λ (found : Option (ℕ × ℕ)). Looks bytes (Ok found)) c.in-Ok-None.field-0-is
    (c.in-Ok-None.ensures.answers bytes told formatted long head) in
    (bytes, stays.content ∙ told, λ left now. only left (stays.runs.now left now), finished_shut bytes formatted shut)

pub returns-in-Ok-None-clause-any_moment : goal.returns-in-Ok-None-clause-any_moment
returns-in-Ok-None-clause-any_moment g c =
    λ bytes pages told only long home head. goes_looked pages bytes _ _ only home c.look.ensures.looks.stays

pub returns-in-Ok-None-clause-shut : goal.returns-in-Ok-None-clause-shut
returns-in-Ok-None-clause-shut g c = λ bytes formatted head shut. (refl, (c.look.ensures.shut bytes formatted head shut).1)

pub returns-in-Err-clause-answers : goal.returns-in-Err-clause-answers
returns-in-Err-clause-answers g c = λ bytes told formatted long head.
    finishes_looks bytes c.in-Err.fault (c.in-Err.ensures.answers bytes told formatted long head)

pub returns-in-Err-clause-any_moment : goal.returns-in-Err-clause-any_moment
returns-in-Err-clause-any_moment g c = λ bytes pages told only long home head.
    goes_looked pages bytes _ _ only home c.look.ensures.looks.stays

pub returns-in-Err-clause-shut : goal.returns-in-Err-clause-shut
returns-in-Err-clause-shut g c = λ bytes formatted head shut. (tt, (c.look.ensures.shut bytes formatted head shut).1)

pub returns-in-Ok-clause-done : goal.returns-in-Ok-clause-done
returns-in-Ok-clause-done g c = λ bytes told only formatted long head.
    let is = subst (λ (found : Option (ℕ × ℕ)). Looks bytes (Ok found)) c.in-Ok-Some.field-0-is
    (c.in-Ok-Some.ensures.answers bytes told formatted long head) in
    c.in-Ok.ensures.done bytes (c.look.ensures.looks.stays.content ∙ told) formatted is.1 is.0 is.2 is.3

pub returns-in-Ok-clause-any_moment : goal.returns-in-Ok-clause-any_moment
returns-in-Ok-clause-any_moment g c = λ bytes pages told only long home head.
    let stays = c.look.ensures.looks.stays in
    let is = subst (λ (found : Option (ℕ × ℕ)). Looks bytes (Ok found)) c.in-Ok-Some.field-0-is
    (c.in-Ok-Some.ensures.answers bytes told home.formatted long head) in
    goes_then (Home pages) _ _ _ (goes_looked pages bytes _ _ only home stays)
    (c.copy_and_shut.ensures.any_moment bytes pages (stays.content ∙ told)
    (λ left now. only left (stays.runs.now left now)) home is.0 is.2 is.3)

pub returns-in-Err-copy_and_shut-clause-any_moment : goal.returns-in-Err-copy_and_shut-clause-any_moment
returns-in-Err-copy_and_shut-clause-any_moment g c = λ bytes pages told only long home head.
    let stays = c.look.ensures.looks.stays in
    let is = subst (λ (found : Option (ℕ × ℕ)). Looks bytes (Ok found)) c.in-Ok-Some.field-0-is
    (c.in-Ok-Some.ensures.answers bytes told home.formatted long head) in
    goes_then (Home pages) _ _ _ (goes_looked pages bytes _ _ only home stays)
    (c.copy_and_shut.ensures.any_moment bytes pages (stays.content ∙ told)
    (λ left now. only left (stays.runs.now left now)) home is.0 is.2 is.3)
