-- No page has a mark at first, and a store that means something is refused nothing.
use Rattle.std.proofs.Common.{refl}
use Rattle.page_journal.specs.declared.fault.StoreFault.TheVariants.{OutOfMemory}
use Rattle.store_check.proofs.Finding.{sound_answer}
use Rattle.store_check.proofs.Steps.{looks_refused}
use Rattle.store_check.proofs.surveying.survey.Goals as goal

pub returns-in-Ok-clause-sound : goal.returns-in-Ok-clause-sound
returns-in-Ok-clause-sound g c rest has =
    sound_answer c.args.buckets.now c.survey_all.result c.survey_all.ensures.looks.alone c.survey_all.ensures.answers rest has

pub returns-in-Err-clause-looks : goal.returns-in-Err-clause-looks
returns-in-Err-clause-looks g c =
    looks_refused c.args.buckets.now c.refuse.new.self OutOfMemory c.refuse.ensures.chains c.refuse.ensures.same c.refuse.ensures.refused
    refl tt
