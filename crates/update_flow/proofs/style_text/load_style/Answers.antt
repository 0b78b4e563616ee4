use Rattle.std.proofs.Common.{◌≡◌, ◌∙◌, ℕ, List, Some, Ok, Err, refl, sym, ap, subst}
use Rattle.std.specs.FinMap as map
use Rattle.style_read.specs.declared.style.Style.{Style}
use Rattle.style_read.specs.declared.fault.StyleFault.{StyleFault}
use Rattle.style_read.specs.declared.fault.StyleFault.TheVariants.{Bad}
use Rattle.style_read.specs.Reading.{Gives, reading}
use Rattle.page_journal.specs.Journal.{is_broken}
use Rattle.chain_store.specs.Chains.{first_of, journal_of, kept_of, written_of}
use Rattle.bucket_store.specs.Transaction.{chains_of}
use Rattle.update_flow.specs.Refusals.{MayFind}
use Rattle.update_flow.specs.Within.{IsSound}
use Rattle.update_flow.specs.declared.fault.FlowFault.{FlowFault}
use Rattle.update_flow.proofs.OpeningReads.{text_read}
use Rattle.update_flow.proofs.Judgements.{loaded_unwritten, style_refused}
use Rattle.update_flow.proofs.Openings.{bad_none, reads_alone, sound_store}
use Rattle.update_flow.specs.BadPage.{NoStyle}
use Rattle.update_flow.specs.Judged.{LoadsStyle}
use Rattle.update_flow.specs.declared.fields.TheConstants.{STYLE_TEXT}
use Rattle.update_flow.proofs.style_text.load_style.Goals as goal

pub returns-in-Err-clause-sound : goal.returns-in-Err-clause-sound
returns-in-Err-clause-sound g c = λ rest now style has is.
    subst (λ (f : FlowFault). IsSound (Some f)) (sym c.store_fault.ensures)
    (sound_store (List ℕ) c.in-Err.fault (c.in-Err.ensures.text.sound rest now has))

pub returns-in-Ok-read_style-clause-style : goal.returns-in-Ok-read_style-clause-style
returns-in-Ok-read_style-clause-style g c = λ rest now has.
    ap (λ (b : List ℕ). reading b) (sym (c.in-Ok.ensures.text.found rest now has) ∙ sym c.as_slice.ensures.items)
    ∙ c.in-Ok-read_style.ensures.exact

pub returns-in-Err-Bad-clause-sound : goal.returns-in-Err-Bad-clause-sound
returns-in-Err-Bad-clause-sound g c = λ rest now style has is.
    let good : reading c.as_slice.result.now ≡ Ok style =
    ap (λ (b : List ℕ). reading b) (c.as_slice.ensures.items ∙ c.in-Ok.ensures.text.found rest now has) ∙ is in
    let bad : Gives (Err (Bad c.in-Err-Bad.field-0-0 c.in-Err-Bad.field-0-1)) (reading c.as_slice.result.now) =
    subst (λ (f : StyleFault). Gives (Err f) (reading c.as_slice.result.now)) c.in-Err-Bad.field-0-is c.in-Err-Bad.ensures.exact in
    absurd (cc (bad, good))

pub returns-in-Err-clause-alone : goal.returns-in-Err-clause-alone
returns-in-Err-clause-alone g c =
    subst (λ (f : FlowFault). MayFind f) (sym c.store_fault.ensures)
    (reads_alone (List ℕ) (is_broken (journal_of (chains_of c.args.buckets.now))) c.in-Err.fault c.requires.ready.whole
    c.in-Err.ensures.touches.alone)

pub returns-in-Ok-read_style-clause-reads : goal.returns-in-Ok-read_style-clause-reads
returns-in-Ok-read_style-clause-reads g c = λ rest now has.
    text_read c.args.buckets.now c.load.new.self rest now has c.in-Ok.ensures.touches.reads c.in-Ok.ensures.touches.stays
    c.in-Ok.ensures.touches.opens

-- which page is blamed
pub returns-in-Err-clause-unread : goal.returns-in-Err-clause-unread
returns-in-Err-clause-unread g c = λ at is image has.
    absurd (bad_none Style (Err c.store_fault.result) at is
    (subst (λ (f : FlowFault). IsSound (Some f)) (sym c.store_fault.ensures)
    (sound_store (List ℕ) c.in-Err.fault (c.in-Err.ensures.text.sound image image has))))

pub returns-in-Err-clause-answers : goal.returns-in-Err-clause-answers
returns-in-Err-clause-answers g c = λ pages opens none.
    let chains = chains_of c.args.buckets.now in
    subst (λ (f : FlowFault). LoadsStyle pages (kept_of chains) (Err f)) (sym c.store_fault.ensures)
    (style_refused pages (kept_of chains) (map.get (written_of chains) STYLE_TEXT) c.in-Err.fault (c.in-Err.ensures.text.answers pages opens))

pub returns-in-Ok-read_style-clause-answers : goal.returns-in-Ok-read_style-clause-answers
returns-in-Ok-read_style-clause-answers g c = λ pages opens none.
    let chains = chains_of c.args.buckets.now in
    record {
      text = c.in-Ok.bytes;
      has = loaded_unwritten pages STYLE_TEXT (first_of chains STYLE_TEXT) (written_of chains) c.in-Ok.bytes none
          (c.in-Ok.ensures.text.answers pages opens);
      reads = ap (λ (b : List ℕ). reading b) (sym c.as_slice.ensures.items) ∙ c.in-Ok-read_style.ensures.exact;
    }

pub returns-in-Err-Bad-clause-answers : goal.returns-in-Err-Bad-clause-answers
returns-in-Err-Bad-clause-answers g c = λ pages opens none.
    let chains = chains_of c.args.buckets.now in
    NoStyle c.in-Ok.bytes
    (loaded_unwritten pages STYLE_TEXT (first_of chains STYLE_TEXT) (written_of chains) c.in-Ok.bytes none
    (c.in-Ok.ensures.text.answers pages opens))
    (λ style is.
    let good : reading c.as_slice.result.now ≡ Ok style = ap (λ (b : List ℕ). reading b) c.as_slice.ensures.items ∙ is in
    let bad : Gives (Err (Bad c.in-Err-Bad.field-0-0 c.in-Err-Bad.field-0-1)) (reading c.as_slice.result.now) =
    subst (λ (f : StyleFault). Gives (Err f) (reading c.as_slice.result.now)) c.in-Err-Bad.field-0-is c.in-Err-Bad.ensures.exact in
    absurd (cc (bad, good)))
    refl

pub returns-in-Err-Bad-clause-unread : goal.returns-in-Err-Bad-clause-unread
returns-in-Err-Bad-clause-unread g c = λ at is image has. record {
  one = cc (is);
  none = λ style own.
      let good : reading c.as_slice.result.now ≡ Ok style =
      ap (λ (b : List ℕ). reading b) (c.as_slice.ensures.items ∙ c.in-Ok.ensures.text.found image image has) ∙ own in
      let bad : Gives (Err (Bad c.in-Err-Bad.field-0-0 c.in-Err-Bad.field-0-1)) (reading c.as_slice.result.now) =
      subst (λ (f : StyleFault). Gives (Err f) (reading c.as_slice.result.now)) c.in-Err-Bad.field-0-is c.in-Err-Bad.ensures.exact in
      absurd (cc (bad, good));
}

pub returns-in-Ok-read_style-clause-looks : goal.returns-in-Ok-read_style-clause-looks
returns-in-Ok-read_style-clause-looks g c = record {
  only = record {
    going = c.in-Ok.ensures.touches.refused;
    has = λ rest was. c.in-Ok.ensures.text.keeps.has refl rest rest was;
    stays = c.in-Ok.ensures.touches.stays;
  };
  opens = c.in-Ok.ensures.touches.opens;
}
