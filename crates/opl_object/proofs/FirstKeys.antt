-- The first field of a line, where its id is followed by a blank or by the end.
use Rattle.std.proofs.Common.{◌≡◌, ℕ, suc, true, false, inl, inr, List, [], ◌∷◌, take, drop, Option, None, Some, Result, Ok, refl, sym, ◌∙◌, ap, arith}
use Rattle.std.specs.List.{position_or_len, before_first}
use Rattle.std.specs.Option.{option_map}
use Rattle.std.proofs.lemmas.Bool.{false_from_ne_true}
use Rattle.osm_base.specs.declared.values.key.Kind.{Kind}
use Rattle.osm_base.specs.values.Key.{KeyOf}
use Rattle.opl_object.specs.declared.why.Why.{Why}
use Rattle.opl_object.specs.declared.why.Why.TheVariants as causes
use Rattle.opl_object.specs.Fields.{is_blank, fields_of}
use Rattle.opl_object.specs.Line.{key_of}
use Rattle.opl_object.specs.Members.{kind_of, kind_at}
use Rattle.opl_object.specs.Number.{id_of}
use Rattle.opl_object.specs.Why.{◌>>=◌, given}
use Rattle.opl_object.proofs.Cuts.{fields_first}
use Rattle.opl_object.proofs.Fronts.{blank_cases}

-- the fields and the key of a text
pub record FrontKey (text rest : List ℕ) (found : KeyOf) : Type 0 where
  pub fields : fields_of text ≡ before_first is_blank text ∷ fields_of rest
  pub key : key_of (before_first is_blank text) ≡ Ok found

-- no letter of a kind is a blank
kind_filled : (byte : ℕ) (kind : Kind) → kind_of byte ≡ Some kind → is_blank byte ≡ false
unfolding kind_of
kind_filled byte kind found = false_from_ne_true _ (λ blank. elim (blank_cases byte blank) [
  | inl space ↦ (let none : no_kind ≡ Some kind = rw space at found in cc)
  | inr tab ↦ (let none : no_kind ≡ Some kind = rw tab at found in cc)
]) where
  no_kind : Option Kind
  no_kind = None

abbrev with_rest : List ℕ → Kind → Kind × List ℕ
with_rest rest kind = (kind, rest)

-- what a kind and the text behind it were made of
kind_parts : (found : Option Kind) (kind : Kind) (digits rest : List ℕ) → Some (with_rest digits kind) ≡ option_map (with_rest rest) found
    → (found ≡ Some kind) × (digits ≡ rest)
kind_parts None kind digits rest e = absurd (cc)
kind_parts (Some other) kind digits rest e = (let same : with_rest digits kind ≡ with_rest rest other = cc in
    (ap (λ (pair : Kind × List ℕ). some_kind pair.0) (sym same), ap (λ (pair : Kind × List ℕ). pair.1) same)) where
      some_kind : Kind → Option Kind
      some_kind kind = Some kind

abbrev with_id : Kind → ℕ → Result KeyOf Why
with_id kind id = Ok (record { kind = kind; id = id })

abbrev with_kind : Kind × List ℕ → Result KeyOf Why
with_kind front = id_of front.1 >>= with_id front.0

abbrev key_from : List ℕ → Option Kind → Result KeyOf Why
key_from rest found = given causes.Kind (option_map (with_rest rest) found) >>= with_kind

key_of-front : (byte id : ℕ) (kind : Kind) (digits : List ℕ) → kind_of byte ≡ Some kind → id_of digits ≡ Ok id
    → key_of (byte ∷ digits) ≡ Ok (record { kind = kind; id = id })
unfolding key_of
key_of-front byte id kind digits found number = ap (key_from digits) found ∙ ap (λ read. read >>= with_id kind) number

pub front_key : (text : List ℕ) (kind : Kind) (digits rest : List ℕ) (end id : ℕ) → Some (kind, digits) ≡ kind_at text
    → end ≡ position_or_len is_blank digits → rest ≡ drop end digits → id_of (take end digits) ≡ Ok id
    → FrontKey text rest (record { kind = kind; id = id })
unfolding kind_of
front_key [] kind digits rest end id found place behind number =
    absurd (let none : Some (with_rest digits kind) ≡ option_map (with_rest []) no_kind = found in cc) where
      no_kind : Option Kind
      no_kind = None
front_key (byte ∷ more) kind digits rest end id found place behind number =
    let parts = kind_parts (kind_of byte) kind digits more found in
    let plain : is_blank byte ≡ false = kind_filled byte kind parts.0 in
    let ends : position_or_len is_blank more ≡ end = ap (position_or_len is_blank) (sym parts.1) ∙ sym place in
    let len : position_or_len is_blank (byte ∷ more) ≡ suc end = rw plain (omega (arith, ends)) in
    let front : before_first is_blank (byte ∷ more) ≡ byte ∷ take end digits
    = ap (λ n. take n (byte ∷ more)) len ∙ ap (λ t. byte ∷ take end t) (sym parts.1) in
    let later : drop (position_or_len is_blank (byte ∷ more)) (byte ∷ more) ≡ rest
    = ap (λ n. drop n (byte ∷ more)) len ∙ ap (drop end) (sym parts.1) ∙ sym behind in
    record {
      fields = fields_first byte more plain ∙ ap (λ t. before_first is_blank (byte ∷ more) ∷ fields_of t) later;
      key = ap key_of front ∙ key_of-front byte id kind (take end digits) parts.0 number;
    }
