-- Fields: what is read is spelled so, and what is spelled so is read.
use Rattle.std.proofs.Common.{◌≡◌, ◌≢◌, ℕ, Bool, true, false, cond, ◌⊎◌, inl, inr, eqb, eq-eqb, List, [], ◌∷◌, Option, None, Some, Result}
use Rattle.std.proofs.Common.{Ok, Err, refl, sym, ◌∙◌, ap, subst, arith, map}
use Rattle.std.specs.Prelude.{ℤ, nat_abs}
use Rattle.std.specs.List.{AllByRecursion}
use Rattle.std.specs.Option.{option_map}
use Rattle.std.specs.Str.{IsUtf8}
use Rattle.std.proofs.lemmas.Bool.{cases_Bool, eqb-true, false_from_ne_true}
use Rattle.osm_base.specs.declared.values.key.Kind.{Kind}
use Rattle.osm_base.specs.declared.values.key.Kind.TheVariants as kinds
use Rattle.osm_base.specs.declared.values.object.Member.{Member}
use Rattle.osm_base.specs.declared.values.place.TheConstants.{MAX_LON, MAX_LAT}
use Rattle.osm_base.specs.values.Tags.{TagMap}
use Rattle.opl_object.specs.declared.letter.Letter.{Letter}
use Rattle.opl_object.specs.declared.letter.Letter.TheVariants.{Version, Visible, Changeset, Time, UserId, User, Tags, Lon, Lat, Nodes}
use Rattle.opl_object.specs.declared.letter.Letter.TheVariants.{Members}
use Rattle.opl_object.specs.declared.parts.Parts.{Parts}
use Rattle.opl_object.specs.declared.why.Why.{Why}
use Rattle.opl_object.specs.declared.why.Why.TheVariants as causes
use Rattle.opl_object.specs.Coordinate.{coordinate}
use Rattle.opl_object.specs.Fields.{is_empty}
use Rattle.opl_object.specs.Letter.{own_letter, letter_of, letter_at, byte_of, also, none_stood}
use Rattle.opl_object.specs.Members.{members_of}
use Rattle.opl_object.specs.Nodes.{nodes_of}
use Rattle.opl_object.specs.Number.{is_whole, is_time}
use Rattle.opl_object.specs.Parts.{nothing, checked, with_visible, with_lon, with_lat, with_value, new_field, with_field, parts_of}
use Rattle.opl_object.specs.Spelling.{AreDistinct, SpellsTags, SpellsList, SpellsNode, SpellsMember}
use Rattle.opl_object.specs.Spells.{Belongs, SpellsDegrees, SpellsVisible, Says, Lacks, field_text, SayParts}
use Rattle.opl_object.specs.Tags.{tags_of}
use Rattle.opl_object.specs.Text.{text_of}
use Rattle.opl_object.specs.Why.{◌>>=◌, each_piece, given}
use Rattle.opl_object.proofs.Letters.{byte_of_small}
use Rattle.opl_object.proofs.SpelledLists.{nil_is, some_is_not, utf8_sides, nodes_spell, nodes_again, members_spell, members_again}
use Rattle.opl_object.proofs.SpelledNumbers.{coordinate_spells, coordinate_again, coordinate_nonempty}
use Rattle.opl_object.proofs.SpelledTags.{tags_spell, tags_again}
use Rattle.opl_object.proofs.SpelledTexts.{text_spells, text_again}
use Rattle.opl_object.proofs.Steps.{bind_ok, given_ok, chosen, ok_is, some_is}

-- ---- letters

letter_back : ℕ → Letter
letter_back byte =
    cond (eqb byte 118) Version (
    cond (eqb byte 100) Visible (
    cond (eqb byte 99) Changeset (
    cond (eqb byte 116) Time (
    cond (eqb byte 105) UserId (
    cond (eqb byte 117) User (
    cond (eqb byte 84) Tags (
    cond (eqb byte 120) Lon (
    cond (eqb byte 121) Lat (
    cond (eqb byte 78) Nodes (
    Members))))))))))

letter_back-byte_of : (letter : Letter) → letter_back (byte_of letter) ≡ letter
unfolding letter_back
letter_back-byte_of Version = refl
letter_back-byte_of Visible = refl
letter_back-byte_of Changeset = refl
letter_back-byte_of Time = refl
letter_back-byte_of UserId = refl
letter_back-byte_of User = refl
letter_back-byte_of Tags = refl
letter_back-byte_of Lon = refl
letter_back-byte_of Lat = refl
letter_back-byte_of Nodes = refl
letter_back-byte_of Members = refl

-- letters of one byte are one
pub same_letter : (a b : Letter) → byte_of a ≡ byte_of b → a ≡ b
same_letter a b e = sym (letter_back-byte_of a) ∙ ap letter_back e ∙ letter_back-byte_of b

also_apart : (stood : Letter → Bool) (letter other : Letter) → also stood letter other ≡ false → (letter ≢ other) × (stood other ≡ false)
also_apart stood letter other e = elim (cases_Bool (eqb (byte_of other) (byte_of letter))) [
  | inl same ↦ absurd (let wrong : true ≡ false = rw same at e in cc)
  | inr apart ↦ (
    λ is_same. let again : eqb (byte_of other) (byte_of letter) ≡ true = eq-eqb _ _ (ap byte_of (sym is_same)) in
        let wrong : true ≡ false = sym again ∙ apart in cc,
    rw apart at e,
  )
]

also_again : (stood : Letter → Bool) (letter other : Letter) → letter ≢ other → stood other ≡ false → also stood letter other ≡ false
also_again stood letter other apart e =
    let differs : eqb (byte_of other) (byte_of letter) ≡ false =
    false_from_ne_true _ (λ same. apart (same_letter letter other (sym (eqb-true _ _ same)))) in
    rw differs e

-- what a byte is in a line of a kind
record IsLetter (kind : Kind) (byte : ℕ) (letter : Letter) : Type 0 where
  pub byte_is : byte ≡ byte_of letter
  pub belongs : Belongs kind letter

is_letter : (kind : Kind) (byte : ℕ) (found letter : Letter) → byte ≡ byte_of found → Belongs kind found → found ≡ letter
    → IsLetter kind byte letter
is_letter kind byte found letter here belongs e = subst (IsLetter kind byte) e (record { byte_is = here; belongs = belongs })

own_letter_is : (kind : Kind) (byte : ℕ) (letter : Letter) → own_letter kind byte ≡ Some letter → IsLetter kind byte letter
own_letter_is kinds.Node byte letter e = elim (cases_Bool (eqb byte 120)) [
  | inl x ↦ is_letter kinds.Node byte Lon letter (eqb-true byte 120 x) refl (some_is Lon letter (rw x at e))
  | inr not_x ↦ elim (cases_Bool (eqb byte 121)) [
    | inl y ↦ is_letter kinds.Node byte Lat letter (eqb-true byte 121 y) refl (some_is Lat letter (rw (not_x, y) at e))
    | inr not_y ↦ absurd (let wrong : none_of ≡ Some letter = rw (not_x, not_y) at e in cc)
  ]
] where
  none_of : Option Letter
  none_of = None
own_letter_is kinds.Way byte letter e = elim (cases_Bool (eqb byte 78)) [
  | inl n ↦ is_letter kinds.Way byte Nodes letter (eqb-true byte 78 n) refl (some_is Nodes letter (rw n at e))
  | inr not_n ↦ absurd (let wrong : none_of ≡ Some letter = rw not_n at e in cc)
] where
  none_of : Option Letter
  none_of = None
own_letter_is kinds.Relation byte letter e = elim (cases_Bool (eqb byte 77)) [
  | inl m ↦ is_letter kinds.Relation byte Members letter (eqb-true byte 77 m) refl (some_is Members letter (rw m at e))
  | inr not_m ↦ absurd (let wrong : none_of ≡ Some letter = rw not_m at e in cc)
] where
  none_of : Option Letter
  none_of = None

-- one test of a byte
tested : (kind : Kind) (byte code : ℕ) (found letter : Letter) (others : Option Letter) → code ≡ byte_of found → Belongs kind found
    → cond (eqb byte code) (Some found) others ≡ Some letter
    → IsLetter kind byte letter ⊎ (others ≡ Some letter)
tested kind byte code found letter others code_is belongs e = elim (cases_Bool (eqb byte code)) [
  | inl same ↦ inl (is_letter kind byte found letter (eqb-true byte code same ∙ code_is) belongs (some_is found letter (rw same at e)))
  | inr other ↦ inr (rw other at e)
]

letter_of_is : (kind : Kind) (byte : ℕ) (letter : Letter) → letter_of kind byte ≡ Some letter → IsLetter kind byte letter
unfolding letter_of
letter_of_is kind byte letter e =
    elim (tested kind byte 118 Version letter
    (cond (eqb byte 100) (Some Visible) (cond (eqb byte 99) (Some Changeset)
    (cond (eqb byte 116) (Some Time) (cond (eqb byte 105) (Some UserId)
    (cond (eqb byte 117) (Some User) (cond (eqb byte 84) (Some Tags) (own_letter kind byte))))))) refl tt e) [
      | inl found ↦ found
      | inr e1 ↦
          elim (tested kind byte 100 Visible letter
          (cond (eqb byte 99) (Some Changeset) (cond (eqb byte 116) (Some Time)
          (cond (eqb byte 105) (Some UserId) (cond (eqb byte 117) (Some User)
          (cond (eqb byte 84) (Some Tags) (own_letter kind byte)))))) refl tt e1) [
            | inl found ↦ found
            | inr e2 ↦
                elim (tested kind byte 99 Changeset letter
                (cond (eqb byte 116) (Some Time) (cond (eqb byte 105) (Some UserId)
                (cond (eqb byte 117) (Some User) (cond (eqb byte 84) (Some Tags) (own_letter kind byte))))) refl tt e2) [
                  | inl found ↦ found
                  | inr e3 ↦
                      elim (tested kind byte 116 Time letter (cond (eqb byte 105) (Some UserId)
                      (cond (eqb byte 117) (Some User) (cond (eqb byte 84) (Some Tags) (own_letter kind byte)))) refl tt e3) [
                        | inl found ↦ found
                        | inr e4 ↦
                            elim (tested kind byte 105 UserId letter
                            (cond (eqb byte 117) (Some User) (cond (eqb byte 84) (Some Tags) (own_letter kind byte))) refl tt e4) [
                              | inl found ↦ found
                              | inr e5 ↦
                                  elim (tested kind byte 117 User letter
                                  (cond (eqb byte 84) (Some Tags) (own_letter kind byte)) refl tt e5) [
                                    | inl found ↦ found
                                    | inr e6 ↦
                                        elim (tested kind byte 84 Tags letter (own_letter kind byte) refl tt e6) [
                                          | inl found ↦ found
                                          | inr e7 ↦
                                              own_letter_is kind byte letter e7
                                        ]
                                  ]
                            ]
                      ]
                ]
          ]
    ]

letter_of_again : (kind : Kind) (letter : Letter) → Belongs kind letter → letter_of kind (byte_of letter) ≡ Some letter
unfolding letter_of
letter_of_again kind Version b = refl
letter_of_again kind Visible b = refl
letter_of_again kind Changeset b = refl
letter_of_again kind Time b = refl
letter_of_again kind UserId b = refl
letter_of_again kind User b = refl
letter_of_again kind Tags b = refl
letter_of_again kind Lon b = subst (λ k. letter_of k 120 ≡ Some Lon) (sym b) refl
letter_of_again kind Lat b = subst (λ k. letter_of k 121 ≡ Some Lat) (sym b) refl
letter_of_again kind Nodes b = subst (λ k. letter_of k 78 ≡ Some Nodes) (sym b) refl
letter_of_again kind Members b = subst (λ k. letter_of k 77 ≡ Some Members) (sym b) refl

mapped : (found : Option Letter) (rest : List ℕ) (front : Letter × List ℕ) → option_map (λ letter. (letter, rest)) found ≡ Some front
    → (found ≡ Some front.0) × (rest ≡ front.1)
mapped None rest front e = absurd cc
mapped (Some letter) rest front e = let p : pair letter rest ≡ front = some_is (pair letter rest) front e in
    (ap (λ (q : Letter × List ℕ). Some q.0) p, ap (λ (q : Letter × List ℕ). q.1) p) where
      pair : Letter → List ℕ → Letter × List ℕ
      pair l r = (l, r)

pub record IsField (kind : Kind) (field : List ℕ) (front : Letter × List ℕ) : Type 0 where
  pub form : field ≡ field_text front
  pub belongs : Belongs kind front.0

no_zero : (letter : Letter) → 0 ≡ byte_of letter → ⊥
no_zero letter e = elim letter as (λ l. 0 ≡ byte_of l → ⊥) [
  | Version ↦ λ z. omega arith
  | Visible ↦ λ z. omega arith
  | Changeset ↦ λ z. omega arith
  | Time ↦ λ z. omega arith
  | UserId ↦ λ z.
      omega arith
  | User ↦ λ z. omega arith
  | Tags ↦ λ z. omega arith
  | Lon ↦ λ z. omega arith
  | Lat ↦ λ z. omega arith
  | Nodes ↦ λ z.
      omega arith
  | Members ↦ λ z. omega arith
] e

pub letter_at_is : (kind : Kind) (field : List ℕ) (front : Letter × List ℕ) → letter_at kind field ≡ Some front → IsField kind field front
letter_at_is kind [] front e =
    let parts = mapped (letter_of kind 0) [] front e in
    absurd (no_zero front.0 (letter_of_is kind 0 front.0 parts.0).byte_is)
letter_at_is kind (byte ∷ rest) front e =
    let parts = mapped (letter_of kind byte) rest front e in
    let found = letter_of_is kind byte front.0 parts.0 in
    record { form = ap (λ b. b ∷ rest) found.byte_is ∙ ap (λ t. byte_of front.0 ∷ t) parts.1; belongs = found.belongs }

pub letter_at_again : (kind : Kind) (field : Letter × List ℕ) → Belongs kind field.0 → letter_at kind (field_text field) ≡ Some field
letter_at_again kind field belongs = ap (option_map (λ letter. (letter, field.1))) (letter_of_again kind field.0 belongs)

-- ---- what a field leaves as it was

abbrev Keeps : Letter → Parts → Parts → Type 0
Keeps Visible old new = new.deleted ≡ old.deleted
Keeps Tags old new = new.tags ≡ old.tags
Keeps Lon old new = new.lon ≡ old.lon
Keeps Lat old new = new.lat ≡ old.lat
Keeps Nodes old new = new.nodes ≡ old.nodes
Keeps Members old new = new.members ≡ old.members
Keeps _ old new = Unit {0}

keeps_same : (letter : Letter) (p q : Parts) → p ≡ q → Keeps letter p q
keeps_same Visible p q e = ap (λ (r : Parts). r.deleted) (sym e)
keeps_same Tags p q e = ap (λ (r : Parts). r.tags) (sym e)
keeps_same Lon p q e = ap (λ (r : Parts). r.lon) (sym e)
keeps_same Lat p q e = ap (λ (r : Parts). r.lat) (sym e)
keeps_same Nodes p q e = ap (λ (r : Parts). r.nodes) (sym e)
keeps_same Members p q e = ap (λ (r : Parts). r.members) (sym e)
keeps_same _ p q e = tt

keeps_then : (letter : Letter) (p q r : Parts) → Keeps letter p q → Keeps letter q r → Keeps letter p r
keeps_then Visible p q r a b = b ∙ a
keeps_then Tags p q r a b = b ∙ a
keeps_then Lon p q r a b = b ∙ a
keeps_then Lat p q r a b = b ∙ a
keeps_then Nodes p q r a b = b ∙ a
keeps_then Members p q r a b = b ∙ a
keeps_then _ p q r a b = tt

keeps_back : (letter : Letter) (p q r : Parts) → Keeps letter p r → Keeps letter p q → Keeps letter q r
keeps_back Visible p q r a b = a ∙ sym b
keeps_back Tags p q r a b = a ∙ sym b
keeps_back Lon p q r a b = a ∙ sym b
keeps_back Lat p q r a b = a ∙ sym b
keeps_back Nodes p q r a b = a ∙ sym b
keeps_back Members p q r a b = a ∙ sym b
keeps_back _ p q r a b = tt

lacks_kept : (letter : Letter) (p q : Parts) → Lacks letter p → Keeps letter p q → Lacks letter q
lacks_kept Visible p q a b = b ∙ a
lacks_kept Tags p q a b = b ∙ a
lacks_kept Lon p q a b = b ∙ a
lacks_kept Lat p q a b = b ∙ a
lacks_kept Nodes p q a b = b ∙ a
lacks_kept Members p q a b = b ∙ a
lacks_kept _ p q a b = tt

says_kept : (letter : Letter) (value : List ℕ) (p q : Parts) → Says letter value p → Keeps letter p q → Says letter value q
says_kept Version value p q s k = s
says_kept Visible value p q s k = subst (SpellsVisible value) (sym k) s
says_kept Changeset value p q s k = s
says_kept Time value p q s k = s
says_kept UserId value p q s k = s
says_kept User value p q s k = s
says_kept Tags value p q s k = subst (SpellsTags value) (sym k) s
says_kept Lon value p q s k = subst (SpellsDegrees (nat_abs MAX_LON) value) (sym k) s
says_kept Lat value p q s k = subst (SpellsDegrees (nat_abs MAX_LAT) value) (sym k) s
says_kept Nodes value p q s k = subst (SpellsList SpellsNode value) (sym k) s
says_kept Members value p q s k = subst (SpellsList SpellsMember value) (sym k) s

keeps_deleted : (p : Parts) (x : Bool) (other : Letter) → Visible ≢ other → Keeps other p (record p { deleted = x })
keeps_deleted p x Visible apart = absurd (apart refl)
keeps_deleted p x Tags apart = refl
keeps_deleted p x Lon apart = refl
keeps_deleted p x Lat apart = refl
keeps_deleted p x Nodes apart = refl
keeps_deleted p x Members apart = refl
keeps_deleted p x _ apart = tt

keeps_tags : (p : Parts) (x : TagMap) (other : Letter) → Tags ≢ other → Keeps other p (record p { tags = x })
keeps_tags p x Visible apart = refl
keeps_tags p x Tags apart = absurd (apart refl)
keeps_tags p x Lon apart = refl
keeps_tags p x Lat apart = refl
keeps_tags p x Nodes apart = refl
keeps_tags p x Members apart = refl
keeps_tags p x _ apart = tt

keeps_lon : (p : Parts) (x : Option ℤ) (other : Letter) → Lon ≢ other → Keeps other p (record p { lon = x })
keeps_lon p x Visible apart = refl
keeps_lon p x Tags apart = refl
keeps_lon p x Lon apart = absurd (apart refl)
keeps_lon p x Lat apart = refl
keeps_lon p x Nodes apart = refl
keeps_lon p x Members apart = refl
keeps_lon p x _ apart = tt

keeps_lat : (p : Parts) (x : Option ℤ) (other : Letter) → Lat ≢ other → Keeps other p (record p { lat = x })
keeps_lat p x Visible apart = refl
keeps_lat p x Tags apart = refl
keeps_lat p x Lon apart = refl
keeps_lat p x Lat apart = absurd (apart refl)
keeps_lat p x Nodes apart = refl
keeps_lat p x Members apart = refl
keeps_lat p x _ apart = tt

keeps_nodes : (p : Parts) (x : List ℕ) (other : Letter) → Nodes ≢ other → Keeps other p (record p { nodes = x })
keeps_nodes p x Visible apart = refl
keeps_nodes p x Tags apart = refl
keeps_nodes p x Lon apart = refl
keeps_nodes p x Lat apart = refl
keeps_nodes p x Nodes apart = absurd (apart refl)
keeps_nodes p x Members apart = refl
keeps_nodes p x _ apart = tt

keeps_members : (p : Parts) (x : List Member) (other : Letter) → Members ≢ other → Keeps other p (record p { members = x })
keeps_members p x Visible apart = refl
keeps_members p x Tags apart = refl
keeps_members p x Lon apart = refl
keeps_members p x Lat apart = refl
keeps_members p x Nodes apart = refl
keeps_members p x Members apart = absurd (apart refl)
keeps_members p x _ apart = tt

-- ---- one field

-- what was read of a value
record Told (letter : Letter) (value : List ℕ) (p q : Parts) : Type 0 where
  pub says : Says letter value q
  pub keeps : (other : Letter) → letter ≢ other → Keeps other p q

told_checked : (why : Why) (fits : Bool) (p q : Parts) → checked why fits p ≡ Ok q → (fits ≡ true) × (p ≡ q)
told_checked why fits p q e = chosen fits why p q e

visible_told : (value : List ℕ) (p q : Parts) → p.deleted ≡ false → with_visible value p ≡ Ok q → Told Visible value p q
visible_told [] p q lacks e = absurd cc
visible_told (byte ∷ next ∷ rest) p q lacks e = absurd cc
visible_told (byte ∷ []) p q lacks e = elim (cases_Bool (eqb byte 86)) [
  | inl there ↦ (
      let same : p ≡ q = ok_is p q (rw there at e) in
      let spelled : SpellsVisible (byte ∷ []) false = ap (λ b. b ∷ []) (eqb-true byte 86 there) in
      record {
        says = subst (SpellsVisible (byte ∷ [])) (sym lacks ∙ ap (λ (r : Parts). r.deleted) same) spelled;
        keeps =
            λ other apart. keeps_same other p q same;
      })
  | inr not_there ↦ elim (cases_Bool (eqb byte 68)) [
    | inl gone ↦ (
        let same : record p { deleted = true } ≡ q = ok_is (record p { deleted = true }) q (rw (not_there, gone) at e) in
        let spelled : SpellsVisible (byte ∷ []) true = ap (λ b. b ∷ []) (eqb-true byte 68 gone) in
        subst (Told Visible (byte ∷ []) p) same (record { says = spelled; keeps = λ other apart. keeps_deleted p true other apart }))
    | inr neither ↦ absurd (let wrong : refused ≡ Ok q = rw (not_there, neither) at e in cc)
  ]
] where
  refused : Result Parts Why
  refused = Err causes.Field

lon_told : (value : List ℕ) (p q : Parts) → p.lon ≡ None → with_lon value p ≡ Ok q → Told Lon value p q
lon_told value p q lacks e = elim (cases_Bool (is_empty value)) [
  | inl none ↦ (
      let same : p ≡ q = ok_is p q (rw none at e) in
      let spelled : SpellsDegrees (nat_abs MAX_LON) value None = nil_is value none in
      record {
        says = subst (SpellsDegrees (nat_abs MAX_LON) value) (sym lacks ∙ ap (λ (r : Parts). r.lon) same) spelled;
        keeps =
            λ other apart. keeps_same other p q same;
      })
  | inr some ↦ (
      let read : (coordinate (nat_abs MAX_LON) value >>= λ lon. Ok (record p { lon = Some lon })) ≡ Ok q = rw some at e in
      let lon = bind_ok (coordinate (nat_abs MAX_LON) value) (λ lon. Ok (record p { lon = Some lon })) q read in
      let same : record p { lon = Some lon.0 } ≡ q = ok_is (record p { lon = Some lon.0 }) q lon.2 in
      subst (Told Lon value p) same (record {
        says = coordinate_spells (nat_abs MAX_LON) value lon.0 lon.1;
        keeps =
            λ other apart. keeps_lon p (Some lon.0) other apart;
      }))
]

lat_told : (value : List ℕ) (p q : Parts) → p.lat ≡ None → with_lat value p ≡ Ok q → Told Lat value p q
lat_told value p q lacks e = elim (cases_Bool (is_empty value)) [
  | inl none ↦ (
      let same : p ≡ q = ok_is p q (rw none at e) in
      let spelled : SpellsDegrees (nat_abs MAX_LAT) value None = nil_is value none in
      record {
        says = subst (SpellsDegrees (nat_abs MAX_LAT) value) (sym lacks ∙ ap (λ (r : Parts). r.lat) same) spelled;
        keeps =
            λ other apart. keeps_same other p q same;
      })
  | inr some ↦ (
      let read : (coordinate (nat_abs MAX_LAT) value >>= λ lat. Ok (record p { lat = Some lat })) ≡ Ok q = rw some at e in
      let lat = bind_ok (coordinate (nat_abs MAX_LAT) value) (λ lat. Ok (record p { lat = Some lat })) q read in
      let same : record p { lat = Some lat.0 } ≡ q = ok_is (record p { lat = Some lat.0 }) q lat.2 in
      subst (Told Lat value p) same (record {
        says = coordinate_spells (nat_abs MAX_LAT) value lat.0 lat.1;
        keeps =
            λ other apart. keeps_lat p (Some lat.0) other apart;
      }))
]

value_told : (letter : Letter) (value : List ℕ) (p q : Parts) → IsUtf8 value → Lacks letter p → with_value letter value p ≡ Ok q
    → Told letter value p q
unfolding with_value
value_told Visible value p q utf8 lacks e = visible_told value p q lacks e
value_told User value p q utf8 lacks e =
    let name = bind_ok (text_of value) (λ _. Ok p) q e in
    let same : p ≡ q = ok_is p q name.2 in
    record { says = (name.0, text_spells value name.0 utf8 name.1); keeps = λ other apart. keeps_same other p q same }
value_told Tags value p q utf8 lacks e =
    let tags = bind_ok (tags_of value) (λ tags. Ok (record p { tags = tags })) q e in
    let same : record p { tags = tags.0 } ≡ q = ok_is (record p { tags = tags.0 }) q tags.2 in
    subst (Told Tags value p) same (record {
      says = tags_spell value tags.0 utf8 tags.1;
      keeps =
          λ other apart. keeps_tags p tags.0 other apart;
    })
value_told Lon value p q utf8 lacks e = lon_told value p q lacks e
value_told Lat value p q utf8 lacks e = lat_told value p q lacks e
value_told Nodes value p q utf8 lacks e =
    let nodes = bind_ok (nodes_of value) (λ nodes. Ok (record p { nodes = nodes })) q e in
    let same : record p { nodes = nodes.0 } ≡ q = ok_is (record p { nodes = nodes.0 }) q nodes.2 in
    subst (Told Nodes value p) same (record {
      says = nodes_spell value nodes.0 utf8 nodes.1;
      keeps =
          λ other apart. keeps_nodes p nodes.0 other apart;
    })
value_told Members value p q utf8 lacks e =
    let members = bind_ok (members_of value) (λ members. Ok (record p { members = members })) q e in
    let same : record p { members = members.0 } ≡ q = ok_is (record p { members = members.0 }) q members.2 in
    subst (Told Members value p) same (record {
      says = members_spell value members.0 utf8 members.1;
      keeps =
          λ other apart. keeps_members p members.0 other apart;
    })
value_told Version value p q utf8 lacks e =
    let found = told_checked causes.Number (is_whole value) p q e in
    record { says = found.0; keeps = λ other apart. keeps_same other p q found.1 }
value_told Changeset value p q utf8 lacks e =
    let found = told_checked causes.Number (is_whole value) p q e in
    record { says = found.0; keeps = λ other apart. keeps_same other p q found.1 }
value_told UserId value p q utf8 lacks e =
    let found = told_checked causes.Number (is_whole value) p q e in
    record { says = found.0; keeps = λ other apart. keeps_same other p q found.1 }
value_told Time value p q utf8 lacks e =
    let found = told_checked causes.Number (is_time value) p q e in
    record { says = found.0; keeps = λ other apart. keeps_same other p q found.1 }

-- the parts that a spelled value gives
record Gained (letter : Letter) (value : List ℕ) (p parts : Parts) : Type 0 where
  pub next : Parts
  pub read : with_value letter value p ≡ Ok next
  pub has : Keeps letter next parts
  pub keeps : (other : Letter) → letter ≢ other → Keeps other p next

visible_gained : (value : List ℕ) (p parts : Parts) (deleted : Bool) → parts.deleted ≡ deleted → p.deleted ≡ false
    → SpellsVisible value deleted
    → (q : Parts) × (with_visible value p ≡ Ok q) × (parts.deleted ≡ q.deleted) × ((other : Letter) → Visible ≢ other → Keeps other p q)
visible_gained value p parts false is lacks s = (p, ap (λ t. with_visible t p) s, is ∙ sym lacks, λ other apart. keeps_same other p p refl)
visible_gained value p parts true is lacks s =
    (record p { deleted = true }, ap (λ t. with_visible t p) s, is, λ other apart. keeps_deleted p true other apart)

lon_gained : (value : List ℕ) (p parts : Parts) (lon : Option ℤ) → parts.lon ≡ lon → p.lon ≡ None
    → SpellsDegrees (nat_abs MAX_LON) value lon
    → (q : Parts) × (with_lon value p ≡ Ok q) × (parts.lon ≡ q.lon) × ((other : Letter) → Lon ≢ other → Keeps other p q)
lon_gained value p parts None is lacks s = (p, ap (λ t. with_lon t p) s, is ∙ sym lacks, λ other apart. keeps_same other p p refl)
lon_gained value p parts (Some lon) is lacks s =
    let some = some_is_not value (coordinate_nonempty (nat_abs MAX_LON) value lon s) in (
      record p { lon = Some lon },
      rw (some, coordinate_again (nat_abs MAX_LON) value lon s) refl,
      is,
      λ other apart. keeps_lon p (Some lon) other apart,
    )

lat_gained : (value : List ℕ) (p parts : Parts) (lat : Option ℤ) → parts.lat ≡ lat → p.lat ≡ None
    → SpellsDegrees (nat_abs MAX_LAT) value lat
    → (q : Parts) × (with_lat value p ≡ Ok q) × (parts.lat ≡ q.lat) × ((other : Letter) → Lat ≢ other → Keeps other p q)
lat_gained value p parts None is lacks s = (p, ap (λ t. with_lat t p) s, is ∙ sym lacks, λ other apart. keeps_same other p p refl)
lat_gained value p parts (Some lat) is lacks s =
    let some = some_is_not value (coordinate_nonempty (nat_abs MAX_LAT) value lat s) in (
      record p { lat = Some lat },
      rw (some, coordinate_again (nat_abs MAX_LAT) value lat s) refl,
      is,
      λ other apart. keeps_lat p (Some lat) other apart,
    )

value_gained : (letter : Letter) (value : List ℕ) (p parts : Parts) → Lacks letter p → Says letter value parts → Gained letter value p parts
unfolding with_value
value_gained Visible value p parts lacks s =
    let g = visible_gained value p parts parts.deleted refl lacks s in
    record { next = g.0; read = g.1; has = g.2; keeps = g.3 }
value_gained Lon value p parts lacks s =
    let g = lon_gained value p parts parts.lon refl lacks s in
    record { next = g.0; read = g.1; has = g.2; keeps = g.3 }
value_gained Lat value p parts lacks s =
    let g = lat_gained value p parts parts.lat refl lacks s in
    record { next = g.0; read = g.1; has = g.2; keeps = g.3 }
value_gained User value p parts lacks s =
    record {
      next = p;
      read = ap (λ r. r >>= λ _. Ok p) (text_again value s.0 s.1);
      has = tt;
      keeps =
          λ other apart. keeps_same other p p refl;
    }
value_gained Tags value p parts lacks s =
    record {
      next = record p { tags = parts.tags };
      read =
          ap (λ r. r >>= λ tags. Ok (record p { tags = tags })) (tags_again value parts.tags s);
      has = refl;
      keeps =
          λ other apart. keeps_tags p parts.tags other apart;
    }
value_gained Nodes value p parts lacks s =
    record {
      next = record p { nodes = parts.nodes };
      read =
          ap (λ r. r >>= λ nodes. Ok (record p { nodes = nodes })) (nodes_again value parts.nodes s);
      has = refl;
      keeps =
          λ other apart. keeps_nodes p parts.nodes other apart;
    }
value_gained Members value p parts lacks s =
    record {
      next = record p { members = parts.members };
      read =
          ap (λ r. r >>= λ members. Ok (record p { members = members })) (members_again value parts.members s);
      has = refl;
      keeps =
          λ other apart. keeps_members p parts.members other apart;
    }
value_gained Version value p parts lacks s =
    record { next = p; read = ap (λ b. checked causes.Number b p) s; has = tt; keeps = λ other apart. keeps_same other p p refl }
value_gained Changeset value p parts lacks s =
    record { next = p; read = ap (λ b. checked causes.Number b p) s; has = tt; keeps = λ other apart. keeps_same other p p refl }
value_gained UserId value p parts lacks s =
    record { next = p; read = ap (λ b. checked causes.Number b p) s; has = tt; keeps = λ other apart. keeps_same other p p refl }
value_gained Time value p parts lacks s =
    record { next = p; read = ap (λ b. checked causes.Number b p) s; has = tt; keeps = λ other apart. keeps_same other p p refl }

-- ---- all fields: what is read is spelled

record Said (kind : Kind) (stood : Letter → Bool) (p : Parts) (fields : List (List ℕ)) (last : Parts) : Type 0 where
  pub pairs : List (Letter × List ℕ)
  pub form : fields ≡ map field_text pairs
  pub belong : AllByRecursion (λ field. Belongs kind field.0) pairs
  pub fresh : AllByRecursion (λ field. stood field.0 ≡ false) pairs
  pub distinct : AreDistinct (map (λ field. field.0) pairs)
  pub says : AllByRecursion (λ field. Says field.0 field.1 last) pairs
  pub keeps : (letter : Letter) → AllByRecursion (λ field. letter ≢ field.0) pairs → Keeps letter p last

record Fresh (stood : Letter → Bool) (letter : Letter) (pairs : List (Letter × List ℕ)) : Type 0 where
  pub apart : AllByRecursion (λ field. letter ≢ field.0) pairs
  pub letters : AllByRecursion (λ other. letter ≢ other) (map (λ field. field.0) pairs)
  pub before : AllByRecursion (λ field. stood field.0 ≡ false) pairs

fresh_parts : (stood : Letter → Bool) (letter : Letter) (pairs : List (Letter × List ℕ))
    → AllByRecursion (λ field. also stood letter field.0 ≡ false) pairs → Fresh stood letter pairs
fresh_parts stood letter [] h = record { apart = tt; letters = tt; before = tt }
fresh_parts stood letter (field ∷ pairs) h =
    let here = also_apart stood letter field.0 h.0 in
    let rest = fresh_parts stood letter pairs h.1 in
    record { apart = (here.0, rest.apart); letters = (here.0, rest.letters); before = (here.1, rest.before) }

pub not_stood : (stood : Letter → Bool) (front found : Letter × List ℕ) → new_field stood front ≡ Ok found
    → (stood front.0 ≡ false) × (front ≡ found)
not_stood stood front found e = elim (cases_Bool (stood front.0)) [
  | inl held ↦ absurd (let wrong : refused ≡ Ok found = rw held at e in cc)
  | inr clear ↦ (clear, ok_is front found (rw clear at e))
] where
  refused : Result (Letter × List ℕ) Why
  refused = Err causes.Repeated

-- one field and those behind it
said_more : (kind : Kind) (stood : Letter → Bool) (p q last : Parts) (field : List ℕ) (fields : List (List ℕ)) (found : Letter × List ℕ)
    → field ≡ field_text found → Belongs kind found.0 → stood found.0 ≡ false → Told found.0 found.1 p q
    → Said kind (also stood found.0) q fields last → Said kind stood p (field ∷ fields) last
said_more kind stood p q last field fields found form belongs clear told rest =
    let fresh = fresh_parts stood found.0 rest.pairs rest.fresh in
    record {
      pairs = found ∷ rest.pairs;
      form = ap (λ f. f ∷ fields) form ∙ ap (λ fs. field_text found ∷ fs) rest.form;
      belong = (belongs, rest.belong);
      fresh = (clear, fresh.before);
      distinct = (fresh.letters, rest.distinct);
      says = (says_kept found.0 found.1 q last told.says (rest.keeps found.0 fresh.apart), rest.says);
      keeps = λ letter apart. keeps_then letter p q last (told.keeps letter (λ e. apart.0 (sym e))) (rest.keeps letter apart.1);
    }

fields_said : (kind : Kind) (stood : Letter → Bool) (p : Parts) (fields : List (List ℕ)) (last : (Letter → Bool) × Parts)
    → AllByRecursion IsUtf8 fields
    → ((letter : Letter) → stood letter ≡ false → Lacks letter p) → each_piece (with_field kind) (stood, p) fields ≡ Ok last
    → Said kind stood p fields last.1
unfolding each_piece
fields_said kind stood p [] last utf8 lacks e =
    let same : p ≡ last.1 = ap (λ (l : (Letter → Bool) × Parts). l.1) (ok_is (state stood p) last e) in
    record {
      pairs = [];
      form = refl;
      belong = tt;
      fresh = tt;
      distinct = tt;
      says = tt;
      keeps =
          λ letter apart. keeps_same letter p last.1 same;
    } where
      state : (Letter → Bool) → Parts → (Letter → Bool) × Parts
      state s q = (s, q)
fields_said kind stood p (field ∷ fields) last utf8 lacks e =
    let next = bind_ok (with_field kind (stood, p) field) (λ so_far. each_piece (with_field kind) so_far fields) last e in
    let front = bind_ok (given causes.Field (letter_at kind field))
    (λ front. new_field stood front >>= λ found. with_value found.0 found.1 p >>= λ parts. Ok (also stood found.0, parts)) next.0
    next.1 in
    let found = bind_ok (new_field stood front.0)
    (λ found. with_value found.0 found.1 p >>= λ parts. Ok (also stood found.0, parts)) next.0 front.2 in
    let clear = not_stood stood front.0 found.0 found.1 in
    let it = subst (IsField kind field) clear.1
    (letter_at_is kind field front.0 (given_ok causes.Field (letter_at kind field) front.0 front.1)) in
    let free : stood found.0.0 ≡ false = subst (λ (f : Letter × List ℕ). stood f.0 ≡ false) clear.1 clear.0 in
    let parts = bind_ok (with_value found.0.0 found.0.1 p) (λ parts. Ok (also stood found.0.0, parts)) next.0 found.2 in
    let value_utf8 : IsUtf8 found.0.1 = (utf8_sides [] found.0.1 (byte_of found.0.0) (byte_of_small found.0.0)
    (subst IsUtf8 it.form utf8.0)).1 in
    let told = value_told found.0.0 found.0.1 p parts.0 value_utf8 (lacks found.0.0 free) parts.1 in
    let made : (Letter → Bool) × Parts = (also stood found.0.0, parts.0) in
    let read : each_piece (with_field kind) (also stood found.0.0, parts.0) fields ≡ Ok last =
    ap (λ so_far. each_piece (with_field kind) so_far fields) (ok_is made next.0 parts.2) ∙ next.2 in
    let still : (letter : Letter) → also stood found.0.0 letter ≡ false → Lacks letter parts.0
    = λ letter clear_. (let apart = also_apart stood found.0.0 letter clear_ in
    lacks_kept letter p parts.0 (lacks letter apart.1) (told.keeps letter apart.0)) in
    said_more kind stood p parts.0 last.1 field fields found.0 it.form it.belongs free told
    (fields_said kind (also stood found.0.0) parts.0 fields last utf8.1 still read)

lacks_nothing : (letter : Letter) → Lacks letter nothing
lacks_nothing Visible = refl
lacks_nothing Tags = refl
lacks_nothing Lon = refl
lacks_nothing Lat = refl
lacks_nothing Nodes = refl
lacks_nothing Members = refl
lacks_nothing _ = tt

-- what the fields of a line were read to say
pub record SaidParts (kind : Kind) (fields : List (List ℕ)) (parts : Parts) : Type 0 where
  pub pairs : List (Letter × List ℕ)
  pub form : fields ≡ map field_text pairs
  pub say : SayParts kind pairs parts

pub parts_said : (kind : Kind) (fields : List (List ℕ)) (parts : Parts) → AllByRecursion IsUtf8 fields → parts_of kind fields ≡ Ok parts
    → SaidParts kind fields parts
unfolding parts_of
parts_said kind fields parts utf8 e =
    let last = bind_ok (each_piece (with_field kind) (none_stood, nothing) fields) (λ last. Ok last.1) parts e in
    let said = fields_said kind none_stood nothing fields last.0 utf8 (λ letter clear. lacks_nothing letter) last.1 in
    let same : last.0.1 ≡ parts = ok_is last.0.1 parts last.2 in
    subst (SaidParts kind fields) same (record {
      pairs = said.pairs;
      form = said.form;
      say = record {
        belong = said.belong;
        distinct = said.distinct;
        says = said.says;
        lacks = λ letter apart. lacks_kept letter nothing last.0.1 (lacks_nothing letter) (said.keeps letter apart);
      };
    })

-- ---- all fields: what is spelled is read

parts_same : (p q : Parts) → ((letter : Letter) → Keeps letter p q) → p ≡ q
parts_same p q keeps =
    let deleted : p.deleted ≡ q.deleted = sym (keeps Visible) in
    let lon : p.lon ≡ q.lon = sym (keeps Lon) in
    let lat : p.lat ≡ q.lat = sym (keeps Lat) in
    let tags : p.tags ≡ q.tags = sym (keeps Tags) in
    let nodes : p.nodes ≡ q.nodes = sym (keeps Nodes) in
    let members : p.members ≡ q.members = sym (keeps Members) in
    λ i. record { deleted = deleted i; lon = lon i; lat = lat i; tags = tags i; nodes = nodes i; members = members i }

also_all : (stood : Letter → Bool) (letter : Letter) (pairs : List (Letter × List ℕ))
    → AllByRecursion (λ other. letter ≢ other) (map (λ field. field.0) pairs) → AllByRecursion (λ field. stood field.0 ≡ false) pairs
    → AllByRecursion (λ field. also stood letter field.0 ≡ false) pairs
also_all stood letter [] apart clear = tt
also_all stood letter (field ∷ pairs) apart clear =
    (also_again stood letter field.0 apart.0 clear.0, also_all stood letter pairs apart.1 clear.1)

lacks_all : (letter : Letter) (p q : Parts) (pairs : List (Letter × List ℕ)) → ((other : Letter) → letter ≢ other → Keeps other p q)
    → AllByRecursion (λ other. letter ≢ other) (map (λ field. field.0) pairs)
    → AllByRecursion (λ field. Lacks field.0 p) pairs → AllByRecursion (λ field. Lacks field.0 q) pairs
lacks_all letter p q [] keeps apart lacks = tt
lacks_all letter p q (field ∷ pairs) keeps apart lacks =
    (lacks_kept field.0 p q lacks.0 (keeps field.0 apart.0), lacks_all letter p q pairs keeps apart.1 lacks.1)

fields_again : (kind : Kind) (stood : Letter → Bool) (p parts : Parts) (pairs : List (Letter × List ℕ))
    → AllByRecursion (λ field. Belongs kind field.0) pairs → AreDistinct (map (λ field. field.0) pairs)
    → AllByRecursion (λ field. stood field.0 ≡ false) pairs
    → AllByRecursion (λ field. Says field.0 field.1 parts) pairs → AllByRecursion (λ field. Lacks field.0 p) pairs
    → ((letter : Letter) → AllByRecursion (λ field. letter ≢ field.0) pairs → Keeps letter p parts)
    → (each_piece (with_field kind) (stood, p) (map field_text pairs) >>= λ last. Ok last.1) ≡ Ok parts
unfolding each_piece
fields_again kind stood p parts [] belong distinct clear says lacks keeps = ap (λ q. Ok q) (parts_same p parts (λ letter. keeps letter tt))
fields_again kind stood p parts (field ∷ pairs) belong distinct clear says lacks keeps =
    let gained = value_gained field.0 field.1 p parts lacks.0 says.0 in
    let q = gained.next in
    let read : with_field kind (stood, p) (field_text field) ≡ Ok (also stood field.0, gained.next)
    = ap (λ o. given causes.Field o >>= λ front. new_field stood front >>= λ found. with_value found.0 found.1 p >>= λ parts.
    Ok (also stood found.0, parts)) (letter_at_again kind field belong.0)
    ∙ ap (λ b. cond b (Err causes.Repeated) (Ok field) >>= λ found. with_value found.0 found.1 p >>= λ parts.
    Ok (also stood found.0, parts)) clear.0
    ∙ ap (λ r. r >>= λ parts. Ok (also stood field.0, parts)) gained.read in
    let keeps_q : (letter : Letter) → AllByRecursion (λ other. letter ≢ other.0) pairs → Keeps letter gained.next parts
    = λ letter apart. elim (cases_Bool (eqb (byte_of letter) (byte_of field.0))) [
      | inl same ↦ (let e : field.0 ≡ letter = sym (same_letter letter field.0 (eqb-true _ _ same)) in
          subst (λ l. Keeps l gained.next parts) e gained.has)
      | inr other ↦ (
          let differs : letter ≢ field.0 = λ e. (let again : eqb (byte_of letter) (byte_of field.0) ≡ true = eq-eqb _ _ (ap byte_of e) in
          let wrong : true ≡ false = sym again ∙ other in cc) in
          keeps_back letter p gained.next parts (keeps letter (differs, apart)) (gained.keeps letter (λ e. differs (sym e))))
    ] in
    ap (λ r. (r >>= λ so_far. each_piece (with_field kind) so_far (map field_text pairs)) >>= λ last. Ok last.1) read
    ∙ fields_again kind (also stood field.0) gained.next parts pairs belong.1 distinct.1
    (also_all stood field.0 pairs distinct.0 clear.1) says.1
    (lacks_all field.0 p gained.next pairs gained.keeps distinct.0 lacks.1) keeps_q

none_stand : (pairs : List (Letter × List ℕ)) → AllByRecursion (λ field. none_stood field.0 ≡ false) pairs
none_stand [] = tt
none_stand (field ∷ pairs) = (refl, none_stand pairs)

nothing_lacks : (pairs : List (Letter × List ℕ)) → AllByRecursion (λ field. Lacks field.0 nothing) pairs
nothing_lacks [] = tt
nothing_lacks (field ∷ pairs) = (lacks_nothing field.0, nothing_lacks pairs)

keeps_nothing : (letter : Letter) (parts : Parts) → Lacks letter parts → Keeps letter nothing parts
keeps_nothing Visible parts l = l
keeps_nothing Tags parts l = l
keeps_nothing Lon parts l = l
keeps_nothing Lat parts l = l
keeps_nothing Nodes parts l = l
keeps_nothing Members parts l = l
keeps_nothing _ parts l = tt

pub parts_again : (kind : Kind) (pairs : List (Letter × List ℕ)) (parts : Parts) → SayParts kind pairs parts
    → parts_of kind (map field_text pairs) ≡ Ok parts
unfolding parts_of
parts_again kind pairs parts s =
    fields_again kind none_stood nothing parts pairs s.belong s.distinct (none_stand pairs) s.says (nothing_lacks pairs)
    (λ letter apart. keeps_nothing letter parts (s.lacks letter apart))
