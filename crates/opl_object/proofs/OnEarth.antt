-- What the fields of a line say is on the earth.
use Rattle.std.proofs.Common.{◌≡◌, ℕ, ◌≤◌, Bool, true, false, cond, eqb, ◌⊎◌, inl, inr, List, [], ◌∷◌, Some, Result, Ok, Err, subst, rules}
use Rattle.std.specs.Prelude.{ℤ, pos, neg_ℤ, ◌≤ℤ◌, nat_abs}
use Rattle.osm_base.specs.declared.values.key.Kind.{Kind}
use Rattle.osm_base.specs.declared.values.place.TheConstants.{MAX_LON, MAX_LAT}
use Rattle.opl_object.specs.declared.letter.Letter.{Letter}
use Rattle.opl_object.specs.declared.letter.Letter.TheVariants.{Version, Visible, Changeset, Time, UserId, User, Tags, Lon, Lat, Nodes}
use Rattle.opl_object.specs.declared.letter.Letter.TheVariants.{Members}
use Rattle.opl_object.specs.declared.parts.Parts.{Parts}
use Rattle.opl_object.specs.declared.why.Why.{Why}
use Rattle.opl_object.specs.declared.why.Why.TheVariants as causes
use Rattle.opl_object.specs.Coordinate.{coordinate, units}
use Rattle.opl_object.specs.Earth.{AreOnEarth}
use Rattle.opl_object.specs.Fields.{is_empty}
use Rattle.opl_object.specs.Letter.{letter_at, also, none_stood}
use Rattle.opl_object.specs.Members.{members_of}
use Rattle.opl_object.specs.Nodes.{nodes_of}
use Rattle.opl_object.specs.Number.{is_whole, is_time}
use Rattle.opl_object.specs.Parts.{nothing, with_visible, with_lon, with_lat, with_value, new_field, with_field, parts_of}
use Rattle.opl_object.specs.Tags.{tags_of}
use Rattle.opl_object.specs.Text.{text_of}
use Rattle.opl_object.specs.Why.{◌>>=◌, each_piece, given}
use Rattle.opl_object.proofs.SpelledNumbers.{coordinate_spells}
use Rattle.opl_object.proofs.Steps.{bind_ok, chosen, ok_is}

-- a number that is no greater, with a sign or without one
signed_near : (minus : Bool) (size greatest : ℕ) → size ≤ greatest
    → (cond minus (neg_ℤ (pos size)) (pos size) ≤ℤ pos greatest) × (neg_ℤ (pos greatest) ≤ℤ cond minus (neg_ℤ (pos size)) (pos size))
signed_near true size greatest near = (search rules, search rules)
signed_near false size greatest near = (search rules, search rules)

coordinate_near : (greatest : ℕ) (text : List ℕ) (value : ℤ) → coordinate greatest text ≡ Ok value
    → (value ≤ℤ pos greatest) × (neg_ℤ (pos greatest) ≤ℤ value)
coordinate_near greatest text value e =
    let s = coordinate_spells greatest text value e in
    subst (λ own. (own ≤ℤ pos greatest) × (neg_ℤ (pos greatest) ≤ℤ own)) s.is
    (signed_near s.minus (units s.whole s.decimals) greatest s.near)

-- the one, unless the test fails, and then the other
first_or : (test : Bool) (parts next : Parts) (other : Result Parts Why) → cond test (Ok parts) other ≡ Ok next
    → (parts ≡ next) ⊎ (other ≡ Ok next)
first_or true parts next other e = inl (ok_is parts next e)
first_or false parts next other e = inr e

module _ (parts next : Parts) (earth : AreOnEarth parts) where
  visible_near : (value : List ℕ) → with_visible value parts ≡ Ok next → AreOnEarth next
  visible_near [] e = absurd cc
  visible_near (byte ∷ []) e =
      let gone : Parts = record parts { deleted = true } in
      elim (first_or (eqb byte 86) parts next (cond (eqb byte 68) (Ok gone) (Err causes.Field)) e) [
        | inl same ↦ subst AreOnEarth same earth
        | inr read ↦ (
            subst AreOnEarth (chosen (eqb byte 68) causes.Field gone next read).1
            (record { east = earth.east; west = earth.west; north = earth.north; south = earth.south }))
      ]
  visible_near (byte ∷ other ∷ rest) e = absurd cc

  lon_near : (value : List ℕ) → with_lon value parts ≡ Ok next → AreOnEarth next
  lon_near value e =
      let with_it : ℤ → Parts = λ lon. record parts { lon = Some lon } in
      elim (first_or (is_empty value) parts next (coordinate (nat_abs MAX_LON) value >>= λ lon. Ok (with_it lon)) e) [
        | inl same ↦ subst AreOnEarth same earth
        | inr read ↦ (
            let found = bind_ok (coordinate (nat_abs MAX_LON) value) (λ lon. Ok (with_it lon)) next read in
            let near = coordinate_near (nat_abs MAX_LON) value found.0 found.1 in
            subst AreOnEarth (ok_is (with_it found.0) next found.2)
            (record { east = near.0; west = near.1; north = earth.north; south = earth.south }))
      ]

  lat_near : (value : List ℕ) → with_lat value parts ≡ Ok next → AreOnEarth next
  lat_near value e =
      let with_it : ℤ → Parts = λ lat. record parts { lat = Some lat } in
      elim (first_or (is_empty value) parts next (coordinate (nat_abs MAX_LAT) value >>= λ lat. Ok (with_it lat)) e) [
        | inl same ↦ subst AreOnEarth same earth
        | inr read ↦ (
            let found = bind_ok (coordinate (nat_abs MAX_LAT) value) (λ lat. Ok (with_it lat)) next read in
            let near = coordinate_near (nat_abs MAX_LAT) value found.0 found.1 in
            subst AreOnEarth (ok_is (with_it found.0) next found.2)
            (record { east = earth.east; west = earth.west; north = near.0; south = near.1 }))
      ]

  -- parts with something else that was read
  other_read : {A : Type 0} (read : Result A Why) (with_it : A → Parts) → ((own : A) → AreOnEarth (with_it own))
      → (read >>= λ own. Ok (with_it own)) ≡ Ok next → AreOnEarth next
  other_read read with_it all e =
      let found = bind_ok read (λ own. Ok (with_it own)) next e in
      subst AreOnEarth (ok_is (with_it found.0) next found.2) (all found.0)

  value_near : (letter : Letter) (value : List ℕ) → with_value letter value parts ≡ Ok next → AreOnEarth next
  unfolding with_value
  value_near Version value e = subst AreOnEarth (chosen (is_whole value) causes.Number parts next e).1 earth
  value_near Visible value e = visible_near value e
  value_near Changeset value e = subst AreOnEarth (chosen (is_whole value) causes.Number parts next e).1 earth
  value_near Time value e = subst AreOnEarth (chosen (is_time value) causes.Number parts next e).1 earth
  value_near UserId value e = subst AreOnEarth (chosen (is_whole value) causes.Number parts next e).1 earth
  value_near User value e = other_read (text_of value) (λ _. parts) (λ _. earth) e
  value_near Tags value e = other_read (tags_of value) (λ tags. record parts { tags = tags })
      (λ tags. record { east = earth.east; west = earth.west; north = earth.north; south = earth.south }) e
  value_near Lon value e = lon_near value e
  value_near Lat value e = lat_near value e
  value_near Nodes value e = other_read (nodes_of value) (λ nodes. record parts { nodes = nodes })
      (λ nodes. record { east = earth.east; west = earth.west; north = earth.north; south = earth.south }) e
  value_near Members value e = other_read (members_of value) (λ members. record parts { members = members })
      (λ members. record { east = earth.east; west = earth.west; north = earth.north; south = earth.south }) e

abbrev Said : Type 0
Said = (Letter → Bool) × Parts

field_near : (kind : Kind) (field : List ℕ) (old new : Said) → with_field kind old field ≡ Ok new → AreOnEarth old.1 → AreOnEarth new.1
field_near kind field old new e earth =
    let front = bind_ok (given causes.Field (letter_at kind field)) (λ front. new_field old.0 front >>= λ found.
    with_value found.0 found.1 old.1 >>= λ parts. Ok (also old.0 found.0, parts)) new e in
    let found = bind_ok (new_field old.0 front.0)
    (λ found. with_value found.0 found.1 old.1 >>= λ parts. Ok (also old.0 found.0, parts)) new front.2 in
    let parts = bind_ok (with_value found.0.0 found.0.1 old.1) (λ parts. Ok (also old.0 found.0.0, parts)) new found.2 in
    let made : Said = (also old.0 found.0.0, parts.0) in
    subst (λ (own : Said). AreOnEarth own.1) (ok_is made new parts.2) (value_near old.1 parts.0 earth found.0.0 found.0.1 parts.1)

fields_near : (kind : Kind) (fields : List (List ℕ)) (old new : Said) → each_piece (with_field kind) old fields ≡ Ok new
    → AreOnEarth old.1 → AreOnEarth new.1
unfolding each_piece
fields_near kind [] old new e earth = subst (λ (own : Said). AreOnEarth own.1) (ok_is old new e) earth
fields_near kind (field ∷ fields) old new e earth =
    let next = bind_ok (with_field kind old field) (λ next. each_piece (with_field kind) next fields) new e in
    fields_near kind fields next.0 new next.2 (field_near kind field old next.0 next.1 earth)

-- what the fields say
pub parts_near : (kind : Kind) (fields : List (List ℕ)) (parts : Parts) → parts_of kind fields ≡ Ok parts → AreOnEarth parts
unfolding parts_of
parts_near kind fields parts e =
    let start : Said = (none_stood, nothing) in
    let last = bind_ok (each_piece (with_field kind) start fields) (λ last. Ok last.1) parts e in
    subst AreOnEarth (ok_is last.0.1 parts last.2)
    (fields_near kind fields start last.0 last.1 (record { east = tt; west = tt; north = tt; south = tt }))
