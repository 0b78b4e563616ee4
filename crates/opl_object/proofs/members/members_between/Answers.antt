use Rattle.std.proofs.Common.{◌≡◌, ℕ, List, [], ◌∷◌, ◌++◌, ◌∙◌, ap, sym, Ok}
use Rattle.std.specs.List.{slice_split}
use Rattle.std.specs.Option.{option_map}
use Rattle.std.proofs.lemmas.Result.{err_from_is_err_and}
use Rattle.opl_object.specs.Fields.{is, later_pieces}
use Rattle.opl_object.specs.Why.{◌>>=◌, each_piece, Refuses}
use Rattle.osm_base.specs.declared.values.object.Member.{Member}
use Rattle.opl_object.specs.declared.why.LineRefused.{LineRefused}
use Rattle.opl_object.specs.declared.why.LineRefused.TheVariants.{Bad, OutOfMemory}
use Rattle.opl_object.specs.Members.{with_member, member_of}
use Rattle.opl_object.proofs.Pieces.{goes_on, refused_at, none_left}
use Rattle.opl_object.proofs.members.members_between.Goals as goal

-- a piece that is no member
no_member : (members : List Member) (piece : List ℕ) (refused : LineRefused) → Refuses refused (member_of piece)
    → Refuses refused (with_member members piece)
no_member members piece (Bad why) e = ap (λ r. r >>= λ member. Ok (members ++ member ∷ [])) e
no_member members piece OutOfMemory e = tt

pub returns-in_err-member_of : goal.returns-in_err-member_of
returns-in_err-member_of c =
    let so_far : each_piece with_member c.loop-left.members.items
    (c.cut.result.0.now ∷ later_pieces (is 44) (option_map (λ text. text.now) c.cut.result.1))
    ≡ each_piece with_member [] (slice_split (is 44) c.args.text.now)
    = ap (each_piece with_member c.loop-left.members.items) (sym c.cut.ensures.pieces)
    ∙ ap (λ o. each_piece with_member c.loop-left.members.items (later_pieces (is 44) (option_map (λ text. text.now) o)))
    (sym c.in-Some.is) ∙ c.loop-left.invariant in
    let p = err_from_is_err_and c.from_residual-in_err-member_of.result c.from_residual-in_err-member_of.ensures.1 in
    record {
      members = rw (p.1, p.2) (refused_at with_member c.loop-left.members.items c.cut.result.0.now _ _ c.in_err-member_of.field-0.0
          so_far (no_member c.loop-left.members.items c.cut.result.0.now c.in_err-member_of.field-0.0 c.in_err-member_of.ensures.member));
    }

pub loop-left-preserved : goal.loop-left-preserved
loop-left-preserved c =
    let so_far : each_piece with_member c.loop-left.members.items
    (c.cut.result.0.now ∷ later_pieces (is 44) (option_map (λ text. text.now) c.cut.result.1))
    ≡ each_piece with_member [] (slice_split (is 44) c.args.text.now)
    = ap (each_piece with_member c.loop-left.members.items) (sym c.cut.ensures.pieces)
    ∙ ap (λ o. each_piece with_member c.loop-left.members.items (later_pieces (is 44) (option_map (λ text. text.now) o)))
    (sym c.in-Some.is) ∙ c.loop-left.invariant in
    goes_on with_member c.loop-left.members.items c.cut.result.0.now _ _ c.push.new.self.items so_far
    (ap (λ r. r >>= λ member. Ok (c.loop-left.members.items ++ member ∷ [])) c.in_ok-member_of.ensures.member
    ∙ ap Ok (sym c.in_ok-push.ensures.items))

pub returns : goal.returns
returns c = record {
  members = none_left with_member c.loop-left.members.items _
      (ap (λ o. each_piece with_member c.loop-left.members.items (later_pieces (is 44) (option_map (λ text. text.now) o)))
      (sym c.in_default.is) ∙ c.loop-left.invariant);
}
