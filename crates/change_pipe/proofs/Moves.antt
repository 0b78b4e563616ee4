-- Each move keeps the rule of a pipe.
use Rattle.std.proofs.Common.{◌≡◌, ◌≢◌, ◌≤◌, ℕ, zero, suc, true, false, true≢false, List, [], ◌∷◌, ◌++◌, length, length-append, set}
use Rattle.std.proofs.Common.{sym, refl, ap, ◌∙◌, subst, ⊎_elim, append_assoc, arith}
use mathlib.Core.Option.{some, some-ne-none}
use lib.ListN.{get_elem?}
use Rattle.crossbeam_queue.specs.Fifo.{Pushes, Pops, Forks, Merges, Learns}
use Rattle.crossbeam_queue.proofs.Lists.{at_set, at_snoc}
use Rattle.change_pipe.specs.Rule.{hand, Fits, IsInOrder}
use Rattle.change_pipe.specs.declared.parcel.Parcel.{Parcel}
use Rattle.change_pipe.specs.declared.pipe.TheConstants.{MAX_AHEAD}
use Rattle.change_pipe.specs.declared.view.View.{View}

-- what stands behind others, and not among them, stands at the end
at_end : (views : List View) (a b : View) (j : ℕ) → get_elem? views j ≢ some b → get_elem? (views ++ a ∷ []) j ≡ some b → j ≡ length views
at_end [] a b zero n e = refl
at_end [] a b (suc j) n e = absurd (some-ne-none b (sym e))
at_end (x ∷ xs) a b zero n e = absurd (n e)
at_end (x ∷ xs) a b (suc j) n e = ap suc (at_end xs a b j n e)

-- this is so of each pass and its view
abbrev AllFit : (ℕ → View → Type 0) → List View → Type 0
AllFit F views = (pass : ℕ) (v : View) → get_elem? views pass ≡ some v → F pass v

fit_set : (F : ℕ → View → Type 0) (views : List View) (pass : ℕ) (w : View) → F pass w
    → ((j : ℕ) (u : View) → j ≢ pass → get_elem? views j ≡ some u → F j u) → AllFit F (set views pass w)
fit_set F views pass w mine others j u e =
    ⊎_elim (λ (x : (j ≡ pass) × (w ≡ u)). subst (λ (y : ℕ × View). F y.0 y.1) (λ i. (sym x.0 i, x.1 i)) mine)
    (λ (x : (j ≢ pass) × (get_elem? views j ≡ some u)). others j u x.0 x.1) (at_set views pass j w u e)

-- what the first pass knows
abbrev first : View
first = hand true true [] []

-- an empty pipe keeps the rule
pub begins : IsInOrder [] (first ∷ [])
begins = record {
  putter = 0;
  taker = 0;
  sent = [];
  got = [];
  order = refl;
  few = omega arith;
  fits = fit_set (Fits 0 0 [] []) (first ∷ []) 0 first (record { puts = λ _. (refl, refl); takes = λ _. (refl, refl) })
      (λ j u other e. absurd (other (at_end [] first u j (λ x. some-ne-none u (sym x)) e)));
}

-- a parcel is put
pub sends : (n pass : ℕ) (v : View) (x : Parcel) → n ≤ MAX_AHEAD → v.puts ≡ true
    → Pushes IsInOrder n pass v x (λ w. w ≡ hand v.puts v.takes (v.sent ++ x ∷ []) v.got)
sends n pass v x small may items views room h at =
    let w : View = hand v.puts v.takes (v.sent ++ x ∷ []) v.got in
    let mine = h.fits pass v at in
    let here = mine.puts may in
    let sent = h.sent ++ x ∷ [] in (
      w,
      record {
        putter = h.putter;
        taker = h.taker;
        sent = sent;
        got = h.got;
        order = ap (λ l. l ++ x ∷ []) h.order ∙ append_assoc h.got items (x ∷ []);
        few = omega (arith, room, small, length-append items (x ∷ []));
        fits = fit_set (Fits h.putter h.taker sent h.got) views pass w
            (record { puts = λ _. (here.0, ap (λ l. l ++ x ∷ []) here.1); takes = mine.takes })
            (λ j u other e. record { puts = λ p. absurd (other (((h.fits j u e).puts p).0 ∙ sym here.0)); takes = (h.fits j u e).takes });
      },
      refl,
    )

-- what the queue holds was put
pub counts : (pass : ℕ) (v : View) → v.puts ≡ true → Learns IsInOrder pass v (λ items. length items ≤ length v.sent)
counts pass v may items views h at =
    let sent = ap (λ (l : List Parcel). length l) (((h.fits pass v at).puts may).1 ∙ h.order) in
    omega (arith, sent, length-append h.got items)

-- a parcel is taken
pub gets : (pass : ℕ) (v : View) → v.takes ≡ true → Pops IsInOrder pass v (λ x w. w ≡ hand v.puts v.takes v.sent (v.got ++ x ∷ []))
gets pass v may x items views h at =
    let w : View = hand v.puts v.takes v.sent (v.got ++ x ∷ []) in
    let mine = h.fits pass v at in
    let here = mine.takes may in
    let got = h.got ++ x ∷ [] in (
      w,
      record {
        putter = h.putter;
        taker = h.taker;
        sent = h.sent;
        got = got;
        order = h.order ∙ sym (append_assoc h.got (x ∷ []) items);
        few = omega (arith, h.few);
        fits = fit_set (Fits h.putter h.taker h.sent got) views pass w
            (record { puts = mine.puts; takes = λ _. (here.0, ap (λ l. l ++ x ∷ []) here.1) })
            (λ j u other e. record { puts = (h.fits j u e).puts; takes = λ p. absurd (other (((h.fits j u e).takes p).0 ∙ sym here.0)) });
      },
      refl,
    )

-- the first pass is cut into the two ends
pub forks : (pass : ℕ) (v : View) → v.puts ≡ true → v.takes ≡ true
    → Forks IsInOrder pass v (hand true false v.sent []) (hand false true [] v.got)
forks pass v a b items views h at =
    let l : View = hand true false v.sent [] in
    let r : View = hand false true [] v.got in
    let mine = h.fits pass v at in
    let vs : List View = set views pass l in
    let Old : ℕ → View → Type 0 = λ j u. (u.puts ≡ true → (j ≡ h.putter) × (u.sent ≡ h.sent)) × (u.takes ≢ true) in
    let old : AllFit Old vs = fit_set Old views pass l ((λ _. mine.puts a), λ p. true≢false (sym p))
    (λ j u other e. ((h.fits j u e).puts, λ p. other (((h.fits j u e).takes p).0 ∙ sym (mine.takes b).0))) in
    record {
      putter = h.putter;
      taker = length vs;
      sent = h.sent;
      got = h.got;
      order = h.order;
      few = h.few;
      fits = λ j u e. ⊎_elim (λ x. record { puts = (old j u x).0; takes = λ p. absurd ((old j u x).1 p) })
          (λ (is : r ≡ u). record {
            puts = λ p. absurd (true≢false (sym (ap (λ (y : View). y.puts) is ∙ p)));
            takes = λ p. (at_end vs r u j (λ x. (old j u x).1 p) e, ap (λ (y : View). y.got) (sym is) ∙ (mine.takes b).1);
          }) (at_snoc vs r u j e);
    }

-- the two ends are one again
pub merges : (pass : ℕ) (v : View) (other : ℕ) (u : View) → v.puts ≡ true → u.takes ≡ true
    → Merges IsInOrder pass v other u (hand true true v.sent u.got) (hand false false [] [])
merges pass v other u a b items views h at two at' =
    let both : View = hand true true v.sent u.got in
    let mine = h.fits pass v at in
    let vs : List View = set views pass both in
    let was : get_elem? views other ≡ some u = ⊎_elim (λ x. absurd (two x.0)) (λ x. x.1) (at_set views pass other both u at') in
    let theirs = (h.fits other u was).takes b in
    let Now : ℕ → View → Type 0 = λ j y. j ≢ other → Fits h.putter pass h.sent h.got j y in
    let now : AllFit Now vs = fit_set Now views pass both (λ _. record { puts = λ _. mine.puts a; takes = λ _. (refl, theirs.1) })
    (λ j y _ e apart. record { puts = (h.fits j y e).puts; takes = λ p. absurd (apart (((h.fits j y e).takes p).0 ∙ sym theirs.0)) }) in
    record {
      putter = h.putter;
      taker = pass;
      sent = h.sent;
      got = h.got;
      order = h.order;
      few = h.few;
      fits = fit_set (Fits h.putter pass h.sent h.got) vs other (hand false false [] [])
          (record { puts = λ p. absurd (true≢false (sym p)); takes = λ p. absurd (true≢false (sym p)) })
          (λ j y apart e. now j y e apart);
    }

-- who has both ends knows what the queue holds
pub ends : (pass : ℕ) (v : View) → v.puts ≡ true → v.takes ≡ true
    → Learns IsInOrder pass v (λ items. (v.sent ≡ v.got ++ items) × (length items ≤ MAX_AHEAD))
ends pass v a b items views h at =
    let mine = h.fits pass v at in
    ((mine.puts a).1 ∙ h.order ∙ ap (λ l. l ++ items) (sym (mine.takes b).1), h.few)
