-- Labels and marks that keep to `Labelling`, and what they answer: two vertices have one label exactly if a chain joins them, the label
-- is the smallest vertex of its part, and the part is orientable exactly if the marks found agree with each of its edges.
-- So labels are the same however they are found, and so is the answer whether a part is orientable.
--     label_chain, chain_label, label_least       equal labels and chains; a label is the smallest vertex of its part
--     joined_dec, chain_dec                       whether a chain joins two vertices is decided
--     part_of, labelled_kept                      the vertices labelled r are the part of r
--     agree_orient, orient_agree                  marks that agree, and marks that exist
--     label_one, untwisted_one                    however labels and marks are found, the answers are one
--     label_is, orientable_is                     they are those of the fold over the live edges
--     same_label, label_smallest, label_joined    two vertices have one label exactly if a chain joins them; it is the smallest
--     in_part_of, in_part_at, in_part_kept        the part labelled r is the part of r
--     orientable_marks                            it is orientable exactly if its vertices can be marked so
use Rattle.std.specs.Prelude.{ℕ, ◌+◌, ◌*◌, ◌/◌, ◌%◌, ◌≤◌, ◌≡◌, refl, false, not, ◌↔◌, eqb}
use native.Mathlib.Omega.{arith}
use Rattle.std.proofs.Math.Decide.{ℕ_discrete}
use Rattle.std.proofs.Common.{le_antisymm, ◌∙◌, ap}
use Rattle.std.proofs.Math.Path.{sym, fun_ext}
use Rattle.std.proofs.Math.Bool.{true}
use borrow.Author.Tests.{eq-eqb, eqb-true}
use Rattle.table.specs.Layout.{edges, rev}
use Rattle.table.specs.Rotation.{Rotation, Lawful}
use Rattle.orbits.proofs.laws.Truth.{truth, holds, fails, clash, both, both_left, both_right, same_truth, false_unless}
use Rattle.orbits.proofs.laws.Count.{none_counted, count_none}
use Rattle.surgery.proofs.laws.PlacesIn.{EndsTogether}
use Rattle.surface.specs.Chain.{Chain, PartOf, Orientable}
use Rattle.surface.proofs.laws.Chain.{chain_ind, chain_trans, chain_sym, MarksOn, orient_fits, fits_orient}
use Rattle.surface.specs.Links.{Spot}
use Rattle.surface.proofs.laws.Links.{FitsAt, Labelling, links_label, live_edge, live_edge_low, edge_fits, edge_kept}
use Rattle.surface.specs.Labels.{labelled, agrees, twisted, untwisted, spots, label, in_part, orientable}

abbrev EdgeFits : Rotation → (ℕ → ℕ) → ℕ → Type 0
EdgeFits R m e = (R.turns (2 * e) + m (R.from (2 * e)) + m (R.from (2 * e + 1))) % 2 ≡ 0

plain_agrees : (R : Rotation) (s : ℕ → Spot) (r e : ℕ) → R.live (2 * e) ≡ true → labelled s r (R.from (2 * e)) ≡ true → twisted R s r e ≡ false
    → EdgeFits R (λ w. (s w).mark) e
unfolding twisted agrees
plain_agrees R s r e l q t = elim (truth (agrees R s e)) [
  | holds a ↦ eqb-true _ 0 a
  | fails a ↦ absurd (clash (both l (both q (ap not a))) t)
]

fits_plain : (R : Rotation) (s : ℕ → Spot) (r e : ℕ) → (R.live (2 * e) ≡ true → labelled s r (R.from (2 * e)) ≡ true → EdgeFits R (λ w. (s w).mark) e)
    → twisted R s r e ≡ false
unfolding twisted agrees
fits_plain R s r e f =
    false_unless _ (λ t.
    let l = both_left (R.live (2 * e)) _ t in
    let m = both_right (R.live (2 * e)) _ t in
    let q = both_left (labelled s r (R.from (2 * e))) _ m in
    let n = both_right (labelled s r (R.from (2 * e))) _ m in
    clash n (ap not (eq-eqb _ 0 (f l q))))

module _ {R : Rotation} (L : Lawful R) {s : ℕ → Spot} (G : Labelling R s) where
  pub chain_label : {u v : ℕ} → Chain R u v → (s v).label ≡ (s u).label
  chain_label {u} {v} c = chain_ind R u (λ w. (s w).label ≡ (s u).label) refl (λ d l k t. G.same d l ∙ t) v c

  pub label_chain : {u v : ℕ} → (s u).label ≡ (s v).label → Chain R u v
  label_chain {u} {v} e = chain_trans (chain_sym L (G.sound.joined u)) (rw e (G.sound.joined v))

  pub joined_dec : (u v : ℕ) → Dec (Chain R u v)
  joined_dec u v = elim (ℕ_discrete (s u).label (s v).label) [
    | yes e ↦ yes (label_chain e)
    | no n ↦ no (λ c. n (sym (chain_label c)))
  ]

  -- a label is the smallest vertex of its part
  pub label_least : (w v : ℕ) → Chain R w v → (s w).label ≤ v
  label_least w v c = rw (chain_label c) at (G.sound.low v)

  pub part_of : (r : ℕ) → (s r).label ≡ r → PartOf R r (labelled s r)
  part_of r e = record {
    joins = λ w t. label_chain (e ∙ sym (eqb-true (s w).label r t));
    all = λ w c. eq-eqb (s w).label r (chain_label c ∙ e);
  }

  pub labelled_kept : (r : ℕ) → EndsTogether R (labelled s r)
  labelled_kept r = record { edge = λ d l. ap (λ k. eqb k r) (G.same d l) }

  -- marks that exist agree with those found
  fits_at : (r w : ℕ) (m : ℕ → ℕ) → MarksOn R (labelled s r) m → (s w).label ≡ r → FitsAt R w m
  fits_at r w m M e = record { fits = λ d l c. M.fits d l (eq-eqb (s (R.from d)).label r (chain_label c ∙ e)) }

  fits_found : (r : ℕ) (m : ℕ → ℕ) → MarksOn R (labelled s r) m → MarksOn R (labelled s r) (λ w. (s w).mark)
  fits_found r m M = record {
    fits = λ d l q.
        let e = eqb-true (s (R.from d)).label r q in
        let f = G.same d l ∙ e in
        let x = rw e at (G.sound.forced (R.from d) m (fits_at r (R.from d) m M e)) in
        let y = rw f at (G.sound.forced (R.from (rev d)) m (fits_at r (R.from (rev d)) m M f)) in
        let z = M.fits d l q in
        omega arith;
  }

  -- and they agree with each edge exactly if none is twisted
  agree_fits : (r : ℕ) → untwisted R s r ≡ true → MarksOn R (labelled s r) (λ w. (s w).mark)
  unfolding untwisted
  agree_fits r t = record {
    fits = λ d l q.
        let on : R.live (2 * (d / 2)) ≡ true = live_edge L d ∙ l in
        let mine : labelled s r (R.from (2 * (d / 2))) ≡ true = edge_kept (labelled_kept r) d l ∙ q in
        let plain = none_counted (twisted R s r) edges (eqb-true _ 0 t) (d / 2) (live_edge_low L (d / 2) on) in
        (edge_fits L (λ w. (s w).mark) d).0 (plain_agrees R s r (d / 2) on mine plain);
  }

  pub agree_orient : (r : ℕ) → untwisted R s r ≡ true → Orientable R (labelled s r)
  agree_orient r t = fits_orient (agree_fits r t)

  pub orient_agree : (r : ℕ) → Orientable R (labelled s r) → untwisted R s r ≡ true
  unfolding untwisted
  orient_agree r o =
      eq-eqb _ 0 (count_none (twisted R s r) edges (λ e h. fits_plain R s r e (λ l q.
      let k : 2 * e / 2 ≡ e = omega arith in
      rw k at ((edge_fits L (λ w. (s w).mark) (2 * e)).1 ((fits_found r o.mark (orient_fits o)).fits (2 * e) l q)))))

-- labels and marks found in two ways: one answer
module _ {R : Rotation} (L : Lawful R) {s t : ℕ → Spot} (G : Labelling R s) (H : Labelling R t) where
  pub label_one : (w : ℕ) → (s w).label ≡ (t w).label
  label_one w =
      le_antisymm (label_least L G w (t w).label (chain_sym L (H.sound.joined w))) (label_least L H w (s w).label (chain_sym L (G.sound.joined w)))

  labelled_one : (r : ℕ) → labelled s r ≡ labelled t r
  labelled_one r = fun_ext (λ w. ap (λ k. eqb k r) (label_one w))

  pub untwisted_one : (r : ℕ) → untwisted R s r ≡ untwisted R t r
  untwisted_one r =
      same_truth _ _
      (λ a. orient_agree L H r (rw (labelled_one r) at (agree_orient L G r a)))
      (λ a. orient_agree L G r (rw (← (labelled_one r)) at (agree_orient L H r a)))

module _ {R : Rotation} (L : Lawful R) where
  spots_labelling : Labelling R (spots R)
  unfolding spots
  spots_labelling = links_label L

  -- however labels and marks are found, these are the answers
  pub label_is : {s : ℕ → Spot} → Labelling R s → (w : ℕ) → (s w).label ≡ label R w
  unfolding label
  label_is G w = label_one L G spots_labelling w

  pub orientable_is : {s : ℕ → Spot} → Labelling R s → (r : ℕ) → untwisted R s r ≡ orientable R r
  unfolding orientable
  orientable_is G r = untwisted_one L G spots_labelling r

  -- "Live vertices are in one connected part if a chain of live edges joins them"
  pub same_label : (u v : ℕ) → (label R u ≡ label R v) ↔ Chain R u v
  unfolding label
  same_label u v = (λ e. label_chain L spots_labelling e, λ c. sym (chain_label L spots_labelling c))

  pub label_smallest : (w v : ℕ) → Chain R w v → label R w ≤ v
  unfolding label
  label_smallest w v c = label_least L spots_labelling w v c

  pub label_joined : (w : ℕ) → Chain R (label R w) w
  unfolding label
  label_joined w = spots_labelling.sound.joined w

  pub chain_dec : (u v : ℕ) → Dec (Chain R u v)
  chain_dec = joined_dec L spots_labelling

  -- the part labelled r is the part of r
  pub in_part_of : (r : ℕ) → label R r ≡ r → PartOf R r (in_part R r)
  unfolding in_part label
  in_part_of r e = part_of L spots_labelling r e

  pub in_part_at : (w : ℕ) → PartOf R w (in_part R (label R w))
  unfolding in_part
  in_part_at w = record {
    joins = λ v t. (same_label w v).0 (sym (eqb-true (label R v) (label R w) t));
    all = λ v c. eq-eqb (label R v) (label R w) (sym ((same_label w v).1 c));
  }

  pub in_part_kept : (r : ℕ) → EndsTogether R (in_part R r)
  unfolding in_part label
  in_part_kept r = labelled_kept L spots_labelling r

  -- "A part is orientable if its vertices can be marked": exactly if the fold's marks agree with each of its edges
  pub orientable_marks : (r : ℕ) → (orientable R r ≡ true) ↔ Orientable R (in_part R r)
  unfolding orientable in_part label
  orientable_marks r = (agree_orient L spots_labelling r, orient_agree L spots_labelling r)
