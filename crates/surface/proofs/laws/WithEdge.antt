-- A rotation system R and the same without one of its edges, R': what the edge does to chains, marks and counts.
--     EdgeStep, edge_step                                 a live dart is one of the edge's, or was there without it
--     weaken, onward                                      chains without the edge are chains with it; a chain goes on along another edge
--     ends_kept                                           both ends of the edge are in a part, or none
--     marks_down, marks_up                                marks of one and of the other
--     vertices_same, edges_one, edges_same, edge_fewer    the counts
use Rattle.std.specs.Prelude.{ℕ, suc, ◌+◌, ◌*◌, ◌%◌, ◌≡◌, Bool, true, false, ◌&&◌, ◌≢◌}
use Rattle.std.proofs.Common.{arith, ◌∙◌}
use Rattle.std.proofs.Math.Decide.{ℕ_discrete}
use Rattle.std.proofs.Math.Path.{sym, ap}
use Rattle.std.proofs.Math.Bool.{and-false}
use Rattle.table.specs.Layout.{vertices, edges, rev, edge_of}
use Rattle.table.specs.Rotation.{Rotation, Lawful}
use Rattle.orbits.proofs.laws.Truth.{Truth, truth, holds, fails, both}
use Rattle.orbits.proofs.laws.Count.{count_same, count_one}
use Rattle.surgery.proofs.laws.PlacesIn.{EndsTogether}
use Rattle.surgery.specs.Without.{Without}
use Rattle.surgery.proofs.laws.Without.{were, gone, kept}
use Rattle.surface.specs.Chain.{Chain, by_edge}
use Rattle.surface.proofs.laws.Chain.{chain_ind, Fits, MarksOn}
use Rattle.surface.proofs.laws.Links.{live_edge_low}
use Rattle.surface.specs.Counts.{vertices_in, edges_in}
use Rattle.tracing.specs.Met.{edge_count}

-- a live dart: the edge's first, its second, or another's
pub data EdgeStep (R R' : Rotation) (e d : ℕ) : Type 0 where
  out : R.from d ≡ R.from (2 * e) → R.from (rev d) ≡ R.from (2 * e + 1) → R.turns d ≡ R.turns (2 * e) → EdgeStep R R' e d
  home : R.from d ≡ R.from (2 * e + 1) → R.from (rev d) ≡ R.from (2 * e) → R.turns d ≡ R.turns (2 * e) → EdgeStep R R' e d
  other : R'.live d ≡ true → R'.from d ≡ R.from d → R'.from (rev d) ≡ R.from (rev d) → EdgeStep R R' e d

module _ {R R' : Rotation} {e : ℕ} (L : Lawful R) (L' : Lawful R') (W : Without R e R') where
  from_rev : (d : ℕ) → R'.live d ≡ true → R'.from (rev d) ≡ R.from (rev d)
  from_rev d l = W.from (rev d) (L'.live_rev d ∙ l)

  pub edge_step : (d : ℕ) → R.live d ≡ true → EdgeStep R R' e d
  edge_step d l = elim (ℕ_discrete (edge_of d) e) [
    | no n ↦
        let l' : R'.live d ≡ true = kept L L' W d n ∙ l in
        other l' (W.from d l') (from_rev d l')
    | yes q ↦ elim (ℕ_discrete d (2 * e)) [
      | yes s ↦
          let r : rev d ≡ 2 * e + 1 = omega arith in
          out (ap R.from s) (ap R.from r) (ap R.turns s)
      | no n ↦
          let s : d ≡ 2 * e + 1 = omega arith in
          let r : rev d ≡ 2 * e = omega arith in
          home (ap R.from s) (ap R.from r) (sym (L.turns_rev d) ∙ ap R.turns r)
    ]
  ]

  pub weaken : {a b : ℕ} → Chain R' a b → Chain R a b
  weaken {a} {b} c = chain_ind R' a (Chain R a) Chain.here (λ d l k t. rw (from_rev d l) (by_edge d (were L L' W d l) (rw (W.from d l) at t))) b c

  -- a chain without the edge goes on along a dart of another
  pub onward : {a : ℕ} (d : ℕ) → R'.live d ≡ true → R'.from d ≡ R.from d → R'.from (rev d) ≡ R.from (rev d) → Chain R' a (R.from d) → Chain R' a (R.from (rev d))
  onward {a} d l x y c =
      let k : Chain R' a (R'.from (rev d)) = by_edge d l (rw x c) in
      rw y at k

  pub ends_kept : {Q : ℕ → Bool} → EndsTogether R Q → Q (R.from (2 * e + 1)) ≡ Q (R.from (2 * e))
  ends_kept {Q} K = let r : rev (2 * e) ≡ 2 * e + 1 = omega arith in rw r at (K.edge (2 * e) W.here)

  -- marks that agree with the edges agree without the edge; and with it, if they agree with it too
  pub marks_down : {Q : ℕ → Bool} {m : ℕ → ℕ} → MarksOn R Q m → MarksOn R' Q m
  marks_down {Q} {m} M = record {
    fits = λ d l q.
        let a = W.from d l in
        let fit = M.fits d (were L L' W d l) (rw a at q) in
        let t = W.turns d l in
        rw (a, from_rev d l) (omega arith);
  }

  pub marks_up : {Q : ℕ → Bool} {m : ℕ → ℕ} → EndsTogether R Q → MarksOn R' Q m
      → (Q (R.from (2 * e)) ≡ true → (R.turns (2 * e) + m (R.from (2 * e)) + m (R.from (2 * e + 1))) % 2 ≡ 0) → MarksOn R Q m
  marks_up {Q} {m} K M own = record { fits = λ d l q. by d q (edge_step d l) }
    where
      by : (d : ℕ) → Q (R.from d) ≡ true → EdgeStep R R' e d → Fits R m d
      by d q (out a b t) = rw (a, b, t) (own (rw a at q))
      by d q (home a b t) = let f = own (sym (ends_kept K) ∙ (rw a at q)) in rw (a, b, t) (omega arith)
      by d q (other l a b) =
          let fit : (R'.turns d + m (R.from d) + m (R.from (rev d))) % 2 ≡ 0 = rw (a, b) at (M.fits d l (rw a q)) in
          let t = W.turns d l in
          omega arith

  pub vertices_same : (Q : ℕ → Bool) → vertices_in R' Q ≡ vertices_in R Q
  unfolding vertices_in
  vertices_same Q = count_same _ _ vertices (λ v h. ap (λ b. b && Q v) (W.there v))

  edge_same : (Q : ℕ → Bool) (k : ℕ) → k ≢ e → (R.live (2 * k) && Q (R.from (2 * k))) ≡ (R'.live (2 * k) && Q (R'.from (2 * k)))
  edge_same Q k n = by (truth (R'.live (2 * k)))
    where
      same : R'.live (2 * k) ≡ R.live (2 * k)
      same = kept L L' W (2 * k) (omega arith)

      by : Truth (R'.live (2 * k)) → (R.live (2 * k) && Q (R.from (2 * k))) ≡ (R'.live (2 * k) && Q (R'.from (2 * k)))
      by (holds l) = rw (← same, W.from (2 * k) l)
      by (fails l) = rw (← same, l)

  own_gone : R'.live (2 * e) ≡ false
  own_gone = gone L L' W (2 * e) (omega arith)

  pub edges_one : (Q : ℕ → Bool) → Q (R.from (2 * e)) ≡ true → edges_in R Q ≡ suc (edges_in R' Q)
  unfolding edges_in
  edges_one Q q =
      count_one _ _ e edges (live_edge_low L e W.here) (both W.here q) (rw own_gone)
      (λ k h n. edge_same Q k n)

  pub edges_same : (Q : ℕ → Bool) → Q (R.from (2 * e)) ≡ false → edges_in R Q ≡ edges_in R' Q
  unfolding edges_in
  edges_same Q q = count_same _ _ edges (λ k h. elim (ℕ_discrete k e) [
    | yes s ↦ rw (s, q, own_gone) (and-false (R.live (2 * e)))
    | no n ↦ edge_same Q k n
  ])

  pub edge_fewer : edge_count R ≡ suc (edge_count R')
  unfolding edge_count
  edge_fewer = count_one _ _ e edges (live_edge_low L e W.here) W.here own_gone (λ k h n. sym (kept L L' W (2 * k) (omega arith)))
