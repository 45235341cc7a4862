-- The Euler number of a part: V-E+F is at most 2, even if the part is orientable, and at most 1 if it is not.
-- By induction on the number of live edges, taking one edge out.
--     Closed               a class of lawful rotation systems out of which any edge can be taken
--     euler                the theorem, for the part Q of a live vertex r
use Rattle.std.specs.Prelude.{ℕ, zero, suc, ◌+◌, ◌*◌, ◌/◌, ◌≡◌, Bool, true}
use Rattle.std.proofs.Common.{arith, ◌∙◌}
use Rattle.std.proofs.Math.Path.{refl}
use Rattle.table.specs.Layout.{edges, rev}
use Rattle.table.specs.Rotation.{Rotation, Lawful}
use Rattle.orbits.proofs.laws.Truth.{truth, holds, fails, clash, false_unless}
use Rattle.orbits.proofs.laws.Count.{none_counted, count_find}
use Rattle.tracing.proofs.laws.Place.{on}
use Rattle.surgery.specs.Without.{Without}
use Rattle.surface.specs.Chain.{PartOf}
use Rattle.surface.proofs.laws.Chain.{part_kept}
use Rattle.surface.proofs.laws.Links.{live_edge, live_edge_low}
use Rattle.surface.proofs.laws.Labels.{chain_dec}
use Rattle.surface.specs.Counts.{walks_in}
use Rattle.surface.proofs.laws.Counts.{faces_at, walks_faces, EulerLaws}
use Rattle.surface.proofs.laws.WithEdge.{edge_fewer}
use Rattle.surface.proofs.laws.NoEdges.{bare_laws}
use Rattle.surface.proofs.laws.Inside.{away_part, away_laws, inside_part, inside_laws}
use Rattle.surface.proofs.laws.Joint.{first_part, second_part, joint_laws}
use Rattle.tracing.specs.Met.{edge_count}

-- a class of lawful rotation systems in which any edge can be taken out
pub record Closed (C : Rotation → Type 0) : Type 0 where
  pub lawful : (R : Rotation) → C R → Lawful R
  pub without : (R : Rotation) → C R → (e : ℕ) → R.live (2 * e) ≡ true → (R' : Rotation) × C R' × Without R e R'

-- the laws hold for each part
AllParts : Rotation → Type 0
AllParts R = (r : ℕ) → R.there r ≡ true → (Q : ℕ → Bool) → PartOf R r Q → EulerLaws R Q (faces_at R Q)

no_edges : {R : Rotation} → Lawful R → edge_count R ≡ 0 → AllParts R
unfolding edge_count AllParts
no_edges {R} L n r t Q P = bare_laws L (λ d. false_unless (R.live d) (λ l.
    let on : R.live (2 * (d / 2)) ≡ true = live_edge L d ∙ l in
    clash on (none_counted (λ e. R.live (2 * e)) edges n (d / 2) (live_edge_low L (d / 2) on)))) t P

one_edge_lem : {R R' : Rotation} {e : ℕ} → Lawful R → Lawful R' → Without R e R' → AllParts R' → AllParts R
unfolding AllParts
one_edge_lem {R} {R'} {e} L L' W back r t Q P = elim (truth (Q (R.from (2 * e)))) [
  | fails q ↦ away_laws L L' W P q (back r (W.there r ∙ t) Q (away_part L L' W P q))
  | holds q ↦ elim (chain_dec L' (R.from (2 * e)) (R.from (2 * e + 1))) [
    | yes k ↦ inside_laws L L' W P q k (back r (W.there r ∙ t) Q (inside_part L L' W P q k))
    | no k ↦
        let live : R.live (2 * e + 1) ≡ true = second_live (L.live_rev (2 * e) ∙ W.here) in
        joint_laws L L' W P q k
        (back (R.from (2 * e)) (W.there (R.from (2 * e)) ∙ L.from_there (2 * e) W.here) _ (first_part L L' W P q k))
        (back (R.from (2 * e + 1)) (W.there (R.from (2 * e + 1)) ∙ L.from_there (2 * e + 1) live) _ (second_part L L' W P q k))
  ]
]
  where
    second_live : R.live (rev (2 * e)) ≡ true → R.live (2 * e + 1) ≡ true
    second_live l = let q : rev (2 * e) ≡ 2 * e + 1 = omega arith in rw q at l

module _ {C : Rotation → Type 0} (closed : Closed C) where
  one_more : (n : ℕ) → ((R : Rotation) → C R → edge_count R ≡ n → AllParts R) → (R : Rotation) → C R → edge_count R ≡ suc n → AllParts R
  unfolding edge_count
  one_more n back R c m =
      let x = count_find (λ e. R.live (2 * e)) edges (omega arith) in
      let w = closed.without R c x.at x.pass in
      let L = closed.lawful R c in
      let L' = closed.lawful w.0 w.1 in
      let fewer = edge_fewer L L' w.2 in
      one_edge_lem L L' w.2 (back w.0 w.1 (omega arith))

  by_edges : (n : ℕ) (R : Rotation) → C R → edge_count R ≡ n → AllParts R
  by_edges zero R c m = no_edges (closed.lawful R c) m
  by_edges (suc n) R c m = one_more n (by_edges n) R c m

  pub euler : {R : Rotation} → C R → {r : ℕ} → R.there r ≡ true → {Q : ℕ → Bool} → PartOf R r Q → EulerLaws R Q (walks_in R Q)
  unfolding AllParts
  euler {R} c {r} t {Q} P =
      let L = closed.lawful R c in
      rw (walks_faces L (part_kept L P)) (by_edges (edge_count R) R c refl r t Q P)
