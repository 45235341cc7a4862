-- A rotation system with an edge, and the same without it: what deleting the edge leaves, and what inserting it began from.
--     apart_own, apart_other                         the edge's darts, and the others
--     here_both, gone, kept, not_own, were           which darts are live, with the edge and without it
--     prev_bypass, spin_skip                         around a vertex, the edge's darts are passed over
--     alone_stays, bare_edge, filled, bared, full    where the edge had the only darts of a vertex, that vertex is alone without it
use Rattle.std.specs.Prelude.{◌≡◌, ◌≢◌, true, false, ℕ, ◌+◌, ◌*◌}
use Rattle.std.proofs.Common.{sym, ◌∙◌, ap, arith, eq-eqb, ne_eqb}
use Rattle.std.proofs.Math.Bool.{and-true, and-false}
use Rattle.std.proofs.Math.Decide.{ℕ_discrete}
use Rattle.table.specs.Layout.{edge_of, rev}
use Rattle.table.specs.Rotation.{Rotation, Lawful}
use Rattle.orbits.proofs.laws.Truth.{truth, holds, fails, clash, false_unless}
use Rattle.orbits.specs.Follow.{Skip}
use Rattle.tracing.proofs.laws.Step.{Type?, is_zero, is_one}
use Rattle.surgery.specs.Without.{bypass, apart, Without}
use Rattle.surgery.proofs.laws.Bypass.{bypass_inverse, bypass_skip}
use Rattle.surgery.proofs.laws.Spin.{spin, spin_next, spin_prev, spin_inj}

pub apart_own : (e d : ℕ) → edge_of d ≡ e → apart e d ≡ false
unfolding apart
apart_own e d q = rw (eq-eqb (edge_of d) e q)

pub apart_other : (e d : ℕ) → edge_of d ≢ e → apart e d ≡ true
unfolding apart
apart_other e d q = rw (ne_eqb (edge_of d) e q)

module _ {R R' : Rotation} {e : ℕ} (L : Lawful R) (L' : Lawful R') (W : Without R e R') where
  -- both darts of the edge are live before
  pub here_both : (d : ℕ) → edge_of d ≡ e → R.live d ≡ true
  here_both d q = elim (ℕ_discrete d (2 * e)) [
    | yes s ↦ rw s W.here
    | no n ↦
        let s : d ≡ rev (2 * e) = omega arith in
        rw s (L.live_rev (2 * e) ∙ W.here)
  ]

  pub gone : (d : ℕ) → edge_of d ≡ e → R'.live d ≡ false
  gone d q = W.live d ∙ rw (apart_own e d q) (and-false (R.live d))

  pub kept : (d : ℕ) → edge_of d ≢ e → R'.live d ≡ R.live d
  kept d n = W.live d ∙ rw (apart_other e d n) (and-true (R.live d))

  pub not_own : (d : ℕ) → R'.live d ≡ true → edge_of d ≢ e
  not_own d l q = clash l (gone d q)

  pub were : (d : ℕ) → R'.live d ≡ true → R.live d ≡ true
  were d l = sym (kept d (not_own d l)) ∙ l

  pub prev_bypass : (d : ℕ) → R'.prev d ≡ bypass (bypass R.prev (2 * e)) (2 * e + 1) d
  prev_bypass d =
      ap R'.prev (sym undone) ∙ L'.prev_next (out d)
    where
      out : ℕ → ℕ
      out = bypass (bypass R.prev (2 * e)) (2 * e + 1)

      undone : R'.next (out d) ≡ d
      undone =
          W.next (out d)
          ∙ bypass_inverse (bypass R.prev (2 * e)) (bypass R.next (2 * e))
          (bypass_inverse R.prev R.next L.next_prev L.prev_next (2 * e))
          (bypass_inverse R.next R.prev L.prev_next L.next_prev (2 * e))
          (2 * e + 1) d

  -- around a vertex, from another edge's dart to the first dart after it that is another edge's
  pub spin_skip : {t : ℕ} → Type? t → (d : ℕ) → edge_of d ≢ e → Skip (spin R t) (apart e) d (spin R' t d)
  spin_skip {t} T d n =
      rw (same T)
      (bypass_skip (spin R t) (spin_inj L T) (2 * e) (2 * e + 1) (omega arith) (apart e) (apart_own e (2 * e) (omega arith)) (apart_own e (2 * e + 1) (omega arith))
      (λ k p q. apart_other e k (omega arith)) d (omega arith) (omega arith))
    where
      same : Type? t → spin R' t d ≡ bypass (bypass (spin R t) (2 * e)) (2 * e + 1) d
      same (is_zero q) = rw (spin_next R' q, spin_next R q) (W.next d)
      same (is_one q) = rw (spin_prev R' q, spin_prev R q) (prev_bypass d)

  -- the vertices that are alone without the edge: those that were, and those whose darts were the edge's

  pub alone_stays : (v : ℕ) → R.alone v ≡ true → R'.alone v ≡ true
  alone_stays v a = elim (truth (R'.alone v)) [
    | holds h ↦ h
    | fails f ↦
        let j = L'.joined v (W.there v ∙ L.alone_there v a) f in
        absurd (L.alone_bare v j.0 a (were j.0 j.1) (sym (W.from j.0 j.1) ∙ j.2))
  ]

  pub bare_edge : (d : ℕ) → R'.alone (R.from d) ≡ true → R.live d ≡ true → edge_of d ≡ e
  bare_edge d a l = elim (ℕ_discrete (edge_of d) e) [
    | yes q ↦ q
    | no n ↦
        let l' : R'.live d ≡ true = kept d n ∙ l in
        absurd (L'.alone_bare (R.from d) d a l' (W.from d l'))
  ]

  pub filled : (d : ℕ) → R.live d ≡ true → R'.alone (R.from d) ≡ false → (k : ℕ) × (R'.live k ≡ true) × (R.from k ≡ R.from d)
  filled d l f =
      let j = L'.joined (R.from d) (W.there (R.from d) ∙ L.from_there d l) f in
      (j.0, j.1, sym (W.from j.0 j.1) ∙ j.2)

  pub bared : (v : ℕ) → R'.alone v ≡ true → R.alone v ≡ false → (d : ℕ) × (edge_of d ≡ e) × (R.from d ≡ v)
  bared v a f =
      let j = L.joined v (sym (W.there v) ∙ L'.alone_there v a) f in
      (j.0, bare_edge j.0 (rw j.2 a) j.1, j.2)

  -- a vertex of a live dart of R' is not alone
  pub full : (d : ℕ) → R'.live d ≡ true → R'.alone (R.from d) ≡ false
  full d l = false_unless (R'.alone (R.from d)) (λ a. L'.alone_bare (R.from d) d a l (W.from d l))
