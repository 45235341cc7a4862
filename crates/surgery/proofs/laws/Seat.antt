-- Where the places of a rotation system without an edge lie among those with it. A step stays where it is, and so does a vertex
-- that is alone in both. A vertex that only the edge's darts left is alone without the edge: its two still places lie
-- at the two steps of such a dart.
--     seat, seat_step, seat_vertex, seat_bare    where a place lies
--     Seated, seated                             which of the three it is
--     dart_at, dart_at_own, dart_at_from         the dart of the edge that leaves a vertex
--     passed_over, taken_other, taken_bare       is something seated there
--     past                                       past the edge: what a step of its darts leads to
--     skip_around, reach_around, skip_bare       around a vertex past the edge's darts, where others are left, and where none is
--     same_type                                  a step of another edge comes to the same type
use Rattle.std.specs.Prelude.{◌≡◌, ◌≢◌, Bool, true, false, ◌&&◌, ◌||◌, cond, ℕ, ◌+◌, ◌-◌, ◌*◌, ◌/◌, ◌%◌, ◌<◌, ◌≤◌, eqb, ltb}
use Rattle.std.proofs.Common.{sym, ◌∙◌, ap}
use Rattle.std.proofs.Math.Bool.{or-true}
use Rattle.std.proofs.Math.Decide.{ℕ_discrete}
use native.Mathlib.Omega.{arith}
use borrow.Author.Tests.{eq-eqb, ne_eqb, lt-ltb, le-ltb}
use Rattle.table.specs.Layout.{edge_of}
use Rattle.table.specs.Rotation.{Rotation, Lawful}
use Rattle.orbits.proofs.laws.Truth.{truth, holds, fails, clash}
use Rattle.orbits.specs.Reach.{Reach}
use Rattle.orbits.proofs.laws.Reach.{reach_here, reach_one, reach_trans}
use Rattle.orbits.specs.Orbits.{On}
use Rattle.orbits.specs.Follow.{Skip, land, pass}
use Rattle.tracing.specs.Step.{steps, step_type}
use Rattle.tracing.proofs.laws.Step.{Type?, is_zero, is_one}
use Rattle.tracing.proofs.laws.Place.{places, on, is_step_lem, is_still, place, on_step, on_still}
use Rattle.surgery.proofs.laws.Bypass.{skip_over}
use Rattle.surgery.proofs.laws.Spin.{spin, spin_inj, spin_live, spin_from, around_spin}
use Rattle.surgery.specs.Without.{Without, apart}
use Rattle.surgery.proofs.laws.Without.{apart_own, apart_other, here_both, bare_edge, bared}
use Rattle.surgery.proofs.laws.Through.{through, through_own}

-- the dart of edge e that leaves v, the first if both do
unfoldable pub dart_at : Rotation → ℕ → ℕ → ℕ
dart_at R e v = cond (eqb (R.from (2 * e)) v) (2 * e) (2 * e + 1)

unfoldable pub seat : Rotation → ℕ → ℕ → ℕ
seat R e s = cond (ltb s steps) s (cond (R.alone ((s - steps) / 2)) s (2 * dart_at R e ((s - steps) / 2) + s % 2))

-- is something seated there: not at the steps of the edge, but for those that a vertex took
unfoldable pub passed_over : Rotation → ℕ → Rotation → ℕ → Bool
passed_over R e R' s = apart e (s / 2) || (R'.alone (R.from (s / 2)) && eqb (dart_at R e (R.from (s / 2))) (s / 2))

pub data Seated (R : Rotation) (e : ℕ) (R' : Rotation) (s : ℕ) : Type 0 where
  a_step : s < steps → R'.live (s / 2) ≡ true → seat R e s ≡ s → Seated R e R' s
  a_vertex : steps ≤ s → R.alone ((s - steps) / 2) ≡ true → seat R e s ≡ s → Seated R e R' s
  a_bare : steps ≤ s → (d : ℕ) → edge_of d ≡ e → R.from d ≡ (s - steps) / 2 → R'.alone (R.from d) ≡ true
      → dart_at R e (R.from d) ≡ d → seat R e s ≡ 2 * d + s % 2 → Seated R e R' s

module _ (R : Rotation) (e : ℕ) where
  pub seat_step : (s : ℕ) → s < steps → seat R e s ≡ s
  unfolding seat
  seat_step s h = rw (lt-ltb s steps h)

  pub seat_vertex : (s : ℕ) → steps ≤ s → R.alone ((s - steps) / 2) ≡ true → seat R e s ≡ s
  unfolding seat
  seat_vertex s h a = rw (le-ltb s steps h, a)

  pub seat_bare : (s : ℕ) → steps ≤ s → R.alone ((s - steps) / 2) ≡ false → seat R e s ≡ 2 * dart_at R e ((s - steps) / 2) + s % 2
  unfolding seat
  seat_bare s h f = rw (le-ltb s steps h, f)

  pub dart_at_own : (v : ℕ) → edge_of (dart_at R e v) ≡ e
  unfolding dart_at
  dart_at_own v = elim (truth (eqb (R.from (2 * e)) v)) [ holds q ↦ rw q (omega arith) | fails q ↦ rw q (omega arith) ]

  pub dart_at_from : (d v : ℕ) → edge_of d ≡ e → R.from d ≡ v → R.from (dart_at R e v) ≡ v
  unfolding dart_at
  dart_at_from d v q p = elim (ℕ_discrete (R.from (2 * e)) v) [
    | yes s ↦ rw (eq-eqb (R.from (2 * e)) v s) s
    | no n ↦
        let other : d ≢ 2 * e = λ z. n (ap R.from (sym z) ∙ p) in
        let second : 2 * e + 1 ≡ d = omega arith in
        rw (ne_eqb (R.from (2 * e)) v n, second) p
  ]

module _ (R : Rotation) (e : ℕ) (R' : Rotation) where
  pub taken_other : (s d : ℕ) → s / 2 ≡ d → apart e d ≡ true → passed_over R e R' s ≡ true
  unfolding passed_over
  taken_other s d q a = rw (q, a)

  pub taken_bare : (s d : ℕ) → s / 2 ≡ d → R'.alone (R.from d) ≡ true → dart_at R e (R.from d) ≡ d → passed_over R e R' s ≡ true
  unfolding passed_over
  taken_bare s d q a p = rw (q, a, eq-eqb (dart_at R e (R.from d)) d p) (or-true (apart e d))

  taken_full : (s d : ℕ) → s / 2 ≡ d → apart e d ≡ false → R'.alone (R.from d) ≡ false → passed_over R e R' s ≡ false
  unfolding passed_over
  taken_full s d q a f = rw (q, a, f)

  taken_second : (s d : ℕ) → s / 2 ≡ d → apart e d ≡ false → R'.alone (R.from d) ≡ true → dart_at R e (R.from d) ≢ d → passed_over R e R' s ≡ false
  unfolding passed_over
  taken_second s d q a f n = rw (q, a, f, ne_eqb (dart_at R e (R.from d)) d n)

-- the step by dart d with type t
pub halves : (d t : ℕ) → Type? t → ((2 * d + t) / 2 ≡ d) × ((2 * d + t) % 2 ≡ t)
halves d t (is_zero z) = (omega arith, omega arith)
halves d t (is_one z) = (omega arith, omega arith)

own_apart : (e d : ℕ) → apart e d ≡ false → edge_of d ≡ e
own_apart e d f = elim (ℕ_discrete (edge_of d) e) [ yes q ↦ q | no n ↦ absurd (clash (apart_other e d n) f) ]

module _ {R R' : Rotation} {e : ℕ} (L : Lawful R) (L' : Lawful R') (W : Without R e R') where
  pub seated : (s : ℕ) → On places (on R') s → Seated R e R' s
  seated s o = elim (place s) [
    | is_step_lem h ↦ a_step h (rw (on_step R' s h) at o.on) (seat_step R e s h)
    | is_still h ↦
        let a : R'.alone ((s - steps) / 2) ≡ true = rw (on_still R' s h) at o.on in
        elim (truth (R.alone ((s - steps) / 2))) [
          | holds b ↦ a_vertex h b (seat_vertex R e s h b)
          | fails b ↦
              let j = bared L L' W ((s - steps) / 2) a b in
              let v = dart_at_from R e j.0 ((s - steps) / 2) j.1 j.2 in
              a_bare h (dart_at R e ((s - steps) / 2)) (dart_at_own R e ((s - steps) / 2)) v (rw v a) (ap (dart_at R e) v) (seat_bare R e s h b)
        ]
  ]

  -- tracing past the edge, at the edge's own steps
  pub past : {t : ℕ} → Type? t → (d : ℕ) → edge_of d ≡ e → through R e (2 * d + t) ≡ 2 * spin R t d + t
  past {t} T d q =
      let p = halves d t T in
      through_own R e (2 * d + t) (rw p.0 q) ∙ rw (p.0, p.1) (around_spin R T d)

  -- around a vertex that keeps a dart: past the edge's darts to the next dart
  pub skip_around : {t : ℕ} → Type? t → {d k : ℕ} → Skip (spin R t) (apart e) d k → R'.alone (R.from d) ≡ false
      → (s : ℕ) → through R e s ≡ 2 * spin R t d + t → Skip (through R e) (passed_over R e R') s (2 * k + t)
  skip_around {t} T {d} {k} (land on q) f s p =
      land (taken_other R e R' (2 * k + t) k (halves k t T).0 on) (p ∙ rw q)
  skip_around {t} T {d} {k} (pass off w) f s p =
      let f' : R'.alone (R.from (spin R t d)) ≡ false = rw (spin_from L T d) f in
      skip_over p (taken_full R e R' (2 * spin R t d + t) (spin R t d) (halves (spin R t d) t T).0 off f')
      (skip_around T w f' (2 * spin R t d + t) (past T (spin R t d) (own_apart e (spin R t d) off)))

  pub reach_around : {t : ℕ} → Type? t → {d k : ℕ} → Skip (spin R t) (apart e) d k → Reach (through R e) (2 * spin R t d + t) (2 * k + t)
  reach_around {t} T {d} {k} (land on q) = rw q reach_here
  reach_around {t} T {d} {k} (pass off w) =
      reach_trans (reach_one (2 * spin R t d + t)) (rw (past T (spin R t d) (own_apart e (spin R t d) off)) (reach_around T w))

  -- a vertex with the edge's darts alone: around it and back
  pub skip_bare : {t : ℕ} → Type? t → (d : ℕ) → edge_of d ≡ e → R'.alone (R.from d) ≡ true → dart_at R e (R.from d) ≡ d
      → Skip (through R e) (passed_over R e R') (2 * d + t) (2 * d + t)
  skip_bare {t} T d q a p = elim (ℕ_discrete (spin R t d) d) [
    | yes s ↦ land here (past T d q ∙ rw s)
    | no n ↦
        let k = own d q a in
        let second : dart_at R e (R.from (spin R t d)) ≢ spin R t d = λ z. n (sym z ∙ ap (dart_at R e) (spin_from L T d) ∙ p) in
        let a' : R'.alone (R.from (spin R t d)) ≡ true = rw (spin_from L T d) a in
        let m = own (spin R t d) k a' in
        let moved : spin R t (spin R t d) ≢ spin R t d = λ z. n (spin_inj L T (spin R t d) d z) in
        let back : spin R t (spin R t d) ≡ d = omega arith in
        skip_over (past T d q) (taken_second R e R' (2 * spin R t d + t) (spin R t d) (halves (spin R t d) t T).0 (apart_own e (spin R t d) k) a' second)
        (land here (past T (spin R t d) k ∙ rw back))
  ]
    where
      here : passed_over R e R' (2 * d + t) ≡ true
      here = taken_bare R e R' (2 * d + t) d (halves d t T).0 a p

      own : (i : ℕ) → edge_of i ≡ e → R'.alone (R.from i) ≡ true → edge_of (spin R t i) ≡ e
      own i o b = bare_edge L L' W (spin R t i) (rw (spin_from L T i) b) (spin_live L T i ∙ here_both L L' W i o)

  pub same_type : (s : ℕ) → R'.live (s / 2) ≡ true → step_type R' s ≡ step_type R s
  unfolding step_type
  same_type s l = omega (arith, W.turns (s / 2) l)
