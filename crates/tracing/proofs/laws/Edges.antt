-- Each live edge has exactly two listed steps on it, its sides.
--     edge_twice               exactly two listed steps are on a live edge
--     back_edge                the way back from an edge's first dart
--     OfEdge, of_edge          which of an edge's four steps a step is, or none
--     edge_more, edge_times    the steps on an edge counted, by these four
use Rattle.std.specs.Prelude.{ℕ, ◌+◌, ◌-◌, ◌*◌, ◌/◌, ◌%◌, ◌<◌, ◌≡◌, refl, true, List, [], ◌∷◌, ◌≢◌, eqb}
use native.Mathlib.Omega.{arith}
use Rattle.std.proofs.Common.{add-zero, eq-eqb, ne_eqb}
use Rattle.std.proofs.Math.Decide.{ℕ_discrete}
use Rattle.table.specs.Layout.{rev}
use Rattle.table.specs.Rotation.{Rotation, Lawful}
use Rattle.orbits.specs.Count.{more_if}
use Rattle.tracing.proofs.laws.Step.{type?, is_zero, is_one}
use Rattle.tracing.specs.Step.{step_type, back}
use Rattle.tracing.specs.Met.{count_in, times, listed_steps, on_edge}
use Rattle.tracing.proofs.laws.Twice.{one_way}

-- an edge's four steps
data OfEdge (e y : ℕ) : Type 0 where
  first : y ≡ 4 * e → OfEdge e y
  second : y ≡ 4 * e + 1 → OfEdge e y
  third : y ≡ 4 * e + 2 → OfEdge e y
  fourth : y ≡ 4 * e + 3 → OfEdge e y
  none : y / 4 ≢ e → OfEdge e y

of_edge : (e y : ℕ) → OfEdge e y
of_edge e y = elim (ℕ_discrete (y / 4) e) [
  | no d ↦ none d
  | yes q ↦ elim (ℕ_discrete y (4 * e)) [
    | yes a ↦ first a
    | no a ↦ elim (ℕ_discrete y (4 * e + 1)) [
      | yes b ↦ second b
      | no b ↦ elim (ℕ_discrete y (4 * e + 2)) [
        | yes c ↦ third c
        | no c ↦ fourth (omega arith)
      ]
    ]
  ]
]

edge_more : (e y : ℕ) → OfEdge e y → (k a b c d : ℕ) → k ≡ a + b + c + d
    → more_if (on_edge e y) k ≡ more_if (eqb (4 * e) y) a + more_if (eqb (4 * e + 1) y) b + more_if (eqb (4 * e + 2) y) c + more_if (eqb (4 * e + 3) y) d
edge_more e y (first q) k a b c d r =
    rw (
      eq-eqb (y / 4) e (omega arith),
      eq-eqb (4 * e) y (omega arith),
      ne_eqb (4 * e + 1) y (λ z. omega arith),
      ne_eqb (4 * e + 2) y (λ z. omega arith),
      ne_eqb (4 * e + 3) y (λ z. omega arith),
    ) (omega arith)
edge_more e y (second q) k a b c d r =
    rw (
      eq-eqb (y / 4) e (omega arith),
      ne_eqb (4 * e) y (λ z. omega arith),
      eq-eqb (4 * e + 1) y (omega arith),
      ne_eqb (4 * e + 2) y (λ z. omega arith),
      ne_eqb (4 * e + 3) y (λ z. omega arith),
    ) (omega arith)
edge_more e y (third q) k a b c d r =
    rw (
      eq-eqb (y / 4) e (omega arith),
      ne_eqb (4 * e) y (λ z. omega arith),
      ne_eqb (4 * e + 1) y (λ z. omega arith),
      eq-eqb (4 * e + 2) y (omega arith),
      ne_eqb (4 * e + 3) y (λ z. omega arith),
    ) (omega arith)
edge_more e y (fourth q) k a b c d r =
    rw (
      eq-eqb (y / 4) e (omega arith),
      ne_eqb (4 * e) y (λ z. omega arith),
      ne_eqb (4 * e + 1) y (λ z. omega arith),
      ne_eqb (4 * e + 2) y (λ z. omega arith),
      eq-eqb (4 * e + 3) y (omega arith),
    ) (omega arith)
edge_more e y (none q) k a b c d r =
    rw (
      ne_eqb (y / 4) e q,
      ne_eqb (4 * e) y (λ z. q (omega arith)),
      ne_eqb (4 * e + 1) y (λ z. q (omega arith)),
      ne_eqb (4 * e + 2) y (λ z. q (omega arith)),
      ne_eqb (4 * e + 3) y (λ z. q (omega arith)),
    ) (omega arith)

edge_times : (e : ℕ) (l : List ℕ) → count_in (on_edge e) l ≡ times (4 * e) l + times (4 * e + 1) l + times (4 * e + 2) l + times (4 * e + 3) l
unfolding count_in
edge_times e [] = refl
edge_times e (y ∷ l) = edge_more e y (of_edge e y) _ (times (4 * e) l) (times (4 * e + 1) l) (times (4 * e + 2) l) (times (4 * e + 3) l) (edge_times e l)

module _ (R : Rotation) (L : Lawful R) where
  -- the way back from an edge's first dart
  pub back_edge : (e t : ℕ) → t < 2 → back R (4 * e + t) ≡ 4 * e + 2 + (1 - (t + R.turns (2 * e)) % 2)
  unfolding back step_type
  back_edge e t h =
      let dart : (4 * e + t) / 2 ≡ 2 * e = omega arith in
      let turn : rev (2 * e) ≡ 2 * e + 1 = omega arith in
      let type : (4 * e + t + R.turns (2 * e)) % 2 ≡ (t + R.turns (2 * e)) % 2 = omega arith in
      rw (dart, turn, type) (omega arith)

  -- "the two listed steps on an edge are its sides"
  pub edge_twice : (e : ℕ) → R.live (2 * e) ≡ true → count_in (on_edge e) (listed_steps R) ≡ 2
  edge_twice e l =
      let low = L.dart_low (2 * e) l in
      let dart : 4 * e / 2 ≡ 2 * e = omega arith in
      let dart-one : (4 * e + 1) / 2 ≡ 2 * e = omega arith in
      let sum = edge_times e (listed_steps R) in
      let a = one_way R L (4 * e) (omega arith) (rw dart l) in
      let b = one_way R L (4 * e + 1) (omega arith) (rw dart-one l) in
      let ba : back R (4 * e) ≡ 4 * e + 2 + (1 - (0 + R.turns (2 * e)) % 2) = rw add-zero at (back_edge e 0 (omega arith)) in
      let bb = back_edge e 1 (omega arith) in
      elim (type? (R.turns (2 * e))) [
        | is_zero q ↦
            let c : back R (4 * e) ≡ 4 * e + 3 = omega arith in
            let d : back R (4 * e + 1) ≡ 4 * e + 2 = omega arith in
            let f = rw c at a in
            let g = rw d at b in
            omega arith
        | is_one q ↦
            let c : back R (4 * e) ≡ 4 * e + 2 = omega arith in
            let d : back R (4 * e + 1) ≡ 4 * e + 3 = omega arith in
            let f = rw c at a in
            let g = rw d at b in
            omega arith
      ]
