-- Where an inserted edge sits: each of its darts just before the dart that names its corner, or one after the other before it where
-- the two corners are the same; at an isolated vertex's corner, alone at that vertex.
--     place_live, live_low    the place of a live dart's corner
--     sits_on, enters         past the edge, each dart goes on to the place of its corner
--     first_in, second_in     these places are in each part that has the edge
--     inserted_somewhere      each edge sits so: it could have been inserted
use Rattle.std.specs.Prelude.{◌≡◌, refl, ◌⊎◌, Bool, true, false, ℕ, ◌+◌, ◌-◌, ◌*◌, ◌/◌, ◌%◌, ◌<◌}
use Rattle.std.proofs.Common.{sym, ◌∙◌, ap, inl, inr, ⊎_elim, arith}
use Rattle.std.proofs.Math.Decide.{ℕ_discrete}
use Rattle.table.specs.Layout.{edge_of, darts}
use Rattle.table.specs.Rotation.{Rotation, Lawful}
use Rattle.orbits.proofs.laws.Truth.{truth, holds, fails, false_unless}
use Rattle.orbits.specs.Reach.{Reach}
use Rattle.orbits.proofs.laws.Reach.{reach_one, reach_trans, reach_ind}
use Rattle.orbits.specs.Orbits.{On}
use Rattle.orbits.proofs.laws.Orbits.{reach_live}
use Rattle.orbits.proofs.laws.Mirror.{mirror_world}
use Rattle.tracing.specs.Step.{steps}
use Rattle.tracing.proofs.laws.Step.{is_zero}
use Rattle.tracing.proofs.laws.Place.{places, on, on_step, on_still}
use Rattle.tracing.specs.Listing.{lone_corner}
use Rattle.tracing.proofs.laws.FaceCount.{place_of, place_dart, place_lone}
use Rattle.surgery.proofs.laws.Spin.{spin, spin_next}
use Rattle.surgery.specs.Without.{Without}
use Rattle.surgery.proofs.laws.Without.{here_both, kept, not_own, were, filled}
use Rattle.surgery.proofs.laws.TwoSides.{near}
use Rattle.surgery.proofs.laws.Through.{near_low, through}
use Rattle.surgery.proofs.laws.Past.{Parts, Inside, level_in, own_level, through_mirror}
use Rattle.surgery.proofs.laws.Seat.{seat, seat_step, seat_bare, past}
use Rattle.surgery.proofs.laws.SeatFollows.{meet_bare}
use Rattle.surgery.proofs.laws.Insert.{Enters}
use Rattle.surgery.specs.Sits.{Sits, just_before, before_other, at_vertex, Inserted}

module _ {R R' : Rotation} {e : ℕ} (L : Lawful R) (L' : Lawful R') (W : Without R e R') where
  pub place_live : (c : ℕ) → R'.live c ≡ true → place_of c ≡ 2 * c
  place_live c l = place_dart c (let h = L'.dart_low c l in omega arith)

  pub live_low : (c : ℕ) → R'.live c ≡ true → 2 * c < steps
  live_low c l = let h = L'.dart_low c l in omega arith

  live_on : (c : ℕ) → R'.live c ≡ true → On places (on R') (place_of c)
  live_on c l =
      let h = live_low c l in
      let half : 2 * c / 2 ≡ c = omega arith in
      rw (place_live c l) (record { lt = omega arith; on = on_step R' (2 * c) h ∙ rw half l })

  pub sits_on : (x : ℕ) {c : ℕ} → Sits R e R' x c → On places (on R') (place_of c)
  sits_on x {c} (just_before l n) = live_on c l
  sits_on x {c} (before_other l q n) = live_on c l
  sits_on x {c} (at_vertex v z a f) =
      let h = L'.there_low v (L'.alone_there v a) in
      let same : (2 * (darts + v) - steps) / 2 ≡ v = omega arith in
      rw (z, place_lone v) (record { lt = omega arith; on = on_still R' (2 * (darts + v)) (omega arith) ∙ rw same a })

  -- past the edge, to the next dart
  onward : (x : ℕ) → edge_of x ≡ e → through R e (2 * x) ≡ 2 * R.next x
  onward x q =
      let there : 2 * spin R 0 x + 0 ≡ 2 * R.next x = rw (spin_next R refl) (omega arith) in
      let here : 2 * x + 0 ≡ 2 * x = omega arith in
      (rw here at (past L L' W (is_zero refl) x q)) ∙ there

  sits_reach : (x : ℕ) {c : ℕ} → edge_of x ≡ e → Sits R e R' x c → Reach (through R e) (2 * x) (seat R e (place_of c))
  sits_reach x {c} q (just_before l n) =
      rw (place_live c l, seat_step R e (2 * c) (live_low c l), ← n, ← (onward x q)) (reach_one (2 * x))
  sits_reach x {c} q (before_other l p n) =
      rw (place_live c l, seat_step R e (2 * c) (live_low c l), ← n, ← (onward (R.next x) p))
      (reach_trans (rw (onward x q) at (reach_one {f = through R e} (2 * x))) (reach_one (2 * R.next x)))
  sits_reach x {c} q (at_vertex v z a f) =
      let same : (2 * (darts + v) - steps) / 2 ≡ v = omega arith in
      let type : 2 * (darts + v) % 2 ≡ 0 = omega arith in
      let bare : R.alone v ≡ false = false_unless _ (λ b. L.alone_bare v x b (here_both L L' W x q) f) in
      let here : 2 * x + 0 ≡ 2 * x = omega arith in
      rw (z, place_lone v, seat_bare R e (2 * (darts + v)) (omega arith) (rw same bare), same, type)
      (rw (here, f) at (meet_bare L L' W (is_zero refl) x q (rw f a)))

  -- where a dart of the edge sits: before the first dart after it that is another edge's, or at the vertex that it bares
  sits_somewhere : (x : ℕ) → edge_of x ≡ e → (c : ℕ) × Sits R e R' x c
  sits_somewhere x q = elim (truth (R'.alone (R.from x))) [
    | holds a ↦ (lone_corner (R.from x), at_vertex (R.from x) refl a refl)
    | fails f ↦ elim (ℕ_discrete (edge_of (R.next x)) e) [
      | no n ↦ (R.next x, just_before (kept L L' W (R.next x) n ∙ once) refl)
      | yes p ↦ elim (ℕ_discrete (edge_of (R.next (R.next x))) e) [
        | no n ↦ (R.next (R.next x), before_other (kept L L' W (R.next (R.next x)) n ∙ L.live_next (R.next x) ∙ once) p refl)
        | yes r ↦
            let k = filled L L' W x here f in
            absurd (not_own L L' W k.0 k.1 (all_own p r k.0 (L.one_cycle x k.0 here (were L L' W k.0 k.1) (sym k.2))))
      ]
    ]
  ]
    where
      here : R.live x ≡ true
      here = here_both L L' W x q

      once : R.live (R.next x) ≡ true
      once = L.live_next x ∙ here

      -- were the next two the edge's own, so would be all at the vertex
      all_own : edge_of (R.next x) ≡ e → edge_of (R.next (R.next x)) ≡ e → (k : ℕ) → Reach R.next x k → edge_of k ≡ e
      all_own p r k w = ⊎_elim (λ z. rw z q) (λ z. rw z p) (reach_ind R.next (λ j. (j ≡ x) ⊎ (j ≡ R.next x)) x (inl refl) (λ j s t. step j t) k w)
        where
          step : (j : ℕ) → (j ≡ x) ⊎ (j ≡ R.next x) → (R.next j ≡ x) ⊎ (R.next j ≡ R.next x)
          step j (inl z) = inr (ap R.next z)
          step j (inr z) = elim (ℕ_discrete (R.next (R.next x)) x) [
            | yes y ↦ inl (ap R.next z ∙ y)
            | no n ↦ elim (ℕ_discrete (R.next x) x) [
              | yes y ↦ inr (ap R.next (z ∙ y))
              | no m ↦
                  let y : R.next (R.next x) ≡ R.next x = omega arith in
                  inr (ap R.next z ∙ y)
            ]
          ]

  pub inserted_somewhere : (c₁ : ℕ) × (c₂ : ℕ) × Inserted R e R' c₁ c₂
  inserted_somewhere =
      let a = sits_somewhere (2 * e) (omega arith) in
      let b = sits_somewhere (2 * e + 1) (omega arith) in
      (a.0, b.0, record { first = a.1; second = b.1 })

  pub enters : {c₁ c₂ : ℕ} → Inserted R e R' c₁ c₂ → Enters R e (place_of c₁) (place_of c₂)
  enters N =
      let s : 4 * e ≡ 2 * (2 * e) = omega arith in
      record { first = rw s (sits_reach (2 * e) (omega arith) N.first); second = sits_reach (2 * e + 1) (omega arith) N.second }

  -- both corners are in each part that has the edge
  module _ {P P' : ℕ → Bool} (K : Parts R e R' P P') (i : Inside R e P) {c₁ c₂ : ℕ} (N : Inserted R e R' c₁ c₂) where
    corner_in : (x s : ℕ) {c : ℕ} → Sits R e R' x c → s < places → P s ≡ P (near e) → Reach (through R e) s (seat R e (place_of c)) → On places P' (place_of c)
    corner_in x s S h q r =
        let o = sits_on x S in
        let G = through_mirror L W.here K.before (level_in i) in
        record { lt = o.lt; on = K.seats _ o ∙ reach_live (mirror_world G) h r ∙ q ∙ i.near_in }

    pub first_in : On places P' (place_of c₁)
    first_in = corner_in (2 * e) (near e) N.first (near_low R L e W.here) refl (enters N).first

    pub second_in : On places P' (place_of c₂)
    second_in =
        let low = L.dart_low (2 * e) W.here in
        corner_in (2 * e + 1) (2 * (2 * e + 1)) N.second (omega arith)
        (own_level L W.here K.before (level_in i) (2 * (2 * e + 1)) (omega arith)) (enters N).second
