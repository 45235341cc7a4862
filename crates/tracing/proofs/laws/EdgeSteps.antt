-- The four steps on an edge: a step s, its way back, the step by the same dart with the other type (`other_type s`, as a word), and the way back of that.
--     FourCase, four           two steps on one edge: which of the four the second is, seen from the first
--     rev_back                 the other type of a way back
--     back_flip, back_reach    ways back are on the mirror of the orbit, and run along as steps do
--     of_all                   what passes to the way back and to the other type holds of all four
--     Again, again_all         the walk passes the same dart again, with the other type
--     Across, across_all       the walk passes the other dart, not on its way back
use Rattle.std.specs.Prelude.{ℕ, ◌+◌, ◌-◌, ◌/◌, ◌%◌, ◌<◌, ◌≡◌}
use native.Mathlib.Omega.{arith}
use Rattle.std.proofs.Math.Decide.{ℕ_discrete}
use Rattle.std.proofs.Common.{sym, ◌∙◌, ap}
use Rattle.table.specs.Layout.{rev}
use Rattle.table.specs.Rotation.{Rotation, Lawful}
use Rattle.table.specs.laws.Lawful.{rev_rev}
use Rattle.orbits.specs.Reach.{Reach}
use Rattle.orbits.proofs.laws.Reach.{reach_one, reach_trans, reach_sym}
use Rattle.orbits.proofs.laws.Mirror.{mirror_world, mirror_reach}
use Rattle.tracing.specs.Step.{steps, step_type, step, back, other_type}
use Rattle.tracing.proofs.laws.Step.{type?, is_zero, is_one, step_low, step_word, mirror_step, back_back, back_dart, back_type}
use Rattle.tracing.proofs.laws.Place.{trace, flip, on, trace_step, flip_step}
use Rattle.tracing.proofs.laws.Mirrored.{whole, mirrored as tracing-mirror}

pub data FourCase (R : Rotation) (s s' : ℕ) : Type 0 where
  itself : s' ≡ s → FourCase R s s'
  way_back : s' ≡ back R s → FourCase R s s'
  other_type_lem : s' ≡ other_type s → FourCase R s s'
  other_back : s' ≡ back R (other_type s) → FourCase R s s'

module _ (R : Rotation) where
  rev_dart : (s : ℕ) → other_type s / 2 ≡ s / 2
  rev_dart s = omega arith

  rev_step_type : (s : ℕ) → step_type R (other_type s) ≡ 1 - step_type R s
  unfolding step_type
  rev_step_type s = elim (type? s) [
    | is_zero e ↦ let r : other_type s ≡ s + 1 = omega arith in rw (rev_dart s, r) (omega arith)
    | is_one e ↦ let r : other_type s + 1 ≡ s = omega arith in rw (rev_dart s) (omega arith)
  ]

  pub rev_back : (s : ℕ) → other_type (back R s) ≡ back R (other_type s)
  rev_back s =
      let low = step_low R s in
      let d = back_dart R s in
      let t = back_type R s in
      let d' : back R (other_type s) / 2 ≡ rev (s / 2) = back_dart R (other_type s) ∙ ap rev (rev_dart s) in
      let t' : back R (other_type s) % 2 ≡ 1 - (1 - step_type R s) = back_type R (other_type s) ∙ ap (λ k. 1 - k) (rev_step_type s) in
      omega arith

  pub four : (s s' : ℕ) → s / 4 ≡ s' / 4 → FourCase R s s'
  four s s' e = elim (ℕ_discrete s' s) [
    | yes q ↦ itself q
    | no q ↦ elim (ℕ_discrete s' (other_type s)) [
      | yes r ↦ other_type_lem r
      | no r ↦
          let dart : s' / 2 ≡ rev (s / 2) = other_dart s s' e q r in
          let d = back_dart R s in
          let back-rev = rev_back s in
          elim (ℕ_discrete s' (back R s)) [
            | yes z ↦ way_back z
            | no z ↦ other_back (sym (other_word (back R s) s' (d ∙ sym dart) z) ∙ back-rev)
          ]
    ]
  ]
    where
      other_dart : (s s' : ℕ) → s / 4 ≡ s' / 4 → (s' ≡ s → ⊥) → (s' ≡ other_type s → ⊥) → s' / 2 ≡ rev (s / 2)
      other_dart s s' e q r = elim (ℕ_discrete (s' / 2) (s / 2)) [
        | yes d ↦ elim (ℕ_discrete (s' % 2) (s % 2)) [ yes t ↦ absurd (q (omega arith)) | no t ↦ absurd (r (omega arith)) ]
        | no d ↦
            let a : s / 2 / 2 ≡ s / 4 = omega arith in
            let b : s' / 2 / 2 ≡ s' / 4 = omega arith in
            omega arith
      ]

      other_word : (a b : ℕ) → a / 2 ≡ b / 2 → (b ≡ a → ⊥) → rev a ≡ b
      other_word a b d n = elim (ℕ_discrete (a % 2) (b % 2)) [ yes t ↦ absurd (n (omega arith)) | no t ↦ omega arith ]

module _ (R : Rotation) (L : Lawful R) where
  back_word : (s : ℕ) → s < steps → back R s < steps
  back_word s h = let d = back_dart R s in omega arith

  -- a way back is on the mirror of the orbit
  pub back_flip : (s : ℕ) → s < steps → Reach (trace R) (flip R s) (back R s)
  back_flip s h =
      let E = tracing-mirror R L (on R) (whole R L) in
      let one : Reach (trace R) s (step R s) = rw (trace_step R s h) at (reach_one {f = trace R} s) in
      rw (flip_step R (step R s) (step_word R L s h), mirror_step R L s) at (mirror_reach E (omega arith) one)

  -- the ways back run along as the steps do
  pub back_reach : {s s' : ℕ} → s < steps → s' < steps → Reach (trace R) s s' → Reach (trace R) (back R s) (back R s')
  back_reach {s} {s'} h l r =
      let E = tracing-mirror R L (on R) (whole R L) in
      let I = (mirror_world E).perm in
      reach_trans (reach_sym I (E.low s (omega arith)) (back_flip s h)) (reach_trans (mirror_reach E (omega arith) r) (back_flip s' l))

  -- what holds of a step of an edge and passes to its way back and to the other type holds of all four
  pub of_all : (P : ℕ → Type 0) → ((s : ℕ) → s < steps → P s → P (other_type s)) → ((s : ℕ) → s < steps → P s → P (back R s))
      → (s s' : ℕ) → s < steps → s / 4 ≡ s' / 4 → P s → P s'
  of_all P turn go s s' h e p = elim (four R s s' e) [
    | itself q ↦ rw q p
    | way_back q ↦ rw q (go s h p)
    | other_type_lem q ↦ rw q (turn s h p)
    | other_back q ↦ rw q (go (other_type s) (omega arith) (turn s h p))
  ]

  -- the walk from s passes the same dart again, with the other type
  abbrev pub Again : ℕ → Type 0
  Again s = Reach (trace R) s (other_type s)

  -- the walk from s passes the other dart, in the sense that is not its way back
  abbrev pub Across : ℕ → Type 0
  Across s = Reach (trace R) s (back R (other_type s))

  pub again_all : (s s' : ℕ) → s < steps → s / 4 ≡ s' / 4 → Again s → Again s'
  again_all =
      of_all Again
      (λ s h r. rw (rev_rev s) (reach_sym (mirror_world (tracing-mirror R L (on R) (whole R L))).perm (omega arith) r))
      (λ s h r. rw (rev_back R s) (back_reach h (omega arith) r))

  pub across_all : (s s' : ℕ) → s < steps → s / 4 ≡ s' / 4 → Across s → Across s'
  across_all =
      of_all Across
      (λ s h r.
      let I = (mirror_world (tracing-mirror R L (on R) (whole R L))).perm in
      let over : Reach (trace R) (back R s) (other_type s) = rw (back_back R L (other_type s)) at (back_reach h (back_word (other_type s) (omega arith)) r) in
      rw (rev_rev s) (reach_sym I (let w = back_word s h in omega arith) over))
      (λ s h r.
      let over : Reach (trace R) (back R s) (other_type s) = rw (back_back R L (other_type s)) at (back_reach h (back_word (other_type s) (omega arith)) r) in
      rw (rev_back R s, back_back R L (other_type s)) over)
