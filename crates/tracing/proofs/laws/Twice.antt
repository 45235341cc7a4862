-- The listed walks pass every live edge exactly twice: of a step and its way back, one is listed.
-- "A step is on its dart's edge; the two listed steps on an edge are its sides."
--     Passage, passed        a listed walk that passes a step, in one sense or the other
--     Sense, sense           of a step and its mirror, which is listed
--     step_times             with a step, the step after it is listed
--     one_way                of a step and its way back exactly one is listed
--     on_times, off_times    a step on a listed walk is listed once; one whose mirror is on it is not
use Rattle.std.specs.Prelude.{ℕ, ◌+◌, ◌*◌, ◌/◌, ◌<◌, ◌≡◌, refl, true, ◌&&◌, eqb}
use native.Mathlib.Omega.{arith}
use Rattle.std.proofs.Common.{sym, ◌∙◌, ap, ap₂, eq-eqb, eqb-true}
use Rattle.table.specs.Layout.{darts}
use Rattle.table.specs.Rotation.{Rotation, Lawful}
use Rattle.orbits.proofs.laws.Truth.{both, both_right, false_unless}
use Rattle.orbits.specs.Reach.{Reach}
use Rattle.orbits.proofs.laws.Reach.{reach_one, reach_trans, reach_sym}
use Rattle.orbits.specs.Orbits.{On}
use Rattle.orbits.proofs.laws.Orbits.{reach_on}
use Rattle.orbits.proofs.laws.Mirror.{mirror_world, mirror_reach, no_self}
use Rattle.orbits.specs.Faces.{Face, along, mirrored}
use Rattle.orbits.proofs.laws.Faces.{face_flip, face_trans}
use Rattle.tracing.specs.Step.{steps, step, back, mirror, corner}
use Rattle.tracing.proofs.laws.Step.{step_live, step_word, mirror_step, mirror_word, corner_live}
use Rattle.tracing.proofs.laws.Place.{places, trace, flip, on, flip_step, trace_step}
use Rattle.tracing.specs.Walk.{walk}
use Rattle.tracing.specs.Listing.{has, starts}
use Rattle.tracing.specs.Met.{times, listed_steps}
use Rattle.tracing.proofs.laws.Has.{times_none, times_gather, times_gather_none, count_single}
use Rattle.tracing.proofs.laws.Mirrored.{whole, mirrored as tracing-mirror}
use Rattle.tracing.proofs.laws.Meets.{has_walk, walk_has}
use Rattle.tracing.proofs.laws.Starts.{start?, start_live, has_start, starts_count}
use Rattle.tracing.proofs.laws.Cover.{covered, corner_face, starts_one}
use Rattle.tracing.proofs.laws.Once.{walk_once, step_on}

-- a listed walk that passes step x, in one sense or the other
pub record Passage (R : Rotation) (x : ℕ) : Type 0 where
  pub at : ℕ
  pub low : at < darts
  pub start : start? R at ≡ true
  pub face : Face (trace R) (flip R) (2 * at) x

-- whether step x is listed, or its mirror
pub data Sense (R : Rotation) (x : ℕ) : Type 0 where
  this : times x (listed_steps R) ≡ 1 → times (mirror R x) (listed_steps R) ≡ 0 → Sense R x
  other : times x (listed_steps R) ≡ 0 → times (mirror R x) (listed_steps R) ≡ 1 → Sense R x

module _ (R : Rotation) (L : Lawful R) where
  pub passed : (x : ℕ) → x < steps → R.live (x / 2) ≡ true → Passage R x
  passed x h l =
      let E = tracing-mirror R L (on R) (whole R L) in
      let c = covered R L (corner R x) (corner_live R L x ∙ l) in
      let low = L.dart_low (corner R x) (corner_live R L x ∙ l) in
      let start_low = c.low in
      record {
        at = c.at;
        low = c.low;
        start = c.start;
        face = face_trans E (omega arith) (omega arith) c.face (face_flip E (omega arith) (omega arith) (corner_face R L x h));
      }

  starts_times : (a : ℕ) → a < darts → start? R a ≡ true → times a (starts R darts) ≡ 1
  starts_times a h s =
      starts_count R (λ y. eqb a y) darts
      ∙ count_single (λ d. start? R d && eqb a d) darts a h (both s (eq-eqb a a refl))
      (λ i l t. sym (eqb-true a i (both_right (start? R i) (eqb a i) t)))

  -- a step on a listed walk is listed once
  on_times : (a x : ℕ) → a < darts → start? R a ≡ true → Reach (trace R) (2 * a) x → x < places → times x (listed_steps R) ≡ 1
  unfolding listed_steps
  on_times a x h s r l =
      let E = tracing-mirror R L (on R) (whole R L) in
      let low : 2 * a < steps = omega arith in
      times_gather (λ b. walk R (2 * b)) x a (starts R darts) (walk_once R L (2 * a) x low (walk_has R L (2 * a) x low r)) (λ b e d.
      let k = has_start R darts b e in
      let b-low = k.low in
      times_none x (walk R (2 * b)) (false_unless (has x (walk R (2 * b))) (λ q.
      d (starts_one R L b a b-low h k.start s
      (face_trans E l (omega arith) (along (has_walk R L (2 * b) x (omega arith) q)) (face_flip E (omega arith) l (along r)))))))
      ∙ starts_times a h s

  -- a step whose mirror is on a listed walk is not
  off_times : (a x : ℕ) → a < darts → start? R a ≡ true → Reach (trace R) (2 * a) (flip R x) → x < places → times x (listed_steps R) ≡ 0
  unfolding listed_steps
  off_times a x h s r l =
      let E = tracing-mirror R L (on R) (whole R L) in
      let I = (mirror_world E).perm in
      times_gather_none (λ b. walk R (2 * b)) x (starts R darts) (λ b e.
      let k = has_start R darts b e in
      let b-low = k.low in
      times_none x (walk R (2 * b)) (false_unless (has x (walk R (2 * b))) (λ q.
      let there = has_walk R L (2 * b) x (omega arith) q in
      let same : b ≡ a =
      starts_one R L b a b-low h k.start s (face_trans E l (omega arith) (along there) (face_flip E (omega arith) l (mirrored r))) in
      let half : 2 * b / 2 ≡ b = omega arith in
      let lives : On places (on R) (2 * b) = step_on R L (2 * b) (omega arith) (rw half (start_live R b k.start)) in
      no_self E (reach_on (mirror_world E) lives there) (reach_trans (reach_sym I (omega arith) there) (rw same r)))))

  sense_of : (a x : ℕ) → a < darts → start? R a ≡ true → x < steps → Face (trace R) (flip R) (2 * a) x → Sense R x
  sense_of a x h s l (along r) =
      let E = tracing-mirror R L (on R) (whole R L) in
      let m = mirror_word R L x l in
      let turn : flip R (mirror R x) ≡ x = ap (flip R) (sym (flip_step R x l)) ∙ E.twice x (omega arith) in
      this (on_times a x h s r (omega arith)) (off_times a (mirror R x) h s (rw turn r) (omega arith))
  sense_of a x h s l (mirrored r) =
      let m = mirror_word R L x l in
      other (off_times a x h s r (omega arith)) (on_times a (mirror R x) h s (rw (flip_step R x l) at r) (omega arith))

  pub sense : (x : ℕ) → x < steps → R.live (x / 2) ≡ true → Sense R x
  sense x h l = let p = passed x h l in sense_of p.at x p.low p.start h p.face

  one_sense : (x : ℕ) → x < steps → R.live (x / 2) ≡ true → times x (listed_steps R) + times (mirror R x) (listed_steps R) ≡ 1
  one_sense x h l = elim (sense x h l) [
    | this p q ↦ ap₂ ◌+◌ p q
    | other p q ↦ ap₂ ◌+◌ p q
  ]

  -- with a step, the step after it is listed
  pub step_times : (x : ℕ) → x < steps → R.live (x / 2) ≡ true → times (step R x) (listed_steps R) ≡ times x (listed_steps R)
  step_times x h l = let p = passed x h l in go p.at p.low p.start p.face
    where
      next : trace R x ≡ step R x
      next = trace_step R x h

      go : (a : ℕ) → a < darts → start? R a ≡ true → Face (trace R) (flip R) (2 * a) x → times (step R x) (listed_steps R) ≡ times x (listed_steps R)
      go a low s (along r) =
          let w = step_word R L x h in
          on_times a (step R x) low s (reach_trans r (rw next at (reach_one {f = trace R} x))) (omega arith) ∙ sym (on_times a x low s r (omega arith))
      go a low s (mirrored r) =
          let E = tracing-mirror R L (on R) (whole R L) in
          let w = step_word R L x h in
          let after : Reach (trace R) (flip R x) (flip R (step R x)) = mirror_reach E (omega arith) (rw next at (reach_one {f = trace R} x)) in
          off_times a (step R x) low s (reach_trans r after) (omega arith) ∙ sym (off_times a x low s r (omega arith))

  -- of a step and its way back exactly one is listed
  pub one_way : (x : ℕ) → x < steps → R.live (x / 2) ≡ true → times x (listed_steps R) + times (back R x) (listed_steps R) ≡ 1
  one_way x h l =
      ap₂ ◌+◌ (sym (step_times x h l)) (ap (λ y. times y (listed_steps R)) (sym (mirror_step R L x)))
      ∙ one_sense (step R x) (step_word R L x h) (step_live R L x ∙ l)
