-- An edge inserted: the deletion, seen from the rotation system without the edge. The near side goes on, past the edge, to a
-- place p of it, the second dart's step of type 0 to a place q. The far side goes on to q if the turns are even, and to the mirror of q if odd.
-- On different faces: one face less. The far side's place on the walk of p: one face more. On its mirror: as many faces.
--     bend, bend_zero, bend_one                a place, or its mirror
--     Enters                                   where the edge's steps go on to
--     insert_less, insert_more, insert_same    in a part that has them
use Rattle.std.specs.Prelude.{◌≡◌, refl, ◌↔◌, Bool, cond, ℕ, suc, ◌+◌, ◌-◌, ◌*◌, ◌/◌, ◌%◌, ◌<◌, eqb}
use Rattle.std.proofs.Common.{sym, ◌∙◌, arith, eq-eqb, ne_eqb}
use Rattle.table.specs.Rotation.{Rotation, Lawful}
use Rattle.orbits.specs.Iterate.{Inj}
use Rattle.orbits.specs.Reach.{Reach}
use Rattle.orbits.proofs.laws.Reach.{reach_one, reach_trans, reach_sym}
use Rattle.orbits.specs.Orbits.{On}
use Rattle.orbits.specs.Mirror.{Mirror}
use Rattle.orbits.proofs.laws.Mirror.{mirror_world, mirror_reach, mirror_on}
use Rattle.orbits.specs.Exchange.{exch2}
use Rattle.orbits.specs.Faces.{Face, along, mirrored}
use Rattle.orbits.proofs.laws.FaceExchange.{faces_less, faces_more, faces_same}
use Rattle.tracing.specs.Step.{steps}
use Rattle.tracing.proofs.laws.Step.{is_zero, is_one}
use Rattle.tracing.proofs.laws.Place.{places, trace, flip, on, flip_low}
use Rattle.tracing.proofs.laws.Mirrored.{mirrored as tracing-mirror}
use Rattle.surgery.proofs.laws.Spin.{flip_spin}
use Rattle.surgery.specs.Without.{Without}
use Rattle.surgery.proofs.laws.Exchanged.{exchanged_is, exchanged_back}
use Rattle.surgery.proofs.laws.TwoSides.{near, far}
use Rattle.surgery.proofs.laws.Through.{parity_type, through, through_exchanged, near_far}
use Rattle.surgery.proofs.laws.Seat.{seat, past}
use Rattle.surgery.proofs.laws.SeatFollows.{seat_follows, seat_flip}
use Rattle.surgery.proofs.laws.Past.{faces_of, Parts, Inside, level_in, near_on, far_on, through_mirror, past_faces, past_reach}
use Rattle.surgery.specs.Change.{parity}

-- the place itself for type 0, its mirror for type 1
unfoldable pub bend : Rotation → ℕ → ℕ → ℕ
bend R t s = cond (eqb t 0) s (flip R s)

pub bend_zero : (R : Rotation) {t : ℕ} (s : ℕ) → t ≡ 0 → bend R t s ≡ s
unfolding bend
bend_zero R {t} s e = rw (eq-eqb t 0 e)

pub bend_one : (R : Rotation) {t : ℕ} (s : ℕ) → t ≡ 1 → bend R t s ≡ flip R s
unfolding bend
bend_one R {t} s e = rw (ne_eqb t 0 (λ z. omega arith))

-- past the edge, its first dart's step of type 0 goes on to p and its second dart's to q
pub record Enters (R : Rotation) (e p q : ℕ) : Type 0 where
  pub first : Reach (through R e) (near e) (seat R e p)
  pub second : Reach (through R e) (2 * (2 * e + 1)) (seat R e q)

-- on one orbit with two others: these are on one orbit exactly if those are
reach_shift : {N : ℕ} {f : ℕ → ℕ} → Inj N f → {x y i j : ℕ} → x < N → y < N → Reach f x i → Reach f y j → Reach f i j → Reach f x y
reach_shift I h l r s w = reach_trans r (reach_trans w (reach_sym I l s))

module _ {R R' : Rotation} {e : ℕ} (L : Lawful R) (L' : Lawful R') (W : Without R e R') {P P' : ℕ → Bool} (K : Parts R e R' P P') (i : Inside R e P)
    {p q : ℕ} (op : On places P' p) (oq : On places P' q) (T : Enters R e p q) where
  G : Mirror places (through R e) (flip R) P
  G = through_mirror L W.here K.before (level_in i)

  G' : Mirror places (trace R') (flip R') P'
  G' = tracing-mirror R' L' P' K.after

  I : Inj places (through R e)
  I = (mirror_world G).perm

  here : {s : ℕ} → On places P' s → On places (on R') s
  here o = record { lt = o.lt; on = K.after.within _ o.lt o.on }

  bend_on : On places P' (bend R' (parity R e) q)
  bend_on = elim (parity_type R e) [
    | is_zero z ↦ rw (bend_zero R' q z) oq
    | is_one z ↦ rw (bend_one R' q z) (mirror_on G' oq)
  ]

  -- a seat is low; the mirror of a seat goes on to the seat of the mirror
  seat_low : {s : ℕ} → On places P' s → seat R e s < places
  seat_low {s} o = ((seat_follows L L' W).lives s (here o)).lt

  mirror_goes : {x s : ℕ} → x < places → On places P' s → Reach (through R e) x (seat R e s) → Reach (through R e) (flip R x) (seat R e (flip R' s))
  mirror_goes {x} {s} h o r =
      reach_trans (mirror_reach G h r) (reach_sym I (seat_low (mirror_on G' o)) (seat_flip L L' W I s (here o)))

  -- the far side goes on to q, or to its mirror
  far_goes : Reach (through R e) (far R e) (seat R e (bend R' (parity R e) q))
  far_goes = elim (parity_type R e) [
    | is_zero z ↦
        let s : far R e ≡ 2 * (2 * e + 1) = omega arith in
        rw (bend_zero R' q z, s) T.second
    | is_one z ↦
        let low : 2 * (2 * e + 1) < steps = second_low in
        let half : 2 * (2 * e + 1) / 2 ≡ 2 * e + 1 = omega arith in
        let type : 1 - 2 * (2 * e + 1) % 2 ≡ 1 = omega arith in
        let once : through R e (2 * (2 * e + 1) + 1) ≡ flip R (2 * (2 * e + 1)) =
        past L L' W (is_one refl) (2 * e + 1) (omega arith) ∙ sym (flip_spin R (2 * (2 * e + 1)) low ∙ rw (half, type)) in
        let s : far R e ≡ 2 * (2 * e + 1) + 1 = omega arith in
        rw (bend_one R' q z, s)
        (reach_trans (reach_one (2 * (2 * e + 1) + 1)) (rw once (mirror_goes (omega arith) oq T.second)))
  ]
    where
      second_low : 2 * (2 * e + 1) < steps
      second_low = let l = L.dart_low (2 * e) W.here in omega arith

  -- near and far side past the edge, as their places lie without it
  near_reach : {s x : ℕ} → x < places → On places P' s → Reach (through R e) x (seat R e s) → Reach (trace R') p s ↔ Reach (through R e) (near e) x
  near_reach {s} {x} h o r = (
    λ w. reach_shift I (near_on L W.here i).lt h T.first r ((past_reach L L' W K G op o).0 w),
    λ w. (past_reach L L' W K G op o).1 (reach_trans (reach_sym I (near_on L W.here i).lt T.first) (reach_trans w r)),
  )

  along_iff : Reach (trace R') p (bend R' (parity R e) q) ↔ Reach (through R e) (near e) (far R e)
  along_iff = near_reach (far_on L W.here i).lt bend_on far_goes

  mirror_iff : Reach (trace R') p (flip R' (bend R' (parity R e) q)) ↔ Reach (through R e) (near e) (flip R (far R e))
  mirror_iff =
      let low = (far_on L W.here i).lt in
      near_reach (flip_low R L (far R e) low) (mirror_on G' bend_on) (mirror_goes low bend_on far_goes)

  again : exch2 (through R e) (flip R) (near e) (far R e) ≡ trace R
  again = exchanged_is (exchanged_back (through_exchanged R L e W.here))

  pub insert_more : Reach (trace R') p (bend R' (parity R e) q) → faces_of R P ≡ suc (faces_of R' P')
  insert_more r =
      rw (past_faces L L' W K G, ← again)
      (faces_more G (near_on L W.here i) (far_on L W.here i) (near_far R e) (along_iff.0 r))

  pub insert_same : Reach (trace R') p (flip R' (bend R' (parity R e) q)) → faces_of R P ≡ faces_of R' P'
  insert_same r =
      rw (past_faces L L' W K G, ← again)
      (faces_same G (near_on L W.here i) (far_on L W.here i) (mirror_iff.0 r))

  pub insert_less : ¬ Face (trace R') (flip R') p (bend R' (parity R e) q) → faces_of R' P' ≡ suc (faces_of R P)
  insert_less n =
      rw (past_faces L L' W K G, ← again)
      (faces_less G (near_on L W.here i) (far_on L W.here i) (λ r. n (along (along_iff.1 r))) (λ r. n (mirrored (mirror_iff.1 r))))
