-- An edge deleted. Its two sides on different faces: one face less. The far side on the walk of the near side, so that one walk
-- passes by both darts: one face more. The far side on the mirror of that walk: as many faces.
--     delete_less, delete_more, delete_same    in a part that has the edge
--     delete_elsewhere                         in any other part as many
use Rattle.std.specs.Prelude.{◌≡◌, Bool, ℕ, suc}
use Rattle.std.proofs.Common.{◌∙◌}
use Rattle.table.specs.Rotation.{Rotation, Lawful}
use Rattle.orbits.specs.Reach.{Reach}
use Rattle.orbits.specs.Faces.{Face, along, mirrored, face_classes}
use Rattle.orbits.proofs.laws.Follow.{faces_agree}
use Rattle.orbits.proofs.laws.Truth.{clash}
use Rattle.orbits.proofs.laws.FaceExchange.{faces_less, faces_more, faces_same}
use Rattle.tracing.proofs.laws.Place.{places, trace, flip}
use Rattle.tracing.proofs.laws.Mirrored.{mirrored as tracing-mirror}
use Rattle.surgery.specs.Without.{Without}
use Rattle.surgery.proofs.laws.Exchanged.{exchanged_is}
use Rattle.surgery.proofs.laws.TwoSides.{near, far}
use Rattle.surgery.proofs.laws.Through.{through, through_other, through_exchanged, near_far}
use Rattle.surgery.proofs.laws.Past.{faces_of, Parts, Inside, Outside, level_in, level_out, own_level, near_on, far_on, through_mirror, past_faces}

module _ {R R' : Rotation} {e : ℕ} (L : Lawful R) (L' : Lawful R') (W : Without R e R') {P P' : ℕ → Bool} (K : Parts R e R' P P') where
  module _ (i : Inside R e P) where
    after : faces_of R' P' ≡ face_classes (through R e) (flip R) places P
    after = past_faces L L' W K (through_mirror L W.here K.before (level_in i))

    pub delete_less : ¬ Face (trace R) (flip R) (near e) (far R e) → faces_of R P ≡ suc (faces_of R' P')
    delete_less n =
        rw (after, ← (exchanged_is (through_exchanged R L e W.here)))
        (faces_less (tracing-mirror R L P K.before) (near_on L W.here i) (far_on L W.here i) (λ r. n (along r)) (λ r. n (mirrored r)))

    pub delete_more : Reach (trace R) (near e) (far R e) → faces_of R' P' ≡ suc (faces_of R P)
    delete_more r =
        rw (after, ← (exchanged_is (through_exchanged R L e W.here)))
        (faces_more (tracing-mirror R L P K.before) (near_on L W.here i) (far_on L W.here i) (near_far R e) r)

    pub delete_same : Reach (trace R) (near e) (flip R (far R e)) → faces_of R' P' ≡ faces_of R P
    delete_same r =
        rw (after, ← (exchanged_is (through_exchanged R L e W.here)))
        (faces_same (tracing-mirror R L P K.before) (near_on L W.here i) (far_on L W.here i) r)

  pub delete_elsewhere : Outside R e P → faces_of R' P' ≡ faces_of R P
  delete_elsewhere o =
      let level = level_out o in
      let G = through_mirror L W.here K.before level in
      past_faces L L' W K G
      ∙ faces_agree G (tracing-mirror R L P K.before)
      (λ s p. through_other R e s (λ q. clash p.on (own_level L W.here K.before level s q ∙ o.near_out)))
