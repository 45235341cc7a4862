-- The change of the number of faces by each edit, in document 01's words, read on the table before the edit: "Edits".
-- That it is as the table of changes says:
--     delete_change, turn_change_lem, insert_change                         in every part that has the edge
--     delete_count, turn_count, turn_even_count, insert_count, add_count    of the face count
use Rattle.std.specs.Prelude.{◌≡◌, Bool, ℕ, suc, ◌+◌, ◌-◌, ◌*◌, ◌/◌}
use Rattle.std.proofs.Common.{◌∙◌, arith}
use Rattle.table.specs.Rotation.{Rotation, Lawful}
use Rattle.orbits.specs.Orbits.{On}
use Rattle.orbits.specs.Faces.{Face, along, mirrored}
use Rattle.tracing.proofs.laws.Step.{is_zero, is_one}
use Rattle.tracing.proofs.laws.Place.{places, trace, flip, flip_flip, on_still}
use Rattle.tracing.specs.Listing.{face_count}
use Rattle.tracing.proofs.laws.Mirrored.{Part, whole}
use Rattle.tracing.proofs.laws.FaceCount.{place_of, face_count_lem}
use Rattle.tracing.specs.Sides.{sides_of}
use Rattle.tracing.proofs.laws.Sides.{both_darts, same_dart, two_faces, sides_case}
use Rattle.tracing.specs.Corner.{Present, at_dart, at_lone, meeting_of}
use Rattle.tracing.proofs.laws.Corner.{same, opposite, apart, meeting_case}
use Rattle.surgery.specs.Without.{Without}
use Rattle.surgery.proofs.laws.Through.{parity_type}
use Rattle.surgery.proofs.laws.Past.{faces_of, Parts, whole_parts, Inside, inside_whole}
use Rattle.surgery.proofs.laws.Delete.{delete_less, delete_more, delete_same}
use Rattle.surgery.proofs.laws.Insert.{bend, bend_zero, bend_one, Enters, insert_less, insert_more, insert_same}
use Rattle.surgery.specs.Sits.{Sits, just_before, before_other, at_vertex, Inserted}
use Rattle.surgery.proofs.laws.Sits.{enters, first_in, second_in}
use Rattle.surgery.specs.Turn.{Turned}
use Rattle.surgery.proofs.laws.Turn.{turned_on, turn_even, turn_less, turn_more, turn_same}
use Rattle.surgery.proofs.laws.Alike.{alike_flip}
use Rattle.surgery.specs.Vertex.{Added}
use Rattle.surgery.proofs.laws.Vertex.{vertex_whole, still_at, add_vertex}
use Rattle.surgery.specs.Change.{Changes, deletion, turning, insertion, parity}
use Rattle.tracing.specs.Step.{steps}

module _ {R R' : Rotation} {e : ℕ} (L : Lawful R) (L' : Lawful R') (W : Without R e R') {P P' : ℕ → Bool} (K : Parts R e R' P P') (i : Inside R e P) where
  pub delete_change : Changes (deletion (sides_of R e)) (faces_of R P) (faces_of R' P')
  delete_change = elim (sides_case R L e W.here) [
    | both_darts q r ↦ rw q (delete_more L L' W K i r)
    | same_dart q r ↦ rw q (delete_same L L' W K i r)
    | two_faces q n ↦ rw q (delete_less L L' W K i n)
  ]

  module _ {c₁ c₂ : ℕ} (N : Inserted R e R' c₁ c₂) where
    sits_present : (x : ℕ) {c : ℕ} → Sits R e R' x c → Present R' c
    sits_present x {c} (just_before l n) = at_dart (L'.dart_low c l) l
    sits_present x {c} (before_other l q n) = at_dart (L'.dart_low c l) l
    sits_present x {c} (at_vertex v z a f) = at_lone v (L'.there_low v (L'.alone_there v a)) z a

    -- a face has with a place its mirror
    bend_face : Face (trace R') (flip R') (place_of c₁) (bend R' (parity R e) (place_of c₂)) → Face (trace R') (flip R') (place_of c₁) (place_of c₂)
    bend_face = elim (parity_type R e) [
      | is_zero z ↦ rw (bend_zero R' (place_of c₂) z) (λ w. w)
      | is_one z ↦ rw (bend_one R' (place_of c₂) z) turn
    ]
      where
        turn : Face (trace R') (flip R') (place_of c₁) (flip R' (place_of c₂)) → Face (trace R') (flip R') (place_of c₁) (place_of c₂)
        turn (along r) = mirrored r
        turn (mirrored r) = along (rw (flip_flip R' L' (place_of c₂)) at r)

    pub insert_change : Changes (insertion (meeting_of R' c₁ c₂) (parity R e)) (faces_of R' P') (faces_of R P)
    insert_change = elim (meeting_case R' L' c₁ c₂ (sits_present (2 * e) N.first) (sits_present (2 * e + 1) N.second)) [
      | apart q n ↦ rw q (insert_less L L' W K i one two T (λ f. n (bend_face f)))
      | same q r ↦ elim (parity_type R e) [
        | is_zero z ↦ rw (q, z) (insert_more L L' W K i one two T (rw (bend_zero R' (place_of c₂) z) r))
        | is_one z ↦
            rw (q, z) (insert_same L L' W K i one two T (rw (bend_one R' (place_of c₂) z, flip_flip R' L' (place_of c₂)) r))
      ]
      | opposite q r ↦ elim (parity_type R e) [
        | is_zero z ↦ rw (q, z) (insert_same L L' W K i one two T (rw (bend_zero R' (place_of c₂) z) r))
        | is_one z ↦ rw (q, z) (insert_more L L' W K i one two T (rw (bend_one R' (place_of c₂) z) r))
      ]
    ]
      where
        T : Enters R e (place_of c₁) (place_of c₂)
        T = enters L L' W N

        one : On places P' (place_of c₁)
        one = first_in L L' W K i N

        two : On places P' (place_of c₂)
        two = second_in L L' W K i N

pub turn_change_lem : {R R₁ : Rotation} {e : ℕ} (L : Lawful R) (L₁ : Lawful R₁) (W : Turned R e R₁) → parity R₁ e ≡ 1 - parity R e
    → {P : ℕ → Bool} (K : Part R P) (i : Inside R e P) → Changes (turning (sides_of R e)) (faces_of R P) (faces_of R₁ P)
turn_change_lem {R} {R₁} {e} L L₁ W odd K i = elim (sides_case R L e W.here) [
  | both_darts q r ↦ rw q (turn_same L L₁ W odd K i r)
  | same_dart q r ↦ rw q (turn_more L L₁ W odd K i r)
  | two_faces q n ↦ rw q (turn_less L L₁ W odd K i n)
]

-- the face count of the whole mesh

pub delete_count : {R R' : Rotation} {e : ℕ} → Lawful R → Lawful R' → Without R e R' → Changes (deletion (sides_of R e)) (face_count R) (face_count R')
delete_count {R} {R'} L L' W = rw (face_count_lem R L, face_count_lem R' L') (delete_change L L' W (whole_parts L L' W) (inside_whole L W.here))

pub insert_count : {R R' : Rotation} {e : ℕ} → Lawful R → Lawful R' → Without R e R' → {c₁ c₂ : ℕ} → Inserted R e R' c₁ c₂
    → Changes (insertion (meeting_of R' c₁ c₂) (parity R e)) (face_count R') (face_count R)
insert_count {R} {R'} L L' W N = rw (face_count_lem R L, face_count_lem R' L') (insert_change L L' W (whole_parts L L' W) (inside_whole L W.here) N)

pub turn_count : {R R₁ : Rotation} {e : ℕ} → Lawful R → Lawful R₁ → Turned R e R₁ → parity R₁ e ≡ 1 - parity R e
    → Changes (turning (sides_of R e)) (face_count R) (face_count R₁)
turn_count {R} {R₁} L L₁ W odd =
    rw (face_count_lem R L, face_count_lem R₁ L₁, turned_on L L₁ W) (turn_change_lem L L₁ W odd (whole R L) (inside_whole L W.here))

pub turn_even_count : {R R₁ : Rotation} {e : ℕ} → Lawful R → Lawful R₁ → Turned R e R₁ → parity R₁ e ≡ parity R e → face_count R₁ ≡ face_count R
turn_even_count {R} {R₁} L L₁ W even =
    rw (face_count_lem R L, face_count_lem R₁ L₁, turned_on L L₁ W, turn_even L L₁ W even, alike_flip L L₁ W.next)

pub add_count : {R R₁ : Rotation} {v : ℕ} → Lawful R → Lawful R₁ → Added R v R₁ → face_count R₁ ≡ suc (face_count R)
add_count {R} {R₁} {v} L L₁ A =
    let same : (still_at v - steps) / 2 ≡ v = omega arith in
    rw (face_count_lem R L, face_count_lem R₁ L₁)
    (add_vertex L L₁ A (vertex_whole L L₁ A) (on_still R₁ (still_at v) (omega arith) ∙ rw same A.now))
