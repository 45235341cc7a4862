-- V, E and F of the mesh and of a part, document 01, "Counts".
--     vertex_dart, vertex_lone         the vertex of a corner
--     walks_places                     the listed walks in a part are those at its places
--     walks_faces                      and they are its faces: what the counts of crate `orbits` speak of
--     walk_vertices                    all corners of a listed walk are in the part of its first one
--     EulerLaws                        what holds of a part's V-E+F
use Rattle.std.specs.Prelude.{ℕ, ◌+◌, ◌*◌, ◌/◌, ◌-◌, ◌%◌, ◌<◌, ◌≤◌, ◌≡◌, refl, Bool, true, List, [], ◌∷◌}
use Rattle.std.proofs.Common.{arith, ◌∙◌, lt-ltb, le-ltb}
use Rattle.std.proofs.Math.Path.{sym, ap}
use Rattle.table.specs.Layout.{darts, lone_at}
use Rattle.table.specs.Rotation.{Rotation, Lawful}
use Rattle.orbits.proofs.laws.Truth.{same_truth}
use Rattle.orbits.specs.Faces.{Face, face_classes}
use Rattle.orbits.proofs.laws.Faces.{face_flip, face_keeps}
use Rattle.tracing.specs.Step.{steps}
use Rattle.tracing.specs.Listing.{has, lone_corner, faces}
use Rattle.tracing.specs.Met.{count_in, corners_of}
use Rattle.tracing.proofs.laws.Listing.{has_here}
use Rattle.tracing.proofs.laws.Has.{has_tail, has_cons, has_empty, here, later}
use Rattle.tracing.proofs.laws.Place.{places, trace, flip, on}
use Rattle.tracing.proofs.laws.Mirrored.{Part, whole, mirrored as tracing-mirror}
use Rattle.tracing.proofs.laws.Meets.{has_corners}
use Rattle.tracing.proofs.laws.Once.{from_dart, from_lone, listed_face, corners_low, corners_of_dart, corners_of_lone}
use Rattle.tracing.proofs.laws.FaceCount.{faces_in, faces_part, listed_on, place_of, place_dart, place_lone}
use Rattle.surgery.proofs.laws.PlacesIn.{EndsTogether, place_vertex, places_in, places_in_part, part_on, vertex_step, vertex_still}
use Rattle.surface.specs.Chain.{Orientable}
use Rattle.surface.specs.Counts.{corner_vertex, vertices_in, edges_in, walks_in}

abbrev pub faces_at : Rotation → (ℕ → Bool) → ℕ
faces_at R Q = face_classes (trace R) (flip R) places (places_in R Q)

module _ (R : Rotation) where
  pub vertex_dart : (d : ℕ) → d < lone_at → corner_vertex R d ≡ R.from d
  unfolding corner_vertex
  vertex_dart d h = rw (lt-ltb d lone_at h)

  pub vertex_lone : (v : ℕ) → corner_vertex R (lone_corner v) ≡ v
  unfolding corner_vertex
  vertex_lone v = rw (le-ltb (lone_corner v) lone_at (omega arith)) (omega arith)

-- tests that agree on the members
pub count_in_same : (p q : ℕ → Bool) (l : List ℕ) → ((c : ℕ) → has c l ≡ true → p c ≡ q c) → count_in p l ≡ count_in q l
unfolding count_in
count_in_same p q [] h = refl
count_in_same p q (x ∷ l) h = rw (h x (has_here x l), count_in_same p q l (λ c e. h c (has_tail c x l e)))

module _ {R : Rotation} (L : Lawful R) where
  -- a listed face's corner and its place are at one vertex
  place_vertex_lem : (c : ℕ) → has c (faces R) ≡ true → place_vertex R (place_of c) ≡ corner_vertex R c
  place_vertex_lem c e = elim (listed_face R L c e) [
    | from_dart h s ↦
        let half : 2 * c / 2 ≡ c = omega arith in
        rw (place_dart c (omega arith), vertex_step R (2 * c) (omega arith), half, vertex_dart R c (omega arith))
    | from_lone v h a q ↦
        let less : (2 * (darts + v) - steps) / 2 ≡ v = omega arith in
        rw (q, place_lone v, vertex_still R (2 * (darts + v)) (omega arith), less, vertex_lone R v)
  ]

  pub walks_places : (Q : ℕ → Bool) → walks_in R Q ≡ faces_in R (places_in R Q)
  unfolding walks_in faces_in
  walks_places Q =
      count_in_same _ _ (faces R) (λ c e. sym (part_on R Q (place_of c) (listed_on R L c e) ∙ ap Q (place_vertex_lem c e)))

pub walks_faces : {R : Rotation} {Q : ℕ → Bool} → Lawful R → EndsTogether R Q → walks_in R Q ≡ faces_at R Q
walks_faces {R} {Q} L K = walks_places L Q ∙ faces_part R L (places_in R Q) (places_in_part L K)

-- "A walk is in the part whose corners it meets."
module _ {R : Rotation} (L : Lawful R) {Q : ℕ → Bool} (K : EndsTogether R Q) where
  same_face : (P : ℕ → Bool) → Part R P → (i j : ℕ) → i < places → j < places → Face (trace R) (flip R) i j → P j ≡ P i
  same_face P N i j h l f =
      let E = tracing-mirror R L P N in
      same_truth (P j) (P i) ((face_keeps E).keep j i l h (face_flip E h l f)) ((face_keeps E).keep i j h l f)

  at_dart : (d : ℕ) → d < darts → on R (2 * d) ≡ true → places_in R Q (2 * d) ≡ Q (corner_vertex R d)
  at_dart d h o =
      let half : 2 * d / 2 ≡ d = omega arith in
      part_on R Q (2 * d) o ∙ ap Q (vertex_step R (2 * d) (omega arith) ∙ rw half (sym (vertex_dart R d (omega arith))))

  pub walk_vertices : (c k : ℕ) → has c (faces R) ≡ true → has k (corners_of R c) ≡ true → Q (corner_vertex R k) ≡ Q (corner_vertex R c)
  walk_vertices c k e m = elim (listed_face R L c e) [
    | from_dart h s ↦
        let met = rw (corners_of_dart R L c (omega arith)) at m in
        let low : k < darts = corners_low R L (2 * c) k (omega arith) met in
        let face = has_corners R L (2 * c) k (omega arith) low met in
        let here : on R (2 * c) ≡ true = rw (place_dart c (omega arith)) at (listed_on R L c e) in
        let there : on R (2 * k) ≡ true = same_face (on R) (whole R L) (2 * c) (2 * k) (omega arith) (omega arith) face ∙ here in
        sym (at_dart k low there)
        ∙ same_face (places_in R Q) (places_in_part L K) (2 * c) (2 * k) (omega arith) (omega arith) face
        ∙ at_dart c h here
    | from_lone v h a q ↦ elim (has_cons k c _ (rw (corners_of_lone R L c (omega arith)) at m)) [
      | here p ↦ rw p
      | later p ↦ absurd (has_empty k p)
    ]
  ]

-- V-E+F is at most 2, even if the part is orientable, and at most 1 if not; here with F the number of faces
pub record EulerLaws (R : Rotation) (Q : ℕ → Bool) (F : ℕ) : Type 0 where
  pub bound : vertices_in R Q + F ≤ edges_in R Q + 2
  pub even : Orientable R Q → (vertices_in R Q + edges_in R Q + F) % 2 ≡ 0
  pub less : ¬ Orientable R Q → vertices_in R Q + F ≤ edges_in R Q + 1
