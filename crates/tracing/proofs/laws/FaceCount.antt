-- The listed walks are the faces: each corner that is there lies on the face of exactly one of them.
-- So the face count is the number of classes of places under tracing and mirroring, in the whole and in each part.
--     place_of, place_dart, place_lone    the place at which a corner has type 0
--     faces_in, faces_part               the listed walks in a part of the places, and that they are its faces
--     face_count_lem                     F is the number of faces
--     listed_on                          the place of a listed face is there
--     faces_low                          there are no more faces than places
--     named, NamesWalk                   which numbers name a listed walk in a part
use Prim.Native.Nat.{ℕ, ◌+◌, ◌-◌, ◌*◌, ◌/◌, ◌<◌, ◌≤◌}
use native.Mathlib.Omega.{arith}
use Rattle.std.proofs.Math.Decide.{dec_lt}
use Rattle.std.specs.Prelude.{◌≡◌, refl, true, ◌&&◌, cond, List, [], ◌∷◌, map, ltb, length}
use Rattle.std.proofs.Math.Path.{sym, ap, ap₂}
use Rattle.std.proofs.Common.{◌∙◌, lt-ltb, le-ltb}
use Rattle.std.proofs.Math.Bool.{Bool}
use Rattle.table.specs.Layout.{vertices, darts, lone_at}
use Rattle.table.specs.Rotation.{Rotation, Lawful}
use Rattle.orbits.proofs.laws.Truth.{both, both_left, both_right}
use Rattle.orbits.specs.Count.{count, Partner}
use Rattle.orbits.proofs.laws.Count.{count_same, count_sum, count_le}
use Rattle.orbits.proofs.laws.Reach.{reach_here}
use Rattle.orbits.proofs.laws.Classes.{reps_count, classes_le}
use Rattle.orbits.specs.Faces.{Face, along, mirrored, faced, face_classes}
use Rattle.orbits.proofs.laws.Faces.{face_flip, face_trans, face_partition, face_keeps}
use Rattle.tracing.specs.Step.{steps, corner}
use Rattle.tracing.proofs.laws.Step.{type?, is_zero, is_one, corner_live}
use Rattle.tracing.proofs.laws.Place.{places, trace, flip, on, place, is_step_lem, is_still, flip_still, on_step, on_still}
use Rattle.tracing.specs.Listing.{has, starts, alones, lone_corner, faces, face_count}
use Rattle.tracing.proofs.laws.Listing.{has_here}
use Rattle.tracing.proofs.laws.Has.{has_parts, left, right, has_tail, has_mapped, count_in_append, count_in_map}
use Rattle.tracing.specs.Met.{count_in}
use Rattle.tracing.proofs.laws.Mirrored.{Part, whole, mirrored as tracing-mirror}
use Rattle.tracing.proofs.laws.Starts.{start?, start_live, has_start, starts_count, alones_count, lone_there}
use Rattle.tracing.proofs.laws.Cover.{covered, starts_one, lone_apart, lones_apart, corner_face}

-- the place at which a corner has type 0: (d, 0), or an isolated vertex's first place
unfoldable pub place_of : ℕ → ℕ
place_of c = cond (ltb c lone_at) (2 * c) (steps + 2 * (c - lone_at))

pub place_dart : (d : ℕ) → d < lone_at → place_of d ≡ 2 * d
unfolding place_of
place_dart d h = rw (lt-ltb d lone_at h)

pub place_lone : (v : ℕ) → place_of (lone_corner v) ≡ 2 * (darts + v)
unfolding place_of
place_lone v = rw (le-ltb (lone_corner v) lone_at (omega arith)) (omega arith)

-- how many of the listed walks lie in a part of the places
unfoldable pub faces_in : Rotation → (ℕ → Bool) → ℕ
faces_in R P = count_in (λ c. P (place_of c)) (faces R)

-- which of a corner's numbers name a listed walk: dart d for a start, 2048+v for an isolated vertex
unfoldable named : Rotation → (ℕ → Bool) → ℕ → Bool
named R P j = cond (ltb j darts) (start? R j) (R.alone (j - darts)) && P (2 * j)

module _ (R : Rotation) where
  named_dart : (P : ℕ → Bool) (d : ℕ) → d < darts → named R P d ≡ (start? R d && P (2 * d))
  unfolding named
  named_dart P d h = rw (lt-ltb d darts h)

  named_lone : (P : ℕ → Bool) (v : ℕ) → named R P (darts + v) ≡ (R.alone v && P (2 * (darts + v)))
  unfolding named
  named_lone P v =
      let less : darts + v - darts ≡ v = omega arith in
      rw (le-ltb (darts + v) darts (omega arith), less)

  faces_in_named : (P : ℕ → Bool) → faces_in R P ≡ count (named R P) (darts + vertices)
  unfolding faces_in faces
  faces_in_named P =
      let q : ℕ → Bool = λ c. P (place_of c) in
      count_in_append q (starts R darts) (map lone_corner (alones R vertices))
      ∙ ap (λ k. count_in q (starts R darts) + k) (count_in_map q lone_corner (alones R vertices) ∙ alones_count R (λ v. q (lone_corner v)) vertices)
      ∙ ap (λ k. k + count (λ v. R.alone v && q (lone_corner v)) vertices) (starts_count R q darts)
      ∙ ap₂ ◌+◌
      (count_same (λ d. start? R d && q d) (named R P) darts
      (λ d h. sym (named_dart P d h ∙ ap (λ s. start? R d && P s) (sym (place_dart d (omega arith))))))
      (count_same (λ v. R.alone v && q (lone_corner v)) (λ v. named R P (darts + v)) vertices
      (λ v h. sym (named_lone P v ∙ ap (λ s. R.alone v && P s) (sym (place_lone v)))))
      ∙ sym (count_sum (named R P) darts vertices)

-- a number that names a listed walk in P
data NamesWalk (R : Rotation) (P : ℕ → Bool) (j : ℕ) : Type 0 where
  dart_named : j < darts → start? R j ≡ true → P (2 * j) ≡ true → NamesWalk R P j
  lone_named : darts ≤ j → R.alone (j - darts) ≡ true → P (2 * j) ≡ true → NamesWalk R P j

named_means : (R : Rotation) (P : ℕ → Bool) (j : ℕ) → named R P j ≡ true → NamesWalk R P j
named_means R P j e = elim (dec_lt j darts) [
  | yes h ↦
      let t = sym (named_dart R P j h) ∙ e in
      dart_named h (both_left (start? R j) (P (2 * j)) t) (both_right (start? R j) (P (2 * j)) t)
  | no h ↦
      let sum : darts + (j - darts) ≡ j = omega arith in
      let t = sym (named_lone R P (j - darts)) ∙ ap (named R P) sum ∙ e in
      let in-P : P (2 * (darts + (j - darts))) ≡ true = both_right (R.alone (j - darts)) (P (2 * (darts + (j - darts)))) t in
      lone_named (omega arith) (both_left (R.alone (j - darts)) (P (2 * (darts + (j - darts)))) t) (rw sum at in-P)
]

-- all members pass
all_pass : (q : ℕ → Bool) (l : List ℕ) → ((c : ℕ) → has c l ≡ true → q c ≡ true) → count_in q l ≡ length l
unfolding count_in
all_pass q [] h = refl
all_pass q (x ∷ l) h = rw (h x (has_here x l), all_pass q l (λ c e. h c (has_tail c x l e)))

module _ (R : Rotation) (L : Lawful R) where
  named_apart : (P : ℕ → Bool) → Part R P → (i j : ℕ) → i < (darts + vertices) → j < (darts + vertices)
      → NamesWalk R P i → NamesWalk R P j → Face (trace R) (flip R) (2 * i) (2 * j) → i ≡ j
  named_apart P K i j h l (dart_named a s p) (dart_named b t q) f = starts_one R L i j a b s t f
  named_apart P K i j h l (dart_named a s p) (lone_named b t q) f = absurd (lone_apart R L i j a b f)
  named_apart P K i j h l (lone_named a s p) (dart_named b t q) f =
      absurd (lone_apart R L j i b a (face_flip (tracing-mirror R L P K) (omega arith) (omega arith) f))
  named_apart P K i j h l (lone_named a s p) (lone_named b t q) f = lones_apart R L i j a b f

  named_hit : (P : ℕ → Bool) → Part R P → (i : ℕ) → i < places → P i ≡ true → Partner (λ i j. Face (trace R) (flip R) i (2 * j)) (named R P) (darts + vertices) i
  named_hit P K i h p = elim (place i) [
    | is_step_lem l ↦
        let E = tracing-mirror R L P K in
        let live : R.live (corner R i) ≡ true = corner_live R L i ∙ sym (on_step R i l) ∙ K.within i h p in
        let low = L.dart_low (corner R i) live in
        let c = covered R L (corner R i) live in
        let start_low = c.low in
        let f : Face (trace R) (flip R) i (2 * c.at) =
        face_trans E (omega arith) (omega arith) (corner_face R L i l) (face_flip E (omega arith) (omega arith) c.face) in
        let inside : P (2 * c.at) ≡ true = (face_keeps E).keep i (2 * c.at) h (omega arith) f p in
        record { to = c.at; low = omega arith; pass = named_dart R P c.at c.low ∙ both c.start inside; pair = f }
    | is_still l ↦
        let E = tracing-mirror R L P K in
        let j = darts + (i - steps) / 2 in
        let alone : R.alone ((i - steps) / 2) ≡ true = sym (on_still R i l) ∙ K.within i h p in
        let f : Face (trace R) (flip R) i (2 * j) = still_face i l in
        let inside : P (2 * j) ≡ true = (face_keeps E).keep i (2 * j) h (omega arith) f p in
        record { to = j; low = omega arith; pass = named_lone R P ((i - steps) / 2) ∙ both alone inside; pair = f }
  ]
    where
      still_face : (i : ℕ) → steps ≤ i → Face (trace R) (flip R) i (2 * (darts + (i - steps) / 2))
      still_face i l = elim (type? i) [
        | is_zero e ↦
            let same : 2 * (darts + (i - steps) / 2) ≡ i = omega arith in
            rw same (along reach_here)
        | is_one e ↦
            let turn : flip R (2 * (darts + (i - steps) / 2)) ≡ i = flip_still R (2 * (darts + (i - steps) / 2)) (omega arith) ∙ omega arith in
            mirrored (rw turn reach_here)
      ]

  -- the listed walks in a part are its faces
  pub faces_part : (P : ℕ → Bool) → Part R P → faces_in R P ≡ face_classes (trace R) (flip R) places P
  unfolding face_classes
  faces_part P K =
      let E = tracing-mirror R L P K in
      faces_in_named R P
      ∙ reps_count (face_partition E) (face_keeps E) (record {
        low = λ j h t. omega arith;
        on = λ j h t. elim (named_means R P j t) [ dart_named a s p ↦ p | lone_named a s p ↦ p ];
        hit = λ i h p. named_hit P K i h p;
        one = λ i j h l s t f. named_apart P K i j h l (named_means R P i s) (named_means R P j t) f;
      })

  -- the place of a listed face is there
  pub listed_on : (c : ℕ) → has c (faces R) ≡ true → on R (place_of c) ≡ true
  unfolding faces
  listed_on c e = elim (has_parts c (starts R darts) (map lone_corner (alones R vertices)) e) [
    | left h ↦
        let b = has_start R darts c h in
        let low = b.low in
        let half : 2 * c / 2 ≡ c = omega arith in
        rw (place_dart c (omega arith), on_step R (2 * c) (omega arith), half) (start_live R c b.start)
    | right h ↦
        let i = has_mapped lone_corner (alones R vertices) c h in
        let half : (2 * (darts + i.at) - steps) / 2 ≡ i.at = omega arith in
        rw (← i.gives, place_lone i.at, on_still R (2 * (darts + i.at)) (omega arith), half) (lone_there R vertices i.at i.among)
  ]

  -- the face count is the number of faces
  pub face_count_lem : face_count R ≡ face_classes (trace R) (flip R) places (on R)
  unfolding face_count faces_in
  face_count_lem = sym (all_pass (λ c. on R (place_of c)) (faces R) listed_on) ∙ faces_part (on R) (whole R L)

-- no more faces than places
pub faces_low : {R : Rotation} → Lawful R → face_count R ≤ places
unfolding face_classes
faces_low {R} L =
    let a = classes_le (faced (trace R) (flip R) places) places (on R) in
    let b = count_le (on R) places in
    let c = face_count_lem R L in
    omega arith
