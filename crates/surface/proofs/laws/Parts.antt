-- The parts of a mesh, upward by their smallest vertices; V, E and F of the mesh are the sums of those of its parts, document 01, "Counts".
--     root_there, root_label, label_root                       a part is named by a live vertex that is its own label
--     additive                                                 any count that adds up over exclusive parts is the sum over the parts
--     vertices_sum, edges_sum, faces_sum                       V, E and F
--     empty_parts, empty_vertices, empty_edges, empty_faces    "The empty mesh has no parts", and no vertex, edge or walk
use Prim.Native.Nat.{ℕ, zero, suc, ◌+◌, ◌*◌, ◌/◌, ◌<◌}
use Rattle.std.proofs.Common.{arith, ◌∙◌}
use Rattle.std.proofs.Math.Decide.{ℕ_discrete, dec_lt}
use Rattle.std.specs.Prelude.{◌≡◌, Bool, true, false, ◌&&◌, ◌||◌, []}
use Rattle.std.proofs.Math.Path.{refl, sym, ap, fun_ext}
use Rattle.std.proofs.Math.Bool.{and-or_distrib_left, true-or, or-true}
use Rattle.std.proofs.Math.Dec.{eqb, ltb}
use borrow.Author.Tests.{eq-eqb, ne_eqb, eqb-true, lt-ltb, le-ltb, ltb-true}
use Rattle.table.specs.Layout.{vertices, edges}
use Rattle.table.specs.Rotation.{Rotation, Lawful}
use Rattle.orbits.proofs.laws.Truth.{Truth, truth, holds, fails, clash, both, both_left, both_right, false_unless}
use Rattle.orbits.specs.Count.{count}
use Rattle.orbits.proofs.laws.Count.{count_same, count_split}
use Rattle.orbits.specs.Faces.{face_classes}
use Rattle.orbits.proofs.laws.Faces.{faces_live, faces_split}
use Rattle.tracing.proofs.laws.Place.{places, trace, flip, on, place, is_step_lem, is_still, on_step, on_still}
use Rattle.tracing.specs.Listing.{face_count, only}
use Rattle.tracing.proofs.laws.FaceCount.{face_count_lem}
use Rattle.surface.specs.Chain.{Chain}
use Rattle.surface.proofs.laws.Chain.{chain_ind, chain_sym}
use Rattle.surface.specs.Labels.{label, in_part}
use Rattle.surface.proofs.laws.Labels.{label_joined, label_smallest, same_label, in_part_kept}
use Rattle.surgery.proofs.laws.PlacesIn.{place_vertex, vertex_step, vertex_still, places_in}
use Rattle.surface.specs.Counts.{vertex_count, vertices_in, edges_in, walks_in}
use Rattle.surface.proofs.laws.Counts.{walks_faces}
use Rattle.surface.specs.Parts.{root?, parts_below, parts}
use Rattle.tracing.specs.Met.{total, edge_count}
use Rattle.tracing.proofs.laws.Totals.{total_append}

total_only : (f : ℕ → ℕ) (b : Bool) (x : ℕ) → (b ≡ false → f x ≡ 0) → total f (only b x) ≡ f x
unfolding total
total_only f true x z = omega arith
total_only f false x z = sym (z refl)

pub root_there : (R : Rotation) (r : ℕ) → root? R r ≡ true → R.there r ≡ true
unfolding root?
root_there R r t = both_left (R.there r) (eqb (label R r) r) t

pub root_label : (R : Rotation) (r : ℕ) → root? R r ≡ true → label R r ≡ r
unfolding root?
root_label R r t = eqb-true (label R r) r (both_right (R.there r) (eqb (label R r) r) t)

less_more : (k n : ℕ) → ltb k (suc n) ≡ (ltb k n || eqb k n)
less_more k n = elim (dec_lt k n) [
  | yes l ↦ rw (lt-ltb k n l, lt-ltb k (suc n) (omega arith)) (sym (true-or (eqb k n)))
  | no m ↦ elim (ℕ_discrete k n) [
    | yes e ↦ rw (eq-eqb k n e, lt-ltb k (suc n) (omega arith)) (sym (or-true (ltb k n)))
    | no d ↦ rw (ne_eqb k n d, le-ltb k n (omega arith), le-ltb k (suc n) (omega arith))
  ]
]

-- a vertex joined with a live one is live
there_joined : {R : Rotation} → Lawful R → {u v : ℕ} → Chain R u v → R.there u ≡ true → R.there v ≡ true
there_joined {R} L {u} {v} c t = chain_ind R u (λ w. R.there w ≡ true) t (λ d l k s. L.from_there _ (L.live_rev d ∙ l)) v c

module _ {R : Rotation} (L : Lawful R) where
  label_label : (w : ℕ) → label R (label R w) ≡ label R w
  label_label w = (same_label L (label R w) w).1 (label_joined L w)

  -- the label of a live vertex is a root
  pub label_root : (w : ℕ) → R.there w ≡ true → root? R (label R w) ≡ true
  unfolding root?
  label_root w t = both (there_joined L (chain_sym L (label_joined L w)) t) (eq-eqb _ _ (label_label w))

  -- G counts the numbers below N that pass a test, and adds up over two exclusive tests
  module _ (G : (ℕ → Bool) → ℕ) (N : ℕ) (same : (p q : ℕ → Bool) → ((i : ℕ) → i < N → p i ≡ q i) → G p ≡ G q)
      (split : (p q r : ℕ → Bool) → ((i : ℕ) → i < N → p i ≡ (q i || r i)) → ((i : ℕ) → i < N → q i ≡ true → r i ≡ true → ⊥) → G p ≡ G q + G r) where
    none : (p : ℕ → Bool) → ((i : ℕ) → i < N → p i ≡ false) → G p ≡ 0
    none p out =
        let twice = split p p p (λ i h. rw (out i h)) (λ i h s t. clash s (out i h)) in
        omega arith

    module _ (b : ℕ → Bool) (x : ℕ → ℕ) (on-live : (i : ℕ) → i < N → b i ≡ true → R.there (x i) ≡ true) where
      root_only : (n : ℕ) → root? R n ≡ false → G (λ i. b i && in_part R n (x i)) ≡ 0
      unfolding in_part
      root_only n f = none _ (λ i h. false_unless _ (λ t.
          let r = label_root (x i) (on-live i h (both_left (b i) _ t)) in
          let e : label R (x i) ≡ n = eqb-true (label R (x i)) n (both_right (b i) _ t) in
          clash (rw e at r) f))

      below : (n : ℕ) → G (λ i. b i && ltb (label R (x i)) n) ≡ total (λ r. G (λ i. b i && in_part R r (x i))) (parts_below R n)
      unfolding parts_below total in_part
      below zero = none _ (λ i h. false_unless _ (λ t. let z = ltb-true (label R (x i)) 0 (both_right (b i) (ltb (label R (x i)) 0) t) in omega arith))
      below (suc n) =
          split (λ i. b i && ltb (label R (x i)) (suc n)) (λ i. b i && ltb (label R (x i)) n) (λ i. b i && eqb (label R (x i)) n)
          (λ i h. rw (less_more (label R (x i)) n) (and-or_distrib_left (b i) _ _))
          (λ i h s t.
          let l = ltb-true (label R (x i)) n (both_right (b i) _ s) in
          let e = eqb-true (label R (x i)) n (both_right (b i) _ t) in
          omega arith)
          ∙ rw (
            below n,
            total_append (λ r. G (λ i. b i && in_part R r (x i))) (parts_below R n) (only (root? R n) n),
            total_only (λ r. G (λ i. b i && in_part R r (x i))) (root? R n) n (root_only n),
          )

      pub additive : G b ≡ total (λ r. G (λ i. b i && in_part R r (x i))) (parts R)
      unfolding parts
      additive = same b (λ i. b i && ltb (label R (x i)) vertices) (λ i h. all i h (truth (b i))) ∙ below vertices
        where
          all : (i : ℕ) → i < N → Truth (b i) → b i ≡ (b i && ltb (label R (x i)) vertices)
          all i h (fails f) = rw f
          all i h (holds t) =
              let v = L.there_low (x i) (on-live i h t) in
              let l = label_smallest L (x i) (x i) Chain.here in
              rw (t, lt-ltb (label R (x i)) vertices (omega arith))

  -- V, E and F are the sums over the parts

  pub vertices_sum : vertex_count R ≡ total (λ r. vertices_in R (in_part R r)) (parts R)
  unfolding vertex_count vertices_in
  vertices_sum = additive (λ p. count p vertices) vertices (λ p q. count_same p q vertices) (λ p q r. count_split p q r vertices) R.there (λ v. v) (λ v h t. t)

  pub edges_sum : edge_count R ≡ total (λ r. edges_in R (in_part R r)) (parts R)
  unfolding edge_count edges_in
  edges_sum =
      additive (λ p. count p edges) edges (λ p q. count_same p q edges) (λ p q r. count_split p q r edges) (λ e. R.live (2 * e)) (λ e. R.from (2 * e))
      (λ e h l. L.from_there (2 * e) l)

  on_there : (s : ℕ) → s < places → on R s ≡ true → R.there (place_vertex R s) ≡ true
  on_there s h o = elim (place s) [
    | is_step_lem l ↦ rw (vertex_step R s l) (L.from_there (s / 2) (rw (on_step R s l) at o))
    | is_still l ↦ rw (vertex_still R s l) (L.alone_there _ (rw (on_still R s l) at o))
  ]

  pub faces_sum : face_count R ≡ total (λ r. walks_in R (in_part R r)) (parts R)
  unfolding places_in
  faces_sum =
      face_count_lem R L
      ∙ additive (λ p. face_classes (trace R) (flip R) places p) places (λ p q. faces_live (trace R) (flip R) places p q)
      (λ p q r. faces_split (trace R) (flip R) places p q r) (on R) (place_vertex R) on_there
      ∙ ap (λ f. total f (parts R)) (fun_ext (λ r. sym (walks_faces L (in_part_kept L r))))

-- "The empty mesh has no parts and Euler number 0": no live vertex, then nothing
module _ {R : Rotation} (L : Lawful R) (empty : (v : ℕ) → R.there v ≡ false) where
  empty_below : (n : ℕ) → parts_below R n ≡ []
  unfolding parts_below root?
  empty_below zero = refl
  empty_below (suc n) = rw (empty_below n, empty n)

  pub empty_parts : parts R ≡ []
  unfolding parts
  empty_parts = empty_below vertices

  pub empty_vertices : vertex_count R ≡ 0
  unfolding total
  empty_vertices = vertices_sum L ∙ rw empty_parts

  pub empty_edges : edge_count R ≡ 0
  unfolding total
  empty_edges = edges_sum L ∙ rw empty_parts

  pub empty_faces : face_count R ≡ 0
  unfolding total
  empty_faces = faces_sum L ∙ rw empty_parts
