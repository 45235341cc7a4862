-- A mesh whose edges and vertices all have small names: what is counted and listed over every name is the same over these few,
-- and computes.
--     Few                                                         no edge from m on is live, and no vertex from n on
--     faces_few, euler_few, marks_few, lengths_few                F, Euler number, marks and steps, over the small names alone
--     faces_few_lem, euler_few_lem, marks_few_lem, lengths_few_lem, starts_few  they are those of the mesh
--     spots_few, own_labels                                       labels and marks by the first m edges; the vertices that are their own labels
--     meeting_from, sides_from, face_from, type_from              how corners meet and sides lie, a corner's face and type, from the starts
--     meeting_few, sides_few                                      they are those of the mesh
use Prim.Native.Nat.{ℕ, zero, suc, ◌*◌, ◌≤◌}
use Rattle.std.proofs.Common.{arith, sym, ◌∙◌}
use Rattle.std.proofs.Math.Decide.{ℕ_discrete}
use Rattle.std.specs.Prelude.{◌≡◌, Bool, true, false, ◌&&◌, ltb, ℤ}
use Rattle.std.proofs.Math.Path.{refl, ap, ap₂, fun_ext}
use mathlib.Core.List.{List, [], ◌++◌, map, append-nil}
use Rattle.std.proofs.Math.Dec.{eqb}
use Rattle.std.proofs.Math.ListN.{length}
use Rattle.orbits.specs.Count.{count}
use Rattle.orbits.proofs.laws.Count.{count_short}
use Rattle.table.specs.Layout.{edges, vertices, darts, lone_at}
use Rattle.table.specs.Rotation.{Rotation}
use Rattle.tracing.specs.Walk.{walk}
use Rattle.tracing.specs.Listing.{only, gather, starts, alones, lone_corner, faces, face_count}
use Rattle.tracing.specs.Corner.{face_among, face_of, type_among, type_of, meeting_by, meeting_of}
use Rattle.tracing.specs.Sides.{keep, sides_by, sides_of}
use Rattle.tracing.specs.declared.meeting.Meeting.{Meeting}
use Rattle.tracing.specs.declared.meeting.Sides.{Sides}
use Rattle.tracing.proofs.laws.Listing.{starts_suc, fresh_dead, alones_suc, lone_no}
use Rattle.surface.specs.Links.{Spot, spot, links}
use Rattle.surface.specs.Labels.{twisted, untwisted, spots, label, orientable}
use Rattle.surface.specs.Counts.{vertex_count}
use Rattle.surface.specs.Parts.{root?, parts_below, parts}
use Rattle.surface.specs.Signed.{euler_of, mesh_euler}
use Rattle.samples.specs.Samples.{walk_lengths}
use Rattle.tracing.specs.Met.{edge_count, listed_steps, live_edges, on_edge}

pub record Few (R : Rotation) (m n : ℕ) : Type 0 where
  pub edges_room : m ≤ edges
  pub vertices_room : n ≤ vertices
  pub no_dart : (d : ℕ) → 2 * m ≤ d → R.live d ≡ false
  pub no_vertex : (v : ℕ) → n ≤ v → R.there v ≡ false
  pub no_lone : (v : ℕ) → n ≤ v → R.alone v ≡ false

unfoldable pub faces_few : Rotation → ℕ → ℕ → ℕ
faces_few R m n = length (starts R (2 * m) ++ map lone_corner (alones R n))

unfoldable pub euler_few : Rotation → ℕ → ℕ → ℤ
euler_few R m n = euler_of (count R.there n) (count (λ e. R.live (2 * e)) m) (faces_few R m n)

-- labels and marks by the first m edges
unfoldable pub spots_few : Rotation → ℕ → ℕ → Spot
spots_few R m = spot (links R (live_edges R m))

-- the live vertices below n that are their own labels
unfoldable pub own_labels : (ℕ → Bool) → (ℕ → Spot) → ℕ → List ℕ
own_labels there s zero = []
own_labels there s (suc r) = own_labels there s r ++ only (there r && eqb (s r).label r) r

unfoldable pub marks_few : Rotation → ℕ → ℕ → List Bool
marks_few R m n = let s = spots_few R m in map (λ r. eqb (count (twisted R s r) m) 0) (own_labels R.there s n)

unfoldable pub lengths_few : Rotation → ℕ → List ℕ
lengths_few R m = map (λ d. length (walk R (2 * d))) (starts R (2 * m))

-- how two corners meet, and how the sides of an edge lie, the listed walks having these starts
unfoldable pub face_from : Rotation → List ℕ → ℕ → ℕ
face_from R l c = elim (ltb c lone_at) [ true ↦ face_among R c l | false ↦ c ]

unfoldable pub type_from : Rotation → List ℕ → ℕ → ℕ
type_from R l c = elim (ltb c lone_at) [ true ↦ type_among R c (walk R (2 * face_from R l c)) | false ↦ 0 ]

unfoldable pub meeting_from : Rotation → List ℕ → ℕ → ℕ → Meeting
meeting_from R l c c' = meeting_by (eqb (face_from R l c) (face_from R l c')) (eqb (type_from R l c) (type_from R l c'))

unfoldable pub sides_from : Rotation → List ℕ → ℕ → Sides
sides_from R l e = sides_by R (keep (on_edge e) (gather (λ a. walk R (2 * a)) l))

-- what does not change from n on is the same at every number from there
steady : {A : Type 0} (f : ℕ → A) (n : ℕ) → ((k : ℕ) → n ≤ k → f (suc k) ≡ f k) → (m : ℕ) → n ≤ m → f m ≡ f n
steady f n same zero h = let z : zero ≡ n = omega arith in ap f z
steady f n same (suc m) h = elim (ℕ_discrete n (suc m)) [
  | yes e ↦ ap f (sym e)
  | no e ↦ same m (omega arith) ∙ steady f n same m (omega arith)
]

nothing_more : (l : List ℕ) (b : Bool) (x : ℕ) → b ≡ false → l ++ only b x ≡ l
nothing_more l b x e = rw e (append-nil l)

module _ {R : Rotation} {m n : ℕ} (W : Few R m n) where
  pub starts_few : starts R darts ≡ starts R (2 * m)
  starts_few =
      let room = W.edges_room in
      steady (starts R) (2 * m) (λ d h. starts_suc R d ∙ rw (fresh_dead R (starts R d) d (W.no_dart d h)) (append-nil (starts R d))) darts (omega arith)

  alones_few : alones R vertices ≡ alones R n
  alones_few = steady (alones R) n (λ v h. alones_suc R v ∙ rw (lone_no R v (W.no_lone v h)) (append-nil (alones R v))) vertices W.vertices_room

  pub faces_few_lem : face_count R ≡ faces_few R m n
  unfolding face_count faces faces_few
  faces_few_lem = ap₂ (λ a b. length (a ++ map lone_corner b)) starts_few alones_few

  vertices_few : vertex_count R ≡ count R.there n
  unfolding vertex_count
  vertices_few = count_short R.there n vertices W.vertices_room (λ v h l. W.no_vertex v h)

  edges_few : edge_count R ≡ count (λ e. R.live (2 * e)) m
  unfolding edge_count
  edges_few = count_short (λ e. R.live (2 * e)) m edges W.edges_room (λ e h l. W.no_dart (2 * e) (omega arith))

  pub euler_few_lem : mesh_euler R ≡ euler_few R m n
  unfolding mesh_euler euler_few
  euler_few_lem = rw (vertices_few, edges_few, faces_few_lem)

  spots_few_lem : spots R ≡ spots_few R m
  unfolding spots spots_few live_edges
  spots_few_lem =
      ap (λ l. spot (links R l))
      (steady (live_edges R) m (λ e h. nothing_more (live_edges R e) (R.live (2 * e)) e (W.no_dart (2 * e) (omega arith))) edges W.edges_room)

  parts_own : (k : ℕ) → parts_below R k ≡ own_labels R.there (spots R) k
  unfolding parts_below own_labels root? label
  parts_own zero = refl
  parts_own (suc k) = ap (λ l. l ++ only (R.there k && eqb (spots R k).label k) k) (parts_own k)

  parts_few : parts R ≡ own_labels R.there (spots_few R m) n
  unfolding parts own_labels
  parts_few =
      parts_own vertices
      ∙ ap (λ s. own_labels R.there s vertices) spots_few_lem
      ∙ steady (own_labels R.there (spots_few R m)) n
      (λ v h. nothing_more (own_labels R.there (spots_few R m) v) (R.there v && eqb (spots_few R m v).label v) v (rw (W.no_vertex v h))) vertices W.vertices_room

  orientable_few : (r : ℕ) → orientable R r ≡ eqb (count (twisted R (spots_few R m) r) m) 0
  unfolding orientable untwisted twisted
  orientable_few r =
      ap (λ s. eqb (count (twisted R s r) edges) 0) spots_few_lem
      ∙ ap (λ k. eqb k 0) (count_short (twisted R (spots_few R m) r) m edges W.edges_room (λ e h l. rw (W.no_dart (2 * e) (omega arith))))

  pub marks_few_lem : map (orientable R) (parts R) ≡ marks_few R m n
  unfolding marks_few
  marks_few_lem = ap₂ map (fun_ext orientable_few) parts_few

  pub lengths_few_lem : walk_lengths R ≡ lengths_few R m
  unfolding lengths_few
  lengths_few_lem = ap (map (λ d. length (walk R (2 * d)))) starts_few

  pub meeting_few : (c c' : ℕ) → meeting_of R c c' ≡ meeting_from R (starts R (2 * m)) c c'
  unfolding meeting_of face_of type_of meeting_from face_from type_from
  meeting_few c c' = ap (λ l. meeting_from R l c c') starts_few

  pub sides_few : (e : ℕ) → sides_of R e ≡ sides_from R (starts R (2 * m)) e
  unfolding sides_of listed_steps sides_from
  sides_few e = ap (λ l. sides_from R l e) starts_few
