-- The loops that count by label: over the vertices (V, and the empty walks of F), over the edges (E, and the twisted edges), and over the darts
-- (the walks of F that have steps). Each is one record, with a lemma for each way through a turn; at the end the words are V, E, F.
--     bump                                                              one more at a label
--     Vertexing, vertexing_none                                         the loop over the vertices
--     vertex_none, vertex_joined, vertex_alone, vertex_low, lone_low    its turns: not live, joined, isolated; the words stay small
--     Edging, edging_none                                               the loop over the edges
--     edge_none, edge_plain, edge_twisted, EdgeWords, edge_near         its turns: not live, plain, twisted; the words of the edge
--     Dartwise, dartwise_none                                           the loop over the darts
--     walk_none, walk_more, walk_key, walk_low, start_low               its turns: no walk starts, or one does
--     PartTally, tallied                                                the words of a part at the end: V, E, F, orientable
--     Tallies                                                           a good table with its labels, and four arrays of zeros
--     tallies_keyed, tallies_vertexing, tallies_edging                  the loops can begin on these
use Rattle.std.specs.Prelude.{ℕ, ◌+◌, ◌*◌, ◌/◌, ◌%◌, ◌<◌, ◌≤◌, ◌≡◌, Bool, true, false, ◌&&◌, refl, Option, Some, List, map, ◌≢◌, length, get_or, set, replicate}
use native.Mathlib.Omega.{arith}
use Rattle.std.proofs.Common.{sym, ◌∙◌, ap₂, length-append, eq-eqb, ne_eqb}
use Rattle.std.proofs.Math.Path.{ap}
use Rattle.std.proofs.Math.Bool.{not, and_comm}
use Rattle.std.proofs.Math.Dec.{eqb}
use Rattle.table.specs.Layout.{vertices, edges, darts, leaves, edge_word, vertex_word, nothing, isolated}
use Rattle.table.specs.Good.{Good}
use Rattle.table.specs.Rotation.{rotation, there?, alone?, live?, turns_of}
use Rattle.table.specs.laws.Rotation.{there_yes, there_word, alone_yes, alone_word, live_yes}
use Rattle.table.specs.laws.Lawful.{good_lawful}
use Rattle.orbits.proofs.laws.Truth.{Truth, truth, holds, fails, clash, both, both_right, false_unless}
use Rattle.orbits.specs.Count.{count}
use Rattle.orbits.proofs.laws.Count.{count_same, count_le}
use Rattle.tracing.specs.Listing.{only, starts, alones, lone_corner, faces}
use Rattle.tracing.proofs.laws.Listing.{starts_suc}
use Rattle.tracing.proofs.laws.Has.{count_in_append, count_in_map}
use Rattle.tracing.proofs.laws.Starts.{start?, start_live, starts_more, starts_count, alones_count}
use Rattle.tracing_walks.specs.laws.Size.{Looked, no_walk, one_walk, looked_marks, looked_one, unmet, Seen, seen_none, seen_more, unmet_fresh}
use Rattle.tracing_walks.specs.laws.Marks.{unmarked}
use Rattle.surface.specs.Labels.{label, in_part, agrees, untwisted, twisted, orientable}
use Rattle.surface.proofs.laws.Labels.{label_is, orientable_is}
use Rattle.surface.specs.Counts.{corner_vertex, vertices_in, edges_in, walks_in}
use Rattle.surface.proofs.laws.Counts.{vertex_dart, vertex_lone}
use Rattle.surface_parts.specs.laws.Forest.{Shape}
use Rattle.surface_parts.specs.laws.Linking.{Labelled, Taking, first_low, second_low, edge_on}
use Rattle.surface_counts.specs.laws.Tally.{tally_none, tally_begin, tally_more, tally_skip, tally_low, Keyed, labelled_keyed, VertexTally, EdgeTally, TwistTally}
use Rattle.surface_counts.specs.laws.Tally.{WalkTally, starts_in, LoneTally, twist_sum}

-- one more at k
abbrev pub bump : List ℕ → ℕ → List ℕ
bump out k = set out k (get_or out k 0 + 1)

-- the vertices below n are counted, and the isolated ones among them as walks
pub record Vertexing (t up : List ℕ) (n : ℕ) (vs fs : List ℕ) : Type 0 where
  pub keyed : Keyed t up
  pub vertex : VertexTally t n vs
  pub lone : LoneTally t n fs

module _ {t up : List ℕ} {n : ℕ} {vs fs : List ℕ} (K : Vertexing t up n vs fs) (h : n < vertices) where
  pub vertex_low : get_or vs (get_or up n 0) 0 ≤ vertices
  vertex_low = let l = tally_low K.vertex (get_or up n 0) (K.keyed.low n h) in omega arith

  pub lone_low : get_or fs (get_or up n 0) 0 ≤ darts + vertices
  lone_low =
      let l = tally_low K.lone (get_or up n 0) (K.keyed.low n h) in
      let s = count_le (λ d. start? (rotation t) d && eqb (label (rotation t) (leaves t d)) (get_or up n 0)) darts in
      omega arith

  pub vertex_none : vertex_word t n ≡ nothing → Vertexing t up (n + 1) vs fs
  vertex_none e = record {
    keyed = K.keyed;
    vertex = tally_skip K.vertex (false_unless (there? t n) (λ p. (there_word t n p).1 e));
    lone = tally_skip K.lone (false_unless (alone? t n) (λ p. let z : nothing ≡ isolated = sym e ∙ (alone_word t n p).1 in omega arith));
  }

  pub vertex_joined : vertex_word t n ≢ nothing → vertex_word t n ≢ isolated → Vertexing t up (n + 1) (bump vs (get_or up n 0)) fs
  vertex_joined e f = record {
    keyed = K.keyed;
    vertex = tally_more K.vertex (there_yes t n h e) (K.keyed.label n h) (K.keyed.low n h);
    lone = tally_skip K.lone (false_unless (alone? t n) (λ p. f (alone_word t n p).1));
  }

  pub vertex_alone : vertex_word t n ≢ nothing → vertex_word t n ≡ isolated → Vertexing t up (n + 1) (bump vs (get_or up n 0)) (bump fs (get_or up n 0))
  vertex_alone e f = record {
    keyed = K.keyed;
    vertex = tally_more K.vertex (there_yes t n h e) (K.keyed.label n h) (K.keyed.low n h);
    lone = tally_more K.lone (alone_yes t n h f) (K.keyed.label n h) (K.keyed.low n h);
  }

-- the edges below n are counted, and the twisted ones
pub record Edging (t up turn : List ℕ) (n : ℕ) (es odd : List ℕ) : Type 0 where
  pub keyed : Keyed t up
  pub shape : Shape up turn
  pub edge : EdgeTally t n es
  pub twist : TwistTally t turn n odd

module _ {t up turn : List ℕ} {n : ℕ} {es odd : List ℕ} (K : Edging t up turn n es odd) (h : n < edges) where
  taking : Taking t up turn n
  taking = record { good = K.keyed.good; shape = K.shape; low = h }

  module _ (l : edge_word t n ≢ 0) where
    -- the words that the edge leads to
    pub record EdgeWords : Type 0 where
      pub first : leaves t (2 * n) < vertices
      pub second : leaves t (2 * n + 1) < vertices
      pub key : get_or up (leaves t (2 * n)) 0 < vertices
      pub first_bit : get_or turn (leaves t (2 * n)) 0 < 2
      pub second_bit : get_or turn (leaves t (2 * n + 1)) 0 < 2
      pub edge_word_lem : get_or es (get_or up (leaves t (2 * n)) 0) 0 ≤ edges
      pub odd_word : get_or odd (get_or up (leaves t (2 * n)) 0) 0 ≤ edges

    pub edge_near : EdgeWords
    edge_near =
        let a = first_low taking l in
        let b = second_low taking l in
        let k = K.keyed.low (leaves t (2 * n)) a in
        let e = tally_low K.edge _ k in
        let o = tally_low K.twist _ k in
        record {
          first = a;
          second = b;
          key = k;
          first_bit = K.shape.bit (leaves t (2 * n)) a;
          second_bit = K.shape.bit (leaves t (2 * n + 1)) b;
          edge_word_lem = omega arith;
          odd_word = omega arith;
        }

    edge_more : EdgeTally t (n + 1) (bump es (get_or up (leaves t (2 * n)) 0))
    edge_more = tally_more K.edge (edge_on taking l) (K.keyed.label _ (first_low taking l)) edge_near.key

    pub edge_plain : twist_sum t turn n ≡ 0 → Edging t up turn (n + 1) (bump es (get_or up (leaves t (2 * n)) 0)) odd
    edge_plain z = record {
      keyed = K.keyed;
      shape = K.shape;
      edge = edge_more;
      twist = tally_skip K.twist (false_unless _ (λ p. clash (both_right (live? t (2 * n)) _ p) (ap not (eq-eqb (twist_sum t turn n) 0 z))));
    }

    pub edge_twisted : twist_sum t turn n ≢ 0 → Edging t up turn (n + 1) (bump es (get_or up (leaves t (2 * n)) 0)) (bump odd (get_or up (leaves t (2 * n)) 0))
    edge_twisted z = record {
      keyed = K.keyed;
      shape = K.shape;
      edge = edge_more;
      twist = tally_more K.twist (both (edge_on taking l) (ap not (ne_eqb (twist_sum t turn n) 0 z))) (K.keyed.label _ (first_low taking l)) edge_near.key;
    }

  pub edge_none : edge_word t n ≡ 0 → Edging t up turn (n + 1) es odd
  edge_none z =
      let half : 2 * n / 2 ≡ n = omega arith in
      let off : live? t (2 * n) ≡ false = false_unless _ (λ l. (rw half at (live_yes t (2 * n) l).on) z) in
      record {
        keyed = K.keyed;
        shape = K.shape;
        edge = tally_skip K.edge off;
        twist = tally_skip K.twist (rw off);
      }

-- the walks that start at darts below n are counted
pub record Dartwise (t up : List ℕ) (n : ℕ) (met fs : List ℕ) : Type 0 where
  pub keyed : Keyed t up
  pub seen : Seen t n met
  pub walk : WalkTally t n fs

module _ {t up : List ℕ} {n : ℕ} {met fs : List ℕ} (K : Dartwise t up n met fs) (h : n < darts) where
  walks_start : length (unmet t met n) ≡ length (only (start? (rotation t) n) n)
  walks_start =
      let R = rotation t in
      let u = ap length (unmet_fresh K.seen h) in
      let both_ways = simp length-append at (ap length (sym (starts_suc R n) ∙ starts_more R n)) in
      omega arith

  pub walk_none : {r : Option ℕ} {met' : List ℕ} → Looked t n met r met' → ((k : ℕ) → r ≢ Some k) → Dartwise t up (n + 1) met' fs
  walk_none (no_walk u) e = record {
    keyed = K.keyed;
    seen = seen_more K.seen h (looked_marks (no_walk u));
    walk = tally_skip K.walk (false_unless (start? (rotation t) n) (λ s.
        let none = ap length u in
        let one : length (unmet t met n) ≡ 1 = walks_start ∙ rw s in
        omega arith));
  }
  walk_none (one_walk st u k) e = absurd (e _ refl)

  module _ {k : ℕ} {met' : List ℕ} (v : Looked t n met (Some k) met') where
    starts_here : start? (rotation t) n ≡ true
    starts_here = elim (truth (start? (rotation t) n)) [
      | holds s ↦ s
      | fails s ↦ absurd (let one = ap length (looked_one v) in let none : length (unmet t met n) ≡ 0 = walks_start ∙ rw s in omega arith)
    ]

    pub start_low : leaves t n < vertices
    start_low = K.keyed.good.leaves_low n (live_yes t n (start_live (rotation t) n starts_here))

    pub walk_key : get_or up (leaves t n) 0 < vertices
    walk_key = K.keyed.low (leaves t n) start_low

    pub walk_low : get_or fs (get_or up (leaves t n) 0) 0 ≤ darts
    walk_low = let l = tally_low K.walk _ walk_key in omega arith

    pub walk_more : Dartwise t up (n + 1) met' (bump fs (get_or up (leaves t n) 0))
    walk_more = record {
      keyed = K.keyed;
      seen = seen_more K.seen h (looked_marks v);
      walk = tally_more K.walk starts_here (K.keyed.label (leaves t n) start_low) walk_key;
    }

-- the loops begin

pub dartwise_none : {t up : List ℕ} → Keyed t up → Dartwise t up 0 unmarked (replicate vertices 0)
dartwise_none K = record { keyed = K; seen = seen_none K.good; walk = tally_none _ _ }

pub edging_none : {t up turn : List ℕ} → Good t → Labelled t up turn → Edging t up turn 0 (replicate vertices 0) (replicate vertices 0)
edging_none g H = record { keyed = labelled_keyed g H; shape = H.shape; edge = tally_none _ _; twist = tally_none _ _ }

pub vertexing_none : {t up : List ℕ} {fs : List ℕ} → Keyed t up → WalkTally t darts fs → Vertexing t up 0 (replicate vertices 0) fs
vertexing_none K F = record { keyed = K; vertex = tally_none _ _; lone = tally_begin _ _ _ _ F.size (λ r h. F.at r h ∙ omega arith) }

-- V, E and F of each part, and whether an edge of it is twisted
pub record PartTally (t vs es fs odd : List ℕ) : Type 0 where
  pub vertices_at : (r : ℕ) → r < vertices → get_or vs r 0 ≡ vertices_in (rotation t) (in_part (rotation t) r)
  pub edges_at : (r : ℕ) → r < vertices → get_or es r 0 ≡ edges_in (rotation t) (in_part (rotation t) r)
  pub walks_at : (r : ℕ) → r < vertices → get_or fs r 0 ≡ walks_in (rotation t) (in_part (rotation t) r)
  pub orientable_at : (r : ℕ) → r < vertices → eqb (get_or odd r 0) 0 ≡ orientable (rotation t) r

-- the listed walks in a part, by their starts
walks_count : (t : List ℕ) (r : ℕ)
    → walks_in (rotation t) (in_part (rotation t) r) ≡ starts_in t r + count (λ v. alone? t v && eqb (label (rotation t) v) r) vertices
unfolding walks_in in_part faces
walks_count t r =
    let R = rotation t in
    let q : ℕ → Bool = λ c. eqb (label (rotation t) (corner_vertex (rotation t) c)) r in
    count_in_append q (starts R darts) (map lone_corner (alones R vertices))
    ∙ ap₂ ◌+◌
    (starts_count R q darts ∙ count_same _ _ darts (λ d h. ap (λ v. start? R d && eqb (label R v) r) (vertex_dart R d (omega arith))))
    (count_in_map q lone_corner (alones R vertices) ∙ alones_count R (λ v. q (lone_corner v)) vertices
    ∙ count_same _ _ vertices (λ v h. ap (λ w. alone? t v && eqb (label R w) r) (vertex_lone R v)))

-- the twisted edges of a part
module _ {t up turn : List ℕ} (g : Good t) (H : Labelled t up turn) (r : ℕ) where
  twist_in : (e : ℕ) → e < edges
      → (live? t (2 * e) && not (eqb (twist_sum t turn e) 0) && eqb (label (rotation t) (leaves t (2 * e))) r) ≡ twisted (rotation t) H.spots r e
  unfolding twisted agrees turns_of
  twist_in e h = by (truth (live? t (2 * e)))
    where
      by : Truth (live? t (2 * e)) → (live? t (2 * e) && not (eqb (twist_sum t turn e) 0) && eqb (label (rotation t) (leaves t (2 * e))) r) ≡ twisted (rotation t) H.spots r e
      by (fails f) = rw f
      by (holds l) =
          let T : Taking t up turn e = record { good = g; shape = H.shape; low = h } in
          let half : 2 * e / 2 ≡ e = omega arith in
          let word : edge_word t e ≢ 0 = rw half at (live_yes t (2 * e) l).on in
          let a = H.mark (leaves t (2 * e)) (first_low T word) in
          let b = H.mark (leaves t (2 * e + 1)) (second_low T word) in
          let sum : (edge_word t (2 * e / 2) + (H.spots (leaves t (2 * e))).mark + (H.spots (leaves t (2 * e + 1))).mark) % 2 ≡ twist_sum t turn e = rw half (omega arith) in
          let key : (H.spots (leaves t (2 * e))).label ≡ label (rotation t) (leaves t (2 * e)) = label_is (good_lawful t g) H.labelling (leaves t (2 * e)) in
          rw (l, sum, key) (and_comm (not (eqb (twist_sum t turn e) 0)) (eqb (label (rotation t) (leaves t (2 * e))) r))

  twist_orientable : {odd : List ℕ} → TwistTally t turn edges odd → r < vertices → eqb (get_or odd r 0) 0 ≡ orientable (rotation t) r
  unfolding untwisted
  twist_orientable K h =
      ap (λ k. eqb k 0) (K.at r h ∙ omega arith ∙ count_same _ _ edges twist_in)
      ∙ orientable_is (good_lawful t g) H.labelling r

pub tallied : {t up turn vs es fs odd : List ℕ} → Labelled t up turn → Vertexing t up vertices vs fs → Edging t up turn edges es odd → PartTally t vs es fs odd
unfolding vertices_in edges_in in_part
tallied {t} H K E = record {
  vertices_at = λ r h. K.vertex.at r h ∙ omega arith;
  edges_at = λ r h. E.edge.at r h ∙ omega arith;
  walks_at = λ r h. K.lone.at r h ∙ sym (walks_count t r);
  orientable_at = λ r h. twist_orientable K.keyed.good H r E.twist h;
}

-- a good table with its labels and marks, and four arrays of zeros
pub record Tallies (t up turn vs es fs odd : List ℕ) : Type 0 where
  pub good : Good t
  pub labelled : Labelled t up turn
  pub no_vertices : vs ≡ replicate vertices 0
  pub no_edges : es ≡ replicate vertices 0
  pub no_walks : fs ≡ replicate vertices 0
  pub no_twists : odd ≡ replicate vertices 0

module _ {t up turn vs es fs odd : List ℕ} (K : Tallies t up turn vs es fs odd) where
  pub tallies_keyed : Keyed t up
  tallies_keyed = labelled_keyed K.good K.labelled

  pub tallies_vertexing : {fs' : List ℕ} → WalkTally t darts fs' → Vertexing t up 0 vs fs'
  tallies_vertexing F = rw K.no_vertices (vertexing_none tallies_keyed F)

  pub tallies_edging : Edging t up turn 0 es odd
  tallies_edging = rw (K.no_edges, K.no_twists) (edging_none K.good K.labelled)
