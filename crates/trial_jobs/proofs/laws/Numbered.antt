-- The mesh while a trial job is run: vertices 0 to v-1 and edges 0 to e-1, and no others. A vertex more is accepted.
--     Numbered, numbered_empty                the mesh has these vertices and edges; the empty mesh has none
--     numbered_vertex, numbered_dart, free    its vertices are live; its darts are below 2e; the next edge is free
--     vertex_passes, vertex_numbered          a vertex more is accepted, and leaves such a mesh
--     numbered_vertices, numbered_edges       V and E
use Rattle.std.specs.Prelude.{ℕ, suc, ◌*◌, ◌<◌, ◌≤◌, ◌≡◌, false, ◌&&◌, List, ◌≢◌, eqb, Ok}
use Rattle.std.proofs.Common.{arith, ◌∙◌}
use Rattle.std.proofs.Math.Decide.{ℕ_discrete}
use Rattle.std.proofs.Math.Path.{sym, ap}
use Rattle.std.proofs.Math.Bool.{not}
use Rattle.std.proofs.Math.Dec.{ltb}
use borrow.Author.Tests.{eq-eqb, lt-ltb, ltb-true}
use Rattle.orbits.proofs.laws.Truth.{same_truth, false_unless}
use Rattle.orbits.proofs.laws.Count.{count_all, count_short}
use Rattle.table.specs.Layout.{vertices, edges, nothing, isolated, edge_word, vertex_word, edge_of, Live}
use Rattle.table.specs.Good.{Good}
use Rattle.table.specs.Empty.{empty_table}
use Rattle.table.specs.Rotation.{rotation, live?, there?}
use Rattle.table.specs.Writes.{set_vertex}
use Rattle.table.specs.laws.Check.{good_yes}
use Rattle.table.specs.laws.Empty.{empty_good, empty_edge, empty_vertex}
use Rattle.table.specs.laws.Rotation.{live_yes, yes_live, not_live, there_yes, there_word}
use Rattle.table.specs.laws.Writes.{upd_at, upd_off, vertex_vertex, edge_vertex}
use Rattle.tracing.specs.Met.{edge_count}
use Rattle.edits.specs.Verdicts.{new_vertex, verdict}
use Rattle.edits.specs.Edits.{edited}
use Rattle.edits.proofs.laws.Edits.{edited_passes}
use Rattle.edits.proofs.laws.WrittenGood.{written_good}
use Rattle.edits.specs.declared.edit.Edit.TheVariants.{AddVertex}
use Rattle.surface.specs.Counts.{vertex_count}

pub record Numbered (t : List ℕ) (v e : ℕ) : Type 0 where
  pub good : Good t
  pub there : (u : ℕ) → there? t u ≡ ltb u v
  pub live : (d : ℕ) → live? t d ≡ ltb d (2 * e)

-- a number that is not n itself is below n exactly if it is below n + 1
below_next : (i n : ℕ) → i ≢ n → ltb i n ≡ ltb i (suc n)
below_next i n q = same_truth (ltb i n) (ltb i (suc n))
    (λ e. let l = ltb-true i n e in lt-ltb i (suc n) (omega arith))
    (λ e. let l = ltb-true i (suc n) e in lt-ltb i n (omega arith))

none_below : (i : ℕ) → ltb i 0 ≡ false
none_below i = false_unless (ltb i 0) (λ e. let l = ltb-true i 0 e in omega arith)

-- a table is told by what its words say
module _ {t : List ℕ} {v e : ℕ} (s : Numbered t v e) where
  pub numbered_vertex : (u : ℕ) → u < v → (u < vertices) × (vertex_word t u ≢ nothing)
  numbered_vertex u h = there_word t u (s.there u ∙ lt-ltb u v h)

  pub numbered_dart : (d : ℕ) → Live t d → d < 2 * e
  numbered_dart d l = ltb-true d (2 * e) (sym (s.live d) ∙ yes_live t d l)

  absent : (u : ℕ) → u < vertices → v ≤ u → vertex_word t u ≡ nothing
  absent u h l = elim (ℕ_discrete (vertex_word t u) nothing) [
    | yes q ↦ q
    | no n ↦ absurd (let b = ltb-true u v (sym (s.there u) ∙ there_yes t u h n) in omega arith)
  ]

  pub free : (i : ℕ) → i < edges → e ≤ i → edge_word t i ≡ 0
  free i h l = elim (ℕ_discrete (edge_word t i) 0) [
    | yes q ↦ q
    | no n ↦
        let half : edge_of (2 * i) ≡ i = omega arith in
        absurd (let b = numbered_dart (2 * i) (record { low = omega arith; on = rw half n }) in omega arith)
  ]

  -- a vertex more
  module _ (h : v < vertices) where
    pub vertex_passes : verdict t (AddVertex v) ≡ Ok tt
    unfolding new_vertex
    vertex_passes = rw (← good_yes t s.good, lt-ltb v vertices h, eq-eqb (vertex_word t v) nothing (absent v h (omega arith)))

    abbrev more : List ℕ
    more = set_vertex t v isolated

    word_at : (u : ℕ) → u ≡ v → vertex_word more u ≡ isolated
    word_at u q = rw q (vertex_vertex t s.good.size v isolated v h ∙ upd_at (vertex_word t) v isolated)

    word_off : (u : ℕ) → u ≢ v → vertex_word more u ≡ vertex_word t u
    word_off u n = vertex_vertex t s.good.size v isolated u h ∙ upd_off (vertex_word t) v isolated u n

    there_more : (u : ℕ) → there? more u ≡ ltb u (suc v)
    unfolding there?
    there_more u = elim (ℕ_discrete u v) [
      | yes q ↦
          there_yes more u (omega arith) (λ z. let y : isolated ≡ nothing = sym (word_at u q) ∙ z in omega arith) ∙ sym (lt-ltb u (suc v) (omega arith))
      | no n ↦ ap (λ w. ltb u vertices && not (eqb w nothing)) (word_off u n) ∙ s.there u ∙ below_next u v n
    ]

    live_more : (d : ℕ) → live? more d ≡ live? t d
    live_more d = same_truth (live? more d) (live? t d)
        (λ l. let m = live_yes more d l in let low = m.low in yes_live t d (record { low = low; on = rw (edge_vertex t v isolated (edge_of d) (omega arith)) at m.on }))
        (λ l. let m = live_yes t d l in let low = m.low in yes_live more d (record { low = low; on = rw (edge_vertex t v isolated (edge_of d) (omega arith)) m.on }))

    pub vertex_numbered : Numbered (edited t (AddVertex v)) (suc v) e
    vertex_numbered = rw (edited_passes t (AddVertex v) vertex_passes) (record {
      good = written_good t (AddVertex v) vertex_passes;
      there = there_more;
      live = λ d. live_more d ∙ s.live d;
    })

  -- how many there are
  pub numbered_vertices : v ≤ vertices → vertex_count (rotation t) ≡ v
  unfolding vertex_count
  numbered_vertices h =
      count_short (there? t) v vertices h (λ i l k. s.there i ∙ false_unless (ltb i v) (λ z. let b = ltb-true i v z in omega arith))
      ∙ count_all (there? t) v (λ i l. s.there i ∙ lt-ltb i v l)

  pub numbered_edges : e ≤ edges → edge_count (rotation t) ≡ e
  unfolding edge_count
  numbered_edges h =
      count_short (λ i. live? t (2 * i)) e edges h (λ i l k. s.live (2 * i) ∙ false_unless (ltb (2 * i) (2 * e)) (λ z. let b = ltb-true (2 * i) (2 * e) z in omega arith))
      ∙ count_all (λ i. live? t (2 * i)) e (λ i l. s.live (2 * i) ∙ lt-ltb (2 * i) (2 * e) (omega arith))

pub numbered_empty : Numbered empty_table 0 0
numbered_empty = record {
  good = empty_good;
  there = λ u. false_unless (there? empty_table u) (λ y. let m = there_word empty_table u y in m.1 (empty_vertex u m.0)) ∙ sym (none_below u);
  live = λ d. not_live empty_table d (λ l. let low = l.low in l.on (empty_edge (edge_of d) (omega arith))) ∙ sym (none_below d);
}
