-- A good table whose names are all in use: its check reads 15,872 words, as many as any.
--     reads_full                   the check of such a table reads 15,872 words
--     dart_four, edge_nine         4 words for a dart's tests, 9 for an edge
--     block_exact, blocks_exact    320 for a block of edges; what the blocks of vertices read
--     cycle_exact, vertex_exact    a cycle reads as many words as it has darts, a vertex two more
--     led_all                      all darts are on the cycles that the vertices lead
use Prim.Native.Nat.{ℕ, zero, suc, ◌+◌, ◌*◌, ◌≤◌, ◌<◌}
use native.Mathlib.Omega.{arith}
use Rattle.std.proofs.Common.{add-zero, sym, ◌∙◌, eq-eqb}
use Rattle.std.specs.Prelude.{◌≡◌, refl, true, List, ◌≢◌, length}
use Rattle.orbits.specs.Count.{count}
use Rattle.orbits.proofs.laws.Count.{count_all}
use Rattle.orbits.proofs.laws.Iterate.{period}
use Rattle.table.specs.Layout.{words, darts, edges, vertices, edge_word, edge_of, vertex_word}
use Rattle.table.specs.Good.{Good}
use Rattle.table.specs.Rotation.{live?}
use Rattle.table.specs.laws.Rotation.{yes_live, case_says, case_denies}
use Rattle.table.specs.laws.Counting.{counts_some}
use Rattle.table.specs.laws.Darts.{Ruled, good_ruled}
use Rattle.table.specs.laws.Cycle.{next_inj}
use Rattle.table.specs.laws.Vertices.{VertexRule, Summed, led_at, led_below, led_cycle, summed_none, summed_more, summed_all, good_counted}
use Rattle.table.specs.laws.Blocks.{vertex_blocks}
use Rattle.check_reads.specs.Reads.{reads_of, pass_all, reads_below, dart_tests, edge_tests, edge_in, edge_block, cycle_test, vertex_tests, vertex_in, vertex_block, check_reads}
use Rattle.check_reads.proofs.laws.Tests.{total, passed_total, below_exact, all_case, truth_case}
use Rattle.check_reads.proofs.laws.Lengths.{lengths_case}
use Rattle.check_reads.proofs.laws.Darts.{tests_live, dart_case, edge_case, dead_case, block_case, by_edges, blocks_case}
use Rattle.check_reads.proofs.laws.Vertices.{cycle_reads, word_leads, tests_leads, vertex_case, loose_case, block_case as vertices-case}

module _ (t : List ℕ) (g : Good t) (all_live : (e : ℕ) → e < edges → edge_word t e ≢ 0) (all-joined : (v : ℕ) → v < vertices → vertex_word t v < darts) where
  ruled : Ruled t darts
  ruled = good_ruled t g

  on : (d : ℕ) → d < darts → edge_word t (edge_of d) ≢ 0
  on d h = all_live (edge_of d) (omega arith)

  dart_four : (d : ℕ) → d < darts → reads_of (dart_tests t d) ≡ 4
  unfolding total
  dart_four d h = passed_total (dart_tests t d) (case_says (dart_case t d) (ruled d h)) ∙ rw (tests_live t d (on d h))

  edge_nine : (e : ℕ) → e < edges → reads_of (edge_tests t e) ≡ 9
  unfolding total
  edge_nine e h =
      let all = passed_total (edge_tests t e) (case_says (edge_case t e) (ruled (2 * e) (omega arith), ruled (2 * e + 1) (omega arith))) in
      let a = dart_four (2 * e) (omega arith) in
      let b = dart_four (2 * e + 1) (omega arith) in
      omega (arith, all, a, b)

  block_passes : (b : ℕ) → b < 32 → (edge_block t b).passes ≡ true
  block_passes b h = case_says (block_case t b) (by_edges t b (λ d l m. ruled d (omega arith)))

  block_exact : (b : ℕ) → b < 32 → (edge_block t b).reads ≡ 320
  unfolding edge_block reads_of pass_all
  block_exact b h =
      let used = case_denies (dead_case t b) (λ k. all_live (32 * b + 0) (omega arith) (k 0 (omega arith))) in
      let edges = below_exact (edge_in t b) 9 32
      (λ i l. case_says (edge_case t (32 * b + i)) (ruled _ (omega arith), ruled _ (omega arith))) (λ i l. edge_nine (32 * b + i) (omega arith)) in
      rw used (omega (arith, edges))

  -- a vertex reads its word, its dart's vertex, and the darts of its cycle
  rule : (v : ℕ) → v < vertices → VertexRule t v
  rule = (good_counted t g.size ruled g).0

  cycle_exact : (v : ℕ) → v < vertices → (cycle_test t (vertex_word t v)).reads ≡ count (led_at t v) darts
  cycle_exact v h =
      let low = all-joined v h in
      let a = rule v h (λ e. omega arith) (λ e. omega arith) in
      let p = period (next_inj t ruled) (vertex_word t v) low in
      cycle_reads t ruled (vertex_word t v) a.live p.steps (vertex_word t v)
      (record { some = p.some; at = p.back; live = a.live; apart = p.least; above = λ k l. a.least k }) (omega arith)
      ∙ sym (led_cycle t ruled v a p)

  vertex_exact : (v : ℕ) → v < vertices → reads_of (vertex_tests t v) ≡ 2 + count (led_at t v) darts
  unfolding total
  vertex_exact v h =
      let low = all-joined v h in
      let leads = tests_leads t v (word_leads t v (λ e. omega arith) (λ e. omega arith)) in
      let all = passed_total (vertex_tests t v) (case_says (vertex_case t ruled v h) (rule v h)) in
      let cycle = cycle_exact v h in
      all ∙ rw leads (omega (arith, cycle))

  led_more : (v : ℕ) → v < vertices → count (led_below t (v + 1)) darts ≡ count (led_below t v) darts + count (led_at t v) darts
  led_more v h =
      sym (summed_more t _ _ v (record { low = omega arith; rules = λ u l. rule u (omega arith); counted = refl }) h (rule v h) refl).counted

  vertices_exact : (b n : ℕ) → 32 * b + n ≤ vertices
      → reads_below (vertex_in t b) n + count (led_below t (32 * b)) darts ≡ 2 * n + count (led_below t (32 * b + n)) darts
  unfolding reads_below
  vertices_exact b zero h = rw (add-zero (32 * b)) (omega arith)
  vertices_exact b (suc n) h =
      let s = vertices_exact b n (omega arith) in
      let one = vertex_exact (32 * b + n) (omega arith) in
      let q : 32 * b + suc n ≡ 32 * b + n + 1 = omega arith in
      let more = led_more (32 * b + n) (omega arith) in
      let all = case_says (all_case {P = λ i. VertexRule t (32 * b + i)} n (λ i l. vertex_case t ruled (32 * b + i) (omega arith))) (λ i l. rule (32 * b + i) (omega arith)) in
      rw (all, q) (omega (arith, s, one, more))

  vertices_pass : (b : ℕ) → b < vertex_blocks → (vertex_block t b).passes ≡ true
  vertices_pass b h = case_says (vertices-case t ruled b h) (λ i l. rule (32 * b + i) (omega arith))

  blocks_exact : (n : ℕ) → n ≤ 16 → reads_below (vertex_block t) n + count (led_below t 0) darts ≡ 96 * n + count (led_below t (32 * n)) darts
  unfolding reads_below vertex_block
  blocks_exact zero h = omega arith
  blocks_exact (suc n) h =
      let s = blocks_exact n (omega arith) in
      let k = vertices_exact n 32 (omega arith) in
      let q : 32 * suc n ≡ 32 * n + 32 = omega arith in
      let all = case_says (all_case {P = λ b. (vertex_block t b).passes ≡ true} n (λ b l. truth_case (vertex_block t b).passes)) (λ b l. vertices_pass b (omega arith)) in
      let used = case_denies (loose_case t ruled n (omega arith)) (λ a. let low = all-joined (32 * n + 0) (omega arith) in let w = a 0 (omega arith) in omega arith) in
      rw (all, used, q) (omega (arith, s, k))

  -- all darts are led, and each is live
  led_all : count (led_below t vertices) darts ≡ darts
  led_all =
      let sum : Summed t (count (led_below t vertices) darts) vertices = record { low = omega arith; rules = rule; counted = refl } in
      (counts_some _ (summed_all t _ vertices ruled sum (omega arith)) refl).0
      ∙ (good_counted t g.size ruled g).1
      ∙ count_all (live? t) darts (λ d h. yes_live t d (record { low = h; on = on d h }))

  pub reads_full : check_reads t ≡ 15872
  unfolding check_reads reads_of
  reads_full =
      let e = below_exact (edge_block t) 320 32 block_passes block_exact in
      let v = blocks_exact 16 (omega arith) in
      let none = (summed_none t).counted in
      let all = led_all in
      rw (eq-eqb (length t) words g.size, case_says (lengths_case t) g.lengths, case_says (blocks_case t) ruled) (omega (arith, e, v, none, all))
