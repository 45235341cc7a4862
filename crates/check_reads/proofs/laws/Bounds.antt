-- How many words one check reads at most: 15,872, which are two for each edge, 320 for each block of edges, 96 for each block of vertices,
-- and one for each dart on a cycle.
--     reads_most                                     a check reads at most 15,872 words
--     dart_most, edge_most, idle_most, block_most    the bounds for a dart, an edge, a blank block, any block of edges
--     vertex_crude, vertex_block_crude               rough bounds for a vertex and a block of them, of any table
--     leaving_below, leaving_at                        the live darts that leave the vertices below v; that leave v
--     cycle_most, vertex_most, blocks_most           what cycles, vertices and their blocks read, by these
use Prim.Native.Nat.{ℕ, zero, suc, ◌+◌, ◌-◌, ◌*◌, ◌≤◌, ◌<◌}
use native.Mathlib.Omega.{arith}
use Rattle.std.proofs.Math.Decide.{ℕ_discrete, dec_lt}
use Rattle.std.proofs.Common.{add-zero, sym, ◌∙◌, ap}
use Rattle.std.specs.Prelude.{◌≡◌, false, ◌&&◌, List, [], ◌∷◌, eqb, ltb, length}
use Rattle.std.proofs.Math.Bool.{true}
use borrow.Author.Tests.{eqb-true, eq-eqb, ne_eqb, ltb-true, lt-ltb, le-ltb}
use Rattle.orbits.proofs.laws.Truth.{truth, holds as yes_true, fails as yes-false, both, both_right}
use Rattle.orbits.specs.Count.{count}
use Rattle.orbits.proofs.laws.Count.{count_split, count_fewer, count_le}
use Rattle.orbits.specs.Iterate.{iter}
use Rattle.orbits.proofs.laws.Iterate.{period}
use Rattle.orbits.specs.Reach.{reaches}
use Rattle.orbits.proofs.laws.Reach.{says_reach}
use Rattle.table.specs.Layout.{words, darts, edges, vertices, next_word, leaves, edge_word, edge_of, vertex_word, Live}
use Rattle.table.specs.Rotation.{live?, next_dart}
use Rattle.table.specs.laws.Rotation.{yes_live, case_yes, case_says}
use Rattle.table.specs.laws.Darts.{Ruled}
use Rattle.table.specs.laws.Cycle.{next_inj, iter_live, iter_leaves, iter_word, orbit_size}
use Rattle.table.specs.laws.Vertices.{leaving_live, one_more, spread}
use Rattle.table.specs.laws.Blocks.{dead_dart}
use Rattle.check_reads.specs.Reads.{test_of, reads_of, pass_all, all_below, reads_below, bare_tests, dart_tests, edge_tests, edge_in, dead_block, idle_tests, edge_block}
use Rattle.check_reads.specs.Reads.{length_fits, cycle_test, leads_none, lead_tests, vertex_tests, vertex_in, vertex_block, check_reads}
use Rattle.check_reads.proofs.laws.Tests.{total, reads_total, below_most, below_passed, below_any, below_until}
use Rattle.check_reads.proofs.laws.Darts.{tests_dead, tests_live, dead_case, idle_case, block_case, by_darts, blocks_case}
use Rattle.check_reads.proofs.laws.Vertices.{tests_none, tests_leads}

module _ (t : List ℕ) where
  pub dart_most : (d : ℕ) → reads_of (dart_tests t d) ≤ 4
  unfolding total
  dart_most d = elim (ℕ_discrete (edge_word t (edge_of d)) 0) [
    | yes off ↦ rw (tests_dead t d off) (let k = reads_total (bare_tests t d) in omega arith)
    | no on ↦ rw (tests_live t d on) (reads_total _)
  ]

  dead_most : (d : ℕ) → edge_word t (edge_of d) ≡ 0 → reads_of (dart_tests t d) ≤ 3
  unfolding total
  dead_most d off = rw (tests_dead t d off) (reads_total (bare_tests t d))

  pub edge_most : (e : ℕ) → reads_of (edge_tests t e) ≤ 9
  unfolding total
  edge_most e = let k = reads_total (edge_tests t e) in let a = dart_most (2 * e) in let b = dart_most (2 * e + 1) in omega arith

  dead_edge_most : (e : ℕ) → edge_word t e ≡ 0 → reads_of (edge_tests t e) ≤ 7
  unfolding total
  dead_edge_most e off =
      let p : edge_of (2 * e) ≡ e = omega arith in
      let q : edge_of (2 * e + 1) ≡ e = omega arith in
      let k = reads_total (edge_tests t e) in
      let a = dead_most (2 * e) (rw p off) in
      let b = dead_most (2 * e + 1) (rw q off) in
      omega arith

  pub idle_most : (b : ℕ) → reads_of (idle_tests t b) ≤ 224
  unfolding total
  idle_most b = reads_total (idle_tests t b)

  edges_most : (b : ℕ) → reads_below (edge_in t b) 32 ≤ 288
  edges_most b = below_most (edge_in t b) 9 32 (λ i h. edge_most (32 * b + i))

  -- a block with a live edge is told by its edges' words alone
  live_block : (b : ℕ) → dead_block t b ≡ false → (edge_block t b).reads ≤ 320
  unfolding edge_block reads_of pass_all
  live_block b e = rw e (let k = edges_most b in omega arith)

  -- one without has edges of few reads
  dead_block_most : (b : ℕ) → dead_block t b ≡ true → (edge_block t b).reads ≤ 448
  unfolding edge_block
  dead_block_most b e =
      let dead = case_yes (dead_case t b) e in
      let i = idle_most b in
      let k = below_most (edge_in t b) 7 32 (λ i h. dead_edge_most (32 * b + i) (dead i h)) in
      elim (truth (pass_all (idle_tests t b))) [
        | yes_true p ↦ rw p (omega arith)
        | yes-false p ↦ rw p (omega arith)
      ]

  pub block_most : (b : ℕ) → (edge_block t b).reads ≤ 448
  block_most b = elim (truth (dead_block t b)) [
    | yes_true e ↦ dead_block_most b e
    | yes-false e ↦ let k = live_block b e in omega arith
  ]

  -- and if it passes, it is passed over
  passing_most : (b : ℕ) → (edge_block t b).passes ≡ true → (edge_block t b).reads ≤ 320
  unfolding edge_block
  passing_most b p = elim (truth (dead_block t b)) [
    | yes-false e ↦ live_block b e
    | yes_true e ↦
        let dead = case_yes (dead_case t b) e in
        let rule = by_darts t b (case_yes (block_case t b) p) in
        let idle = case_says (idle_case t b)
        (record { dead = dead; bare = λ i h. (rule (64 * b + i) (omega arith) (omega arith)).bare (dead_dart t b dead i h) }) in
        let k = idle_most b in
        rw idle (omega arith)
  ]

  -- crude bounds, of any table
  cycle_crude : (w : ℕ) → (cycle_test t w).reads ≤ 2048
  cycle_crude w = below_most (λ k. test_of 1 (ltb w (iter (next_word t) (suc k) w))) 1 darts (λ k h. omega arith)

  pub vertex_crude : (v : ℕ) → reads_of (vertex_tests t v) ≤ 2050
  unfolding total
  vertex_crude v = elim (truth (leads_none t v)) [
    | yes_true e ↦ rw (tests_none t v e) (let k = reads_total (test_of 1 true ∷ []) in omega arith)
    | yes-false e ↦ rw (tests_leads t v e) (let c = cycle_crude (vertex_word t v) in let k = reads_total (lead_tests t v) in omega (arith, c, k))
  ]

  pub vertex_block_crude : (b : ℕ) → (vertex_block t b).reads ≤ 65632
  unfolding vertex_block
  vertex_block_crude b =
      let k = below_most (vertex_in t b) 2050 32 (λ i h. vertex_crude (32 * b + i)) in
      elim (truth (all_below (λ i. leads_none t (32 * b + i)) 32)) [
        | yes_true e ↦ rw e (omega arith)
        | yes-false e ↦ rw e (omega arith)
      ]

  -- the live darts that leave the vertices below v
  abbrev leaving_below : ℕ → ℕ
  leaving_below v = count (λ d. live? t d && ltb (leaves t d) v) darts

  abbrev leaving_at : ℕ → ℕ
  leaving_at v = count (λ d. live? t d && eqb (leaves t d) v) darts

  leaving_more : (v : ℕ) → leaving_below (v + 1) ≡ leaving_below v + leaving_at v
  leaving_more v =
      count_split (λ d. live? t d && ltb (leaves t d) (v + 1)) (λ d. live? t d && ltb (leaves t d) v) (λ d. live? t d && eqb (leaves t d) v) darts
      (λ d h. ap (λ b. live? t d && b) (one_more (leaves t d) v) ∙ spread (live? t d) (ltb (leaves t d) v) (eqb (leaves t d) v))
      (λ d h p q.
      let low = ltb-true (leaves t d) v (both_right (live? t d) _ p) in
      let here = eqb-true (leaves t d) v (both_right (live? t d) _ q) in
      omega arith)

  module _ (r : Ruled t darts) where
    -- a cycle is among the darts that leave its vertex
    cycle_most : (v w : ℕ) → Live t w → leaves t w ≡ v → (cycle_test t w).reads ≤ leaving_at v
    cycle_most v w l here =
        let p = period (next_inj t r) w l.low in
        let some = p.some in
        let q : suc (p.steps - 1) ≡ p.steps = omega arith in
        let back = sym (iter_word t r p.steps w l) ∙ p.back in
        let until = below_until (λ k. test_of 1 (ltb w (iter (next_word t) (suc k) w))) (p.steps - 1) darts (λ k. omega arith)
        (le-ltb w (iter (next_word t) (suc (p.steps - 1)) w) (rw (q, back) (omega arith))) in
        let size = orbit_size (next_inj t r) w l.low p in
        let fewer = count_fewer (reaches (next_dart t) darts w) (λ d. live? t d && eqb (leaves t d) v) darts (λ d h e.
        let c = says_reach (next_dart t) darts w d e in
        both {a = live? t d}
        (rw (← c.lands) (iter_live t r c.steps w ∙ yes_live t w l))
        (eq-eqb (leaves t d) v (rw (← c.lands) (iter_leaves t r c.steps w ∙ here)))) in
        omega (arith, until, size, fewer, q)

    vertex_most : (v : ℕ) → v < vertices → reads_of (vertex_tests t v) ≤ 2 + leaving_at v
    unfolding reads_of total
    vertex_most v h = elim (truth (leads_none t v)) [
      | yes_true e ↦ rw (tests_none t v e) (omega arith)
      | yes-false e ↦ rw (tests_leads t v e) (elim (dec_lt (vertex_word t v) darts) [
        | no past ↦ rw (le-ltb (vertex_word t v) darts (omega arith)) (omega arith)
        | yes low ↦ elim (ℕ_discrete (leaves t (vertex_word t v)) v) [
          | no astray ↦ rw (lt-ltb (vertex_word t v) darts low, ne_eqb (leaves t (vertex_word t v)) v astray) (omega arith)
          | yes here ↦
              let k = reads_total (cycle_test t (vertex_word t v) ∷ []) in
              let c = cycle_most v (vertex_word t v) (leaving_live t r v h (vertex_word t v) low here) here in
              rw (lt-ltb (vertex_word t v) darts low, eq-eqb (leaves t (vertex_word t v)) v here) (omega (arith, k, c))
        ]
      ])
    ]

    vertices_most : (b n : ℕ) → 32 * b + n ≤ vertices → reads_below (vertex_in t b) n + leaving_below (32 * b) ≤ 2 * n + leaving_below (32 * b + n)
    unfolding reads_below
    vertices_most b zero h = rw (add-zero (32 * b)) (omega arith)
    vertices_most b (suc n) h =
        let s = vertices_most b n (omega arith) in
        let one = vertex_most (32 * b + n) (omega arith) in
        let q : 32 * b + suc n ≡ 32 * b + n + 1 = omega arith in
        let more = leaving_more (32 * b + n) in
        elim (truth (all_below (λ i. (vertex_in t b i).passes) n)) [
          | yes_true e ↦ rw (e, q) (omega (arith, s, one, more))
          | yes-false e ↦ rw (e, q) (omega (arith, s, more))
        ]

    blocks_most : (n : ℕ) → n ≤ 16 → reads_below (vertex_block t) n ≤ 96 * n + leaving_below (32 * n)
    unfolding reads_below vertex_block
    blocks_most zero h = omega arith
    blocks_most (suc n) h =
        let s = blocks_most n (omega arith) in
        let k = vertices_most n 32 (omega arith) in
        let q : 32 * suc n ≡ 32 * n + 32 = omega arith in
        elim (truth (all_below (λ b. (vertex_block t b).passes) n)) [
          | yes-false e ↦ rw (e, q) (omega (arith, s, k))
          | yes_true e ↦ elim (truth (all_below (λ i. leads_none t (32 * n + i)) 32)) [
            | yes_true f ↦ rw (e, f, q) (omega (arith, s, k))
            | yes-false f ↦ rw (e, f, q) (omega (arith, s, k))
          ]
        ]

-- "read at most 100,000 words of the table in one check": the exact bound
pub reads_most : (t : List ℕ) → check_reads t ≤ 15872
unfolding check_reads reads_of
reads_most t = elim (truth (eqb (length t) words)) [
  | yes-false e ↦ rw e (omega arith)
  | yes_true e ↦ elim (truth (all_below (length_fits t) edges)) [
    | yes-false d ↦ rw (e, d) (omega arith)
    | yes_true d ↦ elim (truth (all_below (λ b. (edge_block t b).passes) 32)) [
      | yes-false f ↦ let k = below_any (edge_block t) 320 128 (passing_most t) (block_most t) 32 in rw (e, d, f) (omega (arith, k))
      | yes_true f ↦
          let k = below_passed (edge_block t) 320 128 (passing_most t) (block_most t) 32 f in
          let v = blocks_most t (case_yes (blocks_case t) f) 16 (omega arith) in
          let all = count_le (λ d. live? t d && ltb (leaves t d) 512) darts in
          rw (e, d, f) (omega (arith, k, v, all))
    ]
  ]
]
