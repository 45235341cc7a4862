-- The tests of cycles and vertices, once each dart keeps its rules: how many words a cycle takes, and that a vertex passes exactly if it keeps its rule.
--     cycle_reads                                                  the words read on the walk round a cycle
--     tests_none, tests_leads, word_leads                          the tests of a vertex, by whether its word leads a cycle
--     read_none, read_alone, read_past, read_astray, read_cycle    how many words have been read when the vertex is told
--     vertex_case                                                  they pass exactly if the vertex keeps its rule
--     told_kept, told_broken                                       the verdict from the count's answer
--     loose_case, block_case                                       a block that leads nothing; a block of vertices
--     block_loose, block_read, block_passes, block_fails           its words and its verdict
use Prim.Native.Nat.{ℕ, zero, suc, ◌+◌, ◌-◌, ◌*◌, ◌≤◌, ◌<◌}
use native.Mathlib.Omega.{arith}
use Rattle.std.proofs.Math.Decide.{ℕ_discrete, dec_lt}
use Rattle.std.proofs.Common.{sym, ◌∙◌, ap}
use Rattle.std.specs.Prelude.{◌≡◌, Bool, true, false, List, [], ◌∷◌, ◌≢◌, ltb}
use Rattle.std.proofs.Math.Path.{refl}
use borrow.Author.Tests.{eq-eqb, ne_eqb, lt-ltb, le-ltb}
use Rattle.orbits.specs.Iterate.{iter}
use Rattle.orbits.proofs.laws.Iterate.{period_le}
use Rattle.table.specs.Layout.{darts, vertices, nothing, isolated, next_word, leaves, vertex_word, Live}
use Rattle.table.specs.Rotation.{next_dart}
use Rattle.table.specs.laws.Rotation.{Case, holds, fails, case_map, case_says, case_denies, le_case}
use Rattle.table.specs.laws.Counting.{counts_some, counts_broken}
use Rattle.table.specs.laws.Darts.{Ruled}
use Rattle.table.specs.laws.Cycle.{Round, round_short, iter_word, next_inj}
use Rattle.table.specs.laws.Vertices.{Leads, VertexRule, VertexSays, VerticesTo, Summed, leaving_live}
use Rattle.table.specs.laws.Decided.{least_all}
use Rattle.table.specs.laws.Blocks.{vertex_blocks, LooseBlock}
use Rattle.std.specs.Prelude.{Option, Some, None}
use Rattle.table.specs.Reading.{Adds}
use Rattle.table.specs.laws.Reading.{adds_more}
use Rattle.check_reads.specs.Reads.{test_of, cycle_test, leads_none, lead_tests, vertex_tests, vertex_in, vertex_block, reads_of, pass_all, all_below, reads_below}
use Rattle.check_reads.proofs.laws.Tests.{below_exact, Told, told_all, told_goes, told_end, told_differs, told_same, told_past, told_low, below_stops, true_case, both_case, all_case}

module _ (t : List ℕ) (r : Ruled t darts) (w : ℕ) (l : Live t w) where
  abbrev past : ℕ → Bool
  past k = ltb w (iter (next_word t) (suc k) w)

  round_past : (n d : ℕ) → Round t w n d → (k : ℕ) → k < n - 1 → past k ≡ true
  round_past n d o k h =
      let up = o.above (suc k) (omega arith) in
      let away = o.apart (suc k) (omega arith) (omega arith) in
      let e = iter_word t r (suc k) w l in
      lt-ltb w (iter (next_word t) (suc k) w) (omega (arith, up, away, e))

  -- the walk round the cycle ends at the first dart that is not past w
  pub cycle_reads : (n d : ℕ) → Round t w n d → d ≤ w → (cycle_test t w).reads ≡ n
  cycle_reads n d o h =
      let some = o.some in
      let ahead = case_says (all_case {P = λ k. past k ≡ true} (n - 1) (λ k g. holds (round_past n d o k g) (round_past n d o k g))) (round_past n d o) in
      let sum = below_exact (λ k. test_of 1 (past k)) 1 (n - 1) (round_past n d o) (λ k h. refl) in
      let q : suc (n - 1) ≡ n = omega arith in
      let e = sym (iter_word t r n w l) ∙ o.at in
      let few = round_few n d o h in
      omega (arith, sum, below_stops (λ k. test_of 1 (past k)) ahead (le-ltb w (iter (next_word t) (suc (n - 1)) w) (rw (q, e) h)) darts (omega arith))
    where
      round_few : (n d : ℕ) → Round t w n d → d ≤ w → n ≤ darts
      round_few n d o h = elim (ℕ_discrete d w) [
        | no a ↦ let s = round_short t r w l n d o a in omega arith
        | yes e ↦ period_le (next_inj t r) l.low (record { steps = n; some = o.some; back = o.at ∙ e; least = o.apart })
      ]

module _ (t : List ℕ) (v : ℕ) where
  pub tests_none : leads_none t v ≡ true → vertex_tests t v ≡ test_of 1 true ∷ []
  unfolding vertex_tests
  tests_none e = rw (e, vertex_tests)

  pub tests_leads : leads_none t v ≡ false → vertex_tests t v ≡ lead_tests t v
  unfolding vertex_tests
  tests_leads e = rw (e, vertex_tests)

  -- a word that leads no cycle
  none_leads : vertex_word t v ≡ nothing → leads_none t v ≡ true
  none_leads e = rw (eq-eqb _ nothing e)

  alone_leads : vertex_word t v ≡ isolated → leads_none t v ≡ true
  alone_leads e = rw e

  pub word_leads : vertex_word t v ≢ nothing → vertex_word t v ≢ isolated → leads_none t v ≡ false
  word_leads n i = rw (ne_eqb _ nothing n, ne_eqb _ isolated i)

  -- what has been read of the vertex when its word w was, and when it was seen what dart w leaves
  module _ {C : Type 0} {S : C → ℕ → Type 0} {n k : C} {w : ℕ} (e : w ≡ vertex_word t v) (f : Adds S n k 1) where
    pub read_none : w ≡ nothing → Adds S n k (reads_of (vertex_tests t v))
    read_none q = rw (tests_none (none_leads (sym e ∙ q))) (told_goes {x = test_of 1 true} f refl told_all).count

    pub read_alone : w ≡ isolated → Adds S n k (reads_of (vertex_tests t v))
    read_alone q = rw (tests_none (alone_leads (sym e ∙ q))) (told_goes {x = test_of 1 true} f refl told_all).count

    module _ (none : w ≢ nothing) (alone : w ≢ isolated) where
      leading : {m : C} {r : Bool} → Told S (lead_tests t v) r n m → Adds S n m (reads_of (vertex_tests t v))
      leading x = rw (tests_leads (word_leads (λ q. none (e ∙ q)) (λ q. alone (e ∙ q)))) x.count

      pub read_past : darts ≤ w → Adds S n k (reads_of (vertex_tests t v))
      read_past h = leading (told_past (e, f) h)

      module _ {u : ℕ} {m : C} (low : w < darts) (g : u ≡ leaves t w) (h : Adds S k m 1) where
        pub read_astray : u ≢ v → Adds S n m (reads_of (vertex_tests t v))
        read_astray q = leading (told_low (e, f) low (told_differs (g ∙ ap (leaves t) e, h) q))

        pub read_cycle : {p : C} → u ≡ v → Adds S m p (cycle_test t w).reads → Adds S n p (reads_of (vertex_tests t v))
        read_cycle {p} q c = leading (told_low (e, f) low (told_same (g ∙ ap (leaves t) e, h) q (told_end (rw e at c) refl)))

  leads_none_case : Case (leads_none t v) ((isolated ≤ vertex_word t v) × (vertex_word t v ≤ nothing))
  leads_none_case = elim (ℕ_discrete (vertex_word t v) nothing) [
    | yes e ↦ holds (none_leads e) (omega arith, omega arith)
    | no n ↦ elim (ℕ_discrete (vertex_word t v) isolated) [
      | yes e ↦ holds (alone_leads e) (omega arith, omega arith)
      | no i ↦ fails (word_leads n i) (λ p. omega arith)
    ]
  ]

module _ (t : List ℕ) (r : Ruled t darts) where
  -- a vertex whose word leads a dart that leaves it: the cycle passes if no dart on it is smaller
  leads_case : (v : ℕ) → v < vertices → vertex_word t v < darts → leaves t (vertex_word t v) ≡ v → Case (cycle_test t (vertex_word t v)).passes (Leads t v (vertex_word t v))
  unfolding iter
  leads_case v h low here =
      let w = vertex_word t v in
      let l = leaving_live t r v h w low here in
      case_map
      (λ a. record { live = l; here = here; least = least_all t r w low (λ k g. least a k g) })
      (λ a k g. rw (← iter_word t r (suc k) w l) (a.least (suc k)))
      (all_case darts (λ k g. le_case w (iter (next_word t) (suc k) w)))
    where
      least : ((k : ℕ) → k < darts → vertex_word t v ≤ iter (next_word t) (suc k) (vertex_word t v)) → (k : ℕ) → k < darts
          → vertex_word t v ≤ iter (next_dart t) k (vertex_word t v)
      least a zero g = omega arith
      least a (suc k) g = rw (iter_word t r (suc k) (vertex_word t v) (leaving_live t r v h (vertex_word t v) low here)) (a k (omega arith))

  leading_case : (v : ℕ) → v < vertices → vertex_word t v ≢ nothing → vertex_word t v ≢ isolated
      → Case (pass_all (lead_tests t v)) (VertexRule t v)
  unfolding pass_all
  leading_case v h n i = elim (dec_lt (vertex_word t v) darts) [
    | no past ↦ fails (rw (le-ltb (vertex_word t v) darts (omega arith))) (λ rule. past (rule n i).live.low)
    | yes low ↦ elim (ℕ_discrete (leaves t (vertex_word t v)) v) [
      | no astray ↦ fails (rw (lt-ltb _ _ low, ne_eqb _ _ astray)) (λ rule. astray (rule n i).here)
      | yes here ↦
          rw (lt-ltb _ _ low, eq-eqb _ _ here)
          (case_map (λ a _ _. a.0) (λ rule. (rule n i, tt)) (both_case (leads_case v h low here) true_case))
    ]
  ]

  pub vertex_case : (v : ℕ) → v < vertices → Case (pass_all (vertex_tests t v)) (VertexRule t v)
  unfolding pass_all
  vertex_case v h = elim (leads_none_case t v) [
    | holds e p ↦ rw (tests_none t v e) (holds refl (λ n i. absurd (omega arith)))
    | fails e p ↦ rw (tests_leads t v e) (leading_case v h (λ q. p (omega arith, omega arith)) (λ q. p (omega arith, omega arith)))
  ]

  -- its tests have been made
  module _ (v : ℕ) (h : v < vertices) {C : Type 0} {S : C → ℕ → Type 0} {a : Option ℕ} {n m : C} (c : VertexSays t v a) (e : Adds S n m (reads_of (vertex_tests t v))) where
    pub told_kept : {k : ℕ} → a ≡ Some k → Told S (vertex_tests t v) true n m
    told_kept {k} f = record { verdict = sym (case_says (vertex_case v h) (counts_some k c f).1); count = e }

    pub told_broken : a ≡ None → Told S (vertex_tests t v) false n m
    told_broken f = record { verdict = sym (case_denies (vertex_case v h) (counts_broken c f)); count = e }

  -- a block of vertices
  module _ (b : ℕ) (h : b < vertex_blocks) where
    pub loose_case : Case (all_below (λ i. leads_none t (32 * b + i)) 32) (LooseBlock t b)
    loose_case = all_case 32 (λ i l. leads_none_case t (32 * b + i))

    pub block_case : Case (vertex_block t b).passes ((i : ℕ) → i < 32 → VertexRule t (32 * b + i))
    unfolding vertex_block
    block_case = all_case 32 (λ i l. vertex_case (32 * b + i) (omega arith))

    pub block_loose : {C : Type 0} {S : C → ℕ → Type 0} {n m : C} → LooseBlock t b → Adds S n m 32 → ((vertex_block t b).passes ≡ true) × Adds S n m (vertex_block t b).reads
    unfolding vertex_block
    block_loose k e = (
      case_says block_case (λ i l none alone. let w = k i l in absurd (omega arith)),
      rw (case_says loose_case k) e,
    )

    pub block_read : {C : Type 0} {S : C → ℕ → Type 0} {n k m : C} → (LooseBlock t b → ⊥) → Adds S n k 32 → Adds S k m (reads_below (vertex_in t b) 32) → Adds S n m (vertex_block t b).reads
    unfolding vertex_block
    block_read k e f = rw (case_denies loose_case k) (adds_more e f)

    pub block_passes : {a : Option ℕ} {n : ℕ} → VerticesTo t (32 * b + 32) a → a ≡ Some n → (vertex_block t b).passes ≡ true
    block_passes {n = n} c e = case_says block_case (λ i l. (counts_some n c e).1 (32 * b + i) (omega arith))

    pub block_fails : {a : Option ℕ} {n : ℕ} → Summed t n (32 * b) → VerticesTo t (32 * b + 32) a → a ≡ None → (vertex_block t b).passes ≡ false
    block_fails s c e = case_denies block_case (λ a. counts_broken c e (λ v l. elim (dec_lt v (32 * b)) [
      | yes g ↦ s.rules v g
      | no g ↦ let q : 32 * b + (v - 32 * b) ≡ v = omega arith in rw q at (a (v - 32 * b) (omega arith))
    ]))
