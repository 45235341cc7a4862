-- The tests of darts and edges: they pass exactly if the darts keep their rules.
--     tests_dead, tests_live              the tests of a dart, by its edge word
--     told_dead, told_live, told_many     they have been made; too many turns fail
--     dart_case, edge_case                they pass exactly if the dart, the edge's two darts keep their rule
--     dead_case, blank_case, idle_case    the tests of a block that may be passed over
--     block_case, blocks_case             a block passes exactly if its darts keep their rules; all blocks
--     by_edges, by_darts                  the darts of a block, by edges and singly
--     block_idle, block_read              the words read at a block that is passed over; at another
--     block_passes, block_fails           the block's verdict from the count's answer
use Rattle.std.specs.Prelude.{ℕ, ◌+◌, ◌-◌, ◌*◌, ◌/◌, ◌%◌, ◌≤◌, ◌<◌, ◌≡◌, Bool, true, false, List, ◌∷◌, leb, ◌≢◌}
use native.Mathlib.Omega.{arith}
use Rattle.std.proofs.Common.{add-zero, sym, eq-eqb, ne_eqb, le-leb}
use Rattle.std.proofs.lemmas.Bool.{lt-leb}
use Rattle.std.proofs.Math.Decide.{ℕ_discrete, dec_lt}
use Rattle.table.specs.Layout.{darts, nothing, edge_word, edge_of, edge_word_most}
use Rattle.table.specs.Good.{Bare}
use Rattle.table.specs.laws.Rotation.{Case, case_map, case_yes, case_says, case_denies, eq_case, le_case, lt_case}
use Rattle.table.specs.laws.Counting.{counts_some, counts_broken}
use Rattle.std.specs.Prelude.{Option, Some, None}
use Rattle.table.specs.laws.Darts.{Linked, DartRule, Ruled, RuledBelow, DartsTo, rule_dead, rule_live}
use Rattle.table.specs.laws.Blocks.{DeadBlock, Blank, IdleBlock, idle_blank, blank_idle, dead_dart}
use Rattle.table.specs.Reading.{Adds}
use Rattle.table.specs.laws.Reading.{adds_none, adds_more}
use Rattle.check_reads.specs.Reads.{test_of, bare_tests, linked_tests, dart_tests, edge_tests, edge_in, dead_block, blank, idle_tests, edge_block, pass_all, all_below, reads_below}
use Rattle.check_reads.proofs.laws.Tests.{Told, told_fails, told_goes, true_case, both_case, all_case}

module _ (t : List ℕ) where
  bare_case : (d : ℕ) → Case (pass_all (bare_tests t d)) (Bare t d)
  unfolding pass_all
  bare_case d = case_map
      (λ p. record { next_none = p.0; prev_none = p.1.0; leaves_none = p.1.1.0 })
      (λ b. (b.next_none, (b.prev_none, (b.leaves_none, tt))))
      (both_case (eq_case _ nothing) (both_case (eq_case _ nothing) (both_case (eq_case _ nothing) true_case)))

  linked_case : (d : ℕ) → Case (pass_all (linked_tests t d)) (Linked t d)
  unfolding pass_all
  linked_case d = case_map
      (λ p. record {
        at = p.0;
        next_low = p.1.0;
        prev_next = p.1.1.0;
        next_leaves = p.1.1.1.0;
      })
      (λ k. (k.at, (k.next_low, (k.prev_next, (k.next_leaves, tt)))))
      (both_case (lt_case _ _) (both_case (lt_case _ _) (both_case (eq_case _ _) (both_case (eq_case _ _) true_case))))

  pub tests_dead : (d : ℕ) → edge_word t (edge_of d) ≡ 0 → dart_tests t d ≡ bare_tests t d
  unfolding dart_tests
  tests_dead d e = rw (eq-eqb _ 0 e, dart_tests)

  pub tests_live : (d : ℕ) → edge_word t (edge_of d) ≢ 0 → dart_tests t d ≡ test_of 0 (leb (edge_word t (edge_of d)) edge_word_most) ∷ linked_tests t d
  unfolding dart_tests
  tests_live d e = rw (ne_eqb _ 0 e, dart_tests)

  -- the tests of a dart have been made
  module _ {C : Type 0} {S : C → ℕ → Type 0} (d : ℕ) {n m : C} {r : Bool} where
    pub told_dead : edge_word t (edge_of d) ≡ 0 → Told S (bare_tests t d) r n m → Told S (dart_tests t d) r n m
    told_dead e k = rw (tests_dead d e) k

    pub told_live : edge_word t (edge_of d) ≢ 0 → edge_word t (edge_of d) ≤ edge_word_most → Told S (linked_tests t d) r n m → Told S (dart_tests t d) r n m
    told_live e h k = rw (tests_live d e) (told_goes adds_none (le-leb _ _ h) k)

  pub told_many : {C : Type 0} {S : C → ℕ → Type 0} (d : ℕ) {n : C} → edge_word t (edge_of d) ≢ 0 → edge_word_most < edge_word t (edge_of d) → Told S (dart_tests t d) false n n
  told_many d e h = rw (tests_live d e) (told_fails adds_none (lt-leb _ _ h))

  pub dart_case : (d : ℕ) → Case (pass_all (dart_tests t d)) (DartRule t d)
  unfolding pass_all
  dart_case d = elim (ℕ_discrete (edge_word t (edge_of d)) 0) [
    | yes off ↦ rw (tests_dead d off) (case_map (rule_dead t d off) (λ r. r.bare off) (bare_case d))
    | no on ↦ rw (tests_live d on) (case_map (λ p. rule_live t d on p.0 p.1) (λ r. (r.turns, r.linked on)) (both_case (le_case _ _) (linked_case d)))
  ]

  -- an edge: its two darts
  pub edge_case : (e : ℕ) → Case (pass_all (edge_tests t e)) (DartRule t (2 * e) × DartRule t (2 * e + 1))
  unfolding pass_all
  edge_case e = case_map (λ p. (p.0, p.1.0)) (λ p. (p.0, (p.1, tt))) (both_case (dart_case (2 * e)) (both_case (dart_case (2 * e + 1)) true_case))

  -- a block that is passed over
  pub dead_case : (b : ℕ) → Case (dead_block t b) (DeadBlock t b)
  unfolding dead_block
  dead_case b = all_case 32 (λ i h. eq_case _ 0)

  pub blank_case : (from : ℕ) → Case (blank t from) (Blank t from)
  unfolding blank
  blank_case from = all_case 64 (λ i h. eq_case _ nothing)

  pub idle_case : (b : ℕ) → Case (pass_all (idle_tests t b)) (IdleBlock t b)
  unfolding pass_all
  idle_case b = case_map
      (λ p. blank_idle p.0 p.1.0 p.1.1.0 p.1.1.1.0)
      (λ k. let i = idle_blank k in (k.dead, (i.0, (i.1, (i.2, tt)))))
      (both_case (dead_case b) (both_case (blank_case _) (both_case (blank_case _) (both_case (blank_case _) true_case))))

  pub block_case : (b : ℕ) → Case (edge_block t b).passes ((i : ℕ) → i < 32 → DartRule t (2 * (32 * b + i)) × DartRule t (2 * (32 * b + i) + 1))
  unfolding edge_block
  block_case b = all_case 32 (λ i h. edge_case (32 * b + i))

  -- the darts of a block, by edges
  pub by_edges : (b : ℕ) → ((d : ℕ) → 64 * b ≤ d → d < 64 * b + 64 → DartRule t d) → (i : ℕ) → i < 32 → DartRule t (2 * (32 * b + i)) × DartRule t (2 * (32 * b + i) + 1)
  by_edges b r i h = (r _ (omega arith) (omega arith), r _ (omega arith) (omega arith))

  pub by_darts : (b : ℕ) → ((i : ℕ) → i < 32 → DartRule t (2 * (32 * b + i)) × DartRule t (2 * (32 * b + i) + 1)) → (d : ℕ) → 64 * b ≤ d → d < 64 * b + 64 → DartRule t d
  by_darts b r d h l = elim (ℕ_discrete (d % 2) 0) [
    | yes e ↦ let q : 2 * (32 * b + (d / 2 - 32 * b)) ≡ d = omega arith in rw q at (r (d / 2 - 32 * b) (omega arith)).0
    | no e ↦ let q : 2 * (32 * b + (d / 2 - 32 * b)) + 1 ≡ d = omega arith in rw q at (r (d / 2 - 32 * b) (omega arith)).1
  ]

  module _ (b : ℕ) where
    pub block_idle : {C : Type 0} {S : C → ℕ → Type 0} {n m : C} → Told S (idle_tests t b) true n m → ((edge_block t b).passes ≡ true) × Adds S n m (edge_block t b).reads
    unfolding edge_block
    block_idle k =
        let idle = case_yes (idle_case b) (sym k.verdict) in
        let rule : (d : ℕ) → 64 * b ≤ d → d < 64 * b + 64 → DartRule t d = λ d h l.
        let q : 64 * b + (d - 64 * b) ≡ d = omega arith in
        let off = dead_dart t b idle.dead (d - 64 * b) (omega arith) in
        rw q at (rule_dead t _ off (idle.bare (d - 64 * b) (omega arith))) in
        (case_says (block_case b) (by_edges b rule), rw (sym k.verdict, add-zero) k.count)

    pub block_read : {C : Type 0} {S : C → ℕ → Type 0} {n k m : C} → Told S (idle_tests t b) false n k → Adds S k m (reads_below (edge_in t b) 32) → Adds S n m (edge_block t b).reads
    unfolding edge_block
    block_read k e = rw (sym k.verdict) (adds_more k.count e)

    pub block_passes : {r : Option ℕ} {n : ℕ} → DartsTo t (64 * b + 64) r → r ≡ Some n → (edge_block t b).passes ≡ true
    block_passes {n = n} c e = case_says (block_case b) (by_edges b (λ d h l. (counts_some n c e).1 d l))

    pub block_fails : {r : Option ℕ} {n : ℕ} → RuledBelow t n (64 * b) → DartsTo t (64 * b + 64) r → r ≡ None → (edge_block t b).passes ≡ false
    block_fails p c e = case_denies (block_case b) (λ a. counts_broken c e (λ d l. elim (dec_lt d (64 * b)) [
      | yes h ↦ p.rules d h
      | no h ↦ by_darts b a d (omega arith) l
    ]))

  -- all blocks
  pub blocks_case : Case (all_below (λ b. (edge_block t b).passes) 32) (Ruled t darts)
  blocks_case = case_map
      (λ a d h. by_darts (d / 64) (a (d / 64) (omega arith)) d (omega arith) (omega arith))
      (λ r b h. by_edges b (λ d l m. r d (omega arith)))
      (all_case 32 (λ b h. block_case b))
