-- The rules that a vertex's word keeps, and the count that tells whether each vertex has one cycle.
--     Leads, VertexRule                             w is the smallest dart on a cycle of v; the vertex's word leads so
--     led?, led_at, led_below                       is a dart on the cycle its vertex's word leads; at v; at the vertices below v
--     VertexSays, VerticesTo, VerticesSay           what the count of led darts answers: at one vertex; below n; at all
--     past_leads_none, led_none, led_cycle          how many are led: by a word past the darts, none; by a dart, its cycle
--     Summed                                        the loop over the vertices: those so far keep their rule, n darts are led
--     summed_none, summed_more, summed_few          it begins, goes on, and its count fits
--     summed_all, summed_to, summed_broken          what it answers
--     summed_loose, summed_block, block_broken      the same block by block
--     counted_good, good_counted                    the table is good exactly if rules and count say so
--     vertex_none, vertex_alone, vertex_astray      one vertex: not live, isolated, or with a word that leads nothing
--     leaving_live, vertex_cycle                    and one whose word leads a dart of it: what the walk round its cycle says
--     one_more, spread                              Boolean laws of the count
use Prim.Native.Nat.{ℕ, zero, suc, ◌+◌, ◌*◌, ◌/◌, ◌≤◌, ◌<◌}
use native.Mathlib.Omega.{arith}
use Rattle.std.specs.Prelude.{◌≡◌, Bool, false, ◌&&◌, ◌||◌, List, ◌≢◌, length, eqb, ltb}
use Rattle.std.proofs.Math.Path.{refl, sym, ap}
use Rattle.std.proofs.Common.{◌∙◌}
use Rattle.std.proofs.Math.Bool.{true, not}
use borrow.Author.Tests.{eqb-true, eq-eqb, ne_eqb, ltb-true, lt-ltb, le-ltb}
use Rattle.std.proofs.Math.Decide.{ℕ_discrete, dec_lt}
use Rattle.orbits.proofs.laws.Truth.{clash, both, both_left, both_right, same_truth, false_unless, truth, holds, fails}
use Rattle.orbits.specs.Count.{count}
use Rattle.orbits.proofs.laws.Count.{count_same, count_none, count_split, count_part, none_counted, count_le}
use Rattle.orbits.specs.Iterate.{iter}
use Rattle.orbits.proofs.laws.Iterate.{Period}
use Rattle.orbits.specs.Reach.{Reach, reaches}
use Rattle.orbits.proofs.laws.Reach.{says_reach, reach_says, reach_sym, reach_trans}
use Rattle.table.specs.Layout.{darts, vertices, edges, words, nothing, isolated, leaves, vertex_word, Live}
use Rattle.table.specs.Good.{Good, LengthRule}
use Rattle.table.specs.Rotation.{live?, next_dart}
use Rattle.table.specs.laws.Rotation.{yes_live, live_yes, not_live, next_dart_dead}
use Rattle.table.specs.laws.Darts.{Ruled}
use Rattle.table.specs.laws.Cycle.{CycleSays, leads, follows, next_live, prev_live, prev_undone, next_inj, iter_live, iter_leaves, iter_word, orbit_size}
use Rattle.table.specs.laws.Blocks.{vertex_blocks, LooseBlock, block_on}
use Rattle.table.specs.laws.Counting.{Counts, counts, breaks, counts_some, counts_broken}
use Rattle.std.specs.Prelude.{Option, Some, None}

-- w is live, leaves v, and is the smallest on its cycle
pub record Leads (t : List ℕ) (v w : ℕ) : Type 0 where
  pub live : Live t w
  pub here : leaves t w ≡ v
  pub least : (k : ℕ) → w ≤ iter (next_dart t) k w

abbrev pub VertexRule : List ℕ → ℕ → Type 0
VertexRule t v = vertex_word t v ≢ nothing → vertex_word t v ≢ isolated → Leads t v (vertex_word t v)

-- is d on the cycle that its vertex's word leads
unfoldable pub led? : List ℕ → ℕ → Bool
led? t d = reaches (next_dart t) darts (vertex_word t (leaves t d)) d

-- the live darts led at vertex v, and at the vertices below v
unfoldable pub led_at : List ℕ → ℕ → ℕ → Bool
led_at t v d = (live? t d && led? t d) && eqb (leaves t d) v

unfoldable pub led_below : List ℕ → ℕ → ℕ → Bool
led_below t v d = (live? t d && led? t d) && ltb (leaves t d) v

-- what the count of the darts led at one vertex answers, at the vertices below n, and at all
abbrev pub VertexSays : List ℕ → ℕ → Option ℕ → Type 0
VertexSays t v r = Counts (VertexRule t v) (count (led_at t v) darts) r

abbrev pub VerticesTo : List ℕ → ℕ → Option ℕ → Type 0
VerticesTo t n r = Counts ((v : ℕ) → v < n → VertexRule t v) (count (led_below t n) darts) r

abbrev pub VerticesSay : List ℕ → Option ℕ → Type 0
VerticesSay t r = Counts ((v : ℕ) → v < vertices → VertexRule t v) (count (λ d. live? t d && led? t d) darts) r

module _ (t : List ℕ) (r : Ruled t darts) where
  -- no cycle leads from a word past the darts
  past_still : (k w : ℕ) → darts ≤ w → iter (next_dart t) k w ≡ w
  unfolding iter
  past_still zero w h = refl
  past_still (suc k) w h = ap (next_dart t) (past_still k w h) ∙ next_dart_dead t w (not_live t w (λ l. let low = l.low in omega arith))

  pub past_leads_none : (w d : ℕ) → darts ≤ w → d < darts → Reach (next_dart t) w d → ⊥
  past_leads_none w d h l c = let e = sym (past_still c.steps w h) ∙ c.lands in omega (arith, e)

  led_at_parts : (v d : ℕ) → led_at t v d ≡ true → (leaves t d ≡ v) × Reach (next_dart t) (vertex_word t v) d
  unfolding led_at led?
  led_at_parts v d e =
      let here = eqb-true (leaves t d) v (both_right (live? t d && led? t d) _ e) in
      let led = both_right (live? t d) _ (both_left _ (eqb (leaves t d) v) e) in
      (here, rw here at (says_reach (next_dart t) darts _ d led))

  pub led_none : (v : ℕ) → darts ≤ vertex_word t v → count (led_at t v) darts ≡ 0
  led_none v h = count_none (led_at t v) darts (λ d l. false_unless (led_at t v d) (λ e. past_leads_none (vertex_word t v) d h l (led_at_parts v d e).1))

  led_same : (v : ℕ) → Leads t v (vertex_word t v) → (d : ℕ) → d < darts → led_at t v d ≡ reaches (next_dart t) darts (vertex_word t v) d
  unfolding led_at led?
  led_same v a d h =
      same_truth (led_at t v d) (reaches (next_dart t) darts (vertex_word t v) d)
      (λ e. reach_says (next_inj t r) a.live.low (led_at_parts v d e).1)
      (λ e.
      let c = says_reach (next_dart t) darts (vertex_word t v) d e in
      let here : leaves t d ≡ v = rw (← c.lands) (iter_leaves t r c.steps (vertex_word t v) ∙ a.here) in
      let on : live? t d ≡ true = rw (← c.lands) (iter_live t r c.steps (vertex_word t v) ∙ yes_live t _ a.live) in
      both (both on (rw here e)) (eq-eqb _ _ here))

  pub led_cycle : (v : ℕ) → Leads t v (vertex_word t v) → (p : Period (next_dart t) (vertex_word t v)) → count (led_at t v) darts ≡ p.steps
  led_cycle v a p =
      count_same (led_at t v) (reaches (next_dart t) darts (vertex_word t v)) darts (led_same v a) ∙ orbit_size (next_inj t r) (vertex_word t v) a.live.low p

-- the numbers below one more
pub one_more : (u v : ℕ) → ltb u (v + 1) ≡ (ltb u v || eqb u v)
one_more u v = elim (dec_lt u v) [
  | yes h ↦ rw (lt-ltb u (v + 1) (omega arith), lt-ltb u v h)
  | no h ↦ elim (ℕ_discrete u v) [
    | yes e ↦ rw (lt-ltb u (v + 1) (omega arith), le-ltb u v (omega arith), eq-eqb u v e)
    | no e ↦ rw (le-ltb u (v + 1) (omega arith), le-ltb u v (omega arith), ne_eqb u v e)
  ]
]

pub spread : (a b c : Bool) → (a && (b || c)) ≡ (a && b || a && c)
spread true b c = refl
spread false b c = refl

-- The loop over the vertices: those below v keep their rule, and n darts are led there.
pub record Summed (t : List ℕ) (n v : ℕ) : Type 0 where
  pub low : v ≤ vertices
  pub rules : (u : ℕ) → u < v → VertexRule t u
  pub counted : n ≡ count (led_below t v) darts

module _ (t : List ℕ) where
  pub summed_none : Summed t 0 0
  unfolding led_below
  summed_none = record {
    low = omega arith;
    rules = λ u h. absurd (none u h);
    counted = sym (count_none (led_below t 0) darts (λ d l. false_unless (led_below t 0 d) (λ e. none _ (ltb-true (leaves t d) 0 (both_right (live? t d && led? t d) _ e)))));
  }
    where
      none : (u : ℕ) → u < 0 → ⊥
      none u h = omega arith

  below_more : (v d : ℕ) → led_below t (v + 1) d ≡ (led_below t v d || led_at t v d)
  unfolding led_below led_at
  below_more v d = ap (λ b. (live? t d && led? t d) && b) (one_more (leaves t d) v) ∙ spread (live? t d && led? t d) (ltb (leaves t d) v) (eqb (leaves t d) v)

  not_both_there : (v d : ℕ) → led_below t v d ≡ true → led_at t v d ≡ true → ⊥
  unfolding led_below led_at
  not_both_there v d p q =
      let low = ltb-true (leaves t d) v (both_right (live? t d && led? t d) _ p) in
      let here = eqb-true (leaves t d) v (both_right (live? t d && led? t d) _ q) in
      omega arith

  pub summed_more : (n k v : ℕ) → Summed t n v → v < vertices → VertexRule t v → k ≡ count (led_at t v) darts → Summed t (n + k) (v + 1)
  summed_more n k v s h rule e = record {
    low = omega arith;
    rules = λ u l. elim (ℕ_discrete u v) [
      | yes q ↦ rw q rule
      | no q ↦ s.rules u (omega arith)
    ];
    counted = rw (s.counted, e) (sym (count_split (led_below t (v + 1)) (led_below t v) (led_at t v) darts (λ d l. below_more v d) (λ d l. not_both_there v d)));
  }

  pub summed_few : (n v : ℕ) → Summed t n v → n ≤ darts
  summed_few n v s = rw s.counted (count_le (led_below t v) darts)

  -- every live dart leaves a vertex, so none is left out
  none_left_out : Ruled t darts → (d : ℕ) → d < darts → led_below t vertices d ≡ (live? t d && led? t d)
  unfolding led_below
  none_left_out r d h = same_truth (led_below t vertices d) (live? t d && led? t d)
      (both_left (live? t d && led? t d) _)
      (λ e. let l = live_yes t d (both_left (live? t d) (led? t d) e) in both e (lt-ltb _ _ ((r d h).linked l.on).at))

  pub summed_all : (n v : ℕ) → Ruled t darts → Summed t n v → vertices ≤ v → VerticesSay t (Some n)
  summed_all n v r s h =
      let e : v ≡ vertices = omega (arith, s.low) in
      let c : n ≡ count (led_below t vertices) darts = rw (← e) s.counted in
      counts (ap Some (c ∙ count_same (led_below t vertices) (λ d. live? t d && led? t d) darts (none_left_out r))) (rw e at s.rules)

  pub summed_to : (n v : ℕ) → Summed t n v → VerticesTo t v (Some n)
  summed_to n v s = counts (ap Some s.counted) s.rules

  pub summed_broken : (v to : ℕ) → v < to → (VertexRule t v → ⊥) → VerticesTo t to None
  summed_broken v to h n = breaks refl (λ r. n (r v h))

  -- a block of vertices: those of a loose one keep their rule, and none leads a dart
  pub summed_loose : Ruled t darts → (n b : ℕ) → b < vertex_blocks → LooseBlock t b → Summed t n (32 * b) → Summed t n (32 * b + 32)
  summed_loose r n b h k = block_on (Summed t n) (32 * b) 32 (λ i l s.
      let w = k i l in
      let z : n + 0 ≡ n = omega arith in
      rw z at (summed_more n 0 (32 * b + i) s (omega arith) (λ none alone. absurd (omega arith)) (sym (led_none t r (32 * b + i) (omega arith)))))

  -- and those of another as they are summed
  pub summed_block : {r : Option ℕ} (n b : ℕ) → b < vertex_blocks → VerticesTo t (32 * b + 32) r → r ≡ Some n → Summed t n (32 * b + 32)
  summed_block n b h c e = let k = counts_some n c e in record { low = omega arith; rules = k.1; counted = k.0 }

  pub block_broken : {r : Option ℕ} (b : ℕ) → b < vertex_blocks → VerticesTo t (32 * b + 32) r → r ≡ None → VerticesSay t None
  block_broken b h c e = breaks refl (λ r. counts_broken c e (λ v l. r v (omega arith)))

-- The whole: the rules and the count are those of a good table.
module _ (t : List ℕ) (size : length t ≡ words) (r : Ruled t darts) where
  pub counted_good : ((e : ℕ) → e < edges → LengthRule t e) → ((v : ℕ) → v < vertices → VertexRule t v) → count (λ d. live? t d && led? t d) darts ≡ count (live? t) darts → Good t
  unfolding led?
  counted_good long rules e = record {
    size = size;
    turns = λ i h. let e : (2 * i) / 2 ≡ i = omega arith in rw e at (r (2 * i) (omega arith)).turns;
    bare = λ d h. (r d h).bare;
    lengths = long;
    leaves_low = λ d l. ((r d l.low).linked l.on).at;
    leaves_live = λ d l p. past_leads_none t r _ d (omega (arith, p)) l.low (led d l);
    next_live = next_live t r;
    prev_live = prev_live t r;
    prev_next = λ d l. ((r d l.low).linked l.on).prev_next;
    next_prev = prev_undone t r;
    next_leaves = λ d l. ((r d l.low).linked l.on).next_leaves;
    one_cycle = λ d d' l l' s.
        let c = reach_trans (reach_sym (next_inj t r) (led_low d l) (led d l)) (rw (← s) at (led d' l')) in
        record { steps = c.steps; lands = sym (iter_word t r c.steps d l) ∙ c.lands };
    alone = λ v h i d l p. past_leads_none t r _ d (omega (arith, i)) l.low (rw p at (led d l));
    smallest = λ v h n i. let a = rules v h n i in record {
      live = a.live;
      here = a.here;
      least = λ d l p. let c = rw p at (led d l) in rw (← c.lands) (a.least c.steps);
    };
  }
    where
      rest : count (λ d. live? t d && not (led? t d)) darts ≡ zero
      rest = let s = count_part (live? t) (led? t) darts in omega arith

      led : (d : ℕ) → Live t d → Reach (next_dart t) (vertex_word t (leaves t d)) d
      led d l = elim (truth (led? t d)) [
        | holds p ↦ says_reach (next_dart t) darts _ d p
        | fails p ↦ absurd (clash (both (yes_live t d l) (rw p)) (none_counted (λ d. live? t d && not (led? t d)) darts rest d l.low))
      ]

      led_low : (d : ℕ) → Live t d → vertex_word t (leaves t d) < darts
      led_low d l = elim (dec_lt (vertex_word t (leaves t d)) darts) [
        | yes h ↦ h
        | no h ↦ absurd (past_leads_none t r _ d (omega arith) l.low (led d l))
      ]

  pub good_counted : Good t → ((v : ℕ) → v < vertices → VertexRule t v) × (count (λ d. live? t d && led? t d) darts ≡ count (live? t) darts)
  unfolding led?
  good_counted g = (
    rules,
    count_same (λ d. live? t d && led? t d) (live? t) darts (λ d h. same_truth (live? t d && led? t d) (live? t d) (both_left (live? t d) (led? t d))
        (λ e. both e (led d (live_yes t d e)))),
  )
    where
      rules : (v : ℕ) → v < vertices → VertexRule t v
      rules v h n i =
          let s = g.smallest v h n i in
          record {
            live = s.live;
            here = s.here;
            least = λ k. s.least (iter (next_dart t) k (vertex_word t v)) (live_yes t _ (iter_live t r k _ ∙ yes_live t _ s.live)) (iter_leaves t r k _ ∙ s.here);
          }

      led : (d : ℕ) → Live t d → led? t d ≡ true
      led d l =
          let v = leaves t d in
          let s = g.smallest v (g.leaves_low d l) (g.leaves_live d l) (λ p. g.alone v (g.leaves_low d l) p d l refl) in
          let c = g.one_cycle (vertex_word t v) d s.live l s.here in
          reach_says (next_inj t r) s.live.low (record { steps = c.steps; lands = iter_word t r c.steps _ s.live ∙ c.lands })

-- one vertex, as the check reads it
module _ (t : List ℕ) (r : Ruled t darts) (v : ℕ) where
  pub vertex_none : vertex_word t v ≡ nothing → VertexSays t v (Some 0)
  vertex_none e = counts (ap Some (sym (led_none t r v (omega (arith, e))))) (λ n i. absurd (n e))

  pub vertex_alone : vertex_word t v ≡ isolated → VertexSays t v (Some 0)
  vertex_alone e = counts (ap Some (sym (led_none t r v (omega (arith, e))))) (λ n i. absurd (i e))

  -- a word that leads no dart which leaves v
  pub vertex_astray : vertex_word t v ≢ nothing → vertex_word t v ≢ isolated → (Leads t v (vertex_word t v) → ⊥) → VertexSays t v None
  vertex_astray n i no_lead = breaks refl (λ rule. no_lead (rule n i))

  pub leaving_live : v < vertices → (w : ℕ) → w < darts → leaves t w ≡ v → Live t w
  leaving_live h w l e = record { low = l; on = λ off. let b = ((r w l).bare off).leaves_none in omega (arith, b, e) }

  -- a word that leads a dart which leaves v, by what its cycle says
  pub vertex_cycle : v < vertices → vertex_word t v ≢ nothing → vertex_word t v ≢ isolated → vertex_word t v < darts → leaves t (vertex_word t v) ≡ v
      → {a : Option ℕ} → CycleSays t (vertex_word t v) a → VertexSays t v a
  vertex_cycle h n i l e (leads p s least) =
      let a : Leads t v (vertex_word t v) = record { live = leaving_live h _ l e; here = e; least = least } in
      counts (s ∙ ap Some (sym (led_cycle t r v a p))) (λ _ _. a)
  vertex_cycle h n i l e (follows z k s) = breaks z (λ rule. let up = (rule n i).least k in omega arith)
