-- Whether a table is good is decided: `good?` is the Boolean, and it is true exactly if the table is good.
--     good_dec                                      whether a table is good is decided
--     all_dec                                       whether all numbers below n have a decided property is decided
--     least_all                                     no dart of the cycle is smaller, if none of the first 2,048 steps gives one
--     bare_dec, linked_dec, rule_dec, length_dec    the rules of darts and of lengths, decided
--     leads_dec, vertex_dec                         the rule of a vertex, decided
use Rattle.std.specs.Prelude.{ℕ, ◌≤◌, ◌<◌, refl, ◌&&◌, List, length}
use Rattle.std.proofs.Common.{lt_of_lt_of_le}
use Rattle.std.proofs.Math.Decide.{ℕ_discrete, dec_le, dec_lt, map_dec}
use Rattle.std.proofs.Math.Logic.Dec as Dec
use Rattle.orbits.proofs.laws.Truth.{first, found, none}
use Rattle.orbits.specs.Count.{count}
use Rattle.orbits.specs.Iterate.{iter}
use Rattle.orbits.proofs.laws.Iterate.{period, period_le}
use Rattle.orbits.proofs.laws.Reach.{reach_within}
use Rattle.table.specs.Layout.{darts, vertices, edges, words, nothing, isolated, next_word, prev_word, leaves, edge_word, vertex_word, length_word, edge_of, edge_word_most, longest}
use Rattle.table.specs.Good.{Good, Bare, LengthRule}
use Rattle.table.specs.laws.Lengths.{length_dead, length_live}
use Rattle.table.specs.Rotation.{live?, next_dart}
use Rattle.table.specs.laws.Darts.{Linked, DartRule, Ruled, rule_dead, rule_live, good_ruled}
use Rattle.table.specs.laws.Cycle.{next_inj}
use Rattle.table.specs.laws.Vertices.{Leads, VertexRule, led?, counted_good, good_counted}

pub all_dec : (P : ℕ → Type 0) → ((k : ℕ) → Dec (P k)) → (n : ℕ) → Dec ((k : ℕ) → k < n → P k)
all_dec P dec n = elim (first (λ k. ¬ P k) (λ k. Dec.not (dec k)) n) [
  | found k h p least ↦ no (λ a. p (a k h))
  | none out ↦ yes (λ k h. elim (dec k) [
    | yes p ↦ p
    | no q ↦ absurd (out k h q)
  ])
]

module _ (t : List ℕ) where
  bare_dec : (d : ℕ) → Dec (Bare t d)
  bare_dec d = map_dec
      (λ p. record { next_none = p.0; prev_none = p.1.0; leaves_none = p.1.1 })
      (λ b. (b.next_none, (b.prev_none, b.leaves_none)))
      (Dec.and (ℕ_discrete (next_word t d) nothing) (Dec.and (ℕ_discrete (prev_word t d) nothing) (ℕ_discrete (leaves t d) nothing)))

  linked_dec : (d : ℕ) → Dec (Linked t d)
  linked_dec d = map_dec
      (λ p. record { at = p.0; next_low = p.1.0; prev_next = p.1.1.0; next_leaves = p.1.1.1 })
      (λ k. (k.at, (k.next_low, (k.prev_next, k.next_leaves))))
      (Dec.and (dec_lt (leaves t d) vertices)
      (Dec.and (dec_lt (next_word t d) darts)
      (Dec.and (ℕ_discrete (prev_word t (next_word t d)) d)
      (ℕ_discrete (leaves t (next_word t d)) (leaves t d)))))

  rule_dec : (d : ℕ) → Dec (DartRule t d)
  rule_dec d = elim (ℕ_discrete (edge_word t (edge_of d)) 0) [
    | yes off ↦ map_dec (rule_dead t d off) (λ r. r.bare off) (bare_dec d)
    | no on ↦ map_dec (λ p. rule_live t d on p.0 p.1) (λ r. (r.turns, r.linked on)) (Dec.and (dec_le (edge_word t (edge_of d)) edge_word_most) (linked_dec d))
  ]

  length_dec : (e : ℕ) → Dec (LengthRule t e)
  length_dec e = elim (ℕ_discrete (edge_word t e) 0) [
    | yes off ↦ map_dec (length_dead t e off) (λ l. l.none off) (ℕ_discrete (length_word t e) 0)
    | no on ↦ map_dec (λ p. length_live t e on p.0 p.1) (λ l. (l.some on, l.most))
        (Dec.and (Dec.not (ℕ_discrete (length_word t e) 0)) (dec_le (length_word t e) longest))
  ]

  module _ (r : Ruled t darts) where
    -- no dart of the cycle is smaller, if none of the first ones is
    pub least_all : (w : ℕ) → w < darts → ((k : ℕ) → k < darts → w ≤ iter (next_dart t) k w) → (k : ℕ) → w ≤ iter (next_dart t) k w
    least_all w h a k =
        let p = period (next_inj t r) w h in
        let i = reach_within p (record { steps = k; lands = refl }) in
        rw (← i.lands) (a i.steps (lt_of_lt_of_le i.few (period_le (next_inj t r) h p)))

    leads_dec : (v w : ℕ) → Dec (Leads t v w)
    leads_dec v w = map_dec
        (λ p. record { live = record { low = p.0; on = p.1.0 }; here = p.1.1.0; least = least_all w p.0 p.1.1.1 })
        (λ a. (a.live.low, (a.live.on, (a.here, λ k _. a.least k))))
        (Dec.and (dec_lt w darts)
        (Dec.and (Dec.not (ℕ_discrete (edge_word t (edge_of w)) 0))
        (Dec.and (ℕ_discrete (leaves t w) v)
        (all_dec (λ k. w ≤ iter (next_dart t) k w) (λ k. dec_le w (iter (next_dart t) k w)) darts))))

    vertex_dec : (v : ℕ) → Dec (VertexRule t v)
    vertex_dec v = elim (ℕ_discrete (vertex_word t v) nothing) [
      | yes e ↦ yes (λ n i. absurd (n e))
      | no n ↦ elim (ℕ_discrete (vertex_word t v) isolated) [
        | yes e ↦ yes (λ _ i. absurd (i e))
        | no i ↦ map_dec (λ a _ _. a) (λ rule. rule n i) (leads_dec v (vertex_word t v))
      ]
    ]

  pub good_dec : Dec (Good t)
  good_dec = elim (ℕ_discrete (length t) words) [
    | no n ↦ no (λ g. n g.size)
    | yes size ↦ elim (all_dec (LengthRule t) length_dec edges) [
      | no n ↦ no (λ g. n g.lengths)
      | yes lengths ↦ elim (all_dec (DartRule t) rule_dec darts) [
        | no n ↦ no (λ g. n (good_ruled t g))
        | yes r ↦ elim (all_dec (VertexRule t) (vertex_dec r) vertices) [
          | no n ↦ no (λ g. n (good_counted t size r g).0)
          | yes rules ↦ map_dec (counted_good t size r lengths rules) (λ g. (good_counted t size r g).1)
              (ℕ_discrete (count (λ d. live? t d && led? t d) darts) (count (live? t) darts))
        ]
      ]
    ]
  ]
