-- One vertex word changed between nothing and isolated, where no live dart leaves the vertex: the table stays good.
--     marked_good                                     the table is good
--     marked                                          the table with the vertex word changed
--     own_word, other_word, vertex_apart              the vertex words after it
--     next_same, prev_same, leaves_same, edge_same    the words that stay
--     was_live, live_still, reach_kept                the live darts and their cycles stay
use Rattle.std.specs.Prelude.{ℕ, ◌<◌, ◌≡◌, List, ◌≢◌, ◌⊎◌}
use Rattle.std.proofs.Common.{arith, sym, ◌∙◌, ap, ⊎_elim, length-set}
use Rattle.std.proofs.Math.Decide.{ℕ_discrete}
use Rattle.orbits.specs.Reach.{Reach}
use Rattle.orbits.proofs.laws.Reach.{reach_agree}
use Rattle.table.specs.Layout.{vertices, edges, darts, nothing, isolated, next_word, prev_word, leaves, edge_word, vertex_word, length_word, edge_of, Live}
use Rattle.table.specs.Good.{Good}
use Rattle.table.specs.Writes.{set_vertex}
use Rattle.table.specs.laws.Writes.{upd_at, upd_off, next_vertex, prev_vertex, leaves_vertex, edge_vertex, vertex_vertex, length_vertex}

-- the table with one vertex word changed between nothing and isolated: no live dart leaves that vertex
module _ (t : List ℕ) (g : Good t) (v w : ℕ) (low : v < vertices) (bare : (d : ℕ) → Live t d → leaves t d ≢ v) (still : (w ≡ nothing) ⊎ (w ≡ isolated)) where
  abbrev marked : List ℕ
  marked = set_vertex t v w

  edge_same : (e : ℕ) → e < edges → edge_word marked e ≡ edge_word t e
  edge_same e h = edge_vertex t v w e h

  was_live : (d : ℕ) → Live marked d → Live t d
  was_live d l = let h = l.low in record { low = h; on = rw (edge_same (edge_of d) (omega arith)) at l.on }

  leaves_same : (d : ℕ) → Live marked d → leaves marked d ≡ leaves t d
  leaves_same d l = leaves_vertex t v w d l.low

  live_still : (d : ℕ) → Live t d → Live marked d
  live_still d l = let h = l.low in record { low = h; on = rw (edge_same (edge_of d) (omega arith)) l.on }

  other_word : (u : ℕ) → u < vertices → u ≢ v → vertex_word marked u ≡ vertex_word t u
  other_word u h n = vertex_vertex t g.size v w u low ∙ upd_off (vertex_word t) v w u n

  own_word : vertex_word marked v ≡ w
  own_word = vertex_vertex t g.size v w v low ∙ upd_at (vertex_word t) v w

  next_same : (d : ℕ) → d < darts → next_word marked d ≡ next_word t d
  next_same d h = next_vertex t v w d h

  prev_same : (d : ℕ) → d < darts → prev_word marked d ≡ prev_word t d
  prev_same d h = prev_vertex t v w d h

  vertex_apart : (d : ℕ) → Live t d → vertex_word marked (leaves t d) ≡ vertex_word t (leaves t d)
  vertex_apart d l = other_word (leaves t d) (g.leaves_low d l) (bare d l)

  reach_kept : (d k : ℕ) → Live t d → Reach (next_word t) d k → Reach (next_word marked) d k
  reach_kept = reach_agree (Live t) g.next_live (λ i l. next_same i l.low)

  pub marked_good : Good marked
  marked_good = record {
    size = length-set t _ w ∙ g.size;
    turns = λ e h. rw (edge_same e h) (g.turns e h);
    bare = λ d h z.
        let b = g.bare d h (sym (edge_same (edge_of d) (omega arith)) ∙ z) in
        record { next_none = next_same d h ∙ b.next_none; prev_none = prev_same d h ∙ b.prev_none; leaves_none = leaves_vertex t v w d h ∙ b.leaves_none };
    lengths = λ e h.
        let same : length_word marked e ≡ length_word t e = length_vertex t v w e low in
        let f = g.lengths e h in
        record { some = λ on. rw same (f.some (rw (edge_same e h) at on)); none = λ z. same ∙ f.none (sym (edge_same e h) ∙ z); most = rw same f.most };
    leaves_low = λ d l. rw (leaves_same d l) (g.leaves_low d (was_live d l));
    leaves_live = λ d l. rw (leaves_same d l, vertex_apart d (was_live d l)) (g.leaves_live d (was_live d l));
    next_live = λ d l. rw (next_same d l.low) (live_still _ (g.next_live d (was_live d l)));
    prev_live = λ d l. rw (prev_same d l.low) (live_still _ (g.prev_live d (was_live d l)));
    prev_next = λ d l. let m = was_live d l in rw (next_same d l.low) (prev_same _ (g.next_live d m).low ∙ g.prev_next d m);
    next_prev = λ d l. let m = was_live d l in rw (prev_same d l.low) (next_same _ (g.prev_live d m).low ∙ g.next_prev d m);
    next_leaves = λ d l.
        let m = was_live d l in
        rw (next_same d l.low) (leaves_vertex t v w _ (g.next_live d m).low ∙ g.next_leaves d m ∙ sym (leaves_same d l));
    one_cycle = λ d k l m q. reach_kept d k (was_live d l) (g.one_cycle d k (was_live d l) (was_live k m) (sym (leaves_same d l) ∙ q ∙ leaves_same k m));
    alone = λ u h i d l q. elim (ℕ_discrete u v) [
      | yes s ↦ bare d (was_live d l) (sym (leaves_same d l) ∙ q ∙ s)
      | no n ↦ g.alone u h (sym (other_word u h n) ∙ i) d (was_live d l) (sym (leaves_same d l) ∙ q)
    ];
    smallest = λ u h n i. elim (ℕ_discrete u v) [
      | yes s ↦ absurd (⊎_elim (λ z. n (ap (vertex_word marked) s ∙ own_word ∙ z)) (λ z. i (ap (vertex_word marked) s ∙ own_word ∙ z)) still)
      | no m ↦
          let same = other_word u h m in
          let s = g.smallest u h (rw same at n) (rw same at i) in
          rw same (record {
            live = live_still _ s.live;
            here = leaves_same _ (live_still _ s.live) ∙ s.here;
            least = λ k l q. s.least k (was_live k l) (sym (leaves_same k l) ∙ q);
          })
    ];
  }
