-- The rules of a good table for any set L of live darts, so that an edge can be put in and taken out one dart at a time.
--     Held                         the rules of a good table, with L for its live darts
--     good_held, held_good         a good table keeps them for its own live darts; they make it good
--     SmallestIn                   d is the smallest dart of L that leaves v
--     next_in, next_in_lem, next_out_lem  the next dart where L are the live ones
--     held_kept                    the rules speak of the words of darts and vertices alone
--     held_same                    two tables with the same next darts, vertices, edge words and lengths are one
--     Long                         a length that a live edge may have
use Rattle.std.specs.Prelude.{ℕ, ◌≤◌, ◌<◌, ◌≡◌, Bool, true, false, cond, List, ◌≢◌, ◌↔◌, length}
use Rattle.std.proofs.Common.{arith, sym, ◌∙◌, ap}
use Rattle.std.proofs.Math.Decide.{ℕ_discrete}
use Rattle.orbits.proofs.laws.Truth.{clash, truth, holds, fails}
use Rattle.orbits.specs.Reach.{Reach}
use Rattle.orbits.proofs.laws.Reach.{reach_agree}
use Rattle.table.specs.Layout.{vertices, edges, darts, words, nothing, isolated, next_word, prev_word, leaves, edge_word, vertex_word, length_word, edge_of, edge_word_most, longest}
use Rattle.table.specs.Good.{Good, Bare, LengthRule}
use Rattle.table.specs.laws.Writes.{same_words}
use Rattle.table.specs.Rotation.{live?}
use Rattle.table.specs.laws.Rotation.{live_yes, yes_live, not_live}

-- a length that a live edge may have
pub record Long (n : ℕ) : Type 0 where
  pub some : n ≢ 0
  pub most : n ≤ longest

-- d is the smallest dart of L that leaves v
pub record SmallestIn (t : List ℕ) (L : ℕ → Bool) (v d : ℕ) : Type 0 where
  pub live : L d ≡ true
  pub here : leaves t d ≡ v
  pub least : (k : ℕ) → L k ≡ true → leaves t k ≡ v → d ≤ k

pub record Held (t : List ℕ) (L : ℕ → Bool) : Type 0 where
  pub size : length t ≡ words
  pub low : (d : ℕ) → L d ≡ true → d < darts
  pub bare : (d : ℕ) → d < darts → L d ≡ false → Bare t d
  pub leaves_low : (d : ℕ) → L d ≡ true → leaves t d < vertices
  pub leaves_live : (d : ℕ) → L d ≡ true → vertex_word t (leaves t d) ≢ nothing
  pub next_live : (d : ℕ) → L d ≡ true → L (next_word t d) ≡ true
  pub prev_live : (d : ℕ) → L d ≡ true → L (prev_word t d) ≡ true
  pub prev_next : (d : ℕ) → L d ≡ true → prev_word t (next_word t d) ≡ d
  pub next_prev : (d : ℕ) → L d ≡ true → next_word t (prev_word t d) ≡ d
  pub next_leaves : (d : ℕ) → L d ≡ true → leaves t (next_word t d) ≡ leaves t d
  pub one_cycle : (d k : ℕ) → L d ≡ true → L k ≡ true → leaves t d ≡ leaves t k → Reach (next_word t) d k
  pub alone : (v : ℕ) → v < vertices → vertex_word t v ≡ isolated → (d : ℕ) → L d ≡ true → leaves t d ≢ v
  pub smallest : (v : ℕ) → v < vertices → vertex_word t v ≢ nothing → vertex_word t v ≢ isolated → SmallestIn t L v (vertex_word t v)

module _ (t : List ℕ) where
  pub good_held : Good t → Held t (live? t)
  good_held g = record {
    size = g.size;
    low = λ d e. (live_yes t d e).low;
    bare = λ d h e. g.bare d h (off d h e);
    leaves_low = λ d e. g.leaves_low d (live_yes t d e);
    leaves_live = λ d e. g.leaves_live d (live_yes t d e);
    next_live = λ d e. yes_live t _ (g.next_live d (live_yes t d e));
    prev_live = λ d e. yes_live t _ (g.prev_live d (live_yes t d e));
    prev_next = λ d e. g.prev_next d (live_yes t d e);
    next_prev = λ d e. g.next_prev d (live_yes t d e);
    next_leaves = λ d e. g.next_leaves d (live_yes t d e);
    one_cycle = λ d k e f. g.one_cycle d k (live_yes t d e) (live_yes t k f);
    alone = λ v h i d e. g.alone v h i d (live_yes t d e);
    smallest = λ v h n i.
        let s = g.smallest v h n i in
        record { live = yes_live t _ s.live; here = s.here; least = λ k e. s.least k (live_yes t k e) };
  }
    where
      off : (d : ℕ) → d < darts → live? t d ≡ false → edge_word t (edge_of d) ≡ 0
      off d h e = elim (ℕ_discrete (edge_word t (edge_of d)) 0) [
        | yes z ↦ z
        | no n ↦ absurd (clash (yes_live t d (record { low = h; on = n })) e)
      ]

  pub held_good : Held t (live? t) → ((e : ℕ) → e < edges → edge_word t e ≤ edge_word_most) → ((e : ℕ) → e < edges → LengthRule t e) → Good t
  held_good h turns lengths = record {
    size = h.size;
    turns = turns;
    lengths = lengths;
    bare = λ d l z. h.bare d l (not_live t d (λ v. v.on z));
    leaves_low = λ d l. h.leaves_low d (yes_live t d l);
    leaves_live = λ d l. h.leaves_live d (yes_live t d l);
    next_live = λ d l. live_yes t _ (h.next_live d (yes_live t d l));
    prev_live = λ d l. live_yes t _ (h.prev_live d (yes_live t d l));
    prev_next = λ d l. h.prev_next d (yes_live t d l);
    next_prev = λ d l. h.next_prev d (yes_live t d l);
    next_leaves = λ d l. h.next_leaves d (yes_live t d l);
    one_cycle = λ d k l m. h.one_cycle d k (yes_live t d l) (yes_live t k m);
    alone = λ v l i d m. h.alone v l i d (yes_live t d m);
    smallest = λ v l n i.
        let s = h.smallest v l n i in
        record { live = live_yes t _ s.live; here = s.here; least = λ k m. s.least k (yes_live t k m) };
  }

-- the next dart, where L are the live ones; a dart that is not live is its own
unfoldable pub next_in : List ℕ → (ℕ → Bool) → ℕ → ℕ
next_in t L d = cond (L d) (next_word t d) d

pub next_in_lem : (t : List ℕ) (L : ℕ → Bool) (d : ℕ) → L d ≡ true → next_in t L d ≡ next_word t d
unfolding next_in
next_in_lem t L d e = rw e

pub next_out_lem : (t : List ℕ) (L : ℕ → Bool) (d : ℕ) → L d ≡ false → next_in t L d ≡ d
unfolding next_in
next_out_lem t L d e = rw e

-- the rules speak of the words of darts and vertices alone
module _ (t u : List ℕ) (L : ℕ → Bool) (H : Held t L) (size : length u ≡ words) (next : (d : ℕ) → d < darts → next_word u d ≡ next_word t d)
    (prev : (d : ℕ) → d < darts → prev_word u d ≡ prev_word t d) (from : (d : ℕ) → d < darts → leaves u d ≡ leaves t d)
    (vertex : (v : ℕ) → v < vertices → vertex_word u v ≡ vertex_word t v) where
  at : (d : ℕ) → L d ≡ true → leaves u d ≡ leaves t d
  at d e = from d (H.low d e)

  reach_kept : (d k : ℕ) → L d ≡ true → Reach (next_word t) d k → Reach (next_word u) d k
  reach_kept = reach_agree (λ i. L i ≡ true) H.next_live (λ i e. next i (H.low i e))

  pub held_kept : Held u L
  held_kept = record {
    size = size;
    low = H.low;
    bare = λ d h e.
        let b = H.bare d h e in
        record { next_none = next d h ∙ b.next_none; prev_none = prev d h ∙ b.prev_none; leaves_none = from d h ∙ b.leaves_none };
    leaves_low = λ d e. rw (at d e) (H.leaves_low d e);
    leaves_live = λ d e. rw (at d e, vertex (leaves t d) (H.leaves_low d e)) (H.leaves_live d e);
    next_live = λ d e. rw (next d (H.low d e)) (H.next_live d e);
    prev_live = λ d e. rw (prev d (H.low d e)) (H.prev_live d e);
    prev_next = λ d e. rw (next d (H.low d e)) (prev _ (H.low _ (H.next_live d e)) ∙ H.prev_next d e);
    next_prev = λ d e. rw (prev d (H.low d e)) (next _ (H.low _ (H.prev_live d e)) ∙ H.next_prev d e);
    next_leaves = λ d e. rw (next d (H.low d e)) (at _ (H.next_live d e) ∙ H.next_leaves d e ∙ sym (at d e));
    one_cycle = λ d k e f q. reach_kept d k e (H.one_cycle d k e f (sym (at d e) ∙ q ∙ at k f));
    alone = λ v h i d e q. H.alone v h (sym (vertex v h) ∙ i) d e (sym (at d e) ∙ q);
    smallest = λ v h n i.
        let same = vertex v h in
        let s = H.smallest v h (rw same at n) (rw same at i) in
        rw same (record { live = s.live; here = at _ s.live ∙ s.here; least = λ k e q. s.least k e (sym (at k e) ∙ q) });
  }

-- a table is told by its next words, the vertices that its darts leave, its edge words, its lengths and which vertices are live
module _ (t u : List ℕ) (L : ℕ → Bool) (H : Held t L) (K : Held u L) (next : (d : ℕ) → L d ≡ true → next_word u d ≡ next_word t d)
    (from : (d : ℕ) → L d ≡ true → leaves u d ≡ leaves t d) (edge : (e : ℕ) → e < edges → edge_word u e ≡ edge_word t e)
    (long : (e : ℕ) → e < edges → length_word u e ≡ length_word t e)
    (there : (v : ℕ) → v < vertices → (vertex_word u v ≡ nothing) ↔ (vertex_word t v ≡ nothing)) where
  prev_same : (d : ℕ) → L d ≡ true → prev_word u d ≡ prev_word t d
  prev_same d e =
      let l = H.prev_live d e in
      let n : next_word u (prev_word t d) ≡ d = next _ l ∙ H.next_prev d e in
      ap (prev_word u) (sym n) ∙ K.prev_next _ l

  dart_same : (d : ℕ) → d < darts → (next_word u d ≡ next_word t d) × (prev_word u d ≡ prev_word t d) × (leaves u d ≡ leaves t d)
  dart_same d h = elim (truth (L d)) [
    | holds e ↦ (next d e, prev_same d e, from d e)
    | fails e ↦
        let b = H.bare d h e in
        let c = K.bare d h e in
        (c.next_none ∙ sym b.next_none, c.prev_none ∙ sym b.prev_none, c.leaves_none ∙ sym b.leaves_none)
  ]

  vertex_same : (v : ℕ) → v < vertices → vertex_word u v ≡ vertex_word t v
  vertex_same v h = elim (ℕ_discrete (vertex_word t v) nothing) [
    | yes z ↦ (there v h).1 z ∙ sym z
    | no n ↦
        let m : vertex_word u v ≢ nothing = λ z. n ((there v h).0 z) in
        elim (ℕ_discrete (vertex_word t v) isolated) [
          | yes i ↦ elim (ℕ_discrete (vertex_word u v) isolated) [
            | yes j ↦ j ∙ sym i
            | no j ↦ let s = K.smallest v h m j in absurd (H.alone v h i _ s.live (sym (from _ s.live) ∙ s.here))
          ]
          | no i ↦ elim (ℕ_discrete (vertex_word u v) isolated) [
            | yes j ↦ let s = H.smallest v h n i in absurd (K.alone v h j _ s.live (from _ s.live ∙ s.here))
            | no j ↦
                let a = K.smallest v h m j in
                let b = H.smallest v h n i in
                let p = a.least _ b.live (from _ b.live ∙ b.here) in
                let q = b.least _ a.live (sym (from _ a.live) ∙ a.here) in
                omega arith
          ]
        ]
  ]

  pub held_same : u ≡ t
  held_same = same_words u t K.size H.size dart_same edge vertex_same long
