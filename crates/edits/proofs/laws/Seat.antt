-- Where a dart is put: a seat at a vertex, and the word that the vertex then has. An insertion has one of two seats.
--     Seat                              x between dart d of vertex v and the dart p before it, or alone at v
--     Foremost                          v is live, and w is the smallest of its darts and x
--     foremost_among, foremost_alone    the word of the vertex for either seat
use Rattle.std.specs.Prelude.{ℕ, ◌≤◌, ◌<◌, ◌≡◌, refl, Bool, true, false, List, ◌≢◌}
use Rattle.std.proofs.Common.{arith, lt-ltb, le-ltb}
use Rattle.std.proofs.Math.Decide.{dec_lt}
use Rattle.orbits.proofs.laws.Truth.{clash}
use Rattle.table.specs.Layout.{vertices, nothing, isolated, prev_word, leaves, vertex_word}
use Rattle.edits.proofs.laws.Held.{Held}
use Rattle.edits.specs.Edge.{lesser}
use Rattle.edits.proofs.laws.Grown.{Plus, new, old}

-- x comes between dart d of vertex v and the dart p before it, or stands alone at v
pub data Seat (t : List ℕ) (L : ℕ → Bool) (x d p v : ℕ) : Type 0 where
  among : L d ≡ true → prev_word t d ≡ p → leaves t d ≡ v → Seat t L x d p v
  alone : d ≡ x → p ≡ x → ((k : ℕ) → L k ≡ true → leaves t k ≢ v) → Seat t L x d p v

-- v is live, and w is the smallest of its darts and x
pub record Foremost (t : List ℕ) (L : ℕ → Bool) (x v w : ℕ) : Type 0 where
  pub v_low : v < vertices
  pub v_there : vertex_word t v ≢ nothing
  pub w_in : Plus L x w
  pub w_here : L w ≡ true → leaves t w ≡ v
  pub w_least : (k : ℕ) → L k ≡ true → leaves t k ≡ v → w ≤ k
  pub w_new : w ≤ x

module _ (t : List ℕ) (L : ℕ → Bool) (H : Held t L) (x : ℕ) (free : L x ≡ false) where
  pub foremost_among : (d : ℕ) → L d ≡ true → Foremost t L x (leaves t d) (lesser (vertex_word t (leaves t d)) x)
  foremost_among d on =
      let low = H.leaves_low d on in
      let there = H.leaves_live d on in
      let s = H.smallest (leaves t d) low there (λ i. H.alone (leaves t d) low i d on refl) in
      elim (dec_lt x (vertex_word t (leaves t d))) [
        | yes h ↦ rw (lt-ltb x (vertex_word t (leaves t d)) h) (record {
          v_low = low;
          v_there = there;
          w_in = new refl;
          w_here = λ e. absurd (clash e free);
          w_least = λ k l q. let m = s.least k l q in omega arith;
          w_new = omega arith;
        })
        | no h ↦ rw (le-ltb x (vertex_word t (leaves t d)) (omega arith)) (record {
          v_low = low;
          v_there = there;
          w_in = old (λ q. clash (rw q at s.live) free) s.live;
          w_here = λ e. s.here;
          w_least = s.least;
          w_new = omega arith;
        })
      ]

  pub foremost_alone : (v : ℕ) → v < vertices → vertex_word t v ≡ isolated → Foremost t L x v x
  foremost_alone v low bare = record {
    v_low = low;
    v_there = λ z. let e : isolated ≡ nothing = rw bare at z in omega arith;
    w_in = new refl;
    w_here = λ e. absurd (clash e free);
    w_least = λ k l q. absurd (H.alone v low bare k l q);
    w_new = omega arith;
  }
