-- What the writes of an edit ask of a table: its size, and that each word that is followed names a dart or a vertex.
--     SpliceReady, CutReady        for the writes that put a dart between two others, or take it out
--     LinkReady, UnlinkReady       for a dart put in at a corner; for a dart taken out
--     InsertReady, DeleteReady     for both darts of an edge
--     ready_first, ready_second    the second of the two, once the first is done
--     link_ready, unlink_ready     where the rules of the darts hold, these do
use Rattle.std.specs.Prelude.{ℕ, ◌+◌, ◌*◌, ◌-◌, ◌≤◌, ◌<◌, ◌≡◌, Bool, true, List, length}
use Rattle.std.proofs.Common.{arith}
use Rattle.table.specs.Layout.{words, darts, edges, vertices, next_word, prev_word, leaves, lone_at}
use Rattle.edits.specs.Edge.{unlink, link, first_corner}
use Rattle.edits.proofs.laws.Edge.{Corner, at_dart, at_lone}
use Rattle.edits.proofs.laws.Held.{Held}

pub record SpliceReady (t : List ℕ) (x d p v : ℕ) : Type 0 where
  pub size : length t ≡ words
  pub x_low : x < darts
  pub d_low : d < darts
  pub p_low : p < darts
  pub v_low : v < vertices

pub record CutReady (t : List ℕ) (x n p : ℕ) : Type 0 where
  pub size : length t ≡ words
  pub x_low : x < darts
  pub n_low : n < darts
  pub p_low : p < darts

pub record LinkReady (t : List ℕ) (x c : ℕ) : Type 0 where
  pub size : length t ≡ words
  pub x_low : x < darts
  pub prev_low : c < darts → prev_word t c < darts
  pub leaves_low : c < darts → leaves t c < vertices
  pub lone : darts ≤ c → lone_at ≤ c
  pub lone_low : darts ≤ c → c - lone_at < vertices

pub record UnlinkReady (t : List ℕ) (x : ℕ) : Type 0 where
  pub size : length t ≡ words
  pub x_low : x < darts
  pub next_low : next_word t x < darts
  pub prev_low : prev_word t x < darts
  pub leaves_low : leaves t x < vertices

-- both darts of an edge are put in, one after the other
pub record InsertReady (t : List ℕ) (e c₁ c₂ : ℕ) : Type 0 where
  pub low : e < edges
  pub second : LinkReady t (2 * e + 1) c₂
  pub first : LinkReady (link t (2 * e + 1) c₂) (2 * e) (first_corner e c₁ c₂)

-- both are taken out
pub record DeleteReady (t : List ℕ) (e : ℕ) : Type 0 where
  pub low : e < edges
  pub first : UnlinkReady t (2 * e)
  pub second : UnlinkReady (unlink t (2 * e)) (2 * e + 1)

pub ready_first : {t u : List ℕ} {e c₁ c₂ c : ℕ} → InsertReady t e c₁ c₂ → u ≡ link t (2 * e + 1) c₂ → c ≡ first_corner e c₁ c₂ → LinkReady u (2 * e) c
ready_first r p q = rw (p, q) r.first

pub ready_second : {t u : List ℕ} {e : ℕ} → DeleteReady t e → u ≡ unlink t (2 * e) → UnlinkReady u (2 * e + 1)
ready_second r p = rw p r.second

-- where the darts' rules hold, the words that are followed do
module _ (t : List ℕ) (L : ℕ → Bool) (H : Held t L) (x : ℕ) where
  pub link_ready : (c : ℕ) → x < darts → Corner t L c → LinkReady t x c
  link_ready c h (at_dart on) = record {
    size = H.size;
    x_low = h;
    prev_low = λ _. H.low _ (H.prev_live c on);
    leaves_low = λ _. H.leaves_low c on;
    lone = λ l. absurd (past l);
    lone_low = λ l. absurd (past l);
  }
    where
      past : darts ≤ c → ⊥
      past l = let low = H.low c on in omega arith
  link_ready c h (at_lone v e l i) = record {
    size = H.size;
    x_low = h;
    prev_low = λ k. absurd (past k);
    leaves_low = λ k. absurd (past k);
    lone = λ _. omega arith;
    lone_low = λ _. omega arith;
  }
    where
      past : c < darts → ⊥
      past k = omega arith

  pub unlink_ready : L x ≡ true → UnlinkReady t x
  unlink_ready on = record {
    size = H.size;
    x_low = H.low x on;
    next_low = H.low _ (H.next_live x on);
    prev_low = H.low _ (H.prev_live x on);
    leaves_low = H.leaves_low x on;
  }
