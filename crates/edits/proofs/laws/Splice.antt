-- The writes that put a dart into a vertex's cycle and take one out: the words after them.
--     Reads                         the words of a table after writes, as functions
--     reads_tie                     two darts made neighbours
--     reads_leaves, reads_vertex    the vertex a dart leaves written; a vertex word written
--     reads_none                    both words of a dart made 65,535
--     reads_splice, reads_cut       a dart put in; a dart taken out
use Rattle.std.specs.Prelude.{ℕ, ◌<◌, ◌≡◌, refl, List, length}
use Rattle.std.proofs.Common.{◌∙◌, length-set}
use Rattle.table.specs.Layout.{vertices, edges, darts, words, nothing, next_word, prev_word, leaves, edge_word, vertex_word}
use Rattle.table.specs.Writes.{set_next, set_prev, set_leaves, set_vertex}
use Rattle.table.specs.laws.Writes.{upd, upd_same, next_next, prev_prev, leaves_leaves, vertex_vertex, next_prev, next_leaves, next_vertex, prev_next, prev_leaves}
use Rattle.table.specs.laws.Writes.{prev_vertex, leaves_next, leaves_prev, leaves_vertex, edge_next, edge_prev, edge_leaves, edge_vertex, vertex_next, vertex_prev}
use Rattle.table.specs.laws.Writes.{vertex_leaves}
use Rattle.edits.specs.Edge.{tie, splice, cut}

-- what the words of a table are after writes, as functions
pub record Reads (t : List ℕ) (next prev from : ℕ → ℕ) (edge vertex : ℕ → ℕ) : Type 0 where
  pub size : length t ≡ words
  pub next_is : (j : ℕ) → j < darts → next_word t j ≡ next j
  pub prev_is : (j : ℕ) → j < darts → prev_word t j ≡ prev j
  pub from_is : (j : ℕ) → j < darts → leaves t j ≡ from j
  pub edge_is : (j : ℕ) → j < edges → edge_word t j ≡ edge j
  pub vertex_is : (j : ℕ) → j < vertices → vertex_word t j ≡ vertex j

module _ {t : List ℕ} {n p f e v : ℕ → ℕ} (r : Reads t n p f e v) where
  pub reads_tie : (a b : ℕ) → a < darts → b < darts → Reads (tie t a b) (upd n a b) (upd p b a) f e v
  reads_tie a b h l =
      let s : length (set_next t a b) ≡ words = length-set t a b ∙ r.size in
      record {
        size = length-set (set_next t a b) _ a ∙ s;
        next_is = λ j m. next_prev (set_next t a b) b a j m ∙ next_next t r.size a b j h ∙ upd_same (next_word t) n a b j (r.next_is j m);
        prev_is = λ j m. prev_prev (set_next t a b) s b a j l ∙ upd_same (prev_word (set_next t a b)) p b a j (prev_next t a b j h ∙ r.prev_is j m);
        from_is = λ j m. leaves_prev (set_next t a b) b a j l ∙ leaves_next t a b j h ∙ r.from_is j m;
        edge_is = λ j m. edge_prev (set_next t a b) b a j l ∙ edge_next t a b j h ∙ r.edge_is j m;
        vertex_is = λ j m. vertex_prev (set_next t a b) b a j l ∙ vertex_next t a b j h ∙ r.vertex_is j m;
      }

  pub reads_leaves : (a b : ℕ) → a < darts → Reads (set_leaves t a b) n p (upd f a b) e v
  reads_leaves a b h = record {
    size = length-set t _ b ∙ r.size;
    next_is = λ j m. next_leaves t a b j m ∙ r.next_is j m;
    prev_is = λ j m. prev_leaves t a b j m ∙ r.prev_is j m;
    from_is = λ j m. leaves_leaves t r.size a b j h ∙ upd_same (leaves t) f a b j (r.from_is j m);
    edge_is = λ j m. edge_leaves t a b j h ∙ r.edge_is j m;
    vertex_is = λ j m. vertex_leaves t a b j h ∙ r.vertex_is j m;
  }

  pub reads_vertex : (a b : ℕ) → a < vertices → Reads (set_vertex t a b) n p f e (upd v a b)
  reads_vertex a b h = record {
    size = length-set t _ b ∙ r.size;
    next_is = λ j m. next_vertex t a b j m ∙ r.next_is j m;
    prev_is = λ j m. prev_vertex t a b j m ∙ r.prev_is j m;
    from_is = λ j m. leaves_vertex t a b j m ∙ r.from_is j m;
    edge_is = λ j m. edge_vertex t a b j m ∙ r.edge_is j m;
    vertex_is = λ j m. vertex_vertex t r.size a b j h ∙ upd_same (vertex_word t) v a b j (r.vertex_is j m);
  }

  pub reads_none : (x : ℕ) → x < darts → Reads (set_prev (set_next t x nothing) x nothing) (upd n x nothing) (upd p x nothing) f e v
  reads_none x h =
      let s : length (set_next t x nothing) ≡ words = length-set t x nothing ∙ r.size in
      record {
        size = length-set (set_next t x nothing) _ nothing ∙ s;
        next_is = λ j m. next_prev (set_next t x nothing) x nothing j m ∙ next_next t r.size x nothing j h ∙ upd_same (next_word t) n x nothing j (r.next_is j m);
        prev_is = λ j m. prev_prev (set_next t x nothing) s x nothing j h ∙ upd_same (prev_word (set_next t x nothing)) p x nothing j (prev_next t x nothing j h ∙ r.prev_is j m);
        from_is = λ j m. leaves_prev (set_next t x nothing) x nothing j h ∙ leaves_next t x nothing j h ∙ r.from_is j m;
        edge_is = λ j m. edge_prev (set_next t x nothing) x nothing j h ∙ edge_next t x nothing j h ∙ r.edge_is j m;
        vertex_is = λ j m. vertex_prev (set_next t x nothing) x nothing j h ∙ vertex_next t x nothing j h ∙ r.vertex_is j m;
      }

module _ (t : List ℕ) (size : length t ≡ words) where
  reads : Reads t (next_word t) (prev_word t) (leaves t) (edge_word t) (vertex_word t)
  reads = record { size = size; next_is = λ j h. refl; prev_is = λ j h. refl; from_is = λ j h. refl; edge_is = λ j h. refl; vertex_is = λ j h. refl }

  pub reads_splice : (x d p v w : ℕ) → x < darts → d < darts → p < darts → v < vertices
      → Reads (splice t x d p v w) (upd (upd (next_word t) x d) p x) (upd (upd (prev_word t) d x) x p) (upd (leaves t) x v) (edge_word t) (upd (vertex_word t) v w)
  reads_splice x d p v w hx hd hp hv = reads_vertex (reads_leaves (reads_tie (reads_tie reads x d hx hd) p x hp hx) x v hx) v w hv

  pub reads_cut : (x n p : ℕ) → x < darts → n < darts → p < darts
      → Reads (cut t x n p) (upd (upd (next_word t) p n) x nothing) (upd (upd (prev_word t) n p) x nothing) (upd (leaves t) x nothing) (edge_word t) (vertex_word t)
  reads_cut x n p hx hn hp = reads_leaves (reads_none (reads_tie reads p n hp hn) x hx) x nothing hx
