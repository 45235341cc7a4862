-- A word of a table written: each kind of word reads back, and a write changes no other word.
--     upd, upd_at, upd_off, upd_same                                 a function with one value changed
--     next_next, prev_prev, leaves_leaves                            a dart's word written reads back, the others of its kind stay
--     edge_edge, vertex_vertex, length_length                        the same for the words of edges and vertices
--     next_prev, next_leaves, next_edge, next_vertex, next_length    "next" words stay where another kind is written
--     prev_next, leaves_next, edge_next, vertex_next, length_next    and so on, the kind read first, the kind written second
--     same_words                                                     tables of the same words are equal
use Rattle.std.specs.Prelude.{ℕ, ◌+◌, ◌-◌, ◌≤◌, ◌<◌, ◌≡◌, refl, List, ◌≢◌, eqb, length, get_or, set, cond}
use Rattle.std.proofs.Common.{arith, sym, ◌∙◌, get_or-set_same, get_or-set_other, ext_get_or, eq-eqb, ne_eqb}
use Rattle.std.proofs.Math.Decide.{ℕ_discrete, dec_lt}
use Rattle.table.specs.Layout.{words, darts, edges, vertices, prev_at, leaves_at, edge_at, vertex_at, length_at, next_word, prev_word, leaves, edge_word, vertex_word, length_word}
use Rattle.table.specs.Writes.{set_next, set_prev, set_leaves, set_edge, set_vertex, set_length}

-- a function with one value changed
unfoldable pub upd : (ℕ → ℕ) → ℕ → ℕ → ℕ → ℕ
upd f i w j = cond (eqb j i) w (f j)

pub upd_at : (f : ℕ → ℕ) (i w : ℕ) → upd f i w i ≡ w
unfolding upd
upd_at f i w = rw (eq-eqb i i refl)

pub upd_off : (f : ℕ → ℕ) (i w j : ℕ) → j ≢ i → upd f i w j ≡ f j
unfolding upd
upd_off f i w j n = rw (ne_eqb j i n)

pub upd_same : (f g : ℕ → ℕ) (i w j : ℕ) → f j ≡ g j → upd f i w j ≡ upd g i w j
unfolding upd
upd_same f g i w j e = rw e

-- where only the index that is read matters
read_set : (t : List ℕ) (i w j : ℕ) → i < length t → get_or (set t i w) j 0 ≡ upd (λ k. get_or t k 0) i w j
read_set t i w j h = elim (ℕ_discrete j i) [
  | yes e ↦ rw e (get_or-set_same t i w 0 h ∙ sym (upd_at (λ k. get_or t k 0) i w))
  | no n ↦ get_or-set_other t i j w 0 n ∙ sym (upd_off (λ k. get_or t k 0) i w j n)
]

-- the same among the words of one kind, which begin at a
read_kind : (t : List ℕ) (a i w j : ℕ) → a + i < length t → get_or (set t (a + i) w) (a + j) 0 ≡ upd (λ k. get_or t (a + k) 0) i w j
read_kind t a i w j h = elim (ℕ_discrete j i) [
  | yes e ↦ rw e (get_or-set_same t (a + i) w 0 h ∙ sym (upd_at (λ k. get_or t (a + k) 0) i w))
  | no n ↦ get_or-set_other t (a + i) (a + j) w 0 (λ e. n (omega arith)) ∙ sym (upd_off (λ k. get_or t (a + k) 0) i w j n)
]

-- A word written reads back, and the other words of its kind stay.
module _ (t : List ℕ) (size : length t ≡ words) (i w j : ℕ) where
  pub next_next : i < darts → next_word (set_next t i w) j ≡ upd (next_word t) i w j
  next_next h = read_set t i w j (omega arith)

  pub prev_prev : i < darts → prev_word (set_prev t i w) j ≡ upd (prev_word t) i w j
  prev_prev h = read_kind t prev_at i w j (omega arith)

  pub leaves_leaves : i < darts → leaves (set_leaves t i w) j ≡ upd (leaves t) i w j
  leaves_leaves h = read_kind t leaves_at i w j (omega arith)

  pub edge_edge : i < edges → edge_word (set_edge t i w) j ≡ upd (edge_word t) i w j
  edge_edge h = read_kind t edge_at i w j (omega arith)

  pub vertex_vertex : i < vertices → vertex_word (set_vertex t i w) j ≡ upd (vertex_word t) i w j
  vertex_vertex h = read_kind t vertex_at i w j (omega arith)

  pub length_length : i < edges → length_word (set_length t i w) j ≡ upd (length_word t) i w j
  length_length h = read_kind t length_at i w j (omega arith)

-- The words of the other kinds stay.
module _ (t : List ℕ) (i w j : ℕ) where
  pub next_prev : j < darts → next_word (set_prev t i w) j ≡ next_word t j
  next_prev h = get_or-set_other t (prev_at + i) j w 0 (omega arith)

  pub next_leaves : j < darts → next_word (set_leaves t i w) j ≡ next_word t j
  next_leaves h = get_or-set_other t (leaves_at + i) j w 0 (omega arith)

  pub next_edge : j < darts → next_word (set_edge t i w) j ≡ next_word t j
  next_edge h = get_or-set_other t (edge_at + i) j w 0 (omega arith)

  pub next_vertex : j < darts → next_word (set_vertex t i w) j ≡ next_word t j
  next_vertex h = get_or-set_other t (vertex_at + i) j w 0 (omega arith)

  pub prev_next : i < darts → prev_word (set_next t i w) j ≡ prev_word t j
  prev_next h = get_or-set_other t i (prev_at + j) w 0 (omega arith)

  pub prev_leaves : j < darts → prev_word (set_leaves t i w) j ≡ prev_word t j
  prev_leaves h = get_or-set_other t (leaves_at + i) (prev_at + j) w 0 (omega arith)

  pub prev_edge : j < darts → prev_word (set_edge t i w) j ≡ prev_word t j
  prev_edge h = get_or-set_other t (edge_at + i) (prev_at + j) w 0 (omega arith)

  pub prev_vertex : j < darts → prev_word (set_vertex t i w) j ≡ prev_word t j
  prev_vertex h = get_or-set_other t (vertex_at + i) (prev_at + j) w 0 (omega arith)

  pub leaves_next : i < darts → leaves (set_next t i w) j ≡ leaves t j
  leaves_next h = get_or-set_other t i (leaves_at + j) w 0 (omega arith)

  pub leaves_prev : i < darts → leaves (set_prev t i w) j ≡ leaves t j
  leaves_prev h = get_or-set_other t (prev_at + i) (leaves_at + j) w 0 (omega arith)

  pub leaves_edge : j < darts → leaves (set_edge t i w) j ≡ leaves t j
  leaves_edge h = get_or-set_other t (edge_at + i) (leaves_at + j) w 0 (omega arith)

  pub leaves_vertex : j < darts → leaves (set_vertex t i w) j ≡ leaves t j
  leaves_vertex h = get_or-set_other t (vertex_at + i) (leaves_at + j) w 0 (omega arith)

  pub edge_next : i < darts → edge_word (set_next t i w) j ≡ edge_word t j
  edge_next h = get_or-set_other t i (edge_at + j) w 0 (omega arith)

  pub edge_prev : i < darts → edge_word (set_prev t i w) j ≡ edge_word t j
  edge_prev h = get_or-set_other t (prev_at + i) (edge_at + j) w 0 (omega arith)

  pub edge_leaves : i < darts → edge_word (set_leaves t i w) j ≡ edge_word t j
  edge_leaves h = get_or-set_other t (leaves_at + i) (edge_at + j) w 0 (omega arith)

  pub edge_vertex : j < edges → edge_word (set_vertex t i w) j ≡ edge_word t j
  edge_vertex h = get_or-set_other t (vertex_at + i) (edge_at + j) w 0 (omega arith)

  pub vertex_next : i < darts → vertex_word (set_next t i w) j ≡ vertex_word t j
  vertex_next h = get_or-set_other t i (vertex_at + j) w 0 (omega arith)

  pub vertex_prev : i < darts → vertex_word (set_prev t i w) j ≡ vertex_word t j
  vertex_prev h = get_or-set_other t (prev_at + i) (vertex_at + j) w 0 (omega arith)

  pub vertex_leaves : i < darts → vertex_word (set_leaves t i w) j ≡ vertex_word t j
  vertex_leaves h = get_or-set_other t (leaves_at + i) (vertex_at + j) w 0 (omega arith)

  pub vertex_edge : i < edges → vertex_word (set_edge t i w) j ≡ vertex_word t j
  vertex_edge h = get_or-set_other t (edge_at + i) (vertex_at + j) w 0 (omega arith)

  pub next_length : j < darts → next_word (set_length t i w) j ≡ next_word t j
  next_length h = get_or-set_other t (length_at + i) j w 0 (omega arith)

  pub prev_length : j < darts → prev_word (set_length t i w) j ≡ prev_word t j
  prev_length h = get_or-set_other t (length_at + i) (prev_at + j) w 0 (omega arith)

  pub leaves_length : j < darts → leaves (set_length t i w) j ≡ leaves t j
  leaves_length h = get_or-set_other t (length_at + i) (leaves_at + j) w 0 (omega arith)

  pub edge_length : j < edges → edge_word (set_length t i w) j ≡ edge_word t j
  edge_length h = get_or-set_other t (length_at + i) (edge_at + j) w 0 (omega arith)

  pub vertex_length : j < vertices → vertex_word (set_length t i w) j ≡ vertex_word t j
  vertex_length h = get_or-set_other t (length_at + i) (vertex_at + j) w 0 (omega arith)

  pub length_next : i < darts → length_word (set_next t i w) j ≡ length_word t j
  length_next h = get_or-set_other t i (length_at + j) w 0 (omega arith)

  pub length_prev : i < darts → length_word (set_prev t i w) j ≡ length_word t j
  length_prev h = get_or-set_other t (prev_at + i) (length_at + j) w 0 (omega arith)

  pub length_leaves : i < darts → length_word (set_leaves t i w) j ≡ length_word t j
  length_leaves h = get_or-set_other t (leaves_at + i) (length_at + j) w 0 (omega arith)

  pub length_edge : i < edges → length_word (set_edge t i w) j ≡ length_word t j
  length_edge h = get_or-set_other t (edge_at + i) (length_at + j) w 0 (omega arith)

  pub length_vertex : i < vertices → length_word (set_vertex t i w) j ≡ length_word t j
  length_vertex h = get_or-set_other t (vertex_at + i) (length_at + j) w 0 (omega arith)

-- Tables of the same words are equal.
pub same_words : (t u : List ℕ) → length t ≡ words → length u ≡ words
    → ((d : ℕ) → d < darts → (next_word t d ≡ next_word u d) × (prev_word t d ≡ prev_word u d) × (leaves t d ≡ leaves u d))
    → ((e : ℕ) → e < edges → edge_word t e ≡ edge_word u e)
    → ((v : ℕ) → v < vertices → vertex_word t v ≡ vertex_word u v)
    → ((e : ℕ) → e < edges → length_word t e ≡ length_word u e)
    → t ≡ u
same_words t u size size' dart edge vertex long = ext_get_or 0 t u (size ∙ sym size') (λ i h. by_place i (rw size at h))
  where
    shift : (a i : ℕ) → a ≤ i → get_or t (a + (i - a)) 0 ≡ get_or u (a + (i - a)) 0 → get_or t i 0 ≡ get_or u i 0
    shift a i l e = let s : a + (i - a) ≡ i = omega arith in rw s at e

    by_place : (i : ℕ) → i < words → get_or t i 0 ≡ get_or u i 0
    by_place i h = elim (dec_lt i prev_at) [
      | yes a ↦ (dart i a).0
      | no a ↦ elim (dec_lt i leaves_at) [
        | yes b ↦ shift prev_at i (omega arith) (dart (i - prev_at) (omega arith)).1
        | no b ↦ elim (dec_lt i edge_at) [
          | yes c ↦ shift leaves_at i (omega arith) (dart (i - leaves_at) (omega arith)).2
          | no c ↦ elim (dec_lt i vertex_at) [
            | yes d ↦ shift edge_at i (omega arith) (edge (i - edge_at) (omega arith))
            | no d ↦ elim (dec_lt i length_at) [
              | yes f ↦ shift vertex_at i (omega arith) (vertex (i - vertex_at) (omega arith))
              | no f ↦ shift length_at i (omega arith) (long (i - length_at) (omega arith))
            ]
          ]
        ]
      ]
    ]
