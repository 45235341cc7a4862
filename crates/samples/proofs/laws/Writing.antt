-- The words that an edit writes, on sparse tables.
--     written_on, written_on_lem    what an edit writes, as `written` on the table itself
--     splice_on, link_on            a dart put between two others; put into a corner
--     cut_on, refound_on, unlink_on  a dart taken out; the vertex word found anew; both
--     seek_by                       the first of k darts that leaves v
use Rattle.std.specs.Prelude.{ℕ, zero, suc, ◌+◌, ◌-◌, ◌*◌, ◌≡◌, refl, true, false, cond, List, ◌∷◌, eqb, ltb, get_or, set}
use Rattle.std.proofs.Common.{arith, sym, ◌∙◌, ap, eq-eqb, ne_eqb, lt-ltb, le-ltb}
use Rattle.std.proofs.Math.Decide.{ℕ_discrete, dec_lt}
use Rattle.table.specs.Layout.{darts, nothing, isolated, leaves, prev_at, leaves_at, edge_at, vertex_at, length_at, lone_at}
use Rattle.edits.specs.Turns.{turned_word}
use Rattle.edits.specs.Edge.{splice, cut, lesser, seek, successor, unlink, link, first_corner}
use Rattle.edits.proofs.laws.Edge.{dart_link, link_past}
use Rattle.edits.specs.Edits.{written}
use Rattle.edits.specs.declared.edit.Edit.{Edit}
use Rattle.edits.specs.declared.edit.Edit.TheVariants.{AddVertex, RemoveVertex, InsertEdge, DeleteEdge, TurnEdge}
use Rattle.samples.proofs.laws.Sparse.{Writes, table_of, read, put_read}

-- a dart put into a corner
unfoldable pub splice_on : Writes → ℕ → ℕ → ℕ → ℕ → ℕ → Writes
splice_on ws x d p v w = (vertex_at + v, w) ∷ (leaves_at + x, v) ∷ (prev_at + x, p) ∷ (p, x) ∷ (prev_at + d, x) ∷ (x, d) ∷ ws

unfoldable pub link_on : Writes → ℕ → ℕ → Writes
link_on ws x c = elim (ltb c darts) [
  | true ↦ splice_on ws x c (read ws (prev_at + c)) (read ws (leaves_at + c)) (lesser (read ws (vertex_at + read ws (leaves_at + c))) x)
  | false ↦ splice_on ws x x x (c - lone_at) x
]

splice_on_lem : (ws : Writes) (x d p v w : ℕ) → splice (table_of ws) x d p v w ≡ table_of (splice_on ws x d p v w)
unfolding table_of splice_on
splice_on_lem ws x d p v w = refl

link_on_lem : (ws : Writes) (x c : ℕ) → link (table_of ws) x c ≡ table_of (link_on ws x c)
unfolding link_on
link_on_lem ws x c = elim (dec_lt c darts) [
  | yes h ↦
      rw (lt-ltb c darts h, link_on)
      (sym (dart_link (table_of ws) x c _ h refl)
      ∙ ap (λ g. splice (table_of ws) x c (g (prev_at + c)) (g (leaves_at + c)) (lesser (g (vertex_at + g (leaves_at + c))) x)) (put_read ws)
      ∙ splice_on_lem ws x c (read ws (prev_at + c)) (read ws (leaves_at + c)) (lesser (read ws (vertex_at + read ws (leaves_at + c))) x))
  | no h ↦ rw (le-ltb c darts (omega arith), link_on) (link_past (table_of ws) x c (omega arith) ∙ splice_on_lem ws x x x (c - lone_at) x)
]

-- the first of k darts from d on that leaves v, by `read`
unfoldable pub seek_by : (ℕ → ℕ) → ℕ → ℕ → ℕ → ℕ
seek_by g v d zero = isolated
seek_by g v d (suc k) = elim (eqb (g (leaves_at + d)) v) [ true ↦ d | false ↦ seek_by g v (suc d) k ]

seek_by_lem : (t : List ℕ) (v d k : ℕ) → seek t v d k ≡ seek_by (λ i. get_or t i 0) v d k
unfolding seek seek_by
seek_by_lem t v d zero = refl
seek_by_lem t v d (suc k) = elim (ℕ_discrete (leaves t d) v) [
  | yes e ↦ rw (eq-eqb (leaves t d) v e, seek, seek_by)
  | no n ↦ rw (ne_eqb (leaves t d) v n, seek, seek_by) (seek_by_lem t v (suc d) k)
]

-- a dart taken out
unfoldable pub cut_on : Writes → ℕ → ℕ → ℕ → Writes
cut_on ws x n p = (leaves_at + x, nothing) ∷ (prev_at + x, nothing) ∷ (x, nothing) ∷ (prev_at + n, p) ∷ (p, n) ∷ ws

-- then v's word, which was w, is found anew
unfoldable pub refound_on : Writes → ℕ → ℕ → ℕ → Writes
refound_on ws x v w = (vertex_at + v, cond (eqb w x) (seek_by (read ws) v x (darts - x)) w) ∷ ws

unfoldable pub unlink_on : Writes → ℕ → Writes
unlink_on ws x = refound_on (cut_on ws x (read ws x) (read ws (prev_at + x))) x (read ws (leaves_at + x)) (read ws (vertex_at + read ws (leaves_at + x)))

cut_on_lem : (ws : Writes) (x n p : ℕ) → cut (table_of ws) x n p ≡ table_of (cut_on ws x n p)
unfolding table_of cut_on
cut_on_lem ws x n p = refl

refound_on_lem : (ws : Writes) (x v w : ℕ) → set (table_of ws) (vertex_at + v) (successor (table_of ws) v x w) ≡ table_of (refound_on ws x v w)
unfolding table_of refound_on
refound_on_lem ws x v w =
    ap (λ k. set (table_of ws) (vertex_at + v) (cond (eqb w x) k w)) (seek_by_lem (table_of ws) v x (darts - x) ∙ ap (λ g. seek_by g v x (darts - x)) (put_read ws))

unlink_on_lem : (ws : Writes) (x : ℕ) → unlink (table_of ws) x ≡ table_of (unlink_on ws x)
unfolding unlink_on
unlink_on_lem ws x =
    ap (λ g. let c = cut (table_of ws) x (g x) (g (prev_at + x)) in set c (vertex_at + g (leaves_at + x)) (successor c (g (leaves_at + x)) x (g (vertex_at + g (leaves_at + x))))) (put_read ws)
    ∙ ap (λ c. set c (vertex_at + read ws (leaves_at + x)) (successor c (read ws (leaves_at + x)) x (read ws (vertex_at + read ws (leaves_at + x))))) (cut_on_lem ws x (read ws x) (read ws (prev_at + x)))
    ∙ refound_on_lem (cut_on ws x (read ws x) (read ws (prev_at + x))) x (read ws (leaves_at + x)) (read ws (vertex_at + read ws (leaves_at + x)))

unfoldable pub written_on : Writes → Edit → Writes
written_on ws (AddVertex v) = (vertex_at + v, isolated) ∷ ws
written_on ws (RemoveVertex v) = (vertex_at + v, nothing) ∷ ws
written_on ws (InsertEdge e c₁ c₂ k n) = (length_at + e, n) ∷ (edge_at + e, turned_word 100 k) ∷ link_on (link_on ws (2 * e + 1) c₂) (2 * e) (first_corner e c₁ c₂)
written_on ws (DeleteEdge e) = (length_at + e, 0) ∷ (edge_at + e, 0) ∷ unlink_on (unlink_on ws (2 * e)) (2 * e + 1)
written_on ws (TurnEdge e a) = (edge_at + e, turned_word (read ws (edge_at + e)) a) ∷ ws

pub written_on_lem : (ws : Writes) (E : Edit) → written (table_of ws) E ≡ table_of (written_on ws E)
unfolding table_of written_on
written_on_lem ws (AddVertex v) = refl
written_on_lem ws (RemoveVertex v) = refl
written_on_lem ws (InsertEdge e c₁ c₂ k n) = rw (link_on_lem ws (2 * e + 1) c₂, link_on_lem (link_on ws (2 * e + 1) c₂) (2 * e) (first_corner e c₁ c₂))
written_on_lem ws (DeleteEdge e) = rw (unlink_on_lem ws (2 * e), unlink_on_lem (unlink_on ws (2 * e)) (2 * e + 1))
written_on_lem ws (TurnEdge e a) = ap (λ g. set (table_of ws) (edge_at + e) (turned_word (g (edge_at + e)) a)) (put_read ws)
