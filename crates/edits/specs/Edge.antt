-- The tables that the insertion and the deletion of an edge leave, document 01, "Edits".
use Rattle.std.specs.Prelude.{ℕ, ◌+◌, ◌-◌, ◌*◌, zero, suc, true, false, cond, List, eqb, ltb}
use Rattle.table.specs.Layout.{darts, nothing, isolated, next_word, prev_word, leaves, vertex_word, lone_at}
use Rattle.table.specs.Writes.{set_edge, set_next, set_prev, set_leaves, set_vertex, set_length}

-- b comes next after a
abbrev pub tie : List ℕ → ℕ → ℕ → List ℕ
tie t a b = set_prev (set_next t a b) b a

-- x comes between p and d at vertex v, whose word becomes w
abbrev pub splice : List ℕ → ℕ → ℕ → ℕ → ℕ → ℕ → List ℕ
splice t x d p v w = set_vertex (set_leaves (tie (tie t x d) p x) x v) v w

-- the smaller of a vertex's word and a dart
abbrev pub lesser : ℕ → ℕ → ℕ
lesser w x = cond (ltb x w) x w

-- dart x goes into corner c: just before the dart that names it, or alone at the isolated vertex
unfoldable pub link : List ℕ → ℕ → ℕ → List ℕ
link t x c = cond (ltb c darts) (splice t x c (prev_word t c) (leaves t c) (lesser (vertex_word t (leaves t c)) x)) (splice t x x x (c - lone_at) x)

-- "dart 2e goes into corner c1, then 2e+1 into c2 .. With c1 = c2 the order is old, 2e, 2e+1, d": so 2e+1 is put in first, and 2e then before it
abbrev pub first_corner : ℕ → ℕ → ℕ → ℕ
first_corner e c₁ c₂ = cond (eqb c₁ c₂) (2 * e + 1) c₁

-- edge e's own words: its turns' word and, document 02, request g, its length
abbrev pub set_own : List ℕ → ℕ → ℕ → ℕ → List ℕ
set_own t e w n = set_length (set_edge t e w) e n

-- edge e with word w and length n between corners c1 and c2
abbrev pub inserted : List ℕ → ℕ → ℕ → ℕ → ℕ → ℕ → List ℕ
inserted t e c₁ c₂ w n = set_own (link (link t (2 * e + 1) c₂) (2 * e) (first_corner e c₁ c₂)) e w n

-- n comes next after p, and x is no dart of a vertex any more
abbrev pub cut : List ℕ → ℕ → ℕ → ℕ → List ℕ
cut t x n p = set_leaves (set_prev (set_next (tie t p n) x nothing) x nothing) x nothing

-- the first of k darts from d on that leaves v, or the word of an isolated vertex
unfoldable pub seek : List ℕ → ℕ → ℕ → ℕ → ℕ
seek t v d zero = isolated
seek t v d (suc k) = elim (eqb (leaves t d) v) [ true ↦ d | false ↦ seek t v (suc d) k ]

-- v's word once x is out: if it was x, the next larger dart that leaves v
abbrev pub successor : List ℕ → ℕ → ℕ → ℕ → ℕ
successor c v x w = cond (eqb w x) (seek c v x (darts - x)) w

abbrev pub taken : List ℕ → ℕ → List ℕ
taken t x = cut t x (next_word t x) (prev_word t x)

abbrev pub unlink : List ℕ → ℕ → List ℕ
unlink t x = set_vertex (taken t x) (leaves t x) (successor (taken t x) (leaves t x) x (vertex_word t (leaves t x)))

-- edge e taken out; "deletion sets it to 0"
abbrev pub deleted : List ℕ → ℕ → List ℕ
deleted t e = set_own (unlink (unlink t (2 * e)) (2 * e + 1)) e 0 0
