-- A word of a table written.
use Rattle.std.specs.Prelude.{ℕ, ◌+◌, List, set}
use Rattle.table.specs.Layout.{prev_at, leaves_at, edge_at, vertex_at, length_at}

abbrev pub set_next : List ℕ → ℕ → ℕ → List ℕ
set_next t d n = set t d n

abbrev pub set_prev : List ℕ → ℕ → ℕ → List ℕ
set_prev t d p = set t (prev_at + d) p

abbrev pub set_leaves : List ℕ → ℕ → ℕ → List ℕ
set_leaves t d v = set t (leaves_at + d) v

abbrev pub set_edge : List ℕ → ℕ → ℕ → List ℕ
set_edge t e w = set t (edge_at + e) w

abbrev pub set_vertex : List ℕ → ℕ → ℕ → List ℕ
set_vertex t v w = set t (vertex_at + v) w

abbrev pub set_length : List ℕ → ℕ → ℕ → List ℕ
set_length t e n = set t (length_at + e) n
