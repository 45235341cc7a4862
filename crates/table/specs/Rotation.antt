-- A rotation system, with no words in it: tracing, surgery and surfaces are stated over it. `rotation t` reads one off a table, and a good table's is lawful.
-- A dart that is not live is its own next and its own previous, so that the laws hold for every number.
--     Rotation                 live darts, next and previous, turns, the vertex a dart leaves, live and isolated vertices
--     Lawful                   the rules of a good table, said of a rotation system
--     rotation                 the rotation system of a table
--     live?, there?, alone?    is the dart live; is the vertex live; is it isolated
--     next_dart, prev_dart     the next and the previous dart; the dart itself if it is not live
--     turns_of                 a number of the parity of its edge's turns
use Rattle.std.specs.Prelude.{ℕ, ◌<◌, ◌≡◌, Bool, true, false, ◌&&◌, not, cond, List, ◌≢◌, ltb, eqb}
use Rattle.orbits.specs.Reach.{Reach}
use Rattle.table.specs.Layout.{vertices, darts, nothing, isolated, next_word, prev_word, leaves, edge_word, vertex_word, edge_of, rev}

pub record Rotation : Type 0 where
  -- is the dart live
  pub live : ℕ → Bool
  -- the next and the previous dart at a dart's vertex
  pub next : ℕ → ℕ
  pub prev : ℕ → ℕ
  -- a number of the parity of the turns of the dart's edge
  pub turns : ℕ → ℕ
  -- the vertex that the dart leaves
  pub from : ℕ → ℕ
  -- is the vertex live; is it live and isolated
  pub there : ℕ → Bool
  pub alone : ℕ → Bool

pub record Lawful (R : Rotation) : Type 0 where
  pub dart_low : (d : ℕ) → R.live d ≡ true → d < darts
  pub live_rev : (d : ℕ) → R.live (rev d) ≡ R.live d
  pub turns_rev : (d : ℕ) → R.turns (rev d) ≡ R.turns d
  pub prev_next : (d : ℕ) → R.prev (R.next d) ≡ d
  pub next_prev : (d : ℕ) → R.next (R.prev d) ≡ d
  pub live_next : (d : ℕ) → R.live (R.next d) ≡ R.live d
  pub still : (d : ℕ) → R.live d ≡ false → R.next d ≡ d
  pub from_next : (d : ℕ) → R.from (R.next d) ≡ R.from d
  pub from_there : (d : ℕ) → R.live d ≡ true → R.there (R.from d) ≡ true
  pub one_cycle : (d d' : ℕ) → R.live d ≡ true → R.live d' ≡ true → R.from d ≡ R.from d' → Reach R.next d d'
  pub there_low : (v : ℕ) → R.there v ≡ true → v < vertices
  pub alone_there : (v : ℕ) → R.alone v ≡ true → R.there v ≡ true
  pub alone_bare : (v d : ℕ) → R.alone v ≡ true → R.live d ≡ true → R.from d ≢ v
  pub joined : (v : ℕ) → R.there v ≡ true → R.alone v ≡ false → (d : ℕ) × (R.live d ≡ true) × (R.from d ≡ v)

-- a table's rotation system

unfoldable pub live? : List ℕ → ℕ → Bool
live? t d = ltb d darts && not (eqb (edge_word t (edge_of d)) 0)

unfoldable pub next_dart : List ℕ → ℕ → ℕ
next_dart t d = cond (live? t d) (next_word t d) d

unfoldable pub prev_dart : List ℕ → ℕ → ℕ
prev_dart t d = cond (live? t d) (prev_word t d) d

-- 100 is even, so the edge word has the parity of the turns
unfoldable pub turns_of : List ℕ → ℕ → ℕ
turns_of t d = edge_word t (edge_of d)

unfoldable pub there? : List ℕ → ℕ → Bool
there? t v = ltb v vertices && not (eqb (vertex_word t v) nothing)

unfoldable pub alone? : List ℕ → ℕ → Bool
alone? t v = ltb v vertices && eqb (vertex_word t v) isolated

abbrev pub rotation : List ℕ → Rotation
rotation t = record { live = live? t; next = next_dart t; prev = prev_dart t; turns = turns_of t; from = leaves t; there = there? t; alone = alone? t }
