-- What a good table is, document 01, "The table": a field for each rule. "Anything else is torn."
use Rattle.std.specs.Prelude.{ℕ, ◌≤◌, ◌<◌, ◌≡◌, List, ◌≢◌, length}
use Rattle.orbits.specs.Reach.{Reach}
use Rattle.table.specs.Layout.{vertices, edges, darts, words, nothing, isolated, next_word, prev_word, leaves, edge_word, vertex_word, length_word, edge_of, Live, edge_word_most, longest}

-- "The three words of a dart that is not live are 65,535."
pub record Bare (t : List ℕ) (d : ℕ) : Type 0 where
  pub next_none : next_word t d ≡ nothing
  pub prev_none : prev_word t d ≡ nothing
  pub leaves_none : leaves t d ≡ nothing

-- d is the smallest live dart that leaves v
pub record Smallest (t : List ℕ) (v d : ℕ) : Type 0 where
  pub live : Live t d
  pub here : leaves t d ≡ v
  pub least : (d' : ℕ) → Live t d' → leaves t d' ≡ v → d ≤ d'

-- document 02, request g: "for each edge its length, 1 to 65,535 if live, 0 if not"
pub record LengthRule (t : List ℕ) (e : ℕ) : Type 0 where
  pub some : edge_word t e ≢ 0 → length_word t e ≢ 0
  pub none : edge_word t e ≡ 0 → length_word t e ≡ 0
  pub most : length_word t e ≤ longest

pub record Good (t : List ℕ) : Type 0 where
  -- "a lent slice" of so many words
  pub size : length t ≡ words
  -- "0 if not live, else its turns plus 100; turns run from -99 to 99"
  pub turns : (e : ℕ) → e < edges → edge_word t e ≤ edge_word_most
  pub bare : (d : ℕ) → d < darts → edge_word t (edge_of d) ≡ 0 → Bare t d
  -- document 02, request g: "and a good table keeps that too"
  pub lengths : (e : ℕ) → e < edges → LengthRule t e
  -- "every live dart leaves a live vertex"
  pub leaves_low : (d : ℕ) → Live t d → leaves t d < vertices
  pub leaves_live : (d : ℕ) → Live t d → vertex_word t (leaves t d) ≢ nothing
  -- "'next' and 'previous' undo each other on live darts"
  pub next_live : (d : ℕ) → Live t d → Live t (next_word t d)
  pub prev_live : (d : ℕ) → Live t d → Live t (prev_word t d)
  pub prev_next : (d : ℕ) → Live t d → prev_word t (next_word t d) ≡ d
  pub next_prev : (d : ℕ) → Live t d → next_word t (prev_word t d) ≡ d
  -- "the live darts leaving a vertex form one cycle of 'next'"
  pub next_leaves : (d : ℕ) → Live t d → leaves t (next_word t d) ≡ leaves t d
  pub one_cycle : (d d' : ℕ) → Live t d → Live t d' → leaves t d ≡ leaves t d' → Reach (next_word t) d d'
  -- "65,535 if not live, 65,534 if live and isolated, else its smallest live dart"
  pub alone : (v : ℕ) → v < vertices → vertex_word t v ≡ isolated → (d : ℕ) → Live t d → leaves t d ≢ v
  pub smallest : (v : ℕ) → v < vertices → vertex_word t v ≢ nothing → vertex_word t v ≢ isolated → Smallest t v (vertex_word t v)
