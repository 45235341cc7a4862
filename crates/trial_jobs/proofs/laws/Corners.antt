-- The corner that an end goes to is there: the isolated vertex's own, or that of its smallest dart.
use Rattle.std.specs.Prelude.{ℕ, ◌+◌, ◌-◌, ◌<◌, ◌≡◌, true, List, ◌≢◌}
use Rattle.std.proofs.Common.{arith, ◌∙◌, ap}
use Rattle.std.proofs.Math.Decide.{ℕ_discrete}
use borrow.Author.Tests.{eq-eqb, ne_eqb, lt-ltb, le-ltb}
use Rattle.table.specs.Layout.{vertices, darts, nothing, isolated, vertex_word, lone_at}
use Rattle.table.specs.Good.{Good, Smallest}
use Rattle.table.specs.Rotation.{Rotation, rotation}
use Rattle.table.specs.laws.Rotation.{yes_live, alone_yes}
use Rattle.tracing.specs.Corner.{Present, at_dart, at_lone, well_formed, present}
use Rattle.tracing.proofs.laws.Corner.{present_dart, present_lone}
use Rattle.trial_jobs.specs.Trial.{corner_at}

-- c is the corner of vertex v
pub data At (t : List ℕ) (v c : ℕ) : Type 0 where
  lone : vertex_word t v ≡ isolated → c ≡ lone_at + v → At t v c
  first : c ≡ vertex_word t v → Smallest t v c → At t v c

module _ (t : List ℕ) (v : ℕ) where
  pub corner_lone : vertex_word t v ≡ isolated → corner_at t v ≡ lone_at + v
  corner_lone e = rw (eq-eqb (vertex_word t v) isolated e)

  pub corner_dart : vertex_word t v ≢ isolated → corner_at t v ≡ vertex_word t v
  corner_dart n = rw (ne_eqb (vertex_word t v) isolated n)

  module _ (g : Good t) (h : v < vertices) where
    pub corner_at_lem : vertex_word t v ≢ nothing → At t v (corner_at t v)
    corner_at_lem there = elim (ℕ_discrete (vertex_word t v) isolated) [
      | yes e ↦ lone e (corner_lone e)
      | no n ↦ first (corner_dart n) (rw (corner_dart n) (g.smallest v h there n))
    ]

    pub at_present : {c : ℕ} → At t v c → Present (rotation t) c
    at_present (lone e q) = at_lone v h q (alone_yes t v h e)
    at_present {c} (first q s) = at_dart s.live.low (yes_live t c s.live)

    -- it is a 16-bit word, and tells an isolated vertex from a joined one
    pub at_word : {c : ℕ} → At t v c → c < 65536
    at_word (lone e q) = omega arith
    at_word (first q s) = let low = s.live.low in omega arith

-- corners that are there pass the tests of an insertion
module _ (R : Rotation) where
  pub present_yes : {c : ℕ} → Present R c → present R c ≡ true
  present_yes {c} (at_dart h l) = present_dart R c (omega arith) ∙ l
  present_yes {c} (at_lone v h q a) =
      let same : c - lone_at ≡ v = omega arith in
      present_lone R c (omega arith) ∙ ap R.alone same ∙ a

  pub present_formed : {c : ℕ} → Present R c → well_formed c ≡ true
  unfolding well_formed
  present_formed {c} (at_dart h l) = rw (lt-ltb c darts h)
  present_formed {c} (at_lone v h q a) = rw (le-ltb c darts (omega arith), le-ltb c lone_at (omega arith)) (lt-ltb (c - lone_at) vertices (omega arith))
