-- What the code reads to tell a corner word: whether it is well formed, and whether the corner is there.
use Rattle.std.specs.Prelude.{ℕ, ◌-◌, ◌<◌, ◌≤◌, ◌≡◌, true, false, not, List, eqb, ltb}
use Rattle.std.proofs.Common.{arith, sym, ◌∙◌, lt-ltb, le-ltb, ltb-true}
use Rattle.std.proofs.Math.Decide.{dec_lt}
use Rattle.table.specs.Layout.{vertices, darts, isolated, edge_of, edge_word, vertex_word, lone_at}
use Rattle.table.specs.Rotation.{rotation, live?, alone?}
use Rattle.orbits.proofs.laws.Truth.{clash}
use Rattle.tracing.specs.Corner.{well_formed, present}
use Rattle.tracing.proofs.laws.Corner.{present_dart, present_lone}

pub formed_dart : (c : ℕ) → c < darts → true ≡ well_formed c
unfolding well_formed
formed_dart c h = sym (rw (lt-ltb c darts h))

pub formed_not : (c : ℕ) → darts ≤ c → c < lone_at → false ≡ well_formed c
unfolding well_formed
formed_not c h l = sym (rw (le-ltb c darts h, lt-ltb c lone_at l))

pub formed_lone : (c : ℕ) → lone_at ≤ c → ltb (c - lone_at) vertices ≡ well_formed c
unfolding well_formed
formed_lone c h =
    let big : darts ≤ c = omega arith in
    sym (rw (le-ltb c darts big, le-ltb c lone_at h))

pub well_dart : (c : ℕ) → well_formed c ≡ true → c < lone_at → c < darts
well_dart c e h = elim (dec_lt c darts) [
  | yes l ↦ l
  | no l ↦ absurd (clash e (sym (formed_not c (omega arith) h)))
]

pub well_lone : (c : ℕ) → well_formed c ≡ true → lone_at ≤ c → c - lone_at < vertices
well_lone c e h = ltb-true (c - lone_at) vertices (formed_lone c h ∙ e)

pub present_edge : (t : List ℕ) (c : ℕ) → well_formed c ≡ true → c < lone_at → not (eqb (edge_word t (edge_of c)) 0) ≡ present (rotation t) c
unfolding live?
present_edge t c e h = sym (present_dart (rotation t) c h ∙ rw (lt-ltb c darts (well_dart c e h)))

pub present_vertex : (t : List ℕ) (c : ℕ) → well_formed c ≡ true → lone_at ≤ c → eqb (vertex_word t (c - lone_at)) isolated ≡ present (rotation t) c
unfolding alone?
present_vertex t c e h = sym (present_lone (rotation t) c h ∙ rw (lt-ltb (c - lone_at) vertices (well_lone c e h)))
