-- The theorems of this crate, document 01, "Corners and walks" and "Counts". Each is proved by the law of its name.
use Rattle.std.specs.Prelude.{ℕ, ◌*◌, ◌/◌, ◌<◌, ◌≤◌, ◌≡◌, true, length}
use Rattle.table.specs.Rotation.{Rotation, Lawful}
use Rattle.tracing.specs.Met.{times, listed_corners, count_in, listed_steps, on_edge, edge_count}
use Rattle.tracing.specs.Corner.{Present}
use Rattle.tracing.specs.Step.{steps}
use Rattle.tracing.specs.Walk.{walk}
use Rattle.tracing.proofs.laws.Met as met
use Rattle.tracing.proofs.laws.Edges as edges
use Rattle.tracing.proofs.laws.Length as length

-- a corner that is there is met once by the listed walks: "Every face is traced in two senses; it is listed once"
pub present_once : (R : Rotation) (L : Lawful R) → (c : ℕ) → Present R c → times c (listed_corners R) ≡ 1
present_once = met.present_once

-- and nothing else is met
pub absent_never : (R : Rotation) (L : Lawful R) → (c : ℕ) → (Present R c → ⊥) → times c (listed_corners R) ≡ 0
absent_never = met.absent_never

-- the listed walks pass every live edge twice: "the two listed steps on an edge are its sides"
pub edge_twice : (R : Rotation) (L : Lawful R) → (e : ℕ) → R.live (2 * e) ≡ true → count_in (on_edge e) (listed_steps R) ≡ 2
edge_twice = edges.edge_twice

-- "It is back at its start within twice as many steps as edges."
pub walk_bound : (R : Rotation) (L : Lawful R) → (s : ℕ) → s < steps → R.live (s / 2) ≡ true → length (walk R s) ≤ 2 * edge_count R
walk_bound = length.walk_bound
