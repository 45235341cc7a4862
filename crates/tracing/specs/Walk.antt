-- A walk: the steps from a start up to the first return to it, dart and type, document 01, "Corners and walks".
use Rattle.std.specs.Prelude.{ℕ, zero, suc, true, false, List, [], ◌∷◌, map, eqb}
use Rattle.table.specs.Rotation.{Rotation}
use Rattle.tracing.specs.Step.{steps, step, corner}

-- the steps of f from i on, up to the one that leads to s; at most n of them
unfoldable pub onward : (ℕ → ℕ) → ℕ → ℕ → ℕ → List ℕ
onward f s zero i = []
onward f s (suc n) i = i ∷ (elim (eqb (f i) s) [ true ↦ [] | false ↦ onward f s n (f i) ])

-- "A walk ends when both dart and type are those of its start."
unfoldable pub walk : Rotation → ℕ → List ℕ
walk R s = onward (step R) s steps s

-- the corners that a walk meets, in its order
unfoldable pub corners : Rotation → ℕ → List ℕ
corners R s = map (corner R) (walk R s)
