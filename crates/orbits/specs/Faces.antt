-- A face is an orbit with its mirror image.
--     Face, faced, face_classes    on one orbit or on mirror orbits; the test; how many live classes
use Rattle.std.specs.Prelude.{Bool, ◌||◌, ℕ}
use Rattle.orbits.specs.Reach.{Reach, reaches}
use Rattle.orbits.specs.Classes.{classes}

pub data Face (f m : ℕ → ℕ) (i j : ℕ) : Type 0 where
  along : Reach f i j → Face f m i j
  mirrored : Reach f i (m j) → Face f m i j

unfoldable pub faced : (ℕ → ℕ) → (ℕ → ℕ) → ℕ → ℕ → ℕ → Bool
faced f m N i j = reaches f N i j || reaches f N i (m j)

unfoldable pub face_classes : (ℕ → ℕ) → (ℕ → ℕ) → ℕ → (ℕ → Bool) → ℕ
face_classes f m N live = classes (faced f m N) N live
